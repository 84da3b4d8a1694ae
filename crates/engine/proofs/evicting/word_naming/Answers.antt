use Rattle.std.proofs.Common.{◌≢◌, ◌+◌, refl, ap, sym, ◌∙◌, arith}
use Rattle.std.specs.Prelude.{Some, slice_index_or}
use Rattle.std.proofs.lemmas.Option.{slice_get-get_or}
use Rattle.engine.proofs.EachBelow.{each-all, each-more}
use Rattle.engine.proofs.evicting.word_naming.Goals as goal

pub returns-clause-none : goal.returns-clause-none
returns-clause-none c = λ is k at. each-all (λ word. word ≢ c.args.frame + 1) c.args.words.now (λ i b less. c.loop-at.invariant i b (let end = c.loop-at-test.false in omega (arith, less, end))) k (c.args.frame + 1) at refl

pub loop-at-preserved : goal.loop-at-preserved
loop-at-preserved c = each-more (λ word. word ≢ c.args.frame + 1) c.args.words.now c.loop-at.at (slice_index_or c.args.words.now c.loop-at.at 0) c.loop-at.invariant
    (slice_get-get_or c.args.words.now c.loop-at.at 0 c.loop-at-test.true) (λ same. c.if-word-named.false (same ∙ ap (λ n. n + 1) (sym c.from-named.ensures)))

pub returns-then-word-named-clause-some : goal.returns-then-word-named-clause-some
returns-then-word-named-clause-some c = slice_get-get_or c.args.words.now c.loop-at.at 0 c.loop-at-test.true ∙ ap Some (c.if-word-named.true ∙ ap (λ n. n + 1) c.from-named.ensures)
