use Rattle.std.proofs.Common.{◌≢◌, ◌+◌, refl, ap, sym, ◌∙◌, arith}
use Rattle.std.specs.Prelude.{Some, slice_index_or}
use Rattle.std.proofs.lemmas.Option.{slice_get-get_or}
use Rattle.engine.proofs.EachBelow.{each-all, each-more}
use Rattle.engine.proofs.going_out.is_unpinned.Goals as goal

pub returns-then-word-named-clause-no : goal.returns-then-word-named-clause-no
returns-then-word-named-clause-no c = λ is all. all c.loop-word.word-index (slice_get-get_or c.args.words.now c.loop-word.word-index 0 c.loop-word-test.true ∙ ap Some (c.if-word-named.true ∙ ap (λ n. n + 1) c.from-named.ensures))

pub loop-word-preserved : goal.loop-word-preserved
loop-word-preserved c = each-more (λ word. word ≢ c.args.frame + 1) c.args.words.now c.loop-word.word-index (slice_index_or c.args.words.now c.loop-word.word-index 0) c.loop-word.invariant
    (slice_get-get_or c.args.words.now c.loop-word.word-index 0 c.loop-word-test.true) (λ same. c.if-word-named.false (same ∙ ap (λ n. n + 1) (sym c.from-named.ensures)))

pub returns-clause-yes : goal.returns-clause-yes
returns-clause-yes c = λ is k at. each-all (λ word. word ≢ c.args.frame + 1) c.args.words.now (λ i b less. c.loop-word.invariant i b (let end = c.loop-word-test.false in omega (arith, less, end))) k (c.args.frame + 1) at refl
