use Rattle.std.proofs.Common.{◌∙◌, ◌++◌, subst, sym}
use Rattle.std.specs.Borrow.{Bor}
use Rattle.std.specs.Prelude.{Option, option_map}
use Rattle.std.specs.Option.{option_to_list}
use Rattle.std.proofs.lemmas.Bool.{false≢true}
use Rattle.stored.specs.TableTree.{Climbs, Entry}
use Rattle.ckpt_step.proofs.Ascending.{above_at, climbs_step, they_ascend, they_do_not}
use Rattle.ckpt_step.proofs.EntryKeys.{AboveLast, last_step, lent_from, lent_test}
use Rattle.ckpt_step.proofs.giving.ascend.Goals as goal

pub returns-then-not-is_above-clause-no : goal.returns-then-not-is_above-clause-no
returns-then-not-is_above-clause-no c = λ is climbs.
    let e = c.entry-item.result in
    let last = c.loop-entry.last in
    let above = above_at c.args.entries.now (option_to_list (option_map (λ (x : Bor Entry). x.now) c.args.next)) c.loop-entry.entry-index e c.loop-entry-test.true c.entry-item.is climbs in
    false≢true (c.if-not-is_above.ensures ∙ lent_from last e (subst (λ (o : Option Entry). AboveLast e o) (sym c.loop-entry.invariant.last) above))

pub loop-entry-preserved : goal.loop-entry-preserved
loop-entry-preserved c =
    let i = c.loop-entry.entry-index in
    let es = c.args.entries.now in
    let e = c.entry-item.result in
    let lent : AboveLast e (option_map (λ (x : Bor Entry). x.now) c.loop-entry.last) = lent_test c.loop-entry.last e (sym c.if-not-is_above.ensures) in
    let above = subst (λ (o : Option Entry). AboveLast e o) c.loop-entry.invariant.last lent in
    record { climbs = climbs_step es i e c.loop-entry-test.true c.entry-item.is c.loop-entry.invariant.climbs above; last = last_step es i e c.loop-entry-test.true c.entry-item.is }

pub returns-in-Some-clause-yes : goal.returns-in-Some-clause-yes
returns-in-Some-clause-yes c = λ is.
    subst (λ (o : Option (Bor Entry)). Climbs (c.args.entries.now ++ option_to_list (option_map (λ (x : Bor Entry). x.now) o))) (sym c.in-Some.is)
    (they_ascend c.args.entries.now c.loop-entry.entry-index c.loop-entry-test.false c.loop-entry.last c.loop-entry.invariant.last c.in-Some.next.now c.loop-entry.invariant.climbs (sym c.is_above-in-Some.ensures ∙ is))

pub returns-in-Some-clause-no : goal.returns-in-Some-clause-no
returns-in-Some-clause-no c = λ is.
    subst (λ (o : Option (Bor Entry)). Climbs (c.args.entries.now ++ option_to_list (option_map (λ (x : Bor Entry). x.now) o)) → ⊥) (sym c.in-Some.is)
    (they_do_not c.args.entries.now c.loop-entry.entry-index c.loop-entry-test.false c.loop-entry.last c.loop-entry.invariant.last c.in-Some.next.now (sym c.is_above-in-Some.ensures ∙ is))
