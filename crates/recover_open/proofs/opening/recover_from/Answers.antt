use Rattle.std.proofs.Common.{◌<◌, ◌≤◌, inl, inr, refl, sym, subst, List, ℕ}
use Rattle.stored.specs.Records.{TableRoot, Record}
use Rattle.device_leaf.specs.Openings.{last_number}
use Rattle.recover_open.specs.Bare.{HaveUppers}
use Rattle.recover_open.specs.Damage.{IsAmong}
use Rattle.recover_open.specs.Recoveries.{TreesAre}
use Rattle.recover_open.proofs.Steps.{last_run, trees_refused, survey_refused, recovered_is}
use Rattle.recover_open.proofs.opening.recover_from.Goals as goal

pub returns-then-found-ge-NUMBER_MAX-clause-err : goal.returns-then-found-ge-NUMBER_MAX-clause-err
returns-then-found-ge-NUMBER_MAX-clause-err g c = last_run _ _ (g.D.Disk.seen c.args.disk.now) c.args.place c.args.above (λ h. h.1) (subst (λ (r : Record). last_number ≤ r.run) c.found.view_is c.if-found-ge-NUMBER_MAX.true) _ refl

pub returns-in-Err-clause-err : goal.returns-in-Err-clause-err
returns-in-Err-clause-err g c =
    let bytes : List ℕ = g.D.Disk.seen c.args.disk.now in
    survey_refused _ _ bytes c.in-Err.refusal
    (trees_refused _ _ _ _ bytes bytes c.tables_of.result.now c.in-Err.refusal c.in-Err.ensures.err (λ rose. rose)
    (λ h. (h.0, subst (λ (l : List TableRoot). HaveUppers bytes l c.args.above.uppers.items) (sym c.tables_of.ensures) h.1.have)) refl
    (λ h t among at want found spoils. inr (inr (inl (record {
      slot = h.1.slot;
      names = c.args.above.record;
      there = h.1.names;
      bare = h.1.bare;
      table = t;
      among = subst (λ (l : List TableRoot). IsAmong l t) c.tables_of.ensures among;
      tree = spoils;
    })))))

pub returns-in-Ok-clause-ok : goal.returns-in-Ok-clause-ok
returns-in-Ok-clause-ok g c h surveyed =
    let bytes : List ℕ = g.D.Disk.seen c.args.disk.now in
    let ps = c.in-Ok.trees.places.items in
    let leaves = c.in-Ok.trees.leaves.items in
    recovered_is bytes c.args.place c.args.above ps leaves c.assembled.result surveyed (subst (λ (r : Record). r.run < last_number) c.found.view_is c.if-found-ge-NUMBER_MAX.false)
    (subst (λ (l : List TableRoot). TreesAre bytes l ps leaves) c.tables_of.ensures (c.in-Ok.ensures.ok h (subst (λ (l : List TableRoot). HaveUppers bytes l c.args.above.uppers.items) (sym c.tables_of.ensures) surveyed.have))) c.assembled.ensures
