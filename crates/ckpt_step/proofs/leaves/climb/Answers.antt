use Rattle.std.proofs.Common.{◌≤◌, arith, length, subst, sym}
use Rattle.std.specs.Borrow.{Bor}
use Rattle.std.specs.Prelude.{Option, option_map}
use Rattle.row_page.specs.Rows.{key_most}
use Rattle.stored.specs.Links.{LinkFits}
use Rattle.stored.specs.TableTree.{Entry, EntryFits}
use Rattle.ckpt_step.proofs.EntryKeys.{AboveLast, climb_step, last_step, lent_test}
use Rattle.ckpt_step.proofs.leaves.climb.Goals as goal

pub loop-entry-preserved : goal.loop-entry-preserved
loop-entry-preserved c =
    let i = c.loop-entry.entry-index in
    let es = c.args.part.now in
    let e = c.entry-item.result in
    let inv = c.loop-entry.invariant in
    let short : length e.key ≤ key_most = subst (λ (x : Entry). length x.key ≤ key_most) c.entry.view_is (grind arith) in
    let fits : EntryFits e = record { key = short; link = subst (λ (x : Entry). LinkFits x.link) c.entry.view_is c.link_fits.ensures } in
    let lent : AboveLast e (option_map (λ (x : Bor Entry). x.now) c.loop-entry.last) = lent_test c.loop-entry.last e (sym c.if-not-is_above.ensures) in
    let above = subst (λ (o : Option Entry). AboveLast e o) inv.last lent in
    let next = climb_step es i e c.loop-entry-test.true c.entry-item.is (record { fit = inv.fit; climbs = inv.climbs }) fits above in
    record { fit = next.fit; climbs = next.climbs; last = last_step es i e c.loop-entry-test.true c.entry-item.is }
