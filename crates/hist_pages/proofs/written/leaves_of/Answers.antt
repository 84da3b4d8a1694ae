use Rattle.std.proofs.Common.{List, sym}
use Rattle.std.proofs.lemmas.Result.{IfOk-weaker}
use Rattle.stored.specs.HistoryTree.{HistoryRecord}
use Rattle.hist_pages.specs.Leaves.{AreLeavesOf}
use Rattle.hist_pages.specs.Making.{Have, HaveRecords}
use Rattle.hist_pages.proofs.Telling.{begins, ends, fits_at, goes_on, slot_there}
use Rattle.hist_pages.proofs.written.leaves_of.Goals as goal

pub loop-slot-init : goal.loop-slot-init
loop-slot-init c = begins c.args.history.now c.walk-walk.result c.new-leaves.result c.new-leaves.ensures

pub put_key-requires : goal.put_key-requires
put_key-requires c = record {
  descends = c.in-Some-slot.ensures.descends;
  fit = fits_at c.args.history.now c.in-Some.slot c.in-Some-slot.there.now c.requires (sym c.in-Some-slot.ensures.there);
}

pub loop-slot-preserved-in-Continue-1 : goal.loop-slot-preserved-in-Continue-1
loop-slot-preserved-in-Continue-1 c =
    goes_on c.args.history.now c.walk-walk.result c.loop-slot.walk c.next_entry.new.self c.loop-slot.leaves c.put_key.new.leaves c.in-Some.slot c.in-Some-slot.there.now c.in-Some.ensures.after (sym c.in-Some-slot.ensures.there) c.in-Some-slot.ensures.own c.in_ok-put_key.ensures c.loop-slot.invariant

pub loop-slot-preserved : goal.loop-slot-preserved
loop-slot-preserved c =
    absurd (slot_there c.args.history.now c.walk-walk.result c.loop-slot.walk c.next_entry.new.self c.loop-slot.leaves c.in-Some.slot c.walk-walk.ensures c.in-Some.ensures.after (sym c.in_default-slot.ensures.there) c.loop-slot.invariant)

pub returns : goal.returns
returns c =
    IfOk-weaker c.finish.result (λ done. (records : List HistoryRecord) → HaveRecords c.loop-slot.leaves records → Have done.items records) (λ done. AreLeavesOf c.args.history.now done.items)
    (λ done all_in. ends c.args.history.now c.walk-walk.result c.loop-slot.walk c.loop-slot.leaves done.items c.walk-walk.ensures c.requires c.in_default.ensures.ends all_in c.loop-slot.invariant) c.finish.ensures
