use Rattle.std.proofs.Common.{◌≡◌, ◌++◌, map, take, drop}
use Rattle.hist_store.specs.Versions.{swept_slot}
use Rattle.hist_store.proofs.hist.sweep_all.Given as goal

abbrev pub invariant-loop-slot : goal.invariant-loop-slot
invariant-loop-slot l = l.slot-items ≡ map (swept_slot l.pin l.floor) (take l.slot-index l.initial.slot-items) ++ drop l.slot-index l.initial.slot-items
