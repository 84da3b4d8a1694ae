use Rattle.std.proofs.Common.{◌≤◌}
use Rattle.engine_store.specs.Full.{CountsKept}
use Rattle.engine_store.proofs.store.Store.has_kept.Given as goal

abbrev pub invariant-loop-frame : goal.invariant-loop-frame
invariant-loop-frame l = record { counts : CountsKept l.self.engine l.frame l.kept; within : l.kept ≤ l.frame }
