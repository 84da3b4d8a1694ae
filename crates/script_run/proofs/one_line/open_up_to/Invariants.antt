use Rattle.std.proofs.Common.{◌+◌, ◌-◌, length}
use Rattle.script_run.proofs.Opening.{IsOpening}
use Rattle.script_run.proofs.one_line.open_up_to.Given as goal

abbrev pub invariant-opening : goal.invariant-opening
invariant-opening g l = IsOpening g.D.Disk l.session l.fn.store l.store

abbrev pub decreases-opening : goal.decreases-opening
decreases-opening g l = (l.session + 1) - length l.store.engine.sessions
