use Rattle.std.proofs.Common.{sym, subst}
use Rattle.engine.specs.Checkpoints.{MarksFit}
use Rattle.engine.proofs.local.Local.marks.Goals as goal

pub returns-clause-fit : goal.returns-clause-fit
returns-clause-fit c = subst MarksFit (sym c.marks.ensures.hub) (record { run = c.self.invariant.sizes.names.begun; stamps = c.self.invariant.stamps })
