use Rattle.std.proofs.Common.{sym, subst}
use Rattle.engine.specs.Runs.{MayStep}
use Rattle.engine.proofs.local.Local.step.Goals as goal

pub returns-in-Go-clause-step : goal.returns-in-Go-clause-step
returns-in-Go-clause-step c = λ w st. let r = c.go.ensures.step w st in (r.0, subst (λ made. MayStep w made c.go.result r.0) (sym c.in-Go.is) r.1, r.2)
