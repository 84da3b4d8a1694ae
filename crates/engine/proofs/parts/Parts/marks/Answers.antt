use Rattle.std.proofs.Common.{◌≤◌, length, subst, arith}
use Rattle.limits.specs.declared.TheConstants.{SESSIONS_MAX}
use Rattle.txn_table.specs.Tabled.{unended}
use Rattle.engine_world.specs.Stands.{Engine}
use Rattle.engine.proofs.Unended.{unended_few}
use Rattle.engine.proofs.parts.Parts.marks.Goals as goal

pub returns-clause-few : goal.returns-clause-few
returns-clause-few c = subst (λ (e : Engine). length (unended e.hub.txns) ≤ SESSIONS_MAX) c.self.view_is (omega (arith, c.sessions.ensures.count, c.sessions.ensures.few, unended_few c.self.inside.hub.txns))
