use Rattle.std.proofs.Common.{subst}
use Rattle.engine_world.specs.Stands.{Engine}
use Rattle.engine.specs.Told.{KeepOwn}
use Rattle.engine.proofs.local.Local.next_rows.Goals as goal

pub returns-clause-own : goal.returns-clause-own
returns-clause-own c = subst (λ (e : Engine). KeepOwn e c.next_rows.new.self) c.self.view_is c.next_rows.ensures.keeps.own
