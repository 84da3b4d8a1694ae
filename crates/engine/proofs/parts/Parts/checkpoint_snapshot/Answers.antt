use Rattle.std.proofs.Common.{length, sym, subst}
use Rattle.snapshot.specs.Matters.{AreUnended, SeesCommitted}
use Rattle.snapshot.specs.Sight.{Sight}
use Rattle.txn_table.proofs.Capturing.{are-unended}
use Rattle.engine_world.specs.Stands.{Engine, Stands}
use Rattle.engine_world.specs.Worlds.{World}
use Rattle.engine.proofs.Checkpoints.{sees-now}
use Rattle.engine.proofs.parts.Parts.checkpoint_snapshot.Goals as goal

pub returns-clause-sees : goal.returns-clause-sees
returns-clause-sees c = λ w st none. subst (λ (s : Sight). SeesCommitted w.machine (length w.machine.history) s) (sym c.checkpoint_snapshot.ensures.sight)
    (sees-now c.calls_stand.ensures c.checkpoints_see.ensures e.hub.txns w.machine st.valid (stands w st).txns none) where
      e : Engine
      e = record { hub = c.self.inside.hub; pieces = c.self.inside.pieces.items; states = c.self.inside.states.items; hazards = c.self.inside.hazards.items; sessions = c.self.inside.sessions.items; systems = c.self.inside.systems.items }

      stands : (w : World) → Stands c.args.self.now w → Stands e w
      stands w st = subst (λ (x : Engine). Stands x w) (sym c.self.view_is) st

pub returns-clause-unended : goal.returns-clause-unended
returns-clause-unended c = λ w st. subst (λ (s : Sight). AreUnended w.machine s.list) (sym c.checkpoint_snapshot.ensures.sight) (are-unended e.hub.txns w.machine (stands w st).txns) where
  e : Engine
  e = record { hub = c.self.inside.hub; pieces = c.self.inside.pieces.items; states = c.self.inside.states.items; hazards = c.self.inside.hazards.items; sessions = c.self.inside.sessions.items; systems = c.self.inside.systems.items }

  stands : (w : World) → Stands c.args.self.now w → Stands e w
  stands w st = subst (λ (x : Engine). Stands x w) (sym c.self.view_is) st
