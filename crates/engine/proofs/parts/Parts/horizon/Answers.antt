use Rattle.std.proofs.Common.{ℕ, ap, sym, ◌∙◌, subst}
use Rattle.std.specs.Prelude.{Option, option_copied}
use Rattle.snapshot.specs.Past.{IsPast}
use Rattle.snapshot.specs.Sight.{Sight}
use Rattle.stamp.specs.declared.Name.{Name}
use Rattle.txn_table.specs.Tabled.{floor_of, pin_of, sight_in}
use Rattle.engine_world.specs.Stands.{Engine, Stands}
use Rattle.engine.specs.declared.running_checkpoint.RunningCheckpoint.{RunningCheckpoint}
use Rattle.engine.specs.Running.{recorded}
use Rattle.engine.proofs.Evictions.{past-is, pin-is, seen-running}
use Rattle.engine.proofs.parts.Parts.horizon.Goals as goal

pub returns-clause-pin : goal.returns-clause-pin
returns-clause-pin c = λ w st runs. c.pin_stamp.ensures ∙ (ap (λ (o : Option ℕ). pin_of e.hub.txns e.hub.stamps.oldest o) c.recorded_by.ensures ∙ pin-is c.pins_are_the_machines.ensures e w (option_copied c.args.running) (subst (λ (x : Engine). Stands x w) (sym c.self.view_is) st) runs) where
  e : Engine
  e = record { hub = c.self.inside.hub; pieces = c.self.inside.pieces.items; states = c.self.inside.states.items; hazards = c.self.inside.hazards.items; sessions = c.self.inside.sessions.items; systems = c.self.inside.systems.items }

pub returns-clause-past : goal.returns-clause-past
returns-clause-past c = λ w st runs table key. subst (λ n. IsPast w.machine table key n c.floor.result) (sym (c.pin_stamp.ensures ∙ ap (λ (o : Option ℕ). pin_of e.hub.txns e.hub.stamps.oldest o) c.recorded_by.ensures))
    (subst (λ (n : Name). IsPast w.machine table key (pin_of e.hub.txns e.hub.stamps.oldest (recorded r)) n) (sym (c.floor.ensures ∙ ap (λ (o : Option Sight). floor_of e.hub.txns o) (ap sight_in c.snapshot_of.ensures ∙ seen-running r)))
    (past-is c.pasts_stand.ensures e w r (subst (λ (x : Engine). Stands x w) (sym c.self.view_is) st) runs table key)) where
      e : Engine
      e = record { hub = c.self.inside.hub; pieces = c.self.inside.pieces.items; states = c.self.inside.states.items; hazards = c.self.inside.hazards.items; sessions = c.self.inside.sessions.items; systems = c.self.inside.systems.items }

      r : Option RunningCheckpoint
      r = option_copied c.args.running
