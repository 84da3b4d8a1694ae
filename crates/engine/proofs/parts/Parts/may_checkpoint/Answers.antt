use Rattle.std.proofs.Common.{sym, ◌∙◌, subst}
use Rattle.engine_world.specs.Stands.{Engine, Stands}
use Rattle.engine.proofs.Checkpoints.{none-resolves, start-done, start-last, start-resolving}
use Rattle.engine.proofs.parts.Parts.may_checkpoint.Goals as goal

pub returns-in-Some-resolving-clause-decided : goal.returns-in-Some-resolving-clause-decided
returns-in-Some-resolving-clause-decided c = λ w st free. start-resolving c.lowest_are_the_machines.ensures e w (subst (λ (x : Engine). Stands x w) (sym c.self.view_is) st) c.args.number c.in-Some-resolving.session
    c.in_default.is free (sym c.in-Some-resolving.is ∙ c.resolving.ensures) where
      e : Engine
      e = record { hub = c.self.inside.hub; pieces = c.self.inside.pieces.items; states = c.self.inside.states.items; hazards = c.self.inside.hazards.items; sessions = c.self.inside.sessions.items; systems = c.self.inside.systems.items }

pub returns-then-number-ge-NUMBER_MAX-clause-decided : goal.returns-then-number-ge-NUMBER_MAX-clause-decided
returns-then-number-ge-NUMBER_MAX-clause-decided c = λ w st free. start-last c.lowest_are_the_machines.ensures e w (subst (λ (x : Engine). Stands x w) (sym c.self.view_is) st) c.args.number
    c.in_default.is free (sym c.in_default-resolving.is ∙ c.resolving.ensures) c.if-number-ge-NUMBER_MAX.true where
      e : Engine
      e = record { hub = c.self.inside.hub; pieces = c.self.inside.pieces.items; states = c.self.inside.states.items; hazards = c.self.inside.hazards.items; sessions = c.self.inside.sessions.items; systems = c.self.inside.systems.items }

pub returns-clause-decided : goal.returns-clause-decided
returns-clause-decided c = λ w st free. start-done c.lowest_are_the_machines.ensures e w (subst (λ (x : Engine). Stands x w) (sym c.self.view_is) st) c.args.number
    c.in_default.is free (sym c.in_default-resolving.is ∙ c.resolving.ensures) c.if-number-ge-NUMBER_MAX.false where
      e : Engine
      e = record { hub = c.self.inside.hub; pieces = c.self.inside.pieces.items; states = c.self.inside.states.items; hazards = c.self.inside.hazards.items; sessions = c.self.inside.sessions.items; systems = c.self.inside.systems.items }

pub returns-clause-resolves : goal.returns-clause-resolves
returns-clause-resolves c = λ w st. none-resolves c.lowest_are_the_machines.ensures e w (subst (λ (x : Engine). Stands x w) (sym c.self.view_is) st) (sym c.in_default-resolving.is ∙ c.resolving.ensures) where
  e : Engine
  e = record { hub = c.self.inside.hub; pieces = c.self.inside.pieces.items; states = c.self.inside.states.items; hazards = c.self.inside.hazards.items; sessions = c.self.inside.sessions.items; systems = c.self.inside.systems.items }
