use Rattle.std.proofs.Common.{ap, sym, subst}
use Rattle.std.specs.Prelude.{Some}
use Rattle.engine_world.specs.Stands.{Engine, Stands}
use Rattle.engine_world.specs.Systems.{with_fault}
use Rattle.engine.specs.Sound.{IsSound}
use Rattle.engine.proofs.Soundness.{hub-beside}
use Rattle.engine.proofs.parts.Parts.go_down.Goals as goal

pub returns-clause-is : goal.returns-clause-is
returns-clause-is c = ap (λ (x : Engine). with_fault x c.args.fault) c.self.view_is

pub returns-clause-down : goal.returns-clause-down
returns-clause-down c = λ w st. c.downs_go.ensures e w c.args.fault (subst (λ (x : Engine). Stands x w) (sym c.self.view_is) st) where
  e : Engine
  e = record { hub = c.self.inside.hub; pieces = c.self.inside.pieces.items; states = c.self.inside.states.items; hazards = c.self.inside.hazards.items; sessions = c.self.inside.sessions.items; systems = c.self.inside.systems.items }

pub returns-clause-sound : goal.returns-clause-sound
returns-clause-sound c = let sound = subst (λ (x : Engine). IsSound x) (sym c.self.view_is) c.requires in hub-beside e e.hub.stamps (Some c.args.fault) sound.stamps sound where
  e : Engine
  e = record { hub = c.self.inside.hub; pieces = c.self.inside.pieces.items; states = c.self.inside.states.items; hazards = c.self.inside.hazards.items; sessions = c.self.inside.sessions.items; systems = c.self.inside.systems.items }
