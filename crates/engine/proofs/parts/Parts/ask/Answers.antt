use Rattle.std.proofs.Common.{◌≡◌, ◌<◌, sym, ◌∙◌, length, subst}
use Rattle.std.specs.Prelude.{Some}
use Rattle.engine_world.specs.Stands.{Engine, Stands}
use Rattle.engine.specs.Sound.{IsSound}
use Rattle.wt_calls.specs.declared.system_call.SystemCall.{SystemCall}
use Rattle.engine.specs.Runs.{IsBuilt}
use Rattle.engine.proofs.Systems.{ask-new, free-at, set-sound}
use Rattle.engine.proofs.parts.Parts.ask.Goals as goal

pub returns-clause-steps : goal.returns-clause-steps
returns-clause-steps c = λ w st. ask-new e w c.args.number c.args.call (subst (λ (x : Engine). Stands x w) (sym c.self.view_is) st) (free-at e.systems c.args.number c.index.result.now there c.index.ensures (sym c.if-is_some.false ∙ c.is_some.ensures)) where
  e : Engine
  e = record { hub = c.self.inside.hub; pieces = c.self.inside.pieces.items; states = c.self.inside.states.items; hazards = c.self.inside.hazards.items; sessions = c.self.inside.sessions.items; systems = c.self.inside.systems.items }

  there : c.args.number < length e.systems
  there = subst (λ (x : Engine). c.args.number < length x.systems) (sym c.self.view_is) c.requires.there

pub returns-clause-sound : goal.returns-clause-sound
returns-clause-sound c = set-sound e c.args.number (Some c.args.call) sound (λ asked is. subst (λ (x : SystemCall). IsBuilt x) (let same : c.args.call ≡ asked = cc in same) c.requires.built) where
  e : Engine
  e = record { hub = c.self.inside.hub; pieces = c.self.inside.pieces.items; states = c.self.inside.states.items; hazards = c.self.inside.hazards.items; sessions = c.self.inside.sessions.items; systems = c.self.inside.systems.items }

  sound : IsSound e
  sound = subst (λ (x : Engine). IsSound x) (sym c.self.view_is) c.requires.sound
