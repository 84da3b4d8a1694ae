use Rattle.std.proofs.Common.{◌≡◌, ◌<◌, sym, ◌∙◌, length, subst}
use Rattle.std.specs.Prelude.{Option, Some, None, slice_set, slice_index_or}
use Rattle.engine_world.specs.Stands.{Engine, Stands}
use Rattle.engine.specs.Directories.{HubGoesOn}
use Rattle.engine.specs.Sound.{IsSound}
use Rattle.wt_calls.specs.declared.system_call.SystemCall.{SystemCall}
use Rattle.std.proofs.lemmas.Option.{get_or_from_slice_get}
use Rattle.engine.proofs.Directories.{goes-same}
use Rattle.engine.proofs.Driving.{lent-at}
use Rattle.engine.proofs.Systems.{made-started, set-sound}
use Rattle.engine.proofs.parts.Parts.make_whole.Goals as goal

pub made-requires-clause-sound : goal.made-requires-clause-sound
made-requires-clause-sound c = subst (λ (o : Option SystemCall). IsSound (record e { systems = slice_set e.systems c.args.number o })) (sym c.take.ensures.after) (set-sound e c.args.number None sound (λ asked is. absurd (cc))) where
  e : Engine
  e = record { hub = c.self.inside.hub; pieces = c.self.inside.pieces.items; states = c.self.inside.states.items; hazards = c.self.inside.hazards.items; sessions = c.self.inside.sessions.items; systems = c.self.inside.systems.items }

  sound : IsSound e
  sound = subst (λ (x : Engine). IsSound x) (sym c.self.view_is) c.requires.sound

pub returns-in-Some-clause-steps : goal.returns-in-Some-clause-steps
returns-in-Some-clause-steps c = λ w st. made-started e c.made.new.self w c.args.number c.in-Some.call c.made.result (subst (λ (x : Engine). Stands x w) (sym c.self.view_is) st) started
    (λ v s. c.made.ensures.makes v (subst (λ (o : Option SystemCall). Stands (record e { systems = slice_set e.systems c.args.number o }) v) (sym c.take.ensures.after) s)) where
      e : Engine
      e = record { hub = c.self.inside.hub; pieces = c.self.inside.pieces.items; states = c.self.inside.states.items; hazards = c.self.inside.hazards.items; sessions = c.self.inside.sessions.items; systems = c.self.inside.systems.items }

      there : c.args.number < length e.systems
      there = subst (λ (x : Engine). c.args.number < length x.systems) (sym c.self.view_is) c.requires.there

      started : slice_index_or e.systems c.args.number None ≡ Some c.in-Some.call
      started = get_or_from_slice_get e.systems c.args.number c.index_mut.result.now None (lent-at e.systems c.args.number c.index_mut.result.now there c.index_mut.ensures.value) ∙ (sym c.take.ensures.value ∙ c.in-Some.is)

pub returns-in-None-clause-goes : goal.returns-in-None-clause-goes
returns-in-None-clause-goes c = subst (λ (x : Engine). HubGoesOn c.args.self.now.hub x.hub) (sym c.self.view_is) (goes-same c.args.self.now c.requires.sound)

pub returns-in-Some-clause-goes : goal.returns-in-Some-clause-goes
returns-in-Some-clause-goes c = subst (λ (x : Engine). HubGoesOn x.hub c.made.new.self.hub) c.self.view_is c.made.ensures.goes
