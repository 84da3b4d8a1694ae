use Rattle.std.proofs.Common.{◌≡◌, refl, sym, ◌∙◌, subst}
use Rattle.std.specs.Prelude.{Some}
use Rattle.engine_world.specs.Stands.{Engine, Stands}
use Rattle.engine.specs.Directories.{HubGoesOn}
use Rattle.engine.specs.Sound.{IsSound}
use Rattle.engine.specs.Systems.{Makes}
use Rattle.wt_code.specs.declared.answers.Answer.TheVariants as answers
use Rattle.wt_code.specs.declared.refusals.Refusal.TheVariants as refusal
use Rattle.kv_model.specs.Calls.{Set}
use Rattle.ts_rules.specs.Rules.{raised}
use Rattle.ts_rules.specs.declared.stamps.Stamps.{Stamps}
use Rattle.engine.proofs.Directories.{goes-same, goes-with}
use Rattle.engine.proofs.Soundness.{hub-beside}
use Rattle.engine.proofs.SystemEvents.{raised-fit, set-down, set-done, set-refused}
use Rattle.engine.proofs.parts.Parts.set.Goals as goal

pub returns-in-Some-clause-makes : goal.returns-in-Some-clause-makes
returns-in-Some-clause-makes c = λ w st. set-down c.args.self.now w c.args.oldest c.args.stable c.in-Some.fault st (subst (λ (x : Engine). x.hub.fault ≡ Some c.in-Some.fault) c.self.view_is c.in-Some.is)

pub returns-in-Err-clause-makes : goal.returns-in-Err-clause-makes
returns-in-Err-clause-makes c = λ w st. subst (λ (s : Stamps). Makes (record e { hub = record e.hub { stamps = s } }) w (Set c.args.oldest c.args.stable) (answers.Refused (refusal.Invalid c.in-Err.reason))) (sym c.in-Err.ensures.kept)
    (set-refused e w c.args.oldest c.args.stable c.in-Err.reason (subst (λ (x : Engine). Stands x w) (sym c.self.view_is) st) c.in_default.is (sym c.set.ensures.answer ∙ c.in-Err.is)) where
      e : Engine
      e = record { hub = c.self.inside.hub; pieces = c.self.inside.pieces.items; states = c.self.inside.states.items; hazards = c.self.inside.hazards.items; sessions = c.self.inside.sessions.items; systems = c.self.inside.systems.items }

pub returns-clause-makes : goal.returns-clause-makes
returns-clause-makes c = λ w st. subst (λ (s : Stamps). Makes (record e { hub = record e.hub { stamps = s } }) w (Set c.args.oldest c.args.stable) answers.Done) (sym c.in_default-set.ensures.raised)
    (set-done c.sets_go.ensures e w c.args.oldest c.args.stable (subst (λ (x : Engine). Stands x w) (sym c.self.view_is) st) c.in_default.is (sym c.set.ensures.answer ∙ c.in_default-set.is)) where
      e : Engine
      e = record { hub = c.self.inside.hub; pieces = c.self.inside.pieces.items; states = c.self.inside.states.items; hazards = c.self.inside.hazards.items; sessions = c.self.inside.sessions.items; systems = c.self.inside.systems.items }

pub returns-clause-sound : goal.returns-clause-sound
returns-clause-sound c = subst (λ (s : Stamps). IsSound (record e { hub = record e.hub { stamps = s } })) (sym c.in_default-set.ensures.raised)
    (hub-beside e (raised e.hub.stamps c.args.oldest c.args.stable) e.hub.fault (raised-fit e c.args.oldest c.args.stable (sym c.set.ensures.answer ∙ c.in_default-set.is)) (subst (λ (x : Engine). IsSound x) (sym c.self.view_is) c.requires)) where
      e : Engine
      e = record { hub = c.self.inside.hub; pieces = c.self.inside.pieces.items; states = c.self.inside.states.items; hazards = c.self.inside.hazards.items; sessions = c.self.inside.sessions.items; systems = c.self.inside.systems.items }

pub returns-in-Some-clause-goes : goal.returns-in-Some-clause-goes
returns-in-Some-clause-goes c = goes-same c.args.self.now c.requires

pub returns-in-Err-clause-goes : goal.returns-in-Err-clause-goes
returns-in-Err-clause-goes c = subst (λ (x : Engine). HubGoesOn x.hub (record e.hub { stamps = c.set.new.self })) c.self.view_is (goes-with e (record e.hub { stamps = c.set.new.self }) sound refl refl refl refl) where
  e : Engine
  e = record { hub = c.self.inside.hub; pieces = c.self.inside.pieces.items; states = c.self.inside.states.items; hazards = c.self.inside.hazards.items; sessions = c.self.inside.sessions.items; systems = c.self.inside.systems.items }

  sound : IsSound e
  sound = subst (λ (x : Engine). IsSound x) (sym c.self.view_is) c.requires

pub returns-clause-goes : goal.returns-clause-goes
returns-clause-goes c = subst (λ (x : Engine). HubGoesOn x.hub (record e.hub { stamps = c.set.new.self })) c.self.view_is (goes-with e (record e.hub { stamps = c.set.new.self }) sound refl refl refl refl) where
  e : Engine
  e = record { hub = c.self.inside.hub; pieces = c.self.inside.pieces.items; states = c.self.inside.states.items; hazards = c.self.inside.hazards.items; sessions = c.self.inside.sessions.items; systems = c.self.inside.systems.items }

  sound : IsSound e
  sound = subst (λ (x : Engine). IsSound x) (sym c.self.view_is) c.requires
