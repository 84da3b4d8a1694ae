use Rattle.std.proofs.Common.{◌≡◌, ◌<◌, refl, ap, sym, ◌∙◌, length, subst}
use Rattle.std.specs.Prelude.{Some, option_copied, slice_get}
use Rattle.std.proofs.lemmas.Option.{slice_get_read}
use Rattle.call_steps.specs.State.{State}
use Rattle.engine_world.specs.Stands.{Engine, Stands}
use Rattle.engine.specs.declared.got.Got.TheVariants as got
use Rattle.wt_code.specs.declared.refusals.Refusal.TheVariants as refusal
use Rattle.engine.specs.Reads.{IsKeyAway, ReadsIn}
use Rattle.engine.proofs.KeyReads.{get-away, get-missing, get-read, get-refused}
use Rattle.engine.proofs.parts.Parts.get_into.Goals as goal

pub returns-in-Some-clause-answer : goal.returns-in-Some-clause-answer
returns-in-Some-clause-answer c = λ w name st of. get-refused e w c.args.session here (subst (λ (x : Engine). Stands x w) (sym c.self.view_is) st) at name c.args.key.now c.args.table of c.in-Some.refusal (sym c.refused_first.ensures ∙ c.in-Some.is) where
  e : Engine
  e = record { hub = c.self.inside.hub; pieces = c.self.inside.pieces.items; states = c.self.inside.states.items; hazards = c.self.inside.hazards.items; sessions = c.self.inside.sessions.items; systems = c.self.inside.systems.items }

  here : State
  here = c.index.result.now

  open_one : c.args.session < length e.sessions
  open_one = subst (λ (x : Engine). c.args.session < length x.sessions) (sym c.self.view_is) c.requires.open

  at : slice_get e.sessions c.args.session ≡ Some here
  at = slice_get_read e.sessions (length e.sessions) c.args.session here refl open_one c.index.ensures

pub returns-in-Some-clause-away : goal.returns-in-Some-clause-away
returns-in-Some-clause-away c = λ is. absurd (let clash : got.Refused c.in-Some.refusal ≡ got.Away = is in cc)

pub returns-in-Some-clause-kept : goal.returns-in-Some-clause-kept
returns-in-Some-clause-kept c = λ other. refl

pub returns-in-None-clause-answer : goal.returns-in-None-clause-answer
returns-in-None-clause-answer c = λ w name st of. get-missing e w c.args.session here (subst (λ (x : Engine). Stands x w) (sym c.self.view_is) st) at name c.args.key.now c.args.table of (sym c.refused_first.ensures ∙ c.in_default.is)
    (sym c.leaf_under.ensures ∙ ap option_copied c.in-None.is) where
      e : Engine
      e = record { hub = c.self.inside.hub; pieces = c.self.inside.pieces.items; states = c.self.inside.states.items; hazards = c.self.inside.hazards.items; sessions = c.self.inside.sessions.items; systems = c.self.inside.systems.items }

      here : State
      here = c.index.result.now

      open_one : c.args.session < length e.sessions
      open_one = subst (λ (x : Engine). c.args.session < length x.sessions) (sym c.self.view_is) c.requires.open

      at : slice_get e.sessions c.args.session ≡ Some here
      at = slice_get_read e.sessions (length e.sessions) c.args.session here refl open_one c.index.ensures

pub returns-in-None-clause-away : goal.returns-in-None-clause-away
returns-in-None-clause-away c = λ is. absurd (let clash : got.Refused refusal.NoTable ≡ got.Away = is in cc)

pub returns-in-None-clause-kept : goal.returns-in-None-clause-kept
returns-in-None-clause-kept c = λ other. refl

pub returns-in-None-frame-clause-answer : goal.returns-in-None-frame-clause-answer
returns-in-None-frame-clause-answer c = λ w name st of. get-away e w c.args.session here (subst (λ (x : Engine). Stands x w) (sym c.self.view_is) st) at name c.args.key.now c.args.table of (sym c.refused_first.ensures ∙ c.in_default.is)
    c.in-Some-leaf_under.leaf.now (sym c.leaf_under.ensures ∙ ap option_copied c.in-Some-leaf_under.is) c.args.value.now.items where
      e : Engine
      e = record { hub = c.self.inside.hub; pieces = c.self.inside.pieces.items; states = c.self.inside.states.items; hazards = c.self.inside.hazards.items; sessions = c.self.inside.sessions.items; systems = c.self.inside.systems.items }

      here : State
      here = c.index.result.now

      open_one : c.args.session < length e.sessions
      open_one = subst (λ (x : Engine). c.args.session < length x.sessions) (sym c.self.view_is) c.requires.open

      at : slice_get e.sessions c.args.session ≡ Some here
      at = slice_get_read e.sessions (length e.sessions) c.args.session here refl open_one c.index.ensures

pub returns-in-None-frame-clause-away : goal.returns-in-None-frame-clause-away
returns-in-None-frame-clause-away c = λ is. subst (λ (x : Engine). IsKeyAway x.hub.dir.leaves c.args.table c.args.key.now) c.self.view_is
    (c.in-Some-leaf_under.leaf.now, sym c.leaf_under.ensures ∙ ap option_copied c.in-Some-leaf_under.is, c.in-None-frame.is)

pub returns-in-None-frame-clause-kept : goal.returns-in-None-frame-clause-kept
returns-in-None-frame-clause-kept c = λ other. refl

pub returns-in-Some-frame-clause-answer : goal.returns-in-Some-frame-clause-answer
returns-in-Some-frame-clause-answer c = λ w name st of. get-read e w c.args.session here (subst (λ (x : Engine). Stands x w) (sym c.self.view_is) st) at name c.args.key.now c.args.table of (sym c.refused_first.ensures ∙ c.in_default.is)
    c.in-Some-leaf_under.leaf.now (sym c.leaf_under.ensures ∙ ap option_copied c.in-Some-leaf_under.is) c.held_reads_stand.ensures c.in-Some-frame.framed c.read_into.result c.read_into.new.value.items c.in-Some-frame.is
    (subst (λ (x : Engine). ReadsIn x c.args.session c.in-Some-frame.framed.frame c.args.key.now c.read_into.result c.read_into.new.value.items) (sym c.self.view_is) c.read_into.ensures.reads) where
      e : Engine
      e = record { hub = c.self.inside.hub; pieces = c.self.inside.pieces.items; states = c.self.inside.states.items; hazards = c.self.inside.hazards.items; sessions = c.self.inside.sessions.items; systems = c.self.inside.systems.items }

      here : State
      here = c.index.result.now

      open_one : c.args.session < length e.sessions
      open_one = subst (λ (x : Engine). c.args.session < length x.sessions) (sym c.self.view_is) c.requires.open

      at : slice_get e.sessions c.args.session ≡ Some here
      at = slice_get_read e.sessions (length e.sessions) c.args.session here refl open_one c.index.ensures

pub returns-in-Some-frame-clause-away : goal.returns-in-Some-frame-clause-away
returns-in-Some-frame-clause-away c = λ is. absurd (c.read_into.ensures.here is)

pub returns-in-Some-frame-clause-kept : goal.returns-in-Some-frame-clause-kept
returns-in-Some-frame-clause-kept c = c.read_into.ensures.kept
