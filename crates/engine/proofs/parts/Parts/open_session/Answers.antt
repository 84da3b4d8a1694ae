use Rattle.std.proofs.Common.{◌≡◌, ap, sym, ◌∙◌, List, [], ◌∷◌, ◌++◌, length, subst}
use Rattle.engine_world.specs.Stands.{Engine, Stands}
use Rattle.engine_world.specs.Worlds.{World}
use Rattle.txn_table.specs.Tabled.{Table}
use Rattle.call_steps.specs.State.{State, opened}
use Rattle.engine_world.specs.Systems.{with_opened}
use Rattle.engine.specs.Whole.{with_session_more}
use Rattle.engine.specs.Sound.{IsSound}
use Rattle.engine.specs.Told.{KeepOwn}
use Rattle.engine.proofs.Owning.{own-opened}
use Rattle.engine.proofs.Systems.{more-sound}
use Rattle.engine.proofs.parts.Parts.open_session.Goals as goal

pub returns-clause-opened : goal.returns-clause-opened
returns-clause-opened c = λ w st. (number w (stands w st), more w (stands w st)) where
  e : Engine
  e = record { hub = c.self.inside.hub; pieces = c.self.inside.pieces.items; states = c.self.inside.states.items; hazards = c.self.inside.hazards.items; sessions = c.self.inside.sessions.items; systems = c.self.inside.systems.items }

  stands : (w : World) → Stands c.args.self.now w → Stands e w
  stands w st = subst (λ (x : Engine). Stands x w) (sym c.self.view_is) st

  number : (w : World) → Stands e w → c.in_ok-session.session ≡ length c.args.self.now.sessions
  number w st = c.in_ok-session.ensures.number ∙ (st.txns.count ∙ (sym st.count ∙ ap (λ (x : Engine). length x.sessions) c.self.view_is))

  sessions-are : c.push_reserved.new.self.items ≡ e.sessions ++ opened ∷ []
  sessions-are = c.push_reserved.ensures.items ∙ (ap (λ (l : List State). l ++ c.in_ok-state.state ∷ []) c.reserve.ensures.items ∙ ap (λ (s : State). e.sessions ++ s ∷ []) c.in_ok-state.ensures)

  more : (w : World) → Stands e w → Stands (record (with_opened e) { hub = record e.hub { txns = c.open_session.new.self }; sessions = c.push_reserved.new.self.items }) (with_session_more w)
  more w st = subst (λ (ts : Table). Stands (record (with_opened e) { hub = record e.hub { txns = ts }; sessions = c.push_reserved.new.self.items }) (with_session_more w)) (sym c.in_ok-session.ensures.ok.1)
      (subst (λ (ss : List State). Stands (record (with_opened e) { sessions = ss }) (with_session_more w)) (sym sessions-are) (c.opens_go.ensures e w st))

pub returns-clause-sound : goal.returns-clause-sound
returns-clause-sound c = subst (λ (ts : Table). IsSound (record (with_opened e) { hub = record e.hub { txns = ts }; sessions = c.push_reserved.new.self.items })) (sym c.in_ok-session.ensures.ok.1)
    (subst (λ (ss : List State). IsSound (record (with_opened e) { sessions = ss })) (sym sessions-are) (more-sound e (subst (λ (x : Engine). IsSound x) (sym c.self.view_is) c.requires))) where
      e : Engine
      e = record { hub = c.self.inside.hub; pieces = c.self.inside.pieces.items; states = c.self.inside.states.items; hazards = c.self.inside.hazards.items; sessions = c.self.inside.sessions.items; systems = c.self.inside.systems.items }

      sessions-are : c.push_reserved.new.self.items ≡ e.sessions ++ opened ∷ []
      sessions-are = c.push_reserved.ensures.items ∙ (ap (λ (l : List State). l ++ c.in_ok-state.state ∷ []) c.reserve.ensures.items ∙ ap (λ (s : State). e.sessions ++ s ∷ []) c.in_ok-state.ensures)

pub returns-in_err-session-clause-sound : goal.returns-in_err-session-clause-sound
returns-in_err-session-clause-sound c = subst (λ (ss : List State). IsSound (record e { hub = record e.hub { txns = c.open_session.new.self }; sessions = ss })) (sym c.reserve.ensures.items)
    (subst (λ (ts : Table). IsSound (record e { hub = record e.hub { txns = ts } })) (sym c.in_err-session.ensures.kept) (subst (λ (x : Engine). IsSound x) (sym c.self.view_is) c.requires)) where
      e : Engine
      e = record { hub = c.self.inside.hub; pieces = c.self.inside.pieces.items; states = c.self.inside.states.items; hazards = c.self.inside.hazards.items; sessions = c.self.inside.sessions.items; systems = c.self.inside.systems.items }

pub returns-clause-own : goal.returns-clause-own
returns-clause-own c = subst (λ (x : Engine). KeepOwn x (record (with_opened e) { hub = record e.hub { txns = c.open_session.new.self }; sessions = c.push_reserved.new.self.items })) c.self.view_is
    (own-opened e (record (with_opened e) { hub = record e.hub { txns = c.open_session.new.self }; sessions = c.push_reserved.new.self.items }) sessions-are) where
      e : Engine
      e = record { hub = c.self.inside.hub; pieces = c.self.inside.pieces.items; states = c.self.inside.states.items; hazards = c.self.inside.hazards.items; sessions = c.self.inside.sessions.items; systems = c.self.inside.systems.items }

      sessions-are : c.push_reserved.new.self.items ≡ e.sessions ++ opened ∷ []
      sessions-are = c.push_reserved.ensures.items ∙ (ap (λ (l : List State). l ++ c.in_ok-state.state ∷ []) c.reserve.ensures.items ∙ ap (λ (s : State). e.sessions ++ s ∷ []) c.in_ok-state.ensures)
