-- The transaction of each session is rolled back, the lowest first.
use Rattle.std.proofs.Common.{◌≡◌, ◌<◌, ◌≤◌, ◌+◌, ℕ, refl, ap, sym, ◌∙◌, List, ◌∷◌, length, drop, inl, inr, subst, get_or, arith}
use Rattle.std.specs.Prelude.{Option, Some, None}
use Rattle.std.proofs.lemmas.List.{drop_all, drop_more, drop-set-lt, get_or-set_same}
use Rattle.std.proofs.lemmas.Option.{slice_get-get_or}
use Rattle.wt_code.specs.declared.answers.Answer.{Answer}
use Rattle.wt_code.specs.declared.refusals.Invalid.TheVariants as why
use Rattle.kv_model.specs.Calls.{Rollback, SessionAnswers, Settled, rolled_back, settled}
use Rattle.kv_model.specs.Closing.{after_all, rolling_back}
use Rattle.kv_model.specs.Decisions.{Outcome, Done, EndCall, RollbackCall, decision, invalid, rollback_decision}
use Rattle.kv_model.specs.History.{Entry, Undo}
use Rattle.kv_model.specs.Machine.{Machine, Transaction, Phase, Running, Failed, Prepared, Resolving, Leaving, Event, StartLeaving, EndTransaction, after, appended, in_phase, left, name_of, of_some, transaction_of, with_transaction}
use Rattle.call_steps.specs.declared.stage.Stage.{Stage}
use Rattle.call_steps.specs.declared.stage.Stage.TheVariants as stage
use Rattle.call_steps.specs.State.{opened}
use Rattle.engine_world.specs.Doings.{doing_at}
use Rattle.engine_world.specs.Stages.{EndsOnlyDown}
use Rattle.engine_world.specs.Stands.{Engine, Stands}
use Rattle.engine_world.specs.Whole.{Reached, nothing_around}
use Rattle.engine_world.specs.Worlds.{World, Doing, Resting, doing_of}
use Rattle.engine_world.proofs.Deciding.{leave-is}
use Rattle.engine_world.proofs.HubMoves.{decided-up, none-there, one-there}
use Rattle.engine_world.proofs.Rollbacks.{up-living}
use Rattle.engine.specs.Closes.{MayClose}
use Rattle.engine.specs.declared.called.Called.{Called}
use Rattle.engine.specs.declared.called.Called.TheVariants as called
use Rattle.engine.specs.Sound.{IsSound, Keeps}
use Rattle.engine.specs.Waits.{WaitsAs, waits_in}
use Rattle.engine.specs.Whole.{CallsIn, CallsTo, IsUnderWay, MayCall}
use Rattle.engine.proofs.Closes.{close-rests, close-up, resting-ends}
use Rattle.engine.proofs.Soundness.{keeps-same, keeps-then}
use Rattle.engine.proofs.Waited.{IsFilling, IsHeld, filling, held}

-- ---- one session

-- what is left to do of rolling back, where those below are done
abbrev left_from : Machine → ℕ → Machine
left_from m at = after_all m (rolling_back at (drop at m.sessions))

abbrev begun_of : Machine → ℕ → Machine
begun_of m session = after m (StartLeaving session)

abbrev over_of : Machine → ℕ → Machine
over_of m session = after (begun_of m session) (EndTransaction session)

-- a session more is rolled back
record IsRolled (m : Machine) (session : ℕ) (next : Machine) : Type 0 where
  up : next.fault ≡ None
  rest : left_from next (session + 1) ≡ left_from m session

module _ (m : Machine) (session : ℕ) (next : Machine) (up : m.fault ≡ None) (inside : session < length m.sessions) (ends : EndsOnlyDown m session) where
  split : (o : Option Transaction) → transaction_of m session ≡ o → drop session m.sessions ≡ o ∷ drop (session + 1) m.sessions
  split o is = drop_more m.sessions session None inside ∙ ap (λ (x : Option Transaction). x ∷ drop (session + 1) m.sessions) is

  none-rolled : (outcome : Outcome) → transaction_of m session ≡ None → Settled m session RollbackCall outcome next → IsRolled m session next
  none-rolled outcome none is = record {
    up = ap (λ (x : Machine). x.fault) same ∙ up;
    rest = ap (λ (x : Machine). left_from x (session + 1)) same ∙ sym (ap (λ (l : List (Option Transaction)). after_all m (rolling_back session l)) (split None none));
  } where
    decided : decision m session RollbackCall ≡ invalid why.NoTxn
    decided = decided-up m session RollbackCall up ∙ none-there m session (λ t. rollback_decision t.phase session) none

    same : next ≡ m
    same = sym (ap (λ (x : Outcome × Machine). x.1) (sym (ap (λ (d : Outcome × Event). settled m session d.0 d.1) decided) ∙ is))

  module _ (t : Transaction) (there : transaction_of m session ≡ Some t) where
    -- by the phase that its first event leaves
    leaving-rolled : (outcome : Outcome) (p q : Phase) (history : List Entry) → t.phase ≡ p → rollback_decision p session ≡ (Done, StartLeaving session)
        → left p m session t ≡ record (with_transaction m session (Some (in_phase q t))) { history = history } → Settled m session RollbackCall outcome next → IsRolled m session next
    leaving-rolled outcome p q history is_p rolls leaves is = record {
      up = ap (λ (x : Machine). x.fault) next-is ∙ begun-up;
      rest = ap (λ (x : Machine). left_from x (session + 1)) next-is
          ∙ (ap (λ (l : List (Option Transaction)). after_all (over_of m session) (rolling_back (session + 1) l)) later-same
          ∙ sym (ap (λ (l : List (Option Transaction)). after_all m (rolling_back session l)) (split (Some t) there)));
    } where
      decided : decision m session RollbackCall ≡ (Done, StartLeaving session)
      decided = decided-up m session RollbackCall up ∙ (one-there m session t (λ t. rollback_decision t.phase session) there ∙ (ap (λ (x : Phase). rollback_decision x session) is_p ∙ rolls))

      begun-is : (begun_of m session) ≡ record (with_transaction m session (Some (in_phase q t))) { history = history }
      begun-is = leave-is m session t p there is_p ∙ leaves

      begun-there : transaction_of (begun_of m session) session ≡ Some (in_phase q t)
      begun-there = ap (λ (x : Machine). transaction_of x session) begun-is ∙ get_or-set_same m.sessions session (Some (in_phase q t)) None inside

      begun-up : (begun_of m session).fault ≡ None
      begun-up = ap (λ (x : Machine). x.fault) begun-is ∙ up

      settled-is : settled m session Done (StartLeaving session) ≡ (Done, (over_of m session))
      settled-is = ap (of_some {A = Transaction} {B = Outcome × Machine} (Done, (begun_of m session)) (λ x. let last = decision (begun_of m session) session (EndCall Done) in (last.0, after (begun_of m session) last.1))) begun-there
          ∙ ap (λ (d : Outcome × Event). let both : Outcome × Machine = (d.0, after (begun_of m session) d.1) in both) (decided-up (begun_of m session) session (EndCall Done) begun-up)

      next-is : next ≡ (over_of m session)
      next-is = sym (ap (λ (x : Outcome × Machine). x.1) (sym settled-is ∙ (sym (ap (λ (d : Outcome × Event). settled m session d.0 d.1) decided) ∙ is)))

      later-same : drop (session + 1) (over_of m session).sessions ≡ drop (session + 1) m.sessions
      later-same = drop-set-lt (session + 1) (begun_of m session).sessions session None (omega arith)
          ∙ (ap (λ (x : Machine). drop (session + 1) x.sessions) begun-is ∙ drop-set-lt (session + 1) m.sessions session (Some (in_phase q t)) (omega arith))

    one-rolled : (outcome : Outcome) → Settled m session RollbackCall outcome next → IsRolled m session next
    one-rolled outcome is = by-phase t.phase refl where
      by-phase : (p : Phase) → t.phase ≡ p → IsRolled m session next
      by-phase Running in_p = leaving-rolled outcome Running Leaving m.history in_p refl refl is
      by-phase Failed in_p = leaving-rolled outcome Failed Leaving m.history in_p refl refl is
      by-phase (Prepared stamp) in_p = leaving-rolled outcome (Prepared stamp) Resolving (appended t.writes (Undo (name_of m t)) m.history) in_p refl refl is
      by-phase Resolving in_p = absurd (up-living m session t Resolving up ends there in_p tt)
      by-phase Leaving in_p = absurd (up-living m session t Leaving up ends there in_p tt)

  settled-rolled : (outcome : Outcome) → Settled m session RollbackCall outcome next → IsRolled m session next
  settled-rolled outcome is = by-there (transaction_of m session) refl where
    by-there : (o : Option Transaction) → transaction_of m session ≡ o → IsRolled m session next
    by-there None none = none-rolled outcome none is
    by-there (Some t) there = one-rolled t there outcome is

  answered-rolled : (answer : Answer (List ℕ)) → SessionAnswers nothing_around m session Rollback answer next → IsRolled m session next
  answered-rolled answer answers = elim answers [
    | inl decided ↦ settled-rolled decided.0 decided.1
    | inr held ↦ absurd held
  ]

abbrev with_machine : World → Machine → World
with_machine w m = record w { machine = m }

-- ---- all sessions, as far as they are done

pub record RolledTo (now : Engine) (w : World) (at : ℕ) : Type 0 where
  pub machine : Machine
  pub stands : Stands now (record w { machine = machine })
  pub up : machine.fault ≡ None
  pub rest : left_from machine at ≡ rolled_back w.machine

pub record IsRolledTo (old now : Engine) (at : ℕ) : Type 0 where
  pub sound : IsSound now
  pub kept : Keeps old now
  pub rolled : (w : World) → Stands old w → MayClose w → RolledTo now w at

pub rolls-none : (e : Engine) → IsSound e → IsRolledTo e e 0
rolls-none e sound = record { sound = sound; kept = keeps-same e; rolled = λ w st may. record { machine = w.machine; stands = st; up = close-up w may; rest = refl } }

-- what a call of a session leaves
abbrev pub RollsBack : Called → Engine → Engine → ℕ → Type 0
RollsBack made now new session = (v : World) → Stands now v → CallsTo made new v session Rollback

-- a rollback waits for no leaf
none-waits : (e : Engine) (v x : World) (session leaf : ℕ) → waits_in e session ≡ Some leaf → IsUnderWay None v session Rollback x → Stands e x → ⊥
none-waits e v x session leaf waits under st = (subst (λ (d : Doing). Reached None v.machine session Rollback d x.machine) does under.reached).1 where
  h : IsHeld e session leaf
  h = held e session leaf waits

  f : IsFilling h.state.stage leaf
  f = filling h.state.stage h.state leaf h.on

  does : doing_of x session ≡ doing_at (stage.Fill f.call f.wanted) e.hub.dir.leaves session h.state
  does = st.doing session h.state h.at ∙ ap (λ (g : Stage). doing_at g e.hub.dir.leaves session h.state) f.stage_is

-- so it is answered
answered-back : (made : Called) (now new : Engine) (session : ℕ) (v : World) → RollsBack made now new session → WaitsAs made new session → Stands now v → (answer : Answer (List ℕ)) × (later : World) × MayCall v session Rollback answer later × Stands new later
answered-back (called.Ended answer) now new session v call waits st = let r = call v st in (answer, r.0, r.1, r.2)
answered-back (called.Waits leaf) now new session v call waits st = let r = call v st in absurd (none-waits new v r.0 session leaf waits.0 r.1 r.2)

pub rolls-one : (old now new : Engine) (session : ℕ) (made : Called) → IsRolledTo old now session → session < length now.sessions → RollsBack made now new session → WaitsAs made new session → Keeps now new → IsRolledTo old new (session + 1)
rolls-one old now new session made way inside call waits kept = record {
  sound = kept.sound way.sound;
  kept = keeps-then old now new way.kept kept;
  rolled = λ w st may. rolled w st may (way.rolled w st may);
} where
  rolled : (w : World) → Stands old w → MayClose w → RolledTo now w session → RolledTo new w (session + 1)
  rolled w st may r = record {
    machine = back.1.machine;
    stands = subst (Stands new) told.1 back.3;
    up = one.up;
    rest = one.rest ∙ r.rest;
  } where
    back : (answer : Answer (List ℕ)) × (later : World) × MayCall (with_machine w r.machine) session Rollback answer later × Stands new later
    back = answered-back made now new session (with_machine w r.machine) call waits r.stands

    rests : doing_of (with_machine w r.machine) session ≡ Resting
    rests = close-rests w session may (let a = st.count in let b = way.kept.sessions in omega (arith, a, b, inside))

    told : CallsIn Resting (with_machine w r.machine) session Rollback back.0 back.1
    told = subst (λ d. CallsIn d (with_machine w r.machine) session Rollback back.0 back.1) rests back.2

    one : IsRolled r.machine session back.1.machine
    one = answered-rolled r.machine session back.1.machine r.up (let a = r.stands.count in omega (arith, a, inside))
        (resting-ends now (with_machine w r.machine) session (get_or now.sessions session opened) r.stands (slice_get-get_or now.sessions session opened inside) rests) back.0 told.0

pub rolls-all : (old now : Engine) (at : ℕ) → IsRolledTo old now at → length now.sessions ≤ at → (w : World) → Stands old w → MayClose w → Stands now (record w { machine = rolled_back w.machine })
rolls-all old now at way over w st may = let r = way.rolled w st may in
    subst (λ (m : Machine). Stands now (record w { machine = m })) (sym (ap (λ (l : List (Option Transaction)). after_all r.machine (rolling_back at l))
    (drop_all at r.machine.sessions (let a = r.stands.count in omega (arith, a, over)))) ∙ r.rest) r.stands
