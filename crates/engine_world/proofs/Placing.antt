-- The events on words that place a cursor.
use Rattle.std.proofs.Common.{◌≡◌, ◌⊎◌, ◌<◌, ℕ, refl, ap, sym, ◌∙◌, List, [], length, inl, inr, subst, arith, map}
use Rattle.std.specs.Prelude.{Option, Some, None, option_map, slice_get, slice_set}
use Rattle.std.proofs.lemmas.List.{get_or-set_same}
use Rattle.wt_code.specs.declared.answers.Answer.{Answer}
use Rattle.wt_code.specs.declared.answers.Answer.TheVariants as answer
use Rattle.wt_code.specs.declared.refusals.Refusal.TheVariants as refusal
use Rattle.wt_code.specs.declared.refusals.Invalid.{Invalid}
use Rattle.wt_code.specs.declared.refusals.Invalid.TheVariants as invalid
use Rattle.kv_model.specs.Allowed.{HasTransaction}
use Rattle.kv_model.specs.Decisions.{Outcome, Done, in_state, invalid as invalid_outcome}
use Rattle.kv_model.specs.Machine.{Machine, Transaction, Phase as ModelPhase, Running, Failed as ModelFailed, Prepared as ModelPrepared, Resolving as ModelResolving, Leaving as ModelLeaving, Position as ModelPosition, Event, PlaceCursor, Nothing, after, cursors_of, of_some, transaction_of}
use Rattle.kv_model.specs.Reads.{IsEnding}
use Rattle.kv_model.specs.Rows.{reset_decision}
use Rattle.kv_model.proofs.EveryEvent.{valid-after}
use Rattle.kv_model.proofs.Seats.{seat-inside}
use Rattle.txn_table.specs.declared.phase.Phase.{Phase}
use Rattle.txn_table.specs.declared.phase.Phase.TheVariants as phase
use Rattle.txn_table.specs.SessionData.{phase_in}
use Rattle.txn_table.proofs.Standing.{calls-stand}
use Rattle.update_chain.specs.EventLaws.{ChainsGoOn}
use Rattle.call_steps.specs.declared.cursor.Cursor.{Cursor}
use Rattle.call_steps.specs.declared.cursor.Position.{Position}
use Rattle.call_steps.specs.declared.reply.Reply.{Reply}
use Rattle.call_steps.specs.declared.reply.Reply.TheVariants as reply
use Rattle.call_steps.specs.declared.stage.KeyCall.{KeyCall}
use Rattle.call_steps.specs.declared.stage.Stage.{Stage}
use Rattle.call_steps.specs.declared.stage.Stage.TheVariants as stage
use Rattle.call_steps.specs.declared.stage.Target.{Target}
use Rattle.call_steps.specs.HubEvents.{known_phase}
use Rattle.call_steps.specs.Stages.{cursor_in}
use Rattle.call_steps.specs.State.{State, at_stage, changed_at, placed, unpinned, without_answer}
use Rattle.call_steps.specs.Words.{ends, landed, reset, stored_at}
use Rattle.engine_world.specs.Doings.{doing_in, event_with, landing}
use Rattle.engine_world.specs.Laws.{ClearsGo, IsClearing, IsReset, Leads, ResetsGo, with_hazard, with_session}
use Rattle.engine_world.specs.Leaves.{AreNoted}
use Rattle.engine_world.specs.Stages.{EndsOnlyDown, HasLooked}
use Rattle.engine_world.specs.Stands.{Engine, Stands, SessionStands, position_in, writes_in}
use Rattle.engine_world.specs.Steps.{GoesOn, JudgedBy, Made}
use Rattle.engine_world.specs.Worlds.{World, Decided, Resting}
use Rattle.engine_world.proofs.CursorChanges.{positions-set}
use Rattle.engine_world.proofs.Events.{all-same, event-beside}
use Rattle.engine_world.proofs.HubMoves.{leaves-go-on}
use Rattle.engine_world.proofs.Moves.{alone-leads, engine_with, leads}
use Rattle.engine_world.proofs.OwnStates.{alive-ends, has-phase, restates}
use Rattle.engine_world.proofs.WordEvents.{clear-cursor}
use Rattle.engine_world.proofs.InPlace.{StageInPlace}

-- ---- one cursor of a transaction that runs is placed, and the call ends

-- what is asked of the session's state after it
record Places (session cursor : ℕ) (old a : State) (position : Option ModelPosition) : Type 0 where
  change : Cursor → Cursor
  phase : a.phase ≡ old.phase
  written : a.written ≡ old.written
  stage : a.stage ≡ stage.Rest
  cursors : a.cursors ≡ changed_at old.cursors cursor change
  to : (k : Cursor) → position_in (change k) ≡ position

place-leads : ChainsGoOn → (e : Engine) (w : World) (session : ℕ) (old a : State) (hazards : List ℕ) (told : Reply) (cursor : ℕ) (position : Option ModelPosition)
    → Stands e w → slice_get e.sessions session ≡ Some old → HasTransaction w.machine session (λ t. t.phase ≡ Running) → Places session cursor old a position
    → GoesOn (w.again session) (doing_in e.hub.dir.leaves session old) w.machine session (record { told = told; machine = after w.machine (PlaceCursor session cursor position); doing = doing_in e.hub.dir.leaves session a })
    → Leads (engine_with e session e.hub e.pieces hazards a) w session told
place-leads chains e w session old a hazards told cursor position st there has p goes =
    leads e w session old a e.hub e.pieces hazards next told st there goes (record {
      valid = valid-after m event st.valid has;
      beside = all-same session m next e.hub e.pieces (event-beside session m event st.valid has refl);
      fault = refl;
      stamps = refl;
      txns = (calls-stand e.hub.txns m st.valid st.txns).others event tt has;
      made = refl;
      leaves = leaves-go-on chains m event w.shelf w.records e.hub.dir.leaves e.pieces e.states st.valid has (λ table key. tt) st.leaves;
      mine = record {
        phase = ap phase_in p.phase ∙ mine.phase;
        seated = record { opened = mine.seated.opened; phase = mine.seated.phase ∙ ap known_phase (sym p.phase) };
        cursors = ap (map position_in) p.cursors ∙ (positions-set old.cursors cursor p.change position p.to ∙ (ap (λ l. slice_set l cursor position) mine.cursors
            ∙ sym (get_or-set_same m.cursors session (slice_set (cursors_of m session) cursor position) [] inside)));
        noted = subst (λ keys. AreNoted e.hub.dir.leaves e.pieces (writes_in m session) keys) (sym p.written) mine.noted;
        stage = subst (λ s. StageInPlace s next e.hub.dir.leaves e.pieces session a) (sym p.stage) (alive-ends next session has.0 has.1 (λ ending. subst IsEnding has.2 ending));
      };
    }) where
      m : Machine
      m = w.machine

      event : Event
      event = PlaceCursor session cursor position

      next : Machine
      next = after w.machine (PlaceCursor session cursor position)

      mine : SessionStands m e.hub e.pieces session old
      mine = st.sessions session old there

      inside : session < length m.cursors
      inside = let seat = seat-inside m.sessions session has.0 has.1 in let seats = st.valid.cursors.seats in omega arith

-- ---- a reset

one-decided : (o : Option Transaction) (p : ModelPhase) (go : Outcome × Event) → Some p ≡ option_map (λ (t : Transaction). t.phase) o
    → of_some (invalid_outcome invalid.NoTxn) (λ (t : Transaction). in_state t.phase go) o ≡ in_state p go
one-decided None p go is = let none : Some p ≡ None = is in absurd (cc)
one-decided (Some t) p go is = let same : p ≡ t.phase = (let e : Some p ≡ Some t.phase = is in cc) in ap (λ q. in_state q go) (sym same)

none-decided : (o : Option Transaction) (go : Outcome × Event) → None ≡ option_map (λ (t : Transaction). t.phase) o
    → of_some (invalid_outcome invalid.NoTxn) (λ (t : Transaction). in_state t.phase go) o ≡ invalid_outcome invalid.NoTxn
none-decided None go is = refl
none-decided (Some t) go is = let some : None ≡ Some t.phase = is in absurd (cc)

refuses-reset : (e : Engine) (w : World) (session cursor : ℕ) (hazards : List ℕ) (reason : Invalid) (a : State) → Stands e w → slice_get e.sessions session ≡ Some (at_stage (stage.Reset cursor) a)
    → reset_decision w.machine session cursor ≡ invalid_outcome reason
    → Leads (engine_with e session e.hub e.pieces hazards (at_stage stage.Rest a)) w session (reply.Answer (answer.Refused (refusal.Invalid reason)))
refuses-reset e w session cursor hazards reason a st there decided = alone-leads e w session old (at_stage stage.Rest a) hazards (reply.Answer (answer.Refused (refusal.Invalid reason))) st there
    (inr (subst (λ d. JudgedBy d w.machine made) (sym decided) (answer.Refused (refusal.Invalid reason), refl, refl)))
    (restates w.machine e.hub e.pieces session old (at_stage stage.Rest a) refl refl refl mine.stage mine) where
      old : State
      old = at_stage (stage.Reset cursor) a

      mine : SessionStands w.machine e.hub e.pieces session old
      mine = st.sessions session old there

      made : Made
      made = record { told = reply.Answer (answer.Refused (refusal.Invalid reason)); machine = w.machine; doing = Resting }

resets : ChainsGoOn → (e : Engine) (w : World) (session value word cursor : ℕ) (a : State) → Stands e w → slice_get e.sessions session ≡ Some (at_stage (stage.Reset cursor) a) → a.phase ≡ phase.Running
    → Leads (with_session (with_hazard e word value) session (reset cursor a).1) w session (reply.Answer answer.Done)
resets chains e w session value word cursor a st there running = place-leads chains e w session old (reset cursor a).1 (slice_set e.hazards word value) (reply.Answer answer.Done) cursor None st there
    (has-phase w.machine session Running is) (record {
      change = λ k. placed None (unpinned k);
      phase = refl;
      written = refl;
      stage = refl;
      cursors = refl;
      to = λ k. refl;
    })
    (inr (subst (λ d. JudgedBy d w.machine made) (sym (one-decided (transaction_of w.machine session) Running (Done, PlaceCursor session cursor None) is)) (answer.Done, refl, refl))) where
      old : State
      old = at_stage (stage.Reset cursor) a

      is : Some Running ≡ option_map (λ (t : Transaction). t.phase) (transaction_of w.machine session)
      is = sym (ap phase_in running) ∙ (st.sessions session old there).phase

      made : Made
      made = record { told = reply.Answer answer.Done; machine = after w.machine (PlaceCursor session cursor None); doing = Resting }

reset-in : ChainsGoOn → (p : Phase) (e : Engine) (w : World) (session value word cursor : ℕ) (a : State) → Stands e w
    → slice_get e.sessions session ≡ Some (record a { stage = stage.Reset cursor; phase = p })
    → let made = stored_at (stage.Reset cursor) (record a { phase = p }) in Leads (with_session (with_hazard e word value) session made.1) w session made.0
reset-in chains phase.Running e w session value word cursor a st there = resets chains e w session value word cursor (record a { phase = phase.Running }) st there refl
reset-in chains phase.Idle e w session value word cursor a st there = refuses-reset e w session cursor (slice_set e.hazards word value) invalid.NoTxn (record a { phase = phase.Idle }) st there
    (none-decided (transaction_of w.machine session) (Done, PlaceCursor session cursor None) (st.sessions session (record a { stage = stage.Reset cursor; phase = phase.Idle }) there).phase)
reset-in chains phase.Failed e w session value word cursor a st there = refuses-reset e w session cursor (slice_set e.hazards word value) invalid.FailedTxn (record a { phase = phase.Failed }) st there
    (one-decided (transaction_of w.machine session) ModelFailed (Done, PlaceCursor session cursor None) (st.sessions session (record a { stage = stage.Reset cursor; phase = phase.Failed }) there).phase)
reset-in chains (phase.Prepared stamp) e w session value word cursor a st there = refuses-reset e w session cursor (slice_set e.hazards word value) invalid.Prepared (record a { phase = phase.Prepared stamp }) st there
    (one-decided (transaction_of w.machine session) (ModelPrepared stamp) (Done, PlaceCursor session cursor None) (st.sessions session (record a { stage = stage.Reset cursor; phase = phase.Prepared stamp }) there).phase)
reset-in chains phase.Resolving e w session value word cursor a st there = refuses-reset e w session cursor (slice_set e.hazards word value) invalid.Prepared (record a { phase = phase.Resolving }) st there
    (one-decided (transaction_of w.machine session) ModelResolving (Done, PlaceCursor session cursor None) (st.sessions session (record a { stage = stage.Reset cursor; phase = phase.Resolving }) there).phase)
reset-in chains phase.Leaving e w session value word cursor a st there = refuses-reset e w session cursor (slice_set e.hazards word value) invalid.FailedTxn (record a { phase = phase.Leaving }) st there
    (one-decided (transaction_of w.machine session) ModelLeaving (Done, PlaceCursor session cursor None) (st.sessions session (record a { stage = stage.Reset cursor; phase = phase.Leaving }) there).phase)

reset-at : ChainsGoOn → (at : Stage) (e : Engine) (w : World) (session value word : ℕ) (a : State) → Stands e w → slice_get e.sessions session ≡ Some (at_stage at a) → IsReset at
    → let made = stored_at at (at_stage at a) in Leads (with_session (with_hazard e word value) session made.1) w session made.0
reset-at chains (stage.Reset cursor) e w session value word a st there is = reset-in chains a.phase e w session value word cursor (at_stage (stage.Reset cursor) a) st there
reset-at chains _ e w session value word a st there is = absurd is

pub resets-go : ChainsGoOn → ResetsGo
resets-go chains e w session word value at a st there is next = reset-at chains a.stage e w session value at a st there is

-- ---- the call's own word is cleared, and the answer takes its cursor

-- the answer places the cursor
record Lands (session cursor : ℕ) (target : Target) (told : Answer (List ℕ)) (a : State) : Type 0 where
  position : Option Position
  key : List ℕ
  event : landing session cursor target a.key told ≡ PlaceCursor session cursor (option_map (λ (p : Position). record { table = p.table; key = p.key }) position)
  state : landed cursor target told a ≡ record a { cursors = changed_at a.cursors cursor (placed position); key = key }

abbrev LandsOrStays : ℕ → ℕ → Target → Answer (List ℕ) → State → Type 0
LandsOrStays session cursor target told a =
    Lands session cursor target told a ⊎ ((landing session cursor target a.key told ≡ Nothing) × (landed cursor target told a ≡ a))

lands-or-stays : (session cursor : ℕ) (target : Target) (told : Answer (List ℕ)) (a : State) → LandsOrStays session cursor target told a
lands-or-stays session cursor target (answer.Value v) a = inl (record { position = Some (record { table = target.table; key = a.key }); key = []; event = refl; state = refl })
lands-or-stays session cursor target (answer.Row key v) a = inl (record { position = Some (record { table = target.table; key = a.key }); key = []; event = refl; state = refl })
lands-or-stays session cursor target (answer.Refused refusal.NotFound) a = inl (record { position = None; key = a.key; event = refl; state = refl })
lands-or-stays session cursor target _ a = inr (refl, refl)

looked-ends : (e : Engine) (w : World) (session : ℕ) (call : KeyCall) (target : Target) → HasLooked w.machine session call → EndsOnlyDown w.machine session
looked-ends e w session call target x = alive-ends w.machine session x.0 x.1 (λ ending. elim x.2 [
  | inl running ↦ subst IsEnding running ending
  | inr failed ↦ subst IsEnding failed.0 ending
])

-- a call that moves a cursor was not refused a write
looked-runs : (e : Engine) (w : World) (session cursor : ℕ) (call : KeyCall) (target : Target) → HasLooked w.machine session call → cursor_in call ≡ Some cursor
    → HasTransaction w.machine session (λ t. t.phase ≡ Running)
looked-runs e w session cursor call target x of = (
  x.0,
  x.1,
  elim x.2 [
    | inl running ↦ running
    | inr failed ↦ let none : None ≡ Some cursor = sym failed.1 ∙ of in absurd (cc)
  ],
)

module _ (chains : ChainsGoOn) (e : Engine) (w : World) (session value word : ℕ) (call : KeyCall) (target : Target) (a : State) (st : Stands e w) (there : slice_get e.sessions session ≡ Some (at_stage (stage.Clear call target) a)) where
  abbrev old : State
  old = at_stage (stage.Clear call target) a

  looked : HasLooked w.machine session call
  looked = (st.sessions session old there).stage

  -- the call ends in this state
  abbrev EndsIn : State → Type 0
  EndsIn s = let made = ends s in Leads (with_session (with_hazard e word value) session made.1) w session made.0

  answers-by : (event : Event) → event_with session call target a.key a.answer ≡ event
      → GoesOn (w.again session) (doing_in e.hub.dir.leaves session old) w.machine session (record { told = reply.Answer a.answer; machine = after w.machine event; doing = Resting })
  answers-by event by = subst (λ d. GoesOn (w.again session) (Decided a.answer d 1) w.machine session (record { told = reply.Answer a.answer; machine = after w.machine event; doing = Resting })) (sym by) (inr (inl refl))

  answers-still : event_with session call target a.key a.answer ≡ Nothing → EndsIn a
  answers-still by = alone-leads e w session old (at_stage stage.Rest (without_answer a)) (slice_set e.hazards word value) (reply.Answer a.answer) st there (answers-by Nothing by)
      (restates w.machine e.hub e.pieces session old (at_stage stage.Rest (without_answer a)) refl refl refl (looked-ends e w session call target looked) (st.sessions session old there))

  with-cursor : (cursor : ℕ) → cursor_in call ≡ Some cursor → event_with session call target a.key a.answer ≡ landing session cursor target a.key a.answer
  with-cursor cursor of = ap (of_some Nothing (λ (cursor : ℕ). landing session cursor target a.key a.answer)) of

  answers-landed : (cursor : ℕ) → cursor_in call ≡ Some cursor → LandsOrStays session cursor target a.answer a → EndsIn (landed cursor target a.answer a)
  answers-landed cursor of (inl lands) = subst EndsIn (sym lands.state)
      (place-leads chains e w session old (at_stage stage.Rest (without_answer (record a { cursors = changed_at a.cursors cursor (placed lands.position); key = lands.key }))) (slice_set e.hazards word value) (reply.Answer a.answer)
      cursor (option_map (λ (p : Position). record { table = p.table; key = p.key }) lands.position) st there (looked-runs e w session cursor call target looked of) (record {
        change = placed lands.position;
        phase = refl;
        written = refl;
        stage = refl;
        cursors = refl;
        to = λ k. refl;
      })
      (answers-by (PlaceCursor session cursor (option_map (λ (p : Position). record { table = p.table; key = p.key }) lands.position)) (with-cursor cursor of ∙ lands.event)))
  answers-landed cursor of (inr stays) = subst EndsIn (sym stays.1) (answers-still (with-cursor cursor of ∙ stays.0))

  answers : (o : Option ℕ) → cursor_in call ≡ o → EndsIn (of_some a (λ cursor. landed cursor target a.answer a) o)
  answers None of = answers-still (ap (of_some Nothing (λ (cursor : ℕ). landing session cursor target a.key a.answer)) of)
  answers (Some cursor) of = answers-landed cursor of (lands-or-stays session cursor target a.answer a)

clear-at : ChainsGoOn → (at : Stage) (e : Engine) (w : World) (session value word : ℕ) (a : State) → Stands e w → slice_get e.sessions session ≡ Some (at_stage at a) → IsClearing at
    → let made = stored_at at (at_stage at a) in Leads (with_session (with_hazard e word value) session made.1) w session made.0
clear-at chains (stage.ClearCursor call target) e w session value word a st there is = clear-cursor e w session value word call target a st there
clear-at chains (stage.Clear call target) e w session value word a st there is =
    answers chains e w session value word call target (at_stage (stage.Clear call target) a) st there (cursor_in call) refl
clear-at chains _ e w session value word a st there is = absurd is

pub clears-go : ChainsGoOn → ClearsGo
clears-go chains e w session word value at a st there is next = clear-at chains a.stage e w session value at a st there is
