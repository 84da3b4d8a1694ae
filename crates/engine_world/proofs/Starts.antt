-- The start of a call.
use Rattle.std.proofs.Common.{◌≡◌, ℕ, zero, suc, false, refl, ap, sym, ◌∙◌, List, [], ◌∷◌, length, inl, inr, subst}
use Rattle.std.specs.Prelude.{Some, if◌then◌else◌, slice_get, slice_set}
use Rattle.std.proofs.lemmas.Bool.{cases_eq, ne_eqb}
use Rattle.std.proofs.lemmas.List.Sorted.{IsPermutation-sym, length_permutation}
use Rattle.std.proofs.lemmas.Option.{same_Some}
use Rattle.wt_code.specs.declared.answers.Answer.TheVariants as answers
use Rattle.wt_code.specs.declared.refusals.Refusal.TheVariants as told
use Rattle.wt_code.specs.declared.refusals.Invalid.TheVariants as why
use Rattle.kv_model.specs.Calls.{Call}
use Rattle.tree_dir.specs.declared.leaf.Leaf.{Leaf}
use Rattle.txn_table.specs.declared.phase.Phase.{Phase}
use Rattle.txn_table.specs.declared.phase.Phase.TheVariants as phase
use Rattle.wt_calls.specs.declared.SessionCall.{SessionCall}
use Rattle.wt_calls.specs.declared.SessionCall.TheVariants as call
use Rattle.wt_calls.specs.Calls.{session_call_in}
use Rattle.call_steps.specs.declared.reply.Reply.{Reply}
use Rattle.call_steps.specs.declared.reply.Reply.TheVariants as reply
use Rattle.call_steps.specs.declared.stage.CommitStamps.{CommitStamps}
use Rattle.call_steps.specs.declared.stage.KeyCall.TheVariants as key_call
use Rattle.call_steps.specs.declared.stage.Stage.{Stage}
use Rattle.call_steps.specs.declared.stage.Stage.TheVariants as stage
use Rattle.call_steps.specs.declared.written.WrittenKey.{WrittenKey}
use Rattle.call_steps.specs.Stages.{first_mark, first_order, first_undo}
use Rattle.call_steps.specs.Starts.{AreArranged, Arranges, asks, StartsAt, StartsIn, stamps_given}
use Rattle.call_steps.specs.State.{State, at_stage}
use Rattle.engine_world.specs.Worlds.{World, Doing, Resting, Asked, Placed, Decided, Ending, doing_of, unset}
use Rattle.engine_world.specs.Doings.{doing_at, doing_in, find_left, stamping, undoing}
use Rattle.engine_world.specs.Steps.{BeginsIn, MayBegin}
use Rattle.engine_world.specs.Stages.{EndsOnlyDown, IsNoticed}
use Rattle.engine_world.specs.Stands.{Engine, Stands, SessionStands}
use Rattle.engine_world.specs.Laws.{StartsGo, with_session}
use Rattle.engine_world.proofs.Events.{all-same, beside-same}
use Rattle.engine_world.proofs.InPlace.{SessionInPlace, StageInPlace, noticed-in-place}
use Rattle.engine_world.proofs.Moves.{again-as, get-set-same, moves, world_with}
use Rattle.engine_world.proofs.HubMoves.{stage-stands, doing-at}
use Rattle.engine_world.proofs.Arranged.{members-kept}
use Rattle.engine_world.proofs.StartPhases.{with_keys, StartsWith, by-mark, by-order, by-undo}

-- a call begins, and the engine stands
abbrev Begins : Engine → World → ℕ → Call → Reply → State → Type 0
Begins e w session c told a = (later : World) × MayBegin w session c told later × Stands (with_session e session a) later

-- ---- where a call is not finished

abbrev in_call : Reply
in_call = reply.Answer (answers.Refused (told.Invalid why.InCall))

abbrev IsBusy : Doing → Type 0
IsBusy Resting = ⊥
IsBusy _ = Unit {0}

abbrev IsCalled : Stage → Type 0
IsCalled stage.Rest = ⊥
IsCalled _ = Unit {0}

busy-stamping : (p : Phase) (stamps : CommitStamps) (left : ℕ) (a : State) → IsBusy (stamping p stamps left a)
busy-stamping phase.Running stamps left a = tt
busy-stamping phase.Idle stamps left a = tt
busy-stamping phase.Failed stamps left a = tt
busy-stamping (phase.Prepared stamp) stamps left a = tt
busy-stamping phase.Resolving stamps left a = tt
busy-stamping phase.Leaving stamps left a = tt

busy-undoing : (p : Phase) (left : ℕ) (a : State) → IsBusy (undoing p left a)
busy-undoing phase.Running left a = tt
busy-undoing phase.Failed left a = tt
busy-undoing phase.Idle left a = tt
busy-undoing (phase.Prepared stamp) left a = tt
busy-undoing phase.Resolving left a = tt
busy-undoing phase.Leaving left a = tt

busy-at : (leaves : List Leaf) (g : Stage) (session : ℕ) (a : State) → IsCalled g → IsBusy (doing_at g leaves session a)
busy-at leaves stage.Rest session a called = called
busy-at leaves (stage.Stamp stamps left) session a called = busy-stamping a.phase stamps left a
busy-at leaves (stage.Undo left) session a called = busy-undoing a.phase left a
busy-at leaves _ session a called = tt

refused-in : (d : Doing) (w : World) (session : ℕ) (c : Call) (told : Reply) → IsBusy d → told ≡ in_call → BeginsIn d w session c told w
refused-in Resting w session c told busy is = absurd busy
refused-in (Asked call left) w session c told busy is = (is, refl)
refused-in (Placed call table left) w session c told busy is = (is, refl)
refused-in (Decided answer event left) w session c told busy is = (is, refl)
refused-in (Ending answer left) w session c told busy is = (is, refl)

set-same : {A : Type 0} (xs : List A) (i : ℕ) (x : A) → slice_get xs i ≡ Some x → slice_set xs i x ≡ xs
set-same [] i x at = refl
set-same (y ∷ ys) zero x at = let same : y ≡ x = cc in ap (λ z. z ∷ ys) (sym same)
set-same (y ∷ ys) (suc i) x at = ap (λ l. y ∷ l) (set-same ys i x at)

module _ (e : Engine) (w : World) (session : ℕ) (a : State) (st : Stands e w) (at : slice_get e.sessions session ≡ Some a) where
  mine : SessionStands w.machine e.hub e.pieces session a
  mine = st.sessions session a at

  stays : (g : Stage) (a' : State) (c : Call) (told : Reply) → a.stage ≡ g → IsCalled g → told ≡ in_call → a' ≡ a → Begins e w session c told a'
  stays g a' c told is called refused same = (
    w,
    refused-in (doing_of w session) w session c told (subst IsBusy (sym (st.doing session a at ∙ doing-at e.hub.dir.leaves session a g is)) (busy-at e.hub.dir.leaves g session a called)) refused,
    subst (λ (l : List State). Stands (record e { sessions = l }) w) (sym (ap (λ (x : State). slice_set e.sessions session x) same ∙ set-same e.sessions session a at)) st,
  )

  -- ---- a session at rest

  -- the session begins the call in this state
  start-as : (new a' : State) (c : Call) (told : Reply) (left : ℕ) → a.stage ≡ stage.Rest → told ≡ reply.Started → a' ≡ new → doing_in e.hub.dir.leaves session new ≡ Asked c left → SessionInPlace w.machine e.hub e.pieces session new
      → Begins e w session c told a'
  start-as new a' c told left rest started is does stands = subst (λ (x : State). Begins e w session c told x) (sym is) (
    begun,
    subst (λ (d : Doing). BeginsIn d w session c told begun) (sym (st.doing session a at ∙ doing-at e.hub.dir.leaves session a stage.Rest rest))
        (left, started, ap (λ (d : Doing). record w { sessions = slice_set w.sessions session d; again = unset session w.again }) does),
    again-as (with_session e session new) (world_with w e.hub.dir.leaves session new w.machine) (unset session w.again) (moves e w session a new e.hub e.pieces e.hazards w.machine st at (record {
      valid = st.valid;
      beside = all-same session w.machine w.machine e.hub e.pieces (beside-same session w.machine);
      fault = refl;
      stamps = refl;
      txns = st.txns;
      made = refl;
      leaves = st.leaves;
      mine = stands;
    })) noticed,
  ) where
    begun : World
    begun = record (world_with w e.hub.dir.leaves session new w.machine) { again = unset session w.again }

    -- it has found nothing yet, and of the others nothing is unset
    noticed : (r : ℕ) (b : State) → slice_get (slice_set e.sessions session new) r ≡ Some b → IsNoticed b.stage e.pieces (w.again r) → IsNoticed b.stage e.pieces (unset session w.again r)
    noticed r b there was = elim (cases_eq r session) [
      | inl same ↦ let is : new ≡ b = same_Some new b (sym (get-set-same e.sessions session a new at) ∙ (ap (slice_get (slice_set e.sessions session new)) (sym same) ∙ there)) in
          subst (λ (x : State). IsNoticed x.stage e.pieces (unset session w.again r)) is
          (noticed-in-place w.machine w.shelf w.records e.hub.dir.leaves e.pieces e.states st.leaves new.stage session new (unset session w.again r) stands.stage)
      | inr other ↦ subst (λ x. IsNoticed b.stage e.pieces (if x then false else w.again r)) (sym (ne_eqb r session other)) was
    ]

  -- what it wrote is as it was
  asked-stands : (g : Stage) (name key value : List ℕ) → StageInPlace g w.machine e.hub.dir.leaves e.pieces session (record a { stage = g; name = name; key = key; value = value })
      → SessionInPlace w.machine e.hub e.pieces session (record a { stage = g; name = name; key = key; value = value })
  asked-stands g name key value stands = record {
    phase = mine.phase;
    seated = record { opened = mine.seated.opened; phase = mine.seated.phase };
    cursors = mine.cursors;
    noted = mine.noted;
    stage = stands;
  }

  -- what it wrote is arranged by leaf
  arranged-stands : (g : Stage) (keys : List WrittenKey) → AreArranged a.written keys → StageInPlace g w.machine e.hub.dir.leaves e.pieces session (with_keys a g keys)
      → SessionInPlace w.machine e.hub e.pieces session (with_keys a g keys)
  arranged-stands g keys arranged stands = record {
    phase = mine.phase;
    seated = record { opened = mine.seated.opened; phase = mine.seated.phase };
    cursors = mine.cursors;
    noted = record {
      noted = λ x has. let k = mine.noted.noted x has in (k.0, members-kept k.0 a.written keys arranged.same k.1, k.2);
      wrote = λ k has. mine.noted.wrote k (members-kept k keys a.written (IsPermutation-sym a.written keys arranged.same) has);
    };
    stage = stands;
  }

  start-arranged : (g : Stage) (a' : State) (c : Call) (told : Reply) → a.stage ≡ stage.Rest → told ≡ reply.Started → Arranges g a a'
      → ((keys : List WrittenKey) → length keys ≡ length a.written → StartsWith e w session a g c keys) → Begins e w session c told a'
  start-arranged g a' c told rest started made starts =
      let s = starts made.keys (length_permutation a.written made.keys made.arranged.same) in
      start-as (with_keys a g made.keys) a' c told s.0 rest started made.state s.1 (arranged-stands g made.keys made.arranged s.2)

  at-rest : (c : SessionCall) (told : Reply) (a' : State) → a.stage ≡ stage.Rest → EndsOnlyDown w.machine session → told ≡ reply.Started → StartsAt c a a' → Begins e w session (session_call_in c) told a'
  at-rest (call.Begin read) told a' rest ends started made =
      start-as (at_stage (stage.Begin read) a) a' (session_call_in (call.Begin read)) told 1 rest started made refl (asked-stands (stage.Begin read) a.name a.key a.value ends)
  at-rest (call.Get table key) told a' rest ends started made = start-as (asks key_call.Get table key [] a) a' (session_call_in (call.Get table key)) told find_left rest started made refl
      (asked-stands (stage.Find key_call.Get) table key [] (ends, refl))
  at-rest (call.Put table key value demand) told a' rest ends started made = start-as (asks (key_call.Put demand) table key value a) a' (session_call_in (call.Put table key value demand)) told find_left rest started made refl
      (asked-stands (stage.Find (key_call.Put demand)) table key value (ends, tt))
  at-rest (call.Remove table key) told a' rest ends started made = start-as (asks key_call.Remove table key [] a) a' (session_call_in (call.Remove table key)) told find_left rest started made refl
      (asked-stands (stage.Find key_call.Remove) table key [] (ends, refl))
  at-rest (call.Seek cursor table key) told a' rest ends started made = start-as (asks (key_call.Seek cursor) table key [] a) a' (session_call_in (call.Seek cursor table key)) told find_left rest started made refl
      (asked-stands (stage.Find (key_call.Seek cursor)) table key [] (ends, refl))
  at-rest (call.Step cursor table way) told a' rest ends started made = start-as (asks (key_call.Step cursor way) table [] [] a) a' (session_call_in (call.Step cursor table way)) told find_left rest started made refl
      (asked-stands (stage.Find (key_call.Step cursor way)) table [] [] (ends, (refl, refl)))
  at-rest (call.Reset cursor) told a' rest ends started made =
      start-as (at_stage (stage.Reset cursor) a) a' (session_call_in (call.Reset cursor)) told 1 rest started made refl (asked-stands (stage.Reset cursor) a.name a.key a.value ends)
  at-rest (call.Prepare stamp) told a' rest ends started made = start-arranged (first_mark a.phase stamp (length a.written)) a' (session_call_in (call.Prepare stamp)) told rest started made
      (λ keys long. by-mark e w session a mine ends a.phase refl (length a.written) stamp keys long)
  at-rest (call.Commit commit durable) told a' rest ends started made =
      start-arranged (first_order a.phase (stamps_given commit durable) (length a.written)) a' (session_call_in (call.Commit commit durable)) told rest started made
      (λ keys long. by-order e w session a mine ends a.phase refl (length a.written) commit durable keys long)
  at-rest call.Rollback told a' rest ends started made = start-arranged (first_undo a.phase (length a.written)) a' (session_call_in call.Rollback) told rest started made
      (λ keys long. by-undo e w session a mine ends a.phase refl (length a.written) keys refl long)

pub starts-go : StartsGo
starts-go e w session a a' c told st at made = by-stage a.stage refl made where
  by-stage : (g : Stage) → a.stage ≡ g → StartsIn g c a told a' → Begins e w session (session_call_in c) told a'
  by-stage stage.Rest is made = at-rest e w session a st at c told a' is (stage-stands e w session a stage.Rest st at is) made.0 made.1
  by-stage g is made = stays e w session a st at g a' (session_call_in c) told is tt made.0 made.1
