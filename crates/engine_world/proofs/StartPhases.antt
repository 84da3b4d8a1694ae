-- Where a prepare, a commit and a rollback begin, by the phase of the transaction and what it wrote.
use Rattle.std.proofs.Common.{◌≡◌, ◌⊎◌, ◌≤◌, ◌+◌, ℕ, zero, suc, refl, ap, sym, ◌∙◌, List, [], length, inl, inr, subst, arith}
use Rattle.std.specs.Prelude.{Option, Some, option_map}
use Rattle.kv_model.specs.History.{Write}
use Rattle.kv_model.specs.Machine.{Transaction, Phase as ModelPhase, Running, Failed, Prepared, Resolving, Leaving, transaction_of, name_of, of_some}
use Rattle.kv_model.specs.Calls.{Call, Prepare, Commit, Rollback}
use Rattle.txn_table.specs.declared.phase.Phase.{Phase}
use Rattle.txn_table.specs.declared.phase.Phase.TheVariants as phase
use Rattle.txn_table.specs.SessionData.{phase_in}
use Rattle.call_steps.specs.declared.edit.Edit.{Edit}
use Rattle.call_steps.specs.declared.edit.Edit.TheVariants as edit
use Rattle.call_steps.specs.declared.stage.Stage.{Stage}
use Rattle.call_steps.specs.declared.stage.Stage.TheVariants as stage
use Rattle.call_steps.specs.declared.written.WrittenKey.{WrittenKey}
use Rattle.call_steps.specs.Stages.{first_mark, first_order, first_undo}
use Rattle.call_steps.specs.Starts.{stamps_given}
use Rattle.call_steps.specs.State.{State}
use Rattle.engine_world.specs.Worlds.{World, Asked}
use Rattle.engine_world.specs.Doings.{done_left, decide_left, doing_at, undoing}
use Rattle.engine_world.specs.Leaves.{AreNoted, EditedDownTo, OrderedDownTo}
use Rattle.engine_world.specs.Stages.{EndsOnlyDown, MarksStand, OrdersStand, DecidesStand, ResolvesStand, UndoesStand, stamps_in}
use Rattle.engine_world.specs.Stands.{Engine, SessionStands}
use Rattle.engine_world.proofs.HubMoves.{phase-there}
use Rattle.engine_world.proofs.Arranged.{past-all, member-none, none-in}
use Rattle.engine_world.proofs.InPlace.{StageInPlace}

-- the keys that were written are these, and the first event this
abbrev pub with_keys : State → Stage → List WrittenKey → State
with_keys a g keys = record a { stage = g; written = keys }

-- the call at its first stage
abbrev pub StartsWith : Engine → World → ℕ → State → Stage → Call → List WrittenKey → Type 0
StartsWith e w session a g c keys =
    (left : ℕ) × (doing_at g e.hub.dir.leaves session (with_keys a g keys) ≡ Asked c left) × StageInPlace g w.machine e.hub.dir.leaves e.pieces session (with_keys a g keys)

module _ (e : Engine) (w : World) (session : ℕ) (a : State) (mine : SessionStands w.machine e.hub e.pieces session a) (ends : EndsOnlyDown w.machine session) where
  -- the transaction's phase is the session's
  phase-is : (p : Phase) (t : Transaction) → a.phase ≡ p → transaction_of w.machine session ≡ Some t → phase_in p ≡ Some t.phase
  phase-is p t here there = sym (ap phase_in here) ∙ (mine.phase ∙ ap (λ (o : Option Transaction). option_map (λ (t : Transaction). t.phase) o) there)

  -- nothing is done yet
  none-edited : (t : Transaction) (what : Edit) (keys : List WrittenKey) (left : ℕ) → length keys ≤ left → EditedDownTo what (name_of w.machine t) e.pieces keys left
  none-edited t what keys left all i k le there = absurd (past-all keys i k (omega arith) there)

  none-ordered : (writes : List Write) (keys : List WrittenKey) (left : ℕ) → length keys ≤ left → OrderedDownTo w.machine e.pieces writes keys 0 left
  none-ordered writes keys left all = record {
    covers = λ i k le there. absurd (past-all keys i k (omega arith) there);
    least = inl refl;
  }

  -- ---- a prepare

  marks-by : (q : ModelPhase) (t : Transaction) (stamp : ℕ) (s : State) → (q ≡ Running → EditedDownTo (edit.Mark stamp) (name_of w.machine t) e.pieces s.written 0)
      → MarksStand q stamp w.machine e.pieces t s
  marks-by Running t stamp s none = none refl
  marks-by Failed t stamp s none = tt
  marks-by (Prepared at) t stamp s none = tt
  marks-by Resolving t stamp s none = tt
  marks-by Leaving t stamp s none = tt

  -- refused for the phase, or with nothing to mark
  releases : (stamp : ℕ) (keys : List WrittenKey) → ((t : Transaction) → transaction_of w.machine session ≡ Some t → t.phase ≡ Running → length keys ≤ 0) → StartsWith e w session a (stage.Release stamp) (Prepare stamp) keys
  releases stamp keys none =
      (1, refl, (ends, λ t there. marks-by t.phase t stamp (with_keys a (stage.Release stamp) keys) (λ running. none-edited t (edit.Mark stamp) keys 0 (none t there running))))

  pub by-mark : (p : Phase) → a.phase ≡ p → (n stamp : ℕ) (keys : List WrittenKey) → length keys ≡ n → StartsWith e w session a (first_mark p stamp n) (Prepare stamp) keys
  by-mark phase.Running here zero stamp keys long = releases stamp keys (λ t there running. omega arith)
  by-mark phase.Running here (suc n) stamp keys long = let t = phase-there w.machine e.hub e.pieces session a phase.Running Running mine here refl in
      (suc n + 1, refl, ((omega arith, omega arith), (t.0, t.1, (t.2, none-edited t.0 (edit.Mark stamp) keys (suc n) (omega arith)))))
  by-mark phase.Idle here n stamp keys long = releases stamp keys (λ t there running. let is = phase-is phase.Idle t here there in absurd (cc))
  by-mark phase.Failed here n stamp keys long = releases stamp keys (λ t there running. let is = phase-is phase.Failed t here there in absurd (cc))
  by-mark (phase.Prepared at) here n stamp keys long = releases stamp keys (λ t there running. let is = phase-is (phase.Prepared at) t here there in absurd (cc))
  by-mark phase.Resolving here n stamp keys long = releases stamp keys (λ t there running. let is = phase-is phase.Resolving t here there in absurd (cc))
  by-mark phase.Leaving here n stamp keys long = releases stamp keys (λ t there running. let is = phase-is phase.Leaving t here there in absurd (cc))

  -- ---- a commit

  decides-by : (q : ModelPhase) (t : Transaction) (commit durable : Option ℕ) (keys : List WrittenKey) → (q ≡ Running → length keys ≤ 0) → ((at : ℕ) → q ≡ Prepared at → length keys ≤ 0)
      → DecidesStand q (stamps_given commit durable) w.machine e.pieces t (with_keys a (stage.Decide (stamps_given commit durable)) keys)
  decides-by Running t commit durable keys run prepared = (none-ordered t.writes keys 0 (run refl), none-edited t (stamps_in Running (stamps_given commit durable)) keys 0 (run refl))
  decides-by Failed t commit durable keys run prepared = tt
  decides-by (Prepared at) t commit durable keys run prepared = none-ordered t.writes keys 0 (prepared at refl)
  decides-by Resolving t commit durable keys run prepared = tt
  decides-by Leaving t commit durable keys run prepared = tt

  -- refused for the phase, or with nothing to look below
  decides : (commit durable : Option ℕ) (keys : List WrittenKey) → ((t : Transaction) → transaction_of w.machine session ≡ Some t → t.phase ≡ Running → length keys ≤ 0)
      → ((t : Transaction) (at : ℕ) → transaction_of w.machine session ≡ Some t → t.phase ≡ Prepared at → length keys ≤ 0)
      → StartsWith e w session a (stage.Decide (stamps_given commit durable)) (Commit commit durable) keys
  decides commit durable keys run prepared = (
    decide_left (with_keys a (stage.Decide (stamps_given commit durable)) keys),
    refl,
    (ends, λ t there. decides-by t.phase t commit durable keys (run t there) (λ at. prepared t at there)),
  )

  orders-on : (t : Transaction) (commit durable : Option ℕ) (keys : List WrittenKey) (n : ℕ) → transaction_of w.machine session ≡ Some t → length keys ≡ suc n
      → OrdersStand t.phase (stamps_given commit durable) w.machine e.pieces t (with_keys a (stage.Order (stamps_given commit durable) (suc n)) keys) (suc n)
      → StartsWith e w session a (stage.Order (stamps_given commit durable) (suc n)) (Commit commit durable) keys
  orders-on t commit durable keys n there long stands = (
    suc n + (length keys + decide_left (with_keys a (stage.Order (stamps_given commit durable) (suc n)) keys)),
    refl,
    ((omega arith, omega arith), (t, there, stands)),
  )

  orders-in : (p : Phase) (q : ModelPhase) (commit durable : Option ℕ) (keys : List WrittenKey) (n : ℕ) → a.phase ≡ p → phase_in p ≡ Some q → length keys ≡ suc n
      → ((t : Transaction) → OrdersStand q (stamps_given commit durable) w.machine e.pieces t (with_keys a (stage.Order (stamps_given commit durable) (suc n)) keys) (suc n))
      → StartsWith e w session a (stage.Order (stamps_given commit durable) (suc n)) (Commit commit durable) keys
  orders-in p q commit durable keys n here to long stands = let t = phase-there w.machine e.hub e.pieces session a p q mine here to in
      orders-on t.0 commit durable keys n t.1 long (subst (λ (q : ModelPhase).
      OrdersStand q (stamps_given commit durable) w.machine e.pieces t.0 (with_keys a (stage.Order (stamps_given commit durable) (suc n)) keys) (suc n)) (sym t.2) (stands t.0))

  pub by-order : (p : Phase) → a.phase ≡ p → (n : ℕ) (commit durable : Option ℕ) (keys : List WrittenKey) → length keys ≡ n
      → StartsWith e w session a (first_order p (stamps_given commit durable) n) (Commit commit durable) keys
  by-order phase.Running here zero commit durable keys long = decides commit durable keys (λ t there running. omega arith) (λ t at there prepared. omega arith)
  by-order phase.Running here (suc n) commit durable keys long = orders-in phase.Running Running commit durable keys n here refl long (λ t. none-ordered t.writes keys (suc n) (omega arith))
  by-order (phase.Prepared stamp) here zero commit durable keys long = decides commit durable keys (λ t there running. omega arith) (λ t at there prepared. omega arith)
  by-order (phase.Prepared stamp) here (suc n) commit durable keys long =
      orders-in (phase.Prepared stamp) (Prepared stamp) commit durable keys n here refl long (λ t. none-ordered t.writes keys (suc n) (omega arith))
  by-order phase.Idle here n commit durable keys long = decides commit durable keys
      (λ t there running. let is = phase-is phase.Idle t here there in absurd (cc)) (λ t at there prepared. let is = phase-is phase.Idle t here there in absurd (cc))
  by-order phase.Failed here n commit durable keys long = decides commit durable keys
      (λ t there running. let is = phase-is phase.Failed t here there in absurd (cc)) (λ t at there prepared. let is = phase-is phase.Failed t here there in absurd (cc))
  by-order phase.Resolving here n commit durable keys long = decides commit durable keys
      (λ t there running. let is = phase-is phase.Resolving t here there in absurd (cc)) (λ t at there prepared. let is = phase-is phase.Resolving t here there in absurd (cc))
  by-order phase.Leaving here n commit durable keys long = decides commit durable keys
      (λ t there running. let is = phase-is phase.Leaving t here there in absurd (cc)) (λ t at there prepared. let is = phase-is phase.Leaving t here there in absurd (cc))

  -- ---- a rollback

  resolves-by : (q : ModelPhase) (t : Transaction) → ((q ≡ Running) ⊎ (q ≡ Failed) → t.writes ≡ []) → ResolvesStand q t
  resolves-by Running t none = none (inl refl)
  resolves-by Failed t none = none (inr refl)
  resolves-by (Prepared at) t none = tt
  resolves-by Resolving t none = tt
  resolves-by Leaving t none = tt

  -- refused for the phase, or with nothing to take out
  resolves : (keys : List WrittenKey) → ((t : Transaction) → transaction_of w.machine session ≡ Some t → (t.phase ≡ Running) ⊎ (t.phase ≡ Failed) → t.writes ≡ []) → StartsWith e w session a stage.Resolve Rollback keys
  resolves keys none = (decide_left (with_keys a stage.Resolve keys), refl, (ends, λ t there. resolves-by t.phase t (none t there)))

  -- where it noted no key it has no write
  unwritten : (t : Transaction) → transaction_of w.machine session ≡ Some t → length a.written ≤ 0 → t.writes ≡ []
  unwritten t there none = none-in t.writes (λ x has. let k = noted.noted x has in member-none a.written k.0 none k.1) where
    noted : AreNoted e.hub.dir.leaves e.pieces t.writes a.written
    noted = subst (λ (o : Option Transaction). AreNoted e.hub.dir.leaves e.pieces (of_some [] (λ (t : Transaction). t.writes) o) a.written) there mine.noted

  undoes-in : (p : Phase) (q : ModelPhase) (keys : List WrittenKey) (n : ℕ) → a.phase ≡ p → phase_in p ≡ Some q
      → undoing p (suc n) (with_keys a (stage.Undo (suc n)) keys) ≡ Asked Rollback (suc n + done_left (with_keys a (stage.Undo (suc n)) keys))
      → length keys ≡ suc n → ((t : Transaction) → UndoesStand q w.machine e.pieces t (with_keys a (stage.Undo (suc n)) keys) (suc n)) → StartsWith e w session a (stage.Undo (suc n)) Rollback keys
  undoes-in p q keys n here to does long stands = let t = phase-there w.machine e.hub e.pieces session a p q mine here to in (
    suc n + done_left (with_keys a (stage.Undo (suc n)) keys),
    ap (λ (p : Phase). undoing p (suc n) (with_keys a (stage.Undo (suc n)) keys)) here ∙ does,
    (
      (omega arith, omega arith),
      (
        t.0,
        t.1,
        subst (λ (q : ModelPhase). UndoesStand q w.machine e.pieces t.0 (with_keys a (stage.Undo (suc n)) keys) (suc n)) (sym t.2) (stands t.0),
      ),
    ),
  )

  not-live : (p : Phase) (q : ModelPhase) (t : Transaction) → a.phase ≡ p → transaction_of w.machine session ≡ Some t → phase_in p ≡ Some q → (t.phase ≡ Running) ⊎ (t.phase ≡ Failed)
      → (q ≡ Running → ⊥) → (q ≡ Failed → ⊥) → ⊥
  not-live p q t here there to live not_running not_failed = let same : q ≡ t.phase = (let is = phase-is p t here there in cc) in
      elim live [ inl running ↦ not_running (same ∙ running) | inr failed ↦ not_failed (same ∙ failed) ]

  pub by-undo : (p : Phase) → a.phase ≡ p → (n : ℕ) (keys : List WrittenKey) → length a.written ≡ n → length keys ≡ n → StartsWith e w session a (first_undo p n) Rollback keys
  by-undo phase.Running here zero keys wrote long = resolves keys (λ t there live. unwritten t there (omega arith))
  by-undo phase.Running here (suc n) keys wrote long = undoes-in phase.Running Running keys n here refl refl long (λ t. sym long)
  by-undo phase.Failed here zero keys wrote long = resolves keys (λ t there live. unwritten t there (omega arith))
  by-undo phase.Failed here (suc n) keys wrote long = undoes-in phase.Failed Failed keys n here refl refl long (λ t. sym long)
  by-undo phase.Idle here n keys wrote long = resolves keys (λ t there live. let is = phase-is phase.Idle t here there in absurd (cc))
  by-undo (phase.Prepared at) here n keys wrote long = resolves keys (λ t there live. absurd (not-live (phase.Prepared at) (Prepared at) t here there refl live (λ e. cc) (λ e. cc)))
  by-undo phase.Resolving here n keys wrote long = resolves keys (λ t there live. absurd (not-live phase.Resolving Resolving t here there refl live (λ e. cc) (λ e. cc)))
  by-undo phase.Leaving here n keys wrote long = resolves keys (λ t there live. absurd (not-live phase.Leaving Leaving t here there refl live (λ e. cc) (λ e. cc)))
