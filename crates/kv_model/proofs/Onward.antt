-- What an event makes of the sessions and of the history, as to one key.
use Rattle.std.proofs.Common.{◌≡◌, ◌≢◌, ◌⊎◌, ◌≤◌, ℕ, refl, ap, sym, ◌∙◌, true, false, List, [], ◌∷◌, ◌++◌, length, inl, inr, subst, arith, map}
use Rattle.std.specs.Prelude.{Option, Some, None, find, filter, slice_index_or, slice_set, option_map}
use Rattle.std.proofs.lemmas.Bool.{cases_Bool, both_ways}
use Rattle.std.proofs.lemmas.List.{get_or-set_other}
use Rattle.item.specs.declared.Change.{Change}
use Rattle.stamp.specs.declared.Name.{Name}
use Rattle.kv_model.specs.History.{released, releases, name_eq, Entry, Create, Commit, Prepare, Resolve, Undo, Write, line, version_of, writes_at}
use Rattle.kv_model.specs.Machine.{Machine, Transaction, Phase, Running, Failed, Prepared, Resolving, Leaving, Checkpoint, Event, OpenSession, BeginAt, DrawId, AcceptWrite, RefuseWrite, PrepareAt, CommitAt, StartLeaving, EndTransaction, PlaceCursor, CreateTable, SetStamps, RollbackToStable, CheckpointStart, CheckpointFinish, CheckpointDrop, GoDown, Nothing, transaction_of, name_of, after, of_some, begun, in_phase, written, unstamped, prepared, decided, left, finished, appended, stamped}
use Rattle.kv_model.specs.Reads.{own_write, IsEnding}
use Rattle.kv_model.specs.Allowed.{Allowed, CommitsAt}
use Rattle.kv_model.specs.Valid.{Valid, PhaseStands}
use Rattle.kv_model.specs.Elsewhere.{IsOfOthers, IsElsewhere}
use Rattle.kv_model.proofs.Beginning.{append-none}
use Rattle.kv_model.proofs.Releases.{false-from, name_eq-same, released-same}
use Rattle.kv_model.proofs.Seats.{seat-inside, seat-cases}
use Rattle.kv_model.proofs.OwnWrites.{find-joined-other, at-parts}
use Rattle.kv_model.proofs.Ordering.{line-writes}

-- ---- sessions

-- the same transaction, with the same write of the key
pub record Kin (table : ℕ) (key : List ℕ) (t u : Transaction) : Type 0 where
  pub id : u.id ≡ t.id
  pub own : own_write u table key ≡ own_write t table key
  pub ending : IsEnding t.phase → IsEnding u.phase

-- began or drew its id just now, and has written nothing
pub record Fresh (m : Machine) (table : ℕ) (key : List ℕ) (u : Transaction) : Type 0 where
  pub id : (u.id ≡ 0) ⊎ (u.id ≡ m.next)
  pub own : own_write u table key ≡ None

-- wrote the key just now
pub record WroteNow (event : Event) (table : ℕ) (key : List ℕ) (t u : Transaction) : Type 0 where
  pub id : u.id ≡ t.id
  pub running : t.phase ≡ Running
  pub here : IsElsewhere table key event → ⊥

abbrev pub Was : Machine → Event → ℕ → List ℕ → ℕ → Transaction → Type 0
Was m event table key r u = ((t : Transaction) × (transaction_of m r ≡ Some t) × Kin table key t u)
    ⊎ (Fresh m table key u ⊎ ((t : Transaction) × (transaction_of m r ≡ Some t) × WroteNow event table key t u))

module _ (m : Machine) (event : Event) (table : ℕ) (key : List ℕ) where
  kin-self : (r : ℕ) (u : Transaction) → transaction_of m r ≡ Some u → Was m event table key r u
  kin-self r u at = inl (u, at, record { id = refl; own = refl; ending = λ e. e })

  -- one seat changes
  set-was : (s : ℕ) (t u : Transaction) → transaction_of m s ≡ Some t → Was m event table key s u → (r : ℕ) (x : Transaction) → slice_index_or (slice_set m.sessions s (Some u)) r None ≡ Some x → Was m event table key r x
  set-was s t u there was r x at = elim (seat-cases m.sessions s (Some u) r x (seat-inside m.sessions s t there) at) [
    | inl here ↦ let same : u ≡ x = (let e = here.1 in cc) in subst (λ (z : Transaction). Was m event table key r z) same (subst (λ i. Was m event table key i u) (sym here.0) was)
    | inr other ↦ kin-self r x other.1
  ]

  gone-was : (s : ℕ) (t : Transaction) → transaction_of m s ≡ Some t → (r : ℕ) (x : Transaction) → slice_index_or (slice_set m.sessions s None) r None ≡ Some x → Was m event table key r x
  gone-was s t there r x at = elim (seat-cases m.sessions s None r x (seat-inside m.sessions s t there) at) [
    | inl here ↦ let none : None ≡ Some x = here.1 in absurd (cc)
    | inr other ↦ kin-self r x other.1
  ]

  kin-was : (s : ℕ) (t u : Transaction) → transaction_of m s ≡ Some t → Kin table key t u → Was m event table key s u
  kin-was s t u there kin = inl (t, there, kin)

  -- a seat that changes by a function
  changed-was : (s : ℕ) (change : Transaction → Transaction) (t : Transaction) → transaction_of m s ≡ Some t → Was m event table key s (change t)
      → (r : ℕ) (x : Transaction) → slice_index_or (slice_set m.sessions s (option_map change (transaction_of m s))) r None ≡ Some x → Was m event table key r x
  changed-was s change t there was r x at = set-was s t (change t) there was r x (subst (λ o. slice_index_or (slice_set m.sessions s (option_map change o)) r None ≡ Some x) there at)

  decided-was : (s commit durable : ℕ) (t : Transaction) → transaction_of m s ≡ Some t → (p : Phase) → t.phase ≡ p → (r : ℕ) (x : Transaction) → transaction_of (decided p m s commit durable t) r ≡ Some x → Was m event table key r x
  decided-was s commit durable t there (Prepared p) is r x at = set-was s t (in_phase Resolving t) there (kin-was s t (in_phase Resolving t) there (record { id = refl; own = refl; ending = λ e. tt })) r x at
  decided-was s commit durable t there Running is r x at = gone-was s t there r x at
  decided-was s commit durable t there Failed is r x at = gone-was s t there r x at
  decided-was s commit durable t there Resolving is r x at = gone-was s t there r x at
  decided-was s commit durable t there Leaving is r x at = gone-was s t there r x at

  left-was : (s : ℕ) (t : Transaction) → transaction_of m s ≡ Some t → (p : Phase) → (r : ℕ) (x : Transaction) → transaction_of (left p m s t) r ≡ Some x → Was m event table key r x
  left-was s t there (Prepared p) r x at = set-was s t (in_phase Resolving t) there (kin-was s t (in_phase Resolving t) there (record { id = refl; own = refl; ending = λ e. tt })) r x at
  left-was s t there Running r x at = set-was s t (in_phase Leaving t) there (kin-was s t (in_phase Leaving t) there (record { id = refl; own = refl; ending = λ e. tt })) r x at
  left-was s t there Failed r x at = set-was s t (in_phase Leaving t) there (kin-was s t (in_phase Leaving t) there (record { id = refl; own = refl; ending = λ e. tt })) r x at
  left-was s t there Resolving r x at = kin-self r x at
  left-was s t there Leaving r x at = set-was s t (in_phase Leaving t) there (kin-was s t (in_phase Leaving t) there (record { id = refl; own = refl; ending = λ e. tt })) r x at

  if-was : (s : ℕ) (f : Transaction → Machine) → ((t : Transaction) → transaction_of m s ≡ Some t → (r : ℕ) (x : Transaction) → transaction_of (f t) r ≡ Some x → Was m event table key r x)
      → (r : ℕ) (x : Transaction) → transaction_of (of_some m f (transaction_of m s)) r ≡ Some x → Was m event table key r x
  if-was s f each r x at = by-seat (transaction_of m s) refl where
    by-seat : (o : Option Transaction) → transaction_of m s ≡ o → Was m event table key r x
    by-seat None is = kin-self r x (subst (λ o. transaction_of (of_some m f o) r ≡ Some x) is at)
    by-seat (Some t) is = each t is r x (subst (λ o. transaction_of (of_some m f o) r ≡ Some x) is at)

-- an id is drawn, nothing is written yet
drawn-fresh : (m : Machine) (table : ℕ) (key : List ℕ) (s : ℕ) (t : Transaction) → Valid m → transaction_of m s ≡ Some t → t.id ≡ 0 → Fresh m table key (record t { id = m.next })
drawn-fresh m table key s t v there undrawn = record {
  id = inr refl;
  own = ap (find (writes_at table key)) ((v.sessions.each s t there).undrawn undrawn);
}

written-was : (m : Machine) (s number : ℕ) (k : List ℕ) (change : Change) (table : ℕ) (key : List ℕ) (t : Transaction) → transaction_of m s ≡ Some t → t.phase ≡ Running
    → Was m (AcceptWrite s number k change) table key s (written number k change t)
written-was m s number k change table key t there running = elim (cases_Bool (writes_at table key (unstamped number k change))) [
  | inl here ↦ let same = at-parts table key (unstamped number k change) here in
      inr (inr (t, there, record { id = refl; running = running; here = λ elsewhere. elsewhere same.0 same.1 }))
  | inr other ↦ inl (t, there, record { id = refl; own = find-joined-other (unstamped number k change) t.writes table key other; ending = λ e. e })
]

pub session-was : (m : Machine) (event : Event) (table : ℕ) (key : List ℕ) → Valid m → Allowed m event → (r : ℕ) (u : Transaction) → transaction_of (after m event) r ≡ Some u → Was m event table key r u
session-was m OpenSession table key v may r u at = kin-self m OpenSession table key r u (sym (append-none m.sessions r) ∙ at)
session-was m (BeginAt s read) table key v may r u at = elim (seat-cases m.sessions s (Some (begun m read)) r u may.0 at) [
  | inl here ↦ let same : begun m read ≡ u = (let e = here.1 in cc) in
      subst (λ (z : Transaction). Was m (BeginAt s read) table key r z) same (inr (inl (record { id = inl refl; own = refl })))
  | inr other ↦ kin-self m (BeginAt s read) table key r u other.1
]
session-was m (DrawId s) table key v may r u at = changed-was m (DrawId s) table key s (λ t. record t { id = m.next }) may.0 may.1 (inr (inl (drawn-fresh m table key s may.0 v may.1 may.2.1))) r u at
session-was m (AcceptWrite s number k change) table key v may r u at = changed-was m (AcceptWrite s number k change) table key s (written number k change) may.0 may.1 (written-was m s number k change table key may.0 may.1 may.2.0) r u at
session-was m (RefuseWrite s) table key v may r u at = changed-was m (RefuseWrite s) table key s (in_phase Failed) may.0 may.1
    (kin-was m (RefuseWrite s) table key s may.0 (in_phase Failed may.0) may.1 (record { id = refl; own = refl; ending = λ e. absurd (subst IsEnding may.2 e) })) r u at
session-was m (PrepareAt s stamp) table key v may r u at = set-was m (PrepareAt s stamp) table key s may.0.0 (in_phase (Prepared stamp) may.0.0) may.0.1
    (kin-was m (PrepareAt s stamp) table key s may.0.0 (in_phase (Prepared stamp) may.0.0) may.0.1 (record { id = refl; own = refl; ending = λ e. absurd (subst IsEnding may.0.2 e) })) r u
    (subst (λ o. transaction_of (of_some m (prepared m s stamp) o) r ≡ Some u) may.0.1 at)
session-was m (CommitAt s commit durable) table key v may r u at = if-was m (CommitAt s commit durable) table key s (λ t. decided t.phase m s commit durable t)
    (λ t there. decided-was m (CommitAt s commit durable) table key s commit durable t there t.phase refl) r u at
session-was m (StartLeaving s) table key v may r u at = if-was m (StartLeaving s) table key s (λ t. left t.phase m s t) (λ t there. left-was m (StartLeaving s) table key s t there t.phase) r u at
session-was m (EndTransaction s) table key v may r u at = gone-was m (EndTransaction s) table key s may.0 may.1 r u at
session-was m (PlaceCursor s cursor position) table key v may r u at = kin-self m (PlaceCursor s cursor position) table key r u at
session-was m (CreateTable new) table key v may r u at = kin-self m (CreateTable new) table key r u at
session-was m (SetStamps oldest stable) table key v may r u at = kin-self m (SetStamps oldest stable) table key r u at
session-was m RollbackToStable table key v may r u at = kin-self m RollbackToStable table key r u at
session-was m CheckpointStart table key v may r u at = kin-self m CheckpointStart table key r u at
session-was m CheckpointFinish table key v may r u at = by-run m.checkpoint at where
  by-run : (o : Option Checkpoint) → transaction_of (of_some m (finished m) o) r ≡ Some u → Was m CheckpointFinish table key r u
  by-run None at = kin-self m CheckpointFinish table key r u at
  by-run (Some c) at = kin-self m CheckpointFinish table key r u at
session-was m CheckpointDrop table key v may r u at = kin-self m CheckpointDrop table key r u at
session-was m (GoDown fault) table key v may r u at = kin-self m (GoDown fault) table key r u at
session-was m Nothing table key v may r u at = kin-self m Nothing table key r u at

-- the run goes on
pub run-after : (m : Machine) (event : Event) → (after m event).run ≡ m.run
run-after m OpenSession = refl
run-after m (BeginAt s read) = refl
run-after m (DrawId s) = refl
run-after m (AcceptWrite s number k change) = refl
run-after m (RefuseWrite s) = refl
run-after m (PrepareAt s stamp) = by-seat (transaction_of m s) where
  by-seat : (o : Option Transaction) → (of_some m (prepared m s stamp) o).run ≡ m.run
  by-seat None = refl
  by-seat (Some t) = refl
run-after m (CommitAt s commit durable) = by-seat (transaction_of m s) where
  by-phase : (t : Transaction) (p : Phase) → (decided p m s commit durable t).run ≡ m.run
  by-phase t (Prepared p) = refl
  by-phase t Running = refl
  by-phase t Failed = refl
  by-phase t Resolving = refl
  by-phase t Leaving = refl

  by-seat : (o : Option Transaction) → (of_some m (λ (t : Transaction). decided t.phase m s commit durable t) o).run ≡ m.run
  by-seat None = refl
  by-seat (Some t) = by-phase t t.phase
run-after m (StartLeaving s) = by-seat (transaction_of m s) where
  by-phase : (t : Transaction) (p : Phase) → (left p m s t).run ≡ m.run
  by-phase t (Prepared p) = refl
  by-phase t Running = refl
  by-phase t Failed = refl
  by-phase t Resolving = refl
  by-phase t Leaving = refl

  by-seat : (o : Option Transaction) → (of_some m (λ (t : Transaction). left t.phase m s t) o).run ≡ m.run
  by-seat None = refl
  by-seat (Some t) = by-phase t t.phase
run-after m (EndTransaction s) = refl
run-after m (PlaceCursor s cursor position) = refl
run-after m (CreateTable new) = refl
run-after m (SetStamps oldest stable) = refl
run-after m RollbackToStable = refl
run-after m CheckpointStart = refl
run-after m CheckpointFinish = by-run m.checkpoint where
  by-run : (o : Option Checkpoint) → (of_some m (finished m) o).run ≡ m.run
  by-run None = refl
  by-run (Some c) = refl
run-after m CheckpointDrop = refl
run-after m (GoDown fault) = refl
run-after m Nothing = refl

-- the stable stamp does not fall
pub stable-after : (m : Machine) (event : Event) → m.stable ≤ (after m event).stable
stable-after m OpenSession = omega arith
stable-after m (BeginAt s read) = omega arith
stable-after m (DrawId s) = omega arith
stable-after m (AcceptWrite s number k change) = omega arith
stable-after m (RefuseWrite s) = omega arith
stable-after m (PrepareAt s stamp) = by-seat (transaction_of m s) where
  by-seat : (o : Option Transaction) → m.stable ≤ (of_some m (prepared m s stamp) o).stable
  by-seat None = omega arith
  by-seat (Some t) = omega arith
stable-after m (CommitAt s commit durable) = by-seat (transaction_of m s) where
  by-phase : (t : Transaction) (p : Phase) → m.stable ≤ (decided p m s commit durable t).stable
  by-phase t (Prepared p) = omega arith
  by-phase t Running = omega arith
  by-phase t Failed = omega arith
  by-phase t Resolving = omega arith
  by-phase t Leaving = omega arith

  by-seat : (o : Option Transaction) → m.stable ≤ (of_some m (λ (t : Transaction). decided t.phase m s commit durable t) o).stable
  by-seat None = omega arith
  by-seat (Some t) = by-phase t t.phase
stable-after m (StartLeaving s) = by-seat (transaction_of m s) where
  by-phase : (t : Transaction) (p : Phase) → m.stable ≤ (left p m s t).stable
  by-phase t (Prepared p) = omega arith
  by-phase t Running = omega arith
  by-phase t Failed = omega arith
  by-phase t Resolving = omega arith
  by-phase t Leaving = omega arith

  by-seat : (o : Option Transaction) → m.stable ≤ (of_some m (λ (t : Transaction). left t.phase m s t) o).stable
  by-seat None = omega arith
  by-seat (Some t) = by-phase t t.phase
stable-after m (EndTransaction s) = omega arith
stable-after m (PlaceCursor s cursor position) = omega arith
stable-after m (CreateTable new) = omega arith
stable-after m (SetStamps oldest stable) = omega arith
stable-after m RollbackToStable = omega arith
stable-after m CheckpointStart = omega arith
stable-after m CheckpointFinish = by-run m.checkpoint where
  by-run : (o : Option Checkpoint) → m.stable ≤ (of_some m (finished m) o).stable
  by-run None = omega arith
  by-run (Some c) = omega arith
stable-after m CheckpointDrop = omega arith
stable-after m (GoDown fault) = omega arith
stable-after m Nothing = omega arith

-- ---- the history

-- it releases nobody who was released
abbrev pub IsFresh : Entry → List Entry → Type 0
IsFresh entry history = (x : Name) → released history (length history) x ≡ true → releases entry x ≡ false

-- one entry more, which changes no line
pub record Quiet (m : Machine) (history : List Entry) : Type 0 where
  pub entry : Entry
  pub is : history ≡ entry ∷ m.history
  pub fresh : IsFresh entry m.history
  pub lines : (table : ℕ) (key : List ℕ) → line (entry ∷ m.history) table key ≡ line m.history table key

-- one entry more, the commit of this session's transaction
pub record Commits (m : Machine) (event : Event) (history : List Entry) : Type 0 where
  pub session : ℕ
  pub transaction : Transaction
  pub commit : ℕ
  pub durable : ℕ
  pub entry : Entry
  pub there : transaction_of m session ≡ Some transaction
  pub may : CommitsAt transaction.phase commit durable
  pub by : event ≡ CommitAt session commit durable
  pub is : history ≡ entry ∷ m.history
  pub fresh : IsFresh entry m.history
  pub lines : (table : ℕ) (key : List ℕ) → line (entry ∷ m.history) table key
      ≡ map (version_of (name_of m transaction)) (filter (writes_at table key) (stamped commit durable transaction.writes)) ++ line m.history table key

abbrev pub Grew : Machine → Event → List Entry → Type 0
Grew m event history = (history ≡ m.history) ⊎ (Quiet m history ⊎ (Commits m event history ⊎ (event ≡ RollbackToStable)))

-- who runs was not released
runs-fresh : (m : Machine) (s : ℕ) (t : Transaction) → Valid m → transaction_of m s ≡ Some t → t.phase ≡ Running → (x : Name) → released m.history (length m.history) x ≡ true → name_eq (name_of m t) x ≡ false
runs-fresh m s t valid there running x out = false-from (name_eq (name_of m t) x) (λ same. let parts = name_eq-same (name_of m t) x same in
    both_ways (released m.history (length m.history) (name_of m t)) (subst (λ p. PhaseStands p m.history (name_of m t) t) running (valid.sessions.each s t there).phase)
    (released-same (name_of m t) x m.history (length m.history) parts.0 parts.1 ∙ out))

quietly : (m : Machine) (event : Event) (entry : Entry) → IsFresh entry m.history → ((table : ℕ) (key : List ℕ) → line (entry ∷ m.history) table key ≡ line m.history table key) → (writes : List Write) → Grew m event (appended writes entry m.history)
quietly m event entry fresh lines [] = inl refl
quietly m event entry fresh lines (w ∷ writes) = inr (inl (record { entry = entry; is = refl; fresh = fresh; lines = lines }))

pub history-grew : (m : Machine) (event : Event) → Valid m → Allowed m event → Grew m event (after m event).history
history-grew m OpenSession valid may = inl refl
history-grew m (BeginAt s read) valid may = inl refl
history-grew m (DrawId s) valid may = inl refl
history-grew m (AcceptWrite s number k change) valid may = inl refl
history-grew m (RefuseWrite s) valid may = inl refl
history-grew m (PrepareAt s stamp) valid may = subst (λ o. Grew m (PrepareAt s stamp) (of_some m (prepared m s stamp) o).history) (sym may.0.1)
    (quietly m (PrepareAt s stamp) (Prepare (name_of m may.0.0) stamp) (runs-fresh m s may.0.0 valid may.0.1 may.0.2) (λ table key. refl) may.0.0.writes)
history-grew m (CommitAt s commit durable) valid may = subst (λ o. Grew m (CommitAt s commit durable) (of_some m (λ (t : Transaction). decided t.phase m s commit durable t) o).history) (sym may.1) (by-phase may.0 may.1 may.0.phase refl may.2) where
  one : (t : Transaction) (entry : Entry) → transaction_of m s ≡ Some t → CommitsAt t.phase commit durable → IsFresh entry m.history
      → ((table : ℕ) (key : List ℕ) → line (entry ∷ m.history) table key ≡ map (version_of (name_of m t)) (filter (writes_at table key) (stamped commit durable t.writes)) ++ line m.history table key)
      → (writes : List Write) → Grew m (CommitAt s commit durable) (appended writes entry m.history)
  one t entry there fits fresh lines [] = inl refl
  one t entry there fits fresh lines (w ∷ writes) = inr (inr (inl (record { session = s; transaction = t; commit = commit; durable = durable; entry = entry; there = there; may = fits; by = refl; is = refl; fresh = fresh; lines = lines })))

  by-phase : (t : Transaction) → transaction_of m s ≡ Some t → (p : Phase) → t.phase ≡ p → CommitsAt t.phase commit durable → Grew m (CommitAt s commit durable) (decided p m s commit durable t).history
  by-phase t there (Prepared p) is fits = one t (Resolve (name_of m t) (stamped commit durable t.writes)) there fits (λ x out. refl) (line-writes (name_of m t) (stamped commit durable t.writes) m.history) t.writes
  by-phase t there Running is fits = one t (Commit (name_of m t) (stamped commit durable t.writes)) there fits (runs-fresh m s t valid there is) (line-writes (name_of m t) (stamped commit durable t.writes) m.history) t.writes
  by-phase t there Failed is fits = absurd (subst (λ p. CommitsAt p commit durable) is fits)
  by-phase t there Resolving is fits = absurd (subst (λ p. CommitsAt p commit durable) is fits)
  by-phase t there Leaving is fits = absurd (subst (λ p. CommitsAt p commit durable) is fits)
history-grew m (StartLeaving s) valid may = by-seat (transaction_of m s) where
  by-phase : (t : Transaction) (p : Phase) → Grew m (StartLeaving s) (left p m s t).history
  by-phase t (Prepared p) = quietly m (StartLeaving s) (Undo (name_of m t)) (λ x out. refl) (λ table key. refl) t.writes
  by-phase t Running = inl refl
  by-phase t Failed = inl refl
  by-phase t Resolving = inl refl
  by-phase t Leaving = inl refl

  by-seat : (o : Option Transaction) → Grew m (StartLeaving s) (of_some m (λ (t : Transaction). left t.phase m s t) o).history
  by-seat None = inl refl
  by-seat (Some t) = by-phase t t.phase
history-grew m (EndTransaction s) valid may = inl refl
history-grew m (PlaceCursor s cursor position) valid may = inl refl
history-grew m (CreateTable new) valid may = inr (inl (record { entry = Create new; is = refl; fresh = λ x out. refl; lines = λ table key. refl }))
history-grew m (SetStamps oldest stable) valid may = inl refl
history-grew m RollbackToStable valid may = inr (inr (inr refl))
history-grew m CheckpointStart valid may = inl refl
history-grew m CheckpointFinish valid may = by-run m.checkpoint where
  by-run : (o : Option Checkpoint) → Grew m CheckpointFinish (of_some m (finished m) o).history
  by-run None = inl refl
  by-run (Some c) = inl refl
history-grew m CheckpointDrop valid may = inl refl
history-grew m (GoDown fault) valid may = inl refl
history-grew m Nothing valid may = inl refl

-- ---- the transaction of a session of which no event is

set-other : {A : Type 0} (xs : List (Option A)) (s r : ℕ) (o : Option A) → s ≢ r → slice_index_or (slice_set xs s o) r None ≡ slice_index_or xs r None
set-other xs s r o other = get_or-set_other xs s r o None (λ e. other (sym e))

pub session-stays : (m : Machine) (event : Event) (r : ℕ) → Allowed m event → IsOfOthers r event → transaction_of (after m event) r ≡ transaction_of m r
session-stays m OpenSession r may others = append-none m.sessions r
session-stays m (BeginAt s read) r may others = set-other m.sessions s r (Some (begun m read)) others
session-stays m (DrawId s) r may others = set-other m.sessions s r (option_map (λ (t : Transaction). record t { id = m.next }) (transaction_of m s)) others
session-stays m (AcceptWrite s number k change) r may others = set-other m.sessions s r (option_map (written number k change) (transaction_of m s)) others
session-stays m (RefuseWrite s) r may others = set-other m.sessions s r (option_map (in_phase Failed) (transaction_of m s)) others
session-stays m (PrepareAt s stamp) r may others = by-seat (transaction_of m s) where
  by-seat : (o : Option Transaction) → transaction_of (of_some m (prepared m s stamp) o) r ≡ transaction_of m r
  by-seat None = refl
  by-seat (Some t) = set-other m.sessions s r (Some (in_phase (Prepared stamp) t)) others
session-stays m (CommitAt s commit durable) r may others = by-seat (transaction_of m s) where
  by-phase : (t : Transaction) (p : Phase) → transaction_of (decided p m s commit durable t) r ≡ transaction_of m r
  by-phase t (Prepared p) = set-other m.sessions s r (Some (in_phase Resolving t)) others
  by-phase t Running = set-other m.sessions s r None others
  by-phase t Failed = set-other m.sessions s r None others
  by-phase t Resolving = set-other m.sessions s r None others
  by-phase t Leaving = set-other m.sessions s r None others

  by-seat : (o : Option Transaction) → transaction_of (of_some m (λ (t : Transaction). decided t.phase m s commit durable t) o) r ≡ transaction_of m r
  by-seat None = refl
  by-seat (Some t) = by-phase t t.phase
session-stays m (StartLeaving s) r may others = by-seat (transaction_of m s) where
  by-phase : (t : Transaction) (p : Phase) → transaction_of (left p m s t) r ≡ transaction_of m r
  by-phase t (Prepared p) = set-other m.sessions s r (Some (in_phase Resolving t)) others
  by-phase t Running = set-other m.sessions s r (Some (in_phase Leaving t)) others
  by-phase t Failed = set-other m.sessions s r (Some (in_phase Leaving t)) others
  by-phase t Resolving = refl
  by-phase t Leaving = set-other m.sessions s r (Some (in_phase Leaving t)) others

  by-seat : (o : Option Transaction) → transaction_of (of_some m (λ (t : Transaction). left t.phase m s t) o) r ≡ transaction_of m r
  by-seat None = refl
  by-seat (Some t) = by-phase t t.phase
session-stays m (EndTransaction s) r may others = set-other m.sessions s r None others
session-stays m (PlaceCursor s cursor position) r may others = refl
session-stays m (CreateTable new) r may others = refl
session-stays m (SetStamps oldest stable) r may others = refl
session-stays m RollbackToStable r may others = refl
session-stays m CheckpointStart r may others = refl
session-stays m CheckpointFinish r may others = by-run m.checkpoint where
  by-run : (o : Option Checkpoint) → transaction_of (of_some m (finished m) o) r ≡ transaction_of m r
  by-run None = refl
  by-run (Some c) = refl
session-stays m CheckpointDrop r may others = refl
session-stays m (GoDown fault) r may others = refl
session-stays m Nothing r may others = refl
