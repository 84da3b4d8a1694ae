-- Whom a transaction meets at a key, it met before the event too.
use Rattle.std.proofs.Common.{◌≡◌, ◌⊎◌, ◌<◌, ◌≤◌, ◌+◌, ℕ, refl, ap, sym, ◌∙◌, true, false, List, [], ◌∷◌, length, inl, inr, subst, arith}
use Rattle.std.specs.Prelude.{Option, Some, None, slice_index_or, slice_set, option_map}
use Rattle.std.proofs.lemmas.Bool.{both_ways}
use Rattle.stamp.specs.declared.Name.{Name}
use Rattle.kv_model.specs.Holds.{Member}
use Rattle.kv_model.specs.History.{Entry, Commit, Prepare, Resolve, Undo, Write, released}
use Rattle.kv_model.specs.Machine.{Machine, Transaction, Phase, Running, Failed, Prepared, Resolving, Leaving, Checkpoint, Event, transaction_of, name_of, name_in, after, of_some, begun, in_phase, written, prepared, decided, left, finished, appended, stamped, OpenSession, BeginAt, DrawId, AcceptWrite, RefuseWrite, PrepareAt, CommitAt, StartLeaving, EndTransaction, PlaceCursor, CreateTable, SetStamps, RollbackToStable, CheckpointStart, CheckpointFinish, CheckpointDrop, GoDown, Nothing}
use Rattle.kv_model.specs.Reads.{prepared_in, own_write, is_own, IsEnding}
use Rattle.kv_model.specs.Allowed.{Allowed}
use Rattle.kv_model.specs.Valid.{Valid, PhaseStands}
use Rattle.kv_model.specs.GoingOnLaws.{MeetsGoOn}
use Rattle.kv_model.proofs.Beginning.{append-none, undrawn-unreleased}
use Rattle.kv_model.proofs.Prepares.{unprepared, prepared-later}
use Rattle.kv_model.proofs.Seats.{seat-inside, seat-cases}
use Rattle.kv_model.proofs.Writing.{running-busy}

-- what holds of the history, and of it with the entry where there are writes
pub appended-either : (P : List Entry → Type 0) (writes : List Write) (entry : Entry) (history : List Entry) → P history → ((w : Write) → Member w writes → P (entry ∷ history)) → P (appended writes entry history)
appended-either P [] entry history old new = old
appended-either P (w ∷ writes) entry history old new = new w (inl refl)

-- a transaction as it was, for whom it is met by, or one that was never released
abbrev pub IsMetFrom : Machine → Machine → ℕ → Transaction → Type 0
IsMetFrom m next r u = ((y : Transaction) × (transaction_of m r ≡ Some y) × (name_of next u ≡ name_of m y) × (u.writes ≡ y.writes) × (IsEnding y.phase → IsEnding u.phase))
    ⊎ (released m.history (length m.history) (name_of next u) ≡ false)

abbrev pub AllMetFrom : Machine → Machine → Type 0
AllMetFrom m next = (r : ℕ) (u : Transaction) → transaction_of next r ≡ Some u → IsMetFrom m next r u

as-before : (m next : Machine) → next.run ≡ m.run → ((r : ℕ) → transaction_of next r ≡ transaction_of m r) → AllMetFrom m next
as-before m next run seats r u at = inl (u, sym (seats r) ∙ at, ap (λ n. name_in n u) run, refl, λ e. e)

-- one seat has another transaction
seat-met : (m next : Machine) (s : ℕ) (o : Option Transaction) → next.run ≡ m.run → s < length m.sessions → ((r : ℕ) → transaction_of next r ≡ slice_index_or (slice_set m.sessions s o) r None)
    → ((u : Transaction) → o ≡ Some u → IsMetFrom m next s u) → AllMetFrom m next
seat-met m next s o run inside seats here r u at = elim (seat-cases m.sessions s o r u inside (sym (seats r) ∙ at)) [
  | inl there ↦ subst (λ i. IsMetFrom m next i u) (sym there.0) (here u there.1)
  | inr other ↦ inl (u, other.1, ap (λ n. name_in n u) run, refl, λ e. e)
]

-- of the same name and writes
rephased-met : (m next : Machine) (s : ℕ) (t u : Transaction) → next.run ≡ m.run → transaction_of m s ≡ Some t → ((r : ℕ) → transaction_of next r ≡ slice_index_or (slice_set m.sessions s (Some u)) r None) → u.id ≡ t.id → u.writes ≡ t.writes
    → (IsEnding t.phase → IsEnding u.phase) → AllMetFrom m next
rephased-met m next s t u run there seats id writes ending = seat-met m next s (Some u) run (seat-inside m.sessions s t there) seats
    (λ x is. let same : u ≡ x = cc in subst (IsMetFrom m next s) same (inl (t, there, ap (λ n. record { run = n; id = u.id }) run ∙ ap (λ n. record { run = m.run; id = n }) id, writes, ending)))

gone-met : (m next : Machine) (s : ℕ) (t : Transaction) → next.run ≡ m.run → transaction_of m s ≡ Some t → ((r : ℕ) → transaction_of next r ≡ slice_index_or (slice_set m.sessions s None) r None) → AllMetFrom m next
gone-met m next s t run there seats = seat-met m next s None run (seat-inside m.sessions s t there) seats (λ x is. let none : None ≡ Some x = is in absurd (cc))

-- a change of the transaction in hand
changed-met : (m : Machine) (s next : ℕ) (change : Transaction → Transaction) (t : Transaction) → transaction_of m s ≡ Some t → IsMetFrom m (record m { sessions = slice_set m.sessions s (Some (change t)); next = next }) s (change t)
    → AllMetFrom m (record m { sessions = slice_set m.sessions s (option_map change (transaction_of m s)); next = next })
changed-met m s next change t there here = subst (λ o. AllMetFrom m (record m { sessions = slice_set m.sessions s (option_map change o); next = next })) (sym there)
    (seat-met m changed s (Some (change t)) refl (seat-inside m.sessions s t there) (λ r. refl) (λ x is. let same : change t ≡ x = cc in subst (IsMetFrom m changed s) same here)) where
      changed : Machine
      changed = record m { sessions = slice_set m.sessions s (Some (change t)); next = next }

decided-met : (m : Machine) (s commit durable : ℕ) (t : Transaction) (p : Phase) → transaction_of m s ≡ Some t → AllMetFrom m (decided p m s commit durable t)
decided-met m s commit durable t (Prepared p) there = rephased-met m (decided (Prepared p) m s commit durable t) s t (in_phase Resolving t) refl there (λ r. refl) refl refl (λ e. tt)
decided-met m s commit durable t Running there = gone-met m (decided Running m s commit durable t) s t refl there (λ r. refl)
decided-met m s commit durable t Failed there = gone-met m (decided Failed m s commit durable t) s t refl there (λ r. refl)
decided-met m s commit durable t Resolving there = gone-met m (decided Resolving m s commit durable t) s t refl there (λ r. refl)
decided-met m s commit durable t Leaving there = gone-met m (decided Leaving m s commit durable t) s t refl there (λ r. refl)

left-met : (m : Machine) (s : ℕ) (t : Transaction) (p : Phase) → transaction_of m s ≡ Some t → AllMetFrom m (left p m s t)
left-met m s t (Prepared p) there = rephased-met m (left (Prepared p) m s t) s t (in_phase Resolving t) refl there (λ r. refl) refl refl (λ e. tt)
left-met m s t Running there = rephased-met m (left Running m s t) s t (in_phase Leaving t) refl there (λ r. refl) refl refl (λ e. tt)
left-met m s t Failed there = rephased-met m (left Failed m s t) s t (in_phase Leaving t) refl there (λ r. refl) refl refl (λ e. tt)
left-met m s t Resolving there = as-before m m refl (λ r. refl)
left-met m s t Leaving there = rephased-met m (left Leaving m s t) s t (in_phase Leaving t) refl there (λ r. refl) refl refl (λ e. tt)

-- of the session's transaction, if there is one
if-there : (m : Machine) (s : ℕ) (f : Transaction → Machine) → ((t : Transaction) → transaction_of m s ≡ Some t → AllMetFrom m (f t)) → AllMetFrom m (of_some m f (transaction_of m s))
if-there m s f each = by-seat (transaction_of m s) refl where
  by-seat : (o : Option Transaction) → transaction_of m s ≡ o → AllMetFrom m (of_some m f (transaction_of m s))
  by-seat None there = subst (λ o. AllMetFrom m (of_some m f o)) (sym there) (as-before m m refl (λ r. refl))
  by-seat (Some t) there = subst (λ o. AllMetFrom m (of_some m f o)) (sym there) (each t there)

finished-met : (m : Machine) (o : Option Checkpoint) → AllMetFrom m (of_some m (finished m) o)
finished-met m None = as-before m m refl (λ r. refl)
finished-met m (Some c) = as-before m (finished m c) refl (λ r. refl)

pub all-met : (m : Machine) (event : Event) → Valid m → Allowed m event → AllMetFrom m (after m event)
all-met m OpenSession v may = as-before m (after m OpenSession) refl (λ r. append-none m.sessions r)
all-met m (BeginAt s read) v may = seat-met m (after m (BeginAt s read)) s (Some (begun m read)) refl may.0 (λ r. refl)
    (λ x is. let same : begun m read ≡ x = cc in subst (IsMetFrom m (after m (BeginAt s read)) s) same (inr (undrawn-unreleased m v 0 (inl refl))))
all-met m (DrawId s) v may = changed-met m s (m.next + 1) (λ t. record t { id = m.next }) may.0 may.1 (inr (undrawn-unreleased m v m.next (inr (omega arith))))
all-met m (AcceptWrite s table key change) v may = changed-met m s m.next (written table key change) may.0 may.1
    (inr (subst (λ p. PhaseStands p m.history (name_of m may.0) may.0) may.2.0 (v.sessions.each s may.0 may.1).phase))
all-met m (RefuseWrite s) v may = changed-met m s m.next (in_phase Failed) may.0 may.1 (inl (may.0, may.1, refl, refl, λ e. absurd (running-busy may.0 may.2 e)))
all-met m (PrepareAt s stamp) v may = subst (λ o. AllMetFrom m (of_some m (prepared m s stamp) o)) (sym may.0.1)
    (rephased-met m (prepared m s stamp may.0.0) s may.0.0 (in_phase (Prepared stamp) may.0.0) refl may.0.1 (λ r. refl) refl refl (λ e. absurd (running-busy may.0.0 may.0.2 e)))
all-met m (CommitAt s commit durable) v may = if-there m s (λ t. decided t.phase m s commit durable t) (λ t there. decided-met m s commit durable t t.phase there)
all-met m (StartLeaving s) v may = if-there m s (λ t. left t.phase m s t) (λ t there. left-met m s t t.phase there)
all-met m (EndTransaction s) v may = gone-met m (after m (EndTransaction s)) s may.0 refl may.1 (λ r. refl)
all-met m (PlaceCursor s cursor position) v may = as-before m (after m (PlaceCursor s cursor position)) refl (λ r. refl)
all-met m (CreateTable table) v may = as-before m (after m (CreateTable table)) refl (λ r. refl)
all-met m (SetStamps oldest stable) v may = as-before m (after m (SetStamps oldest stable)) refl (λ r. refl)
all-met m RollbackToStable v may = as-before m (after m RollbackToStable) refl (λ r. refl)
all-met m CheckpointStart v may = as-before m (after m CheckpointStart) refl (λ r. refl)
all-met m CheckpointFinish v may = finished-met m m.checkpoint
all-met m CheckpointDrop v may = as-before m (after m CheckpointDrop) refl (λ r. refl)
all-met m (GoDown fault) v may = as-before m (after m (GoDown fault)) refl (λ r. refl)
all-met m Nothing v may = as-before m m refl (λ r. refl)

-- ---- prepares that are seen

module _ (m : Machine) (n read : ℕ) (x : Name) (low : n ≤ length m.history) where
  abbrev Same : List Entry → Type 0
  Same history = prepared_in history n read x ≡ prepared_in m.history n read x

  same-appended : (writes : List Write) (entry : Entry) → Same (appended writes entry m.history)
  same-appended writes entry = appended-either Same writes entry m.history refl (λ w has. prepared-later entry m.history n read x low)

  same-decided : (s commit durable : ℕ) (t : Transaction) (p : Phase) → Same (decided p m s commit durable t).history
  same-decided s commit durable t (Prepared p) = same-appended t.writes (Resolve (name_of m t) (stamped commit durable t.writes))
  same-decided s commit durable t Running = same-appended t.writes (Commit (name_of m t) (stamped commit durable t.writes))
  same-decided s commit durable t Failed = same-appended t.writes (Commit (name_of m t) (stamped commit durable t.writes))
  same-decided s commit durable t Resolving = same-appended t.writes (Commit (name_of m t) (stamped commit durable t.writes))
  same-decided s commit durable t Leaving = same-appended t.writes (Commit (name_of m t) (stamped commit durable t.writes))

  same-left : (s : ℕ) (t : Transaction) (p : Phase) → Same (left p m s t).history
  same-left s t (Prepared p) = same-appended t.writes (Undo (name_of m t))
  same-left s t Running = refl
  same-left s t Failed = refl
  same-left s t Resolving = refl
  same-left s t Leaving = refl

  same-of : (f : Transaction → Machine) → ((t : Transaction) → Same (f t).history) → (o : Option Transaction) → Same (of_some m f o).history
  same-of f each None = refl
  same-of f each (Some t) = each t

  same-finished : (o : Option Checkpoint) → Same (of_some m (finished m) o).history
  same-finished None = refl
  same-finished (Some c) = refl

  pub same-prepares : (event : Event) → (s : ℕ) (t : Transaction) → transaction_of m s ≡ Some t → Allowed m event → Same (after m event).history
  same-prepares OpenSession s t there may = refl
  same-prepares (BeginAt r at) s t there may = refl
  same-prepares (DrawId r) s t there may = refl
  same-prepares (AcceptWrite r table key change) s t there may = refl
  same-prepares (RefuseWrite r) s t there may = refl
  same-prepares (PrepareAt r stamp) s t there may = same-of (prepared m r stamp) (λ u. same-appended u.writes (Prepare (name_of m u) stamp)) (transaction_of m r)
  same-prepares (CommitAt r commit durable) s t there may = same-of (λ u. decided u.phase m r commit durable u) (λ u. same-decided r commit durable u u.phase) (transaction_of m r)
  same-prepares (StartLeaving r) s t there may = same-of (λ u. left u.phase m r u) (λ u. same-left r u u.phase) (transaction_of m r)
  same-prepares (EndTransaction r) s t there may = refl
  same-prepares (PlaceCursor r cursor position) s t there may = refl
  same-prepares (CreateTable new) s t there may = refl
  same-prepares (SetStamps oldest stable) s t there may = refl
  same-prepares RollbackToStable s t there may = let gone = may.0 s in absurd (cc)
  same-prepares CheckpointStart s t there may = refl
  same-prepares CheckpointFinish s t there may = same-finished m.checkpoint
  same-prepares CheckpointDrop s t there may = refl
  same-prepares (GoDown fault) s t there may = refl
  same-prepares Nothing s t there may = refl

-- the law
pub meets-go-on : MeetsGoOn
meets-go-on m event s t table key other x valid may there met = elim (all-met m event valid may other x met.writer.0) [
  | inl old ↦ (
    old.0,
    record {
      another = met.another;
      writer = (old.1, subst (λ l. is_own (own_write (record old.0 { writes = l }) table key) ≡ true) old.3 met.writer.1);
      before = subst (λ n. prepared_in m.history t.start t.read n ≡ true) old.2 before;
    },
    old.4,
  )
  | inr never ↦ absurd (both_ways (prepared_in m.history t.start t.read (name_of (after m event) x)) (unprepared m.history t.start t.read (name_of (after m event) x) never) before)
] where
  before : prepared_in m.history t.start t.read (name_of (after m event) x) ≡ true
  before = sym (same-prepares m t.start t.read (name_of (after m event) x) (valid.sessions.each s t there).start event s t there may) ∙ met.before
