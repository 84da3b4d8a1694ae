-- What a transaction reads of a key goes on to be what it reads, whatever the others do, while it meets none of them there.
use Rattle.std.proofs.Common.{◌≡◌, ◌≢◌, ◌≤◌, ℕ, refl, ap, sym, ◌∙◌, true, false, ◌&&◌, List, [], ◌∷◌, ◌++◌, length, inl, inr, subst, map}
use Rattle.std.specs.Prelude.{Option, Some, None, find, filter, if◌then◌else◌}
use Rattle.std.proofs.lemmas.Bool.{cases_Bool, and_left, and_right, and_cases}
use Rattle.stamp.specs.declared.Name.{Name}
use Rattle.stamp.specs.declared.Version.{Version}
use Rattle.item.specs.declared.Change.{Change}
use Rattle.kv_model.specs.Holds.{Member}
use Rattle.kv_model.specs.History.{Entry, Create, Commit, Prepare, Resolve, Undo, Write, line, admits, reads_at, released, writes_at, version_of}
use Rattle.kv_model.specs.Machine.{Machine, Transaction, Phase, Running, Failed, Prepared, Resolving, Leaving, transaction_of, name_of, Event, OpenSession, BeginAt, DrawId, AcceptWrite, RefuseWrite, PrepareAt, CommitAt, StartLeaving, EndTransaction, PlaceCursor, CreateTable, SetStamps, RollbackToStable, CheckpointStart, CheckpointFinish, CheckpointDrop, GoDown, Nothing, after, of_some, decided, left, prepared, appended, stamped, finished, Checkpoint}
use Rattle.kv_model.specs.Reads.{prepared_in, own_write, is_own, Meets, IsEnding}
use Rattle.kv_model.specs.Allowed.{Allowed, CommitsAt}
use Rattle.kv_model.specs.Valid.{Valid, PhaseStands, PreparedStands}
use Rattle.kv_model.specs.GoingOnLaws.{IsAnothers}
use Rattle.kv_model.proofs.Releases.{released-later, false-from}
use Rattle.kv_model.proofs.Prepares.{unreleased-at, prepared-at, later-unread}
use Rattle.kv_model.proofs.Ordering.{line-writes}
use Rattle.kv_model.proofs.OwnWrites.{filter-unwritten, stamped-at, member-stamped}
use Rattle.kv_model.proofs.Capturing.{member-out}
use Rattle.kv_model.proofs.Committing.{lines-apart}

-- ---- one more entry

-- what is picked at this snapshot and read stamp
abbrev picked : List Entry → Transaction → List (Version Change) → Option (Version Change)
picked history t l = find (admits history t.start t.read) l

find-later : (entry : Entry) (history : List Entry) (t : Transaction) (l : List (Version Change)) → t.start ≤ length history → picked (entry ∷ history) t l ≡ picked history t l
find-later entry history t [] le = refl
find-later entry history t (v ∷ l) le =
    ap (λ b. if b && reads_at t.read v.window.commit then Some v else picked (entry ∷ history) t l) (released-later entry history t.start v.window.name le)
    ∙ ap (λ rest. if admits history t.start t.read v then Some v else rest) (find-later entry history t l le)

skip : (name : Name) (history : List Entry) (t : Transaction) (l : List (Version Change)) (writes : List Write) → ((w : Write) → Member w writes → admits history t.start t.read (version_of name w) ≡ false)
    → picked history t (map (version_of name) writes ++ l) ≡ picked history t l
skip name history t l [] none = refl
skip name history t l (w ∷ writes) none = ap (λ b. if b then Some (version_of name w) else picked history t (map (version_of name) writes ++ l)) (none w (inl refl)) ∙ skip name history t l writes (λ x at. none x (inr at))

-- the writes of a commit that are not admitted
past-writes : (name : Name) (writes : List Write) (entry : Entry) (history : List Entry) (t : Transaction) (table : ℕ) (key : List ℕ) → t.start ≤ length history
    → ((w : Write) → Member w (filter (writes_at table key) writes) → admits history t.start t.read (version_of name w) ≡ false)
    → picked (entry ∷ history) t (map (version_of name) (filter (writes_at table key) writes) ++ line history table key) ≡ picked history t (line history table key)
past-writes name writes entry history t table key le none =
    find-later entry history t (map (version_of name) (filter (writes_at table key) writes) ++ line history table key) le
    ∙ skip name history t (line history table key) (filter (writes_at table key) writes) none

module _ (m : Machine) (s : ℕ) (t : Transaction) (table : ℕ) (key : List ℕ) (v : Valid m) (there : transaction_of m s ≡ Some t) where
  -- the history goes on to give the same
  abbrev Same : List Entry → Type 0
  Same history = picked history t (line history table key) ≡ picked m.history t (line m.history table key)

  low : t.start ≤ length m.history
  low = (v.sessions.each s t there).start

  commits : (r commit durable : ℕ) (x : Transaction) → transaction_of m r ≡ Some x → x.phase ≡ Running → Same (appended x.writes (Commit (name_of m x) (stamped commit durable x.writes)) m.history)
  commits r commit durable x at running = by-writes x.writes where
    none : released m.history (length m.history) (name_of m x) ≡ false
    none = subst (λ p. PhaseStands p m.history (name_of m x) x) running (v.sessions.each r x at).phase

    by-writes : (writes : List Write) → Same (appended writes (Commit (name_of m x) (stamped commit durable x.writes)) m.history)
    by-writes [] = refl
    by-writes (w ∷ writes) = ap (picked (Commit (name_of m x) (stamped commit durable x.writes) ∷ m.history) t) (line-writes (name_of m x) (stamped commit durable x.writes) m.history table key)
        ∙ past-writes (name_of m x) (stamped commit durable x.writes) (Commit (name_of m x) (stamped commit durable x.writes)) m.history t table key low
        (λ o is. and_left (released m.history t.start (name_of m x)) (reads_at t.read o.commit) (unreleased-at m.history t.start (name_of m x) none))

  resolves : (r p commit durable : ℕ) (x : Transaction) → transaction_of m r ≡ Some x → x.phase ≡ Prepared p → r ≢ s → p ≤ commit → (Meets m s t table key r x → IsEnding x.phase)
      → Same (appended x.writes (Resolve (name_of m x) (stamped commit durable x.writes)) m.history)
  resolves r p commit durable x at is another le unmet = by-writes x.writes refl where
    stands : PreparedStands p m.history (name_of m x) x
    stands = subst (λ q. PhaseStands q m.history (name_of m x) x) is (v.sessions.each r x at).phase

    -- a write of the key is not admitted
    unread : (w : Write) → Member w x.writes → is_own (own_write x table key) ≡ true → (released m.history t.start (name_of m x) && reads_at t.read commit) ≡ false
    unread w of own = elim (and_cases (released m.history t.start (name_of m x)) (reads_at t.read p) (sym (prepared-at m.history t.start t.read p (name_of m x) (stands.prepared w of))
        ∙ false-from (prepared_in m.history t.start t.read (name_of m x)) (λ e. subst IsEnding is (unmet (record { another = another; writer = (at, own); before = e }))))) [
          | inl unseen ↦ and_left (released m.history t.start (name_of m x)) (reads_at t.read commit) unseen
          | inr early ↦ and_right (released m.history t.start (name_of m x)) (reads_at t.read commit) (later-unread t.read p commit le early)
        ]

    none : (w : Write) → Member w x.writes → (o : Write) → Member o (filter (writes_at table key) (stamped commit durable x.writes)) → admits m.history t.start t.read (version_of (name_of m x) o) ≡ false
    none w of o there = elim (cases_Bool (is_own (own_write x table key))) [
      | inl own ↦ let here = member-out (writes_at table key) (stamped commit durable x.writes) o there in
          let old = member-stamped commit durable x.writes o here.0 in
          subst (λ (z : Write). admits m.history t.start t.read (version_of (name_of m x) z) ≡ false) (sym old.2) (unread w of own)
      | inr other ↦ let empty = stamped-at commit durable table key x.writes ∙ ap (stamped commit durable) (filter-unwritten table key x.writes ((v.sessions.each r x at).single table key) other) in
          absurd (subst (λ l. Member o l) empty there)
    ]

    by-writes : (writes : List Write) → x.writes ≡ writes → Same (appended writes (Resolve (name_of m x) (stamped commit durable x.writes)) m.history)
    by-writes [] e = refl
    by-writes (w ∷ writes) e = ap (picked (Resolve (name_of m x) (stamped commit durable x.writes) ∷ m.history) t) (line-writes (name_of m x) (stamped commit durable x.writes) m.history table key)
        ∙ past-writes (name_of m x) (stamped commit durable x.writes) (Resolve (name_of m x) (stamped commit durable x.writes)) m.history t table key low
        (none w (subst (λ l. Member w l) (sym e) (inl refl)))

  quiet-prepare : (writes : List Write) (name : Name) (stamp : ℕ) → Same (appended writes (Prepare name stamp) m.history)
  quiet-prepare [] name stamp = refl
  quiet-prepare (w ∷ writes) name stamp = find-later (Prepare name stamp) m.history t (line m.history table key) low

  quiet-undo : (writes : List Write) (name : Name) → Same (appended writes (Undo name) m.history)
  quiet-undo [] name = refl
  quiet-undo (w ∷ writes) name = find-later (Undo name) m.history t (line m.history table key) low

  prepares : (r stamp : ℕ) (o : Option Transaction) → Same (of_some m (prepared m r stamp) o).history
  prepares r stamp None = refl
  prepares r stamp (Some x) = quiet-prepare x.writes (name_of m x) stamp

  leaves : (r : ℕ) (x : Transaction) (p : Phase) → Same (left p m r x).history
  leaves r x Running = refl
  leaves r x Failed = refl
  leaves r x (Prepared stamp) = quiet-undo x.writes (name_of m x)
  leaves r x Resolving = refl
  leaves r x Leaving = refl

  leaves-at : (r : ℕ) (o : Option Transaction) → Same (of_some m (λ (x : Transaction). left x.phase m r x) o).history
  leaves-at r None = refl
  leaves-at r (Some x) = leaves r x x.phase

  decides : (r commit durable : ℕ) (x : Transaction) → transaction_of m r ≡ Some x → r ≢ s → (Meets m s t table key r x → IsEnding x.phase) → (p : Phase) → x.phase ≡ p → CommitsAt p commit durable → Same (decided p m r commit durable x).history
  decides r commit durable x at another unmet Running is may = commits r commit durable x at is
  decides r commit durable x at another unmet (Prepared p) is may = resolves r p commit durable x at is another may.0 unmet
  decides r commit durable x at another unmet Failed is may = absurd may
  decides r commit durable x at another unmet Resolving is may = absurd may
  decides r commit durable x at another unmet Leaving is may = absurd may

  finishes : (o : Option Checkpoint) → Same (of_some m (finished m) o).history
  finishes None = refl
  finishes (Some c) = refl

  pub reads-go-on : (event : Event) → Allowed m event → IsAnothers s event → ((other : ℕ) (x : Transaction) → Meets m s t table key other x → IsEnding x.phase) → Same (after m event).history
  reads-go-on OpenSession may others unmet = refl
  reads-go-on (BeginAt r read) may others unmet = refl
  reads-go-on (DrawId r) may others unmet = refl
  reads-go-on (AcceptWrite r number k change) may others unmet = refl
  reads-go-on (RefuseWrite r) may others unmet = refl
  reads-go-on (PrepareAt r stamp) may others unmet = prepares r stamp (transaction_of m r)
  reads-go-on (CommitAt r commit durable) may others unmet = subst (λ o. Same (of_some m (λ (x : Transaction). decided x.phase m r commit durable x) o).history) (sym may.1) (decides r commit durable may.0 may.1 others (unmet r may.0) may.0.phase refl may.2)
  reads-go-on (StartLeaving r) may others unmet = leaves-at r (transaction_of m r)
  reads-go-on (EndTransaction r) may others unmet = refl
  reads-go-on (PlaceCursor r cursor position) may others unmet = refl
  reads-go-on (CreateTable new) may others unmet = find-later (Create new) m.history t (line m.history table key) low
  reads-go-on (SetStamps oldest stable) may others unmet = refl
  reads-go-on RollbackToStable may others unmet = let gone = may.0 s in absurd (cc)
  reads-go-on CheckpointStart may others unmet = refl
  reads-go-on CheckpointFinish may others unmet = finishes m.checkpoint
  reads-go-on CheckpointDrop may others unmet = refl
  reads-go-on (GoDown fault) may others unmet = refl
  reads-go-on Nothing may others unmet = refl

-- ---- the line under an update that has not ended

module _ (m : Machine) (s : ℕ) (t : Transaction) (table : ℕ) (key : List ℕ) (v : Valid m) (there : transaction_of m s ≡ Some t) (alive : IsEnding t.phase → ⊥) (own : is_own (own_write t table key) ≡ true) where
  abbrev Held : List Entry → Type 0
  Held history = line history table key ≡ line m.history table key

  commit-apart : (r commit durable : ℕ) (x : Transaction) → transaction_of m r ≡ Some x → (IsEnding x.phase → ⊥) → r ≢ s → (entry : Entry) → (line (entry ∷ m.history) table key ≡ map (version_of (name_of m x)) (filter (writes_at table key) (stamped commit durable x.writes)) ++ line m.history table key)
      → (writes : List Write) → Held (appended writes entry m.history)
  commit-apart r commit durable x at busy another entry is [] = refl
  commit-apart r commit durable x at busy another entry is (w ∷ writes) = is ∙ lines-apart m r x commit durable v at busy s t (λ e. another (sym e)) there alive table key own

  held-prepare : (writes : List Write) (name : Name) (stamp : ℕ) → Held (appended writes (Prepare name stamp) m.history)
  held-prepare [] name stamp = refl
  held-prepare (w ∷ writes) name stamp = refl

  held-undo : (writes : List Write) (name : Name) → Held (appended writes (Undo name) m.history)
  held-undo [] name = refl
  held-undo (w ∷ writes) name = refl

  held-prepares : (r stamp : ℕ) (o : Option Transaction) → Held (of_some m (prepared m r stamp) o).history
  held-prepares r stamp None = refl
  held-prepares r stamp (Some x) = held-prepare x.writes (name_of m x) stamp

  held-leaves : (r : ℕ) (x : Transaction) (p : Phase) → Held (left p m r x).history
  held-leaves r x Running = refl
  held-leaves r x Failed = refl
  held-leaves r x (Prepared stamp) = held-undo x.writes (name_of m x)
  held-leaves r x Resolving = refl
  held-leaves r x Leaving = refl

  held-leaves-at : (r : ℕ) (o : Option Transaction) → Held (of_some m (λ (x : Transaction). left x.phase m r x) o).history
  held-leaves-at r None = refl
  held-leaves-at r (Some x) = held-leaves r x x.phase

  held-decides : (r commit durable : ℕ) (x : Transaction) → transaction_of m r ≡ Some x → r ≢ s → (p : Phase) → x.phase ≡ p → CommitsAt p commit durable → Held (decided p m r commit durable x).history
  held-decides r commit durable x at another Running is may = commit-apart r commit durable x at (λ e. subst IsEnding is e) another (Commit (name_of m x) (stamped commit durable x.writes)) (line-writes (name_of m x) (stamped commit durable x.writes) m.history table key) x.writes
  held-decides r commit durable x at another (Prepared p) is may = commit-apart r commit durable x at (λ e. subst IsEnding is e) another (Resolve (name_of m x) (stamped commit durable x.writes)) (line-writes (name_of m x) (stamped commit durable x.writes) m.history table key) x.writes
  held-decides r commit durable x at another Failed is may = absurd may
  held-decides r commit durable x at another Resolving is may = absurd may
  held-decides r commit durable x at another Leaving is may = absurd may

  held-finishes : (o : Option Checkpoint) → Held (of_some m (finished m) o).history
  held-finishes None = refl
  held-finishes (Some c) = refl

  pub lines-stay : (event : Event) → Allowed m event → IsAnothers s event → Held (after m event).history
  lines-stay OpenSession may others = refl
  lines-stay (BeginAt r read) may others = refl
  lines-stay (DrawId r) may others = refl
  lines-stay (AcceptWrite r number k change) may others = refl
  lines-stay (RefuseWrite r) may others = refl
  lines-stay (PrepareAt r stamp) may others = held-prepares r stamp (transaction_of m r)
  lines-stay (CommitAt r commit durable) may others = subst (λ o. Held (of_some m (λ (x : Transaction). decided x.phase m r commit durable x) o).history) (sym may.1)
      (held-decides r commit durable may.0 may.1 others may.0.phase refl may.2)
  lines-stay (StartLeaving r) may others = held-leaves-at r (transaction_of m r)
  lines-stay (EndTransaction r) may others = refl
  lines-stay (PlaceCursor r cursor position) may others = refl
  lines-stay (CreateTable new) may others = refl
  lines-stay (SetStamps oldest stable) may others = refl
  lines-stay RollbackToStable may others = let gone = may.0 s in absurd (cc)
  lines-stay CheckpointStart may others = refl
  lines-stay CheckpointFinish may others = held-finishes m.checkpoint
  lines-stay CheckpointDrop may others = refl
  lines-stay (GoDown fault) may others = refl
  lines-stay Nothing may others = refl
