-- Commits and rollbacks keep a machine valid.
use Rattle.std.proofs.Common.{◌≡◌, ◌≢◌, ◌<◌, ◌≤◌, ℕ, refl, ap, sym, ◌∙◌, true, false, List, [], ◌∷◌, ◌++◌, length, inl, inr, subst, arith, map}
use Rattle.std.specs.Prelude.{Option, Some, None, slice_set, filter}
use Rattle.std.proofs.lemmas.Bool.{cases_Bool}
use Rattle.item.specs.declared.Change.{Change}
use Rattle.stamp.specs.declared.Version.{Version}
use Rattle.kv_model.specs.Holds.{Member}
use Rattle.kv_model.specs.Ordered.{Under, Follows}
use Rattle.kv_model.specs.History.{Entry, Commit, Resolve, Undo, Write, line, released, tables, has_table, version_of, writes_at}
use Rattle.kv_model.specs.Machine.{Machine, Transaction, Phase, Running, Failed, Prepared, Resolving, Leaving, transaction_of, name_in, with_transaction, without_transaction, no_cursors, after, of_some, in_phase, decided, left, appended, stamped, CommitAt, StartLeaving}
use Rattle.kv_model.specs.Reads.{own_write, is_own, IsEnding}
use Rattle.kv_model.specs.Allowed.{CommitsAt}
use Rattle.kv_model.specs.Valid.{Valid, ValidTransaction, PhaseStands, PreparedStands, NoRollbackSince}
use Rattle.kv_model.proofs.Ordering.{line-writes}
use Rattle.kv_model.proofs.Releases.{released-whole, released-mono, released-later, unreleased}
use Rattle.kv_model.proofs.Growing.{is-released-older, table-older}
use Rattle.kv_model.proofs.Seats.{beside-none, beside-kin, seat-inside}
use Rattle.kv_model.proofs.Cursors.{cursors-taken, cursors-left}
use Rattle.kv_model.proofs.OwnWrites.{filter-unwritten, stamped-at, member-stamped, stamped-single, stamped-own}
use Rattle.kv_model.proofs.Beginning.{replaced, valid-end}
use Rattle.kv_model.proofs.Writing.{rephased, running-busy}
use Rattle.kv_model.proofs.Releasing.{drawn-by-write, Extends, extended, fresh-in, never-committed}

-- the writes of a transaction that is not ending follow the history
pub follows-own : (m : Machine) (s : ℕ) (t : Transaction) (commit durable : ℕ) → Valid m → transaction_of m s ≡ Some t → (IsEnding t.phase → ⊥) → 0 < t.id → commit ≤ durable
    → ((n : ℕ) → released m.history n (name_in m.run t) ≡ true → t.start ≤ n) → Follows (name_in m.run t) (stamped commit durable t.writes) m.history
follows-own m s t commit durable v there busy drawn le later = record {
  single = λ table key. stamped-single commit durable table key t.writes (own_write t table key) (old.single table key);
  above = λ table key w of x at. under x (old.above busy table key (stamped-own commit durable table key t.writes (old.single table key) w of) x at);
  stamps = λ w at. let o = member-stamped commit durable t.writes w at in subst (λ (z : Write). z.commit ≤ z.durable) (sym o.2) le;
  placed = λ w at. let o = member-stamped commit durable t.writes w at in subst (λ (z : Write). has_table (tables m.history) z.table ≡ true) (sym o.2) (old.placed o.0 o.1);
} where
  old : ValidTransaction m.run m.next m.history t
  old = v.sessions.each s t there

  under : (x : Version Change) → released m.history t.start x.window.name ≡ true → Under (name_in m.run t) m.history x
  under x seen = record {
    below = elim (v.names x.window.name (released-whole m.history t.start x.window.name seen)) [ inl earlier ↦ inl earlier | inr now ↦ inr (now.0, old.sight x.window.name seen now.0 drawn) ];
    sooner = λ n e. released-mono m.history t.start n x.window.name (later n e) seen;
    whole = released-whole m.history t.start x.window.name seen;
  }

-- the lines of the keys that others hold stay
pub lines-apart : (m : Machine) (s : ℕ) (t : Transaction) (commit durable : ℕ) → Valid m → transaction_of m s ≡ Some t → (IsEnding t.phase → ⊥)
    → (r : ℕ) (x : Transaction) → r ≢ s → transaction_of m r ≡ Some x → (IsEnding x.phase → ⊥) → (table : ℕ) (key : List ℕ) → is_own (own_write x table key) ≡ true
    → map (version_of (name_in m.run t)) (filter (writes_at table key) (stamped commit durable t.writes)) ++ line m.history table key ≡ line m.history table key
lines-apart m s t commit durable v there busy r x other at alive table key own = elim (cases_Bool (is_own (own_write t table key))) [
  | inl mine ↦ elim (v.sessions.apart r s x t table key at there other own mine) [ inl a ↦ absurd (alive a) | inr b ↦ absurd (busy b) ]
  | inr not ↦ ap (λ l. map (version_of (name_in m.run t)) l ++ line m.history table key) (stamped-at commit durable table key t.writes ∙ ap (stamped commit durable) (filter-unwritten table key t.writes ((v.sessions.each s t there).single table key) not))
]

valid-commit-running : (m : Machine) (s commit durable : ℕ) (t : Transaction) → Valid m → transaction_of m s ≡ Some t → t.phase ≡ Running → commit ≡ durable → Valid (decided Running m s commit durable t)
valid-commit-running m s commit durable t v there running stamps = by-writes t.writes refl where
  old : ValidTransaction m.run m.next m.history t
  old = v.sessions.each s t there

  none : released m.history (length m.history) (name_in m.run t) ≡ false
  none = subst (λ p. PhaseStands p m.history (name_in m.run t) t) running old.phase

  full : (w : Write) (writes : List Write) → t.writes ≡ w ∷ writes
      → Valid (record m { history = Commit (name_in m.run t) (stamped commit durable t.writes) ∷ m.history; sessions = slice_set m.sessions s None; cursors = slice_set m.cursors s no_cursors })
  full w writes is = let drawn = drawn-by-write m.run m.next m.history t w writes old is in
      extended m s t None (slice_set m.cursors s no_cursors) (Commit (name_in m.run t) (stamped commit durable t.writes)) v there drawn
      (record {
        orderly = (follows-own m s t commit durable v there (running-busy t running) drawn (omega arith) (λ n e. absurd (unreleased m.history n (name_in m.run t) none e)), v.orderly);
        release = λ x e. e;
        commit = λ x e. e;
        lines = λ r x other at alive table key own. line-writes (name_in m.run t) (stamped commit durable t.writes) m.history table key ∙ lines-apart m s t commit durable v there (running-busy t running) r x other at alive table key own;
        kept = λ n k. k;
        may = λ news start whole. fresh-in m.history news start (name_in m.run t) (never-committed m t v none) whole;
      })
      (λ u is. let gone : None ≡ Some u = is in absurd (cc))
      (beside-none m.sessions s)
      (cursors-left m.sessions m.cursors s (seat-inside m.sessions s t there) v.cursors)

  by-writes : (writes : List Write) → t.writes ≡ writes → Valid (record (without_transaction m s) { history = appended t.writes (Commit (name_in m.run t) (stamped commit durable t.writes)) m.history })
  by-writes [] is = subst (λ l. Valid (record (without_transaction m s) { history = appended l (Commit (name_in m.run t) (stamped commit durable t.writes)) m.history })) (sym is) (valid-end m s t v there)
  by-writes (w ∷ writes) is = subst (λ l. Valid (record (without_transaction m s) { history = appended l (Commit (name_in m.run t) (stamped commit durable t.writes)) m.history })) (sym is) (full w writes is)

prepared-busy : (p : ℕ) (t : Transaction) → t.phase ≡ Prepared p → IsEnding t.phase → ⊥
prepared-busy p t is e = subst IsEnding is e

-- of a prepared transaction: what it leaves where it wrote nothing
resolving-empty : (m : Machine) (s p : ℕ) (t : Transaction) → Valid m → transaction_of m s ≡ Some t → t.phase ≡ Prepared p → t.writes ≡ [] → Valid (with_transaction m s (Some (in_phase Resolving t)))
resolving-empty m s p t v there is empty = replaced m s t (in_phase Resolving t) v there refl refl (λ e. absurd (prepared-busy p t is e))
    (rephased m.run m.next m.history t Resolving (v.sessions.each s t there) (λ b e. b tt) (subst (λ q. PhaseStands q m.history (name_in m.run t) t) is (v.sessions.each s t there).phase).released)

-- and with one more entry
resolving-now : (m : Machine) (s p : ℕ) (t : Transaction) (entry : Entry) (w : Write) (writes : List Write) → Valid m → transaction_of m s ≡ Some t → t.phase ≡ Prepared p → t.writes ≡ w ∷ writes → ((n : ℕ) → NoRollbackSince n m.history → NoRollbackSince n (entry ∷ m.history)) → ValidTransaction m.run m.next (entry ∷ m.history) (in_phase Resolving t)
resolving-now m s p t entry w writes v there is some keeps = record {
  id = old.id;
  start = (let low = old.start in omega arith);
  kept = keeps t.start old.kept;
  sight = λ x e. old.sight x (sym (released-later entry m.history t.start x old.start) ∙ e);
  undrawn = old.undrawn;
  single = old.single;
  placed = λ o at. table-older entry m.history o.table (old.placed o at);
  above = λ busy table key own x at. absurd (busy tt);
  phase = is-released-older entry m.history (name_in m.run t) t (λ e. let both = sym some ∙ e in absurd (cc)) (subst (λ q. PhaseStands q m.history (name_in m.run t) t) is old.phase).released;
} where
  old : ValidTransaction m.run m.next m.history t
  old = v.sessions.each s t there

resolved : (m : Machine) (s p : ℕ) (t : Transaction) (entry : Entry) (w : Write) (writes : List Write) → Valid m → transaction_of m s ≡ Some t → t.phase ≡ Prepared p → t.writes ≡ w ∷ writes → Extends m s t entry
    → Valid (record m { history = entry ∷ m.history; sessions = slice_set m.sessions s (Some (in_phase Resolving t)); cursors = m.cursors })
resolved m s p t entry w writes v there is some x = extended m s t (Some (in_phase Resolving t)) m.cursors entry v there (drawn-by-write m.run m.next m.history t w writes (v.sessions.each s t there) some) x
    (λ u e. let same : in_phase Resolving t ≡ u = cc in subst (λ z. ValidTransaction m.run m.next (entry ∷ m.history) z) same (resolving-now m s p t entry w writes v there is some x.kept))
    (beside-kin m.run m.next m.history m.sessions s t (in_phase Resolving t) v.sessions there refl refl (λ e. absurd (prepared-busy p t is e)))
    (cursors-taken m.sessions m.cursors s (in_phase Resolving t) (seat-inside m.sessions s t there) v.cursors)

valid-commit-prepared : (m : Machine) (s p commit durable : ℕ) (t : Transaction) → Valid m → transaction_of m s ≡ Some t → t.phase ≡ Prepared p → commit ≤ durable → Valid (decided (Prepared p) m s commit durable t)
valid-commit-prepared m s p commit durable t v there is le = by-writes t.writes refl where
  old : ValidTransaction m.run m.next m.history t
  old = v.sessions.each s t there

  stands : PreparedStands p m.history (name_in m.run t) t
  stands = subst (λ q. PhaseStands q m.history (name_in m.run t) t) is old.phase

  full : (w : Write) (writes : List Write) → t.writes ≡ w ∷ writes
      → Valid (record m { history = Resolve (name_in m.run t) (stamped commit durable t.writes) ∷ m.history; sessions = slice_set m.sessions s (Some (in_phase Resolving t)); cursors = m.cursors })
  full w writes some = let drawn = drawn-by-write m.run m.next m.history t w writes old some in
      resolved m s p t (Resolve (name_in m.run t) (stamped commit durable t.writes)) w writes v there is some (record {
        orderly = ((follows-own m s t commit durable v there (prepared-busy p t is) drawn le stands.later, stands.released.writes w (subst (λ l. Member w l) (sym some) (inl refl))), v.orderly);
        release = λ x e. absurd (cc);
        commit = λ x e. e;
        lines = λ r x other at alive table key own. line-writes (name_in m.run t) (stamped commit durable t.writes) m.history table key ∙ lines-apart m s t commit durable v there (prepared-busy p t is) r x other at alive table key own;
        kept = λ n k. k;
        may = λ news start whole. fresh-in m.history news start (name_in m.run t) stands.uncommitted whole;
      })

  by-writes : (writes : List Write) → t.writes ≡ writes → Valid (record (with_transaction m s (Some (in_phase Resolving t))) { history = appended t.writes (Resolve (name_in m.run t) (stamped commit durable t.writes)) m.history })
  by-writes [] empty = subst (λ l. Valid (record (with_transaction m s (Some (in_phase Resolving t))) { history = appended l (Resolve (name_in m.run t) (stamped commit durable t.writes)) m.history })) (sym empty) (resolving-empty m s p t v there is empty)
  by-writes (w ∷ writes) some = subst (λ l. Valid (record (with_transaction m s (Some (in_phase Resolving t))) { history = appended l (Resolve (name_in m.run t) (stamped commit durable t.writes)) m.history })) (sym some) (full w writes some)

pub valid-commit : (m : Machine) (s commit durable : ℕ) (t : Transaction) → Valid m → transaction_of m s ≡ Some t → CommitsAt t.phase commit durable → Valid (after m (CommitAt s commit durable))
valid-commit m s commit durable t v there at = subst (λ o. Valid (of_some m (λ (x : Transaction). decided x.phase m s commit durable x) o)) (sym there) (by-phase t.phase refl at) where
  by-phase : (p : Phase) → t.phase ≡ p → CommitsAt p commit durable → Valid (decided t.phase m s commit durable t)
  by-phase Running is at = subst (λ q. Valid (decided q m s commit durable t)) (sym is) (valid-commit-running m s commit durable t v there is at)
  by-phase (Prepared p) is at = subst (λ q. Valid (decided q m s commit durable t)) (sym is) (valid-commit-prepared m s p commit durable t v there is at.1)
  by-phase Failed is at = absurd at
  by-phase Resolving is at = absurd at
  by-phase Leaving is at = absurd at

-- ---- rollback

valid-undo : (m : Machine) (s p : ℕ) (t : Transaction) → Valid m → transaction_of m s ≡ Some t → t.phase ≡ Prepared p → Valid (left (Prepared p) m s t)
valid-undo m s p t v there is = by-writes t.writes refl where
  full : (w : Write) (writes : List Write) → t.writes ≡ w ∷ writes → Valid (record m { history = Undo (name_in m.run t) ∷ m.history; sessions = slice_set m.sessions s (Some (in_phase Resolving t)); cursors = m.cursors })
  full w writes some = resolved m s p t (Undo (name_in m.run t)) w writes v there is some (record {
    orderly = v.orderly;
    release = λ x e. absurd (cc);
    commit = λ x e. absurd (cc);
    lines = λ r x other at alive table key own. refl;
    kept = λ n k. k;
    may = λ news start whole. tt;
  })

  by-writes : (writes : List Write) → t.writes ≡ writes → Valid (record (with_transaction m s (Some (in_phase Resolving t))) { history = appended t.writes (Undo (name_in m.run t)) m.history })
  by-writes [] empty = subst (λ l. Valid (record (with_transaction m s (Some (in_phase Resolving t))) { history = appended l (Undo (name_in m.run t)) m.history })) (sym empty) (resolving-empty m s p t v there is empty)
  by-writes (w ∷ writes) some = subst (λ l. Valid (record (with_transaction m s (Some (in_phase Resolving t))) { history = appended l (Undo (name_in m.run t)) m.history })) (sym some) (full w writes some)

leaving : (m : Machine) (s : ℕ) (t : Transaction) → Valid m → transaction_of m s ≡ Some t → released m.history (length m.history) (name_in m.run t) ≡ false → Valid (with_transaction m s (Some (in_phase Leaving t)))
leaving m s t v there none = replaced m s t (in_phase Leaving t) v there refl refl (λ e. tt)
    (rephased m.run m.next m.history t Leaving (v.sessions.each s t there) (λ b e. b tt) none)

pub valid-leave : (m : Machine) (s : ℕ) → Valid m → Valid (after m (StartLeaving s))
valid-leave m s v = by-seat (transaction_of m s) refl where
  by-phase : (t : Transaction) (p : Phase) → transaction_of m s ≡ Some t → t.phase ≡ p → Valid (left p m s t)
  by-phase t Running there is = leaving m s t v there (subst (λ q. PhaseStands q m.history (name_in m.run t) t) is (v.sessions.each s t there).phase)
  by-phase t Failed there is = leaving m s t v there (subst (λ q. PhaseStands q m.history (name_in m.run t) t) is (v.sessions.each s t there).phase)
  by-phase t (Prepared p) there is = valid-undo m s p t v there is
  by-phase t Resolving there is = v
  by-phase t Leaving there is = leaving m s t v there (subst (λ q. PhaseStands q m.history (name_in m.run t) t) is (v.sessions.each s t there).phase)

  by-seat : (o : Option Transaction) → transaction_of m s ≡ o → Valid (of_some m (λ (x : Transaction). left x.phase m s x) (transaction_of m s))
  by-seat None there = subst (λ o. Valid (of_some m (λ (x : Transaction). left x.phase m s x) o)) (sym there) v
  by-seat (Some t) there = subst (λ o. Valid (of_some m (λ (x : Transaction). left x.phase m s x) o)) (sym there) (by-phase t t.phase there refl)
