-- A chain goes on to stand for its key at every event that leaves the key alone.
use Rattle.std.proofs.Common.{◌≡◌, ◌≢◌, ◌<◌, ℕ, refl, ap, sym, ◌∙◌, true, false, List, [], ◌∷◌, ◌++◌, inl, inr, subst, map, arith}
use Rattle.std.specs.Prelude.{Option, Some, None, length, filter, slice_set, slice_index_or, option_map, ◌+◌, if◌then◌else◌}
use Rattle.std.proofs.lemmas.Bool.{cases_Bool, both_ways, eq-eqb}
use Rattle.std.proofs.lemmas.List.{get_or-set_same, get_or-set_other}
use Rattle.item.specs.declared.Change.{Change}
use Rattle.stamp.specs.declared.Name.{Name}
use Rattle.kv_model.specs.Holds.{Member}
use Rattle.kv_model.specs.History.{Entry, Commit, Prepare, Resolve, Undo, Rts, Write, line, version_of, writes_at, releases, name_eq, committed}
use Rattle.kv_model.specs.Machine.{Machine, Transaction, Phase, Running, Failed, Prepared, Resolving, Leaving, Checkpoint, Event, transaction_of, name_of, after, of_some, begun, in_phase, written, unstamped, prepared, decided, left, appended, stamped, finished, OpenSession, BeginAt, DrawId, AcceptWrite, RefuseWrite, PrepareAt, CommitAt, StartLeaving, EndTransaction, PlaceCursor, CreateTable, SetStamps, RollbackToStable, CheckpointStart, CheckpointFinish, CheckpointDrop, GoDown, Nothing}
use Rattle.kv_model.specs.Reads.{own_write, is_own, Wrote, IsEnding, PreparedAt}
use Rattle.kv_model.specs.Allowed.{Allowed, CommitsAt}
use Rattle.kv_model.specs.Valid.{Valid, PhaseStands, PreparedStands}
use Rattle.kv_model.specs.Pending.{MarkStands, BelowStands}
use Rattle.kv_model.proofs.Beginning.{append-none}
use Rattle.kv_model.proofs.Releases.{false-from, name_eq-same}
use Rattle.kv_model.proofs.Releasing.{drawn-by-write}
use Rattle.kv_model.proofs.Ordering.{line-writes}
use Rattle.kv_model.proofs.OwnWrites.{at-parts, find-joined-other, filter-unwritten, stamped-at}
use Rattle.kv_model.proofs.Finishing.{line-committed}
use Rattle.kv_model.proofs.Meetings.{appended-either}
use Rattle.update_chain.specs.EventLaws.{ChainsGoOn, LeavesAlone, DidNotWrite}
use Rattle.update_chain.proofs.Meeting.{has-writes}
use Rattle.update_chain.proofs.Tops.{unresolved-rest}
use Rattle.update_chain.proofs.Carrying.{Follows, Quiet, quiet-stands, Remembers, all-quiet, OthersSame, silent, follower, taken}

-- ---- the entries of others

-- an entry that this transaction releases its name with, or none
abbrev pub IsOf : Entry → Name → Type 0
IsOf entry x = (y : Name) → releases entry y ≡ true → name_eq x y ≡ true

remembers-entry : (entry : Entry) (history : List Entry) (x : Name) → releases entry x ≡ false → Remembers history (entry ∷ history) x
remembers-entry entry history x none stamp at = inr (none, at)

-- no other transaction's prepare is forgotten
pub remembers-others : (m : Machine) (s : ℕ) (t : Transaction) (entry : Entry) → Valid m → transaction_of m s ≡ Some t → IsOf entry (name_of m t) → (r : ℕ) (x : Transaction) → r ≢ s → transaction_of m r ≡ Some x
    → Remembers m.history (appended t.writes entry m.history) (name_of m x)
remembers-others m s t entry v there of r x other at =
    appended-either (λ h. Remembers m.history h (name_of m x)) t.writes entry m.history (λ stamp old. old)
    (λ w has. remembers-entry entry m.history (name_of m x) (false-from (releases entry (name_of m x)) (λ e.
    v.sessions.distinct s r t x there at (λ q. other (sym q)) (drawn w has) (name_eq-same (name_of m t) (name_of m x) (of (name_of m x) e)).1))) where
      drawn : (w : Write) → Member w t.writes → 0 < t.id
      drawn w has = by-writes t.writes refl has where
        by-writes : (writes : List Write) → t.writes ≡ writes → Member w writes → 0 < t.id
        by-writes [] is has = absurd has
        by-writes (o ∷ writes) is has = drawn-by-write m.run m.next m.history t o writes (v.sessions.each s t there) is

-- the writes of a transaction that did not write the key
pub none-of-key : (m : Machine) (s commit durable : ℕ) (t : Transaction) (table : ℕ) (key : List ℕ) → Valid m → transaction_of m s ≡ Some t → is_own (own_write t table key) ≡ false
    → map (version_of (name_of m t)) (filter (writes_at table key) (stamped commit durable t.writes)) ++ line m.history table key ≡ line m.history table key
none-of-key m s commit durable t table key v there none =
    ap (λ l. map (version_of (name_of m t)) l ++ line m.history table key) (stamped-at commit durable table key t.writes ∙ ap (stamped commit durable) (filter-unwritten table key t.writes ((v.sessions.each s t there).single table key) none))

-- ---- one session's transaction

-- one seat alone, over this history
seat-alone : (m next : Machine) (s : ℕ) (o : Option Transaction) (table : ℕ) (key : List ℕ) → next.run ≡ m.run → ((r : ℕ) → transaction_of next r ≡ slice_index_or (slice_set m.sessions s o) r None) → line next.history table key ≡ line m.history table key
    → ((r : ℕ) (x : Transaction) → r ≢ s → transaction_of m r ≡ Some x → Remembers m.history next.history (name_of m x)) → OthersSame m next s table key
seat-alone m next s o table key run seats lines known = record {
  run = run;
  lines = lines;
  seats = λ r other. seats r ∙ get_or-set_other m.sessions s r o None other;
  known = known;
}

unwritten-own : (m : Machine) (s : ℕ) (t : Transaction) (table : ℕ) (key : List ℕ) → transaction_of m s ≡ Some t → DidNotWrite m s table key → is_own (own_write t table key) ≡ false
unwritten-own m s t table key there none = false-from (is_own (own_write t table key)) (λ own. none t (there, own))

-- it is gone, or is another one that did not write the key
nobody-wrote : (next : Machine) (s : ℕ) (table : ℕ) (key : List ℕ) → transaction_of next s ≡ None → (u : Transaction) → Wrote next s table key u → ⊥
nobody-wrote next s table key gone u wrote = let e : None ≡ Some u = sym gone ∙ wrote.0 in cc

one-did-not : (next : Machine) (s : ℕ) (x : Transaction) (table : ℕ) (key : List ℕ) → transaction_of next s ≡ Some x → is_own (own_write x table key) ≡ false → (u : Transaction) → Wrote next s table key u → ⊥
one-did-not next s x table key now none u wrote = let same : x ≡ u = (let e : Some x ≡ Some u = sym now ∙ wrote.0 in cc) in
    both_ways (is_own (own_write x table key)) none (subst (λ z. is_own (own_write z table key) ≡ true) (sym same) wrote.1)

-- ---- each event

quiet-begin : (m : Machine) (s read : ℕ) (table : ℕ) (key : List ℕ) → transaction_of m s ≡ None → s < length m.sessions → Quiet m (after m (BeginAt s read)) table key
quiet-begin m s read table key empty inside = silent m (after m (BeginAt s read)) s table key
    (seat-alone m (after m (BeginAt s read)) s (Some (begun m read)) table key refl (λ r. refl) refl (λ r x other at stamp old. old))
    (nobody-wrote m s table key empty)
    (one-did-not (after m (BeginAt s read)) s (begun m read) table key (get_or-set_same m.sessions s (Some (begun m read)) None inside) refl)

-- a change of the transaction in hand
quiet-change : (m : Machine) (s next : ℕ) (change : Transaction → Transaction) (t : Transaction) (table : ℕ) (key : List ℕ) → transaction_of m s ≡ Some t
    → Follows m (record m { sessions = slice_set m.sessions s (Some (change t)); next = next }) table key t (change t)
    → Quiet m (record m { sessions = slice_set m.sessions s (option_map change (transaction_of m s)); next = next }) table key
quiet-change m s next change t table key there f = subst (λ o. Quiet m (record m { sessions = slice_set m.sessions s (option_map change o); next = next }) table key) (sym there)
    (follower m (record m { sessions = slice_set m.sessions s (Some (change t)); next = next }) s t (change t) table key
    (seat-alone m (record m { sessions = slice_set m.sessions s (Some (change t)); next = next }) s (Some (change t)) table key refl (λ r. refl) refl (λ r x other at stamp old. old))
    there (taken m s t (Some (change t)) there) f)

abbrev drawing : ℕ → Transaction → Transaction
drawing id t = record t { id = id }

quiet-draw : (m : Machine) (s : ℕ) (t : Transaction) (table : ℕ) (key : List ℕ) → Valid m → transaction_of m s ≡ Some t → t.id ≡ 0 → Quiet m (after m (DrawId s)) table key
quiet-draw m s t table key v there none = subst (λ o. Quiet m (record m { sessions = slice_set m.sessions s (option_map (drawing m.next) o); next = m.next + 1 }) table key) (sym there)
    (silent m next s table key
    (seat-alone m next s (Some (drawing m.next t)) table key refl (λ r. refl) refl (λ r x other at stamp old. old))
    (one-did-not m s t table key there unwritten)
    (one-did-not next s (drawing m.next t) table key (taken m s t (Some (drawing m.next t)) there) unwritten)) where
      next : Machine
      next = record m { sessions = slice_set m.sessions s (Some (drawing m.next t)); next = m.next + 1 }

      unwritten : is_own (own_write t table key) ≡ false
      unwritten = ap (λ l. is_own (own_write (record t { writes = l }) table key)) ((v.sessions.each s t there).undrawn none)

quiet-write : (m : Machine) (s : ℕ) (t : Transaction) (number : ℕ) (other : List ℕ) (change : Change) (table : ℕ) (key : List ℕ) → transaction_of m s ≡ Some t → (number ≡ table → other ≡ key → ⊥)
    → Quiet m (after m (AcceptWrite s number other change)) table key
quiet-write m s t number other change table key there apart = quiet-change m s m.next (written number other change) t table key there (record {
  name = refl;
  own = find-joined-other (unstamped number other change) t.writes table key (false-from (writes_at table key (unstamped number other change)) (λ e. let p = at-parts table key (unstamped number other change) e in apart p.0 p.1));
  ending = λ e. e;
  mark = λ x mark. mark;
  rest = λ x below rest. rest;
})

quiet-refuse : (m : Machine) (s : ℕ) (t : Transaction) (table : ℕ) (key : List ℕ) → transaction_of m s ≡ Some t → t.phase ≡ Running → Quiet m (after m (RefuseWrite s)) table key
quiet-refuse m s t table key there running = quiet-change m s m.next (in_phase Failed) t table key there (record {
  name = refl;
  own = refl;
  ending = λ e. absurd (subst IsEnding running e);
  mark = λ x mark. tt;
  rest = λ x below rest. subst (λ p. BelowStands p (name_of m t) x (line m.history table key) below) running rest;
})

is-prepare : (x : Name) (stamp : ℕ) → IsOf (Prepare x stamp) x
is-prepare x stamp y e = e

is-commit : (x : Name) (writes : List Write) → IsOf (Commit x writes) x
is-commit x writes y e = e

is-resolve : (x : Name) (writes : List Write) → IsOf (Resolve x writes) x
is-resolve x writes y e = absurd (cc)

is-undo : (x : Name) → IsOf (Undo x) x
is-undo x y e = absurd (cc)

quiet-prepare : (m : Machine) (s stamp : ℕ) (t : Transaction) (table : ℕ) (key : List ℕ) → Valid m → transaction_of m s ≡ Some t → DidNotWrite m s table key → Quiet m (prepared m s stamp t) table key
quiet-prepare m s stamp t table key v there none = silent m (prepared m s stamp t) s table key
    (seat-alone m (prepared m s stamp t) s (Some (in_phase (Prepared stamp) t)) table key refl (λ r. refl)
    (appended-either (λ h. line h table key ≡ line m.history table key) t.writes (Prepare (name_of m t) stamp) m.history refl (λ w has. refl))
    (remembers-others m s t (Prepare (name_of m t) stamp) v there (is-prepare (name_of m t) stamp)))
    none (one-did-not (prepared m s stamp t) s (in_phase (Prepared stamp) t) table key (taken m s t (Some (in_phase (Prepared stamp) t)) there) (unwritten-own m s t table key there none))

quiet-commit : (m : Machine) (s commit durable : ℕ) (t : Transaction) (table : ℕ) (key : List ℕ) → Valid m → transaction_of m s ≡ Some t → DidNotWrite m s table key → Quiet m (decided Running m s commit durable t) table key
quiet-commit m s commit durable t table key v there none = silent m (decided Running m s commit durable t) s table key
    (seat-alone m (decided Running m s commit durable t) s None table key refl (λ r. refl)
    (appended-either (λ h. line h table key ≡ line m.history table key) t.writes (Commit (name_of m t) (stamped commit durable t.writes)) m.history refl
    (λ w has. line-writes (name_of m t) (stamped commit durable t.writes) m.history table key ∙ none-of-key m s commit durable t table key v there (unwritten-own m s t table key there none)))
    (remembers-others m s t (Commit (name_of m t) (stamped commit durable t.writes)) v there (is-commit (name_of m t) (stamped commit durable t.writes))))
    none (nobody-wrote (decided Running m s commit durable t) s table key (taken m s t None there))

quiet-resolve : (m : Machine) (s p commit durable : ℕ) (t : Transaction) (table : ℕ) (key : List ℕ) → Valid m → transaction_of m s ≡ Some t → DidNotWrite m s table key → Quiet m (decided (Prepared p) m s commit durable t) table key
quiet-resolve m s p commit durable t table key v there none = silent m (decided (Prepared p) m s commit durable t) s table key
    (seat-alone m (decided (Prepared p) m s commit durable t) s (Some (in_phase Resolving t)) table key refl (λ r. refl)
    (appended-either (λ h. line h table key ≡ line m.history table key) t.writes (Resolve (name_of m t) (stamped commit durable t.writes)) m.history refl
    (λ w has. line-writes (name_of m t) (stamped commit durable t.writes) m.history table key ∙ none-of-key m s commit durable t table key v there (unwritten-own m s t table key there none)))
    (remembers-others m s t (Resolve (name_of m t) (stamped commit durable t.writes)) v there (is-resolve (name_of m t) (stamped commit durable t.writes))))
    none (one-did-not (decided (Prepared p) m s commit durable t) s (in_phase Resolving t) table key (taken m s t (Some (in_phase Resolving t)) there) (unwritten-own m s t table key there none))

quiet-decided : (m : Machine) (s commit durable : ℕ) (t : Transaction) (p : Phase) (table : ℕ) (key : List ℕ) → Valid m → transaction_of m s ≡ Some t → CommitsAt p commit durable → DidNotWrite m s table key → Quiet m (decided p m s commit durable t) table key
quiet-decided m s commit durable t Running table key v there may none = quiet-commit m s commit durable t table key v there none
quiet-decided m s commit durable t (Prepared p) table key v there may none = quiet-resolve m s p commit durable t table key v there none
quiet-decided m s commit durable t Failed table key v there may none = absurd may
quiet-decided m s commit durable t Resolving table key v there may none = absurd may
quiet-decided m s commit durable t Leaving table key v there may none = absurd may

quiet-end : (m : Machine) (s : ℕ) (t : Transaction) (table : ℕ) (key : List ℕ) → transaction_of m s ≡ Some t → DidNotWrite m s table key → Quiet m (after m (EndTransaction s)) table key
quiet-end m s t table key there none = silent m (after m (EndTransaction s)) s table key
    (seat-alone m (after m (EndTransaction s)) s None table key refl (λ r. refl) refl (λ r x other at stamp old. old))
    none (nobody-wrote (after m (EndTransaction s)) s table key (taken m s t None there))

-- ---- the first event of a rollback

-- of a transaction that was not prepared
quiet-leave : (m : Machine) (s : ℕ) (t : Transaction) (table : ℕ) (key : List ℕ) → transaction_of m s ≡ Some t → (t.phase ≡ Resolving → ⊥) → Quiet m (left Leaving m s t) table key
quiet-leave m s t table key there unresolved = follower m (left Leaving m s t) s t (in_phase Leaving t) table key
    (seat-alone m (left Leaving m s t) s (Some (in_phase Leaving t)) table key refl (λ r. refl) refl (λ r x other at stamp old. old))
    there (taken m s t (Some (in_phase Leaving t)) there) (record {
      name = refl;
      own = refl;
      ending = λ e. tt;
      mark = λ x mark. tt;
      rest = λ x below rest. unresolved-rest t.phase (name_of m t) x (line m.history table key) below unresolved rest;
    })

-- of a prepared one, whose name is in no line
quiet-undo : (m : Machine) (s p : ℕ) (t : Transaction) (table : ℕ) (key : List ℕ) → Valid m → transaction_of m s ≡ Some t → t.phase ≡ Prepared p → Quiet m (left (Prepared p) m s t) table key
quiet-undo m s p t table key v there is = elim (cases_Bool (is_own (own_write t table key))) [
  | inl own ↦ follower m (left (Prepared p) m s t) s t (in_phase Resolving t) table key others there now (follows own)
  | inr none ↦ silent m (left (Prepared p) m s t) s table key others (one-did-not m s t table key there none) (one-did-not (left (Prepared p) m s t) s (in_phase Resolving t) table key now none)
] where
  now : transaction_of (left (Prepared p) m s t) s ≡ Some (in_phase Resolving t)
  now = taken m s t (Some (in_phase Resolving t)) there

  others : OthersSame m (left (Prepared p) m s t) s table key
  others = seat-alone m (left (Prepared p) m s t) s (Some (in_phase Resolving t)) table key refl (λ r. refl)
      (appended-either (λ h. line h table key ≡ line m.history table key) t.writes (Undo (name_of m t)) m.history refl (λ w has. refl))
      (remembers-others m s t (Undo (name_of m t)) v there (is-undo (name_of m t)))

  stands : PreparedStands p m.history (name_of m t) t
  stands = subst (λ q. PhaseStands q m.history (name_of m t) t) is (v.sessions.each s t there).phase

  follows : is_own (own_write t table key) ≡ true → Follows m (left (Prepared p) m s t) table key t (in_phase Resolving t)
  follows own = by-own (own_write t table key) refl own where
    by-own : (o : Option Write) → own_write t table key ≡ o → is_own o ≡ true → Follows m (left (Prepared p) m s t) table key t (in_phase Resolving t)
    by-own None none own = absurd (cc)
    by-own (Some w) wrote own = record {
      name = refl;
      own = refl;
      ending = λ e. tt;
      mark = λ x mark. let here : x.prepared ≡ p = subst (λ q. MarkStands q m.history (name_of m t) x) is mark in (
        (let low = stands.marked in omega arith),
        appended-either (λ h. PreparedAt h (name_of m t) x.prepared) t.writes (Undo (name_of m t)) m.history
            (subst (PreparedAt m.history (name_of m t)) (sym here) (stands.prepared (has-writes t table key w wrote).0 (has-writes t table key w wrote).1))
            (λ o has. inr (refl, subst (PreparedAt m.history (name_of m t)) (sym here) (stands.prepared o has))),
      );
      rest = λ x below rest. inl (
        subst (λ q. BelowStands q (name_of m t) x (line m.history table key) below) is rest,
        λ z at named. both_ways (committed m.history (length m.history) (name_of m t)) stands.uncommitted (subst (λ n. committed m.history (length m.history) n ≡ true) named (line-committed m.history table key z at)),
      );
    }

quiet-left : (m : Machine) (s : ℕ) (t : Transaction) (p : Phase) (table : ℕ) (key : List ℕ) → Valid m → transaction_of m s ≡ Some t → t.phase ≡ p → Quiet m (left p m s t) table key
quiet-left m s t Running table key v there is = quiet-leave m s t table key there (λ e. let both = sym is ∙ e in cc)
quiet-left m s t Failed table key v there is = quiet-leave m s t table key there (λ e. let both = sym is ∙ e in cc)
quiet-left m s t (Prepared p) table key v there is = quiet-undo m s p t table key v there is
quiet-left m s t Resolving table key v there is = all-quiet m m table key refl refl (λ r. refl) (λ x stamp old. old)
quiet-left m s t Leaving table key v there is = quiet-leave m s t table key there (λ e. let both = sym is ∙ e in cc)

quiet-finished : (m : Machine) (o : Option Checkpoint) (table : ℕ) (key : List ℕ) → Quiet m (of_some m (finished m) o) table key
quiet-finished m None table key = all-quiet m m table key refl refl (λ r. refl) (λ x stamp old. old)
quiet-finished m (Some c) table key = all-quiet m (finished m c) table key refl refl (λ r. refl) (λ x stamp old. old)

-- of the session's transaction, if there is one
quiet-there : (m : Machine) (s : ℕ) (f : Transaction → Machine) (table : ℕ) (key : List ℕ) → ((t : Transaction) → transaction_of m s ≡ Some t → Quiet m (f t) table key) → Quiet m (of_some m f (transaction_of m s)) table key
quiet-there m s f table key each = by-seat (transaction_of m s) refl where
  by-seat : (o : Option Transaction) → transaction_of m s ≡ o → Quiet m (of_some m f (transaction_of m s)) table key
  by-seat None there = subst (λ o. Quiet m (of_some m f o) table key) (sym there) (all-quiet m m table key refl refl (λ r. refl) (λ x stamp old. old))
  by-seat (Some t) there = subst (λ o. Quiet m (of_some m f o) table key) (sym there) (each t there)

quiet-after : (m : Machine) (event : Event) (table : ℕ) (key : List ℕ) → Valid m → Allowed m event → LeavesAlone m table key event → Quiet m (after m event) table key
quiet-after m OpenSession table key v may alone = all-quiet m (after m OpenSession) table key refl refl (λ r. append-none m.sessions r) (λ x stamp old. old)
quiet-after m (BeginAt s read) table key v may alone = quiet-begin m s read table key may.1 may.0
quiet-after m (DrawId s) table key v may alone = quiet-draw m s may.0 table key v may.1 may.2.1
quiet-after m (AcceptWrite s number other change) table key v may alone = quiet-write m s may.0 number other change table key may.1 alone
quiet-after m (RefuseWrite s) table key v may alone = quiet-refuse m s may.0 table key may.1 may.2
quiet-after m (PrepareAt s stamp) table key v may alone = quiet-there m s (prepared m s stamp) table key (λ t there. quiet-prepare m s stamp t table key v there alone)
quiet-after m (CommitAt s commit durable) table key v may alone = subst (λ o. Quiet m (of_some m (λ (x : Transaction). decided x.phase m s commit durable x) o) table key) (sym may.1)
    (quiet-decided m s commit durable may.0 may.0.phase table key v may.1 may.2 alone)
quiet-after m (StartLeaving s) table key v may alone = quiet-there m s (λ t. left t.phase m s t) table key (λ t there. quiet-left m s t t.phase table key v there refl)
quiet-after m (EndTransaction s) table key v may alone = quiet-end m s may.0 table key may.1 alone
quiet-after m (PlaceCursor s cursor position) table key v may alone = all-quiet m (after m (PlaceCursor s cursor position)) table key refl refl (λ r. refl) (λ x stamp old. old)
quiet-after m (CreateTable new) table key v may alone = all-quiet m (after m (CreateTable new)) table key refl refl (λ r. refl) (λ x stamp old. inr (refl, old))
quiet-after m (SetStamps oldest stable) table key v may alone = all-quiet m (after m (SetStamps oldest stable)) table key refl refl (λ r. refl) (λ x stamp old. old)
quiet-after m RollbackToStable table key v may alone = subst (λ b. Quiet m (record m { history = if b then m.history else Rts m.stable ∷ m.history; rollbacks = m.rollbacks + 1 }) table key) (sym (eq-eqb m.stable 0 alone))
    (all-quiet m (record m { rollbacks = m.rollbacks + 1 }) table key refl refl (λ r. refl) (λ x stamp old. old))
quiet-after m CheckpointStart table key v may alone = all-quiet m (after m CheckpointStart) table key refl refl (λ r. refl) (λ x stamp old. old)
quiet-after m CheckpointFinish table key v may alone = quiet-finished m m.checkpoint table key
quiet-after m CheckpointDrop table key v may alone = all-quiet m (after m CheckpointDrop) table key refl refl (λ r. refl) (λ x stamp old. old)
quiet-after m (GoDown fault) table key v may alone = all-quiet m (after m (GoDown fault)) table key refl refl (λ r. refl) (λ x stamp old. old)
quiet-after m Nothing table key v may alone = all-quiet m m table key refl refl (λ r. refl) (λ x stamp old. old)

pub chains-go-on : ChainsGoOn
chains-go-on m event table key chain cell records valid may alone k = quiet-stands m event table key _ cell _ valid may (quiet-after m event table key valid may alone) k
