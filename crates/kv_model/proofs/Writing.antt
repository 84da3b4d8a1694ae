-- Accepted and refused writes keep a machine valid.
use Rattle.std.proofs.Common.{◌≡◌, ◌≢◌, ◌⊎◌, ◌<◌, ℕ, refl, ap, sym, true, List, [], ◌∷◌, inl, inr, subst, arith}
use Rattle.std.specs.Prelude.{Option, Some, None, option_map}
use Rattle.std.proofs.lemmas.Bool.{cases_Bool, and_parts}
use Rattle.item.specs.declared.Change.{Change}
use Rattle.stamp.specs.declared.Version.{Version}
use Rattle.kv_model.specs.Holds.{Member}
use Rattle.kv_model.specs.History.{Entry, Write, line, released, reads_at, tables, has_table, writes_at}
use Rattle.kv_model.specs.Machine.{Machine, Transaction, Phase, Running, Failed, transaction_of, name_in, with_transaction, after, in_phase, written, unstamped, AcceptWrite, RefuseWrite}
use Rattle.kv_model.specs.Reads.{own_write, is_own, IsEnding, MayWrite, MayWriteAs, may_follow}
use Rattle.kv_model.specs.Valid.{Valid, ValidTransaction, PhaseStands}
use Rattle.kv_model.proofs.Snapshots.{line-seen}
use Rattle.kv_model.proofs.Seats.{seat-inside, seats-set}
use Rattle.kv_model.proofs.OwnWrites.{at-parts, joined-single, member-joined, find-joined-other}
use Rattle.kv_model.proofs.Beginning.{seated, replaced}

-- the snapshot of a transaction that may write a key sees each version of it
pub sees-line : (m : Machine) (s : ℕ) (t : Transaction) (table : ℕ) (key : List ℕ) → Valid m → transaction_of m s ≡ Some t → (IsEnding t.phase → ⊥) → MayWrite m s t table key
    → (v : Version Change) → Member v (line m.history table key) → released m.history t.start v.window.name ≡ true
sees-line m s t table key v there busy may w at = by-own (own_write t table key) refl may where
  by-line : (lines : List (Version Change)) → line m.history table key ≡ lines → may_follow m t lines ≡ true → released m.history t.start w.window.name ≡ true
  by-line [] is follows = absurd (subst (λ l. Member w l) is at)
  by-line (newest ∷ older) is follows = line-seen m.history v.orderly t.start table key newest older is (and_parts (released m.history t.start newest.window.name) (reads_at t.read newest.window.commit) follows).0 w at

  by-own : (o : Option Write) → own_write t table key ≡ o → MayWriteAs o m s t table key → released m.history t.start w.window.name ≡ true
  by-own (Some own) is may = (v.sessions.each s t there).above busy table key (ap is_own is) w at
  by-own None is may = by-line (line m.history table key) refl may.newest

-- who else holds the key is ending
holders-end : (m : Machine) (s : ℕ) (t : Transaction) (table : ℕ) (key : List ℕ) → Valid m → transaction_of m s ≡ Some t → MayWrite m s t table key
    → (r : ℕ) (x : Transaction) → r ≢ s → transaction_of m r ≡ Some x → is_own (own_write x table key) ≡ true → IsEnding x.phase ⊎ IsEnding t.phase
holders-end m s t table key v there may r x other at one = by-own (own_write t table key) refl may where
  by-own : (o : Option Write) → own_write t table key ≡ o → MayWriteAs o m s t table key → IsEnding x.phase ⊎ IsEnding t.phase
  by-own (Some own) is may = v.sessions.apart r s x t table key at there other one (ap is_own is)
  by-own None is may = inl (may.others r x other (at, one))

pub running-busy : (t : Transaction) → t.phase ≡ Running → IsEnding t.phase → ⊥
running-busy t running e = subst IsEnding running e

-- the key asked for is the written one, or the transaction had written it before
own-cases : (table : ℕ) (key : List ℕ) (change : Change) (t : Transaction) (table2 : ℕ) (key2 : List ℕ) → is_own (own_write (written table key change t) table2 key2) ≡ true
    → ((table ≡ table2) × (key ≡ key2)) ⊎ (is_own (own_write t table2 key2) ≡ true)
own-cases table key change t table2 key2 own = elim (cases_Bool (writes_at table2 key2 (unstamped table key change))) [
  | inl is ↦ inl (at-parts table2 key2 (unstamped table key change) is)
  | inr other ↦ inr (subst (λ o. is_own o ≡ true) (find-joined-other (unstamped table key change) t.writes table2 key2 other) own)
]

written-valid : (m : Machine) (s table : ℕ) (key : List ℕ) (change : Change) (t : Transaction) → Valid m → transaction_of m s ≡ Some t → t.phase ≡ Running → 0 < t.id → MayWrite m s t table key → has_table (tables m.history) table ≡ true
    → ValidTransaction m.run m.next m.history (written table key change t)
written-valid m s table key change t v there running drawn may has = record {
  id = old.id;
  start = old.start;
  kept = old.kept;
  sight = old.sight;
  undrawn = λ e. absurd (omega arith);
  single = λ table2 key2. joined-single (unstamped table key change) t.writes table2 key2 (old.single table2 key2);
  placed = λ w of. elim (member-joined (unstamped table key change) t.writes w of) [
    | inl new ↦ subst (λ (o : Write). has_table (tables m.history) o.table ≡ true) (sym new) has
    | inr before ↦ old.placed w before
  ];
  above = λ busy table2 key2 own x at. elim (own-cases table key change t table2 key2 own) [
    | inl same ↦ sees-line m s t table key v there busy may x (subst (λ k. Member x (line m.history table k)) (sym same.1) (subst (λ n. Member x (line m.history n key2)) (sym same.0) at))
    | inr before ↦ old.above busy table2 key2 before x at
  ];
  phase = subst (λ p. PhaseStands p m.history (name_in m.run t) (written table key change t)) (sym running) (subst (λ p. PhaseStands p m.history (name_in m.run t) t) running old.phase);
} where
  old : ValidTransaction m.run m.next m.history t
  old = v.sessions.each s t there

pub valid-accept : (m : Machine) (s table : ℕ) (key : List ℕ) (change : Change) (t : Transaction) → Valid m → transaction_of m s ≡ Some t → t.phase ≡ Running → 0 < t.id → MayWrite m s t table key → has_table (tables m.history) table ≡ true
    → Valid (after m (AcceptWrite s table key change))
valid-accept m s table key change t v there running drawn may has = subst (λ o. Valid (with_transaction m s o)) (sym (ap (option_map (written table key change)) there))
    (seated m s u (seat-inside m.sessions s t there) v (seats-set m.run m.next m.history m.run m.next m.history m.sessions s (Some u) (seat-inside m.sessions s t there) v.sessions
    (λ r x other at. v.sessions.each r x at)
    (λ x is. let same : u ≡ x = cc in subst (λ z. ValidTransaction m.run m.next m.history z) same (written-valid m s table key change t v there running drawn may has))
    (record {
      distinct = λ r x y other e f drawn ids. let same : u ≡ y = cc in let id : t.id ≡ y.id = ap (λ (z : Transaction). z.id) same in
          v.sessions.distinct s r t x there e (λ q. other (sym q)) (omega arith) (omega arith);
      apart = λ r x y table2 key2 other e f one two. let same : u ≡ y = cc in
          let mine : is_own (own_write u table2 key2) ≡ true = subst (λ (z : Transaction). is_own (own_write z table2 key2) ≡ true) (sym same) two in
          elim (own-cases table key change t table2 key2 mine) [
            | inl at ↦ elim (holders-end m s t table key v there may r x other e (subst (λ k. is_own (own_write x table k) ≡ true) (sym at.1) (subst (λ n. is_own (own_write x n key2) ≡ true) (sym at.0) one))) [
              | inl theirs ↦ inl theirs
              | inr own ↦ absurd (running-busy t running own)
            ]
            | inr before ↦ elim (v.sessions.apart r s x t table2 key2 e there other one before) [
              | inl theirs ↦ inl theirs
              | inr own ↦ absurd (running-busy t running own)
            ]
          ];
    }))) where
      u : Transaction
      u = written table key change t

-- in another phase, over the same history
pub rephased : (run next : ℕ) (history : List Entry) (t : Transaction) (phase : Phase) → ValidTransaction run next history t → ((IsEnding phase → ⊥) → IsEnding t.phase → ⊥) → PhaseStands phase history (name_in run t) (in_phase phase t)
    → ValidTransaction run next history (in_phase phase t)
rephased run next history t phase v busy stands = record {
  id = v.id;
  start = v.start;
  kept = v.kept;
  sight = v.sight;
  undrawn = v.undrawn;
  single = v.single;
  placed = v.placed;
  above = λ b table key own x at. v.above (busy b) table key own x at;
  phase = stands;
}

pub valid-refuse : (m : Machine) (s : ℕ) (t : Transaction) → Valid m → transaction_of m s ≡ Some t → t.phase ≡ Running → Valid (after m (RefuseWrite s))
valid-refuse m s t v there running = subst (λ o. Valid (with_transaction m s o)) (sym (ap (option_map (in_phase Failed)) there))
    (replaced m s t (in_phase Failed t) v there refl refl (λ e. absurd (running-busy t running e))
    (rephased m.run m.next m.history t Failed (v.sessions.each s t there) (λ b e. running-busy t running e)
    (subst (λ p. PhaseStands p m.history (name_in m.run t) t) running (v.sessions.each s t there).phase)))
