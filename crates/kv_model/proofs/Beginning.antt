-- Sessions, begins and ids keep a machine valid.
use Rattle.std.proofs.Common.{◌≡◌, ◌⊎◌, ◌<◌, ◌≤◌, ◌+◌, ℕ, refl, ap, sym, ◌∙◌, true, false, List, [], ◌∷◌, ◌++◌, length, inl, inr, subst, arith, zero, suc}
use Rattle.std.specs.Prelude.{Option, Some, None, slice_index_or, slice_set, option_map}
use Rattle.stamp.specs.declared.Name.{Name}
use Rattle.kv_model.specs.History.{Entry, Create, Commit, Prepare, Resolve, Undo, Rts, released}
use Rattle.kv_model.specs.Machine.{Machine, Transaction, Running, transaction_of, with_transaction, after, begun, OpenSession, BeginAt, DrawId, EndTransaction}
use Rattle.kv_model.specs.Reads.{own_write, is_own, IsEnding}
use Rattle.kv_model.specs.Valid.{Valid, ValidTransaction, ValidSessions, PhaseStands, NoRollbackSince}
use Rattle.kv_model.proofs.Releases.{false-from, released-whole}
use Rattle.kv_model.proofs.Growing.{more-ids}
use Rattle.kv_model.proofs.Seats.{seat-inside, seats-set, beside-none, beside-kin}
use Rattle.kv_model.proofs.Cursors.{cursors-taken, cursors-left, cursors-opened}

-- one session's transaction is another
pub seated : (m : Machine) (s : ℕ) (t : Transaction) → s < length m.sessions → Valid m → ValidSessions m.run m.next m.history (slice_set m.sessions s (Some t)) → Valid (with_transaction m s (Some t))
seated m s t inside v sessions = record {
  run = v.run;
  next = v.next;
  orderly = v.orderly;
  names = v.names;
  stamps = v.stamps;
  sessions = sessions;
  checkpoint = v.checkpoint;
  cursors = cursors-taken m.sessions m.cursors s t inside v.cursors;
}

-- another transaction in place of one, over the same history
pub replaced : (m : Machine) (s : ℕ) (t u : Transaction) → Valid m → transaction_of m s ≡ Some t → u.id ≡ t.id → u.writes ≡ t.writes → (IsEnding t.phase → IsEnding u.phase)
    → ValidTransaction m.run m.next m.history u → Valid (with_transaction m s (Some u))
replaced m s t u v there id writes ending now = seated m s u (seat-inside m.sessions s t there) v
    (seats-set m.run m.next m.history m.run m.next m.history m.sessions s (Some u) (seat-inside m.sessions s t there) v.sessions
    (λ r x other at. v.sessions.each r x at)
    (λ x is. let same : u ≡ x = cc in subst (λ z. ValidTransaction m.run m.next m.history z) same now)
    (beside-kin m.run m.next m.history m.sessions s t u v.sessions there id writes ending))

pub valid-end : (m : Machine) (s : ℕ) (t : Transaction) → Valid m → transaction_of m s ≡ Some t → Valid (after m (EndTransaction s))
valid-end m s t v there = record {
  run = v.run;
  next = v.next;
  orderly = v.orderly;
  names = v.names;
  stamps = v.stamps;
  sessions = seats-set m.run m.next m.history m.run m.next m.history m.sessions s None (seat-inside m.sessions s t there) v.sessions
      (λ r x other at. v.sessions.each r x at)
      (λ x is. let none : None ≡ Some x = is in absurd (cc))
      (beside-none m.sessions s);
  checkpoint = v.checkpoint;
  cursors = cursors-left m.sessions m.cursors s (seat-inside m.sessions s t there) v.cursors;
}

pub append-none : {A : Type 0} (xs : List (Option A)) (s : ℕ) → slice_index_or (xs ++ None ∷ []) s None ≡ slice_index_or xs s None
append-none [] zero = refl
append-none [] (suc s) = refl
append-none (x ∷ xs) zero = refl
append-none (x ∷ xs) (suc s) = append-none xs s

pub valid-open : (m : Machine) → Valid m → Valid (after m OpenSession)
valid-open m v = record {
  run = v.run;
  next = v.next;
  orderly = v.orderly;
  names = v.names;
  stamps = v.stamps;
  sessions = record {
    each = λ s t e. v.sessions.each s t (sym (append-none m.sessions s) ∙ e);
    distinct = λ s r t u e f. v.sessions.distinct s r t u (sym (append-none m.sessions s) ∙ e) (sym (append-none m.sessions r) ∙ f);
    apart = λ s r t u table key e f. v.sessions.apart s r t u table key (sym (append-none m.sessions s) ∙ e) (sym (append-none m.sessions r) ∙ f);
  };
  checkpoint = v.checkpoint;
  cursors = cursors-opened m.sessions m.cursors v.cursors;
}

-- an id that is not drawn yet
pub undrawn-unreleased : (m : Machine) → Valid m → (id : ℕ) → (id ≡ 0) ⊎ (m.next ≤ id) → released m.history (length m.history) (record { run = m.run; id = id }) ≡ false
undrawn-unreleased m v id out = false-from (released m.history (length m.history) (record { run = m.run; id = id })) (λ e. elim (v.names (record { run = m.run; id = id }) e) [
  | inl earlier ↦ omega arith
  | inr now ↦ elim out [ inl none ↦ let low = now.1 in omega arith | inr late ↦ let high = now.2 in omega arith ]
])

-- above all of a history nothing stands
none-since : (history : List Entry) (n : ℕ) → length history ≤ n → NoRollbackSince n history
none-since [] n le = tt
none-since (Create table ∷ older) n le = none-since older n (omega arith)
none-since (Commit name writes ∷ older) n le = none-since older n (omega arith)
none-since (Prepare name stamp ∷ older) n le = none-since older n (omega arith)
none-since (Resolve name writes ∷ older) n le = none-since older n (omega arith)
none-since (Undo name ∷ older) n le = none-since older n (omega arith)
none-since (Rts stable ∷ older) n le = omega arith

begun-valid : (m : Machine) (read : ℕ) → Valid m → ValidTransaction m.run m.next m.history (begun m read)
begun-valid m read v = record {
  id = v.next;
  start = omega arith;
  kept = none-since m.history (length m.history) (omega arith);
  sight = λ x e run drawn. absurd (omega arith);
  undrawn = λ e. refl;
  single = λ table key. refl;
  placed = λ w there. absurd there;
  above = λ busy table key own x there. absurd (cc);
  phase = undrawn-unreleased m v 0 (inl refl);
}

pub valid-begin : (m : Machine) (s read : ℕ) → s < length m.sessions → Valid m → Valid (after m (BeginAt s read))
valid-begin m s read inside v = seated m s (begun m read) inside v
    (seats-set m.run m.next m.history m.run m.next m.history m.sessions s (Some (begun m read)) inside v.sessions
    (λ r x other at. v.sessions.each r x at)
    (λ x is. let same : begun m read ≡ x = cc in subst (λ z. ValidTransaction m.run m.next m.history z) same (begun-valid m read v))
    (record {
      distinct = λ r t u other e f drawn ids. let same : begun m read ≡ u = cc in let zero_id : 0 ≡ u.id = ap (λ (z : Transaction). z.id) same in omega arith;
      apart = λ r t u table key other e f one two. let same : begun m read ≡ u = cc in
          let own : is_own (own_write (begun m read) table key) ≡ true = subst (λ (z : Transaction). is_own (own_write z table key) ≡ true) (sym same) two in absurd (cc);
    }))

-- the transaction with its id
abbrev pub drawing : ℕ → Transaction → Transaction
drawing id t = record t { id = id }

drawn-valid : (m : Machine) (t : Transaction) → Valid m → t.id ≡ 0 → t.phase ≡ Running → ValidTransaction m.run m.next m.history t → ValidTransaction m.run (m.next + 1) m.history (drawing m.next t)
drawn-valid m t v none running old = record {
  id = omega arith;
  start = old.start;
  kept = old.kept;
  sight = λ x e run drawn. elim (v.names x (whole x e)) [ inl earlier ↦ absurd (omega arith) | inr now ↦ now.2 ];
  undrawn = λ e. old.undrawn none;
  single = old.single;
  placed = old.placed;
  above = old.above;
  phase = subst (λ p. PhaseStands p m.history (record { run = m.run; id = m.next }) (drawing m.next t)) (sym running) (undrawn-unreleased m v m.next (inr (omega arith)));
} where
  whole : (x : Name) → released m.history t.start x ≡ true → released m.history (length m.history) x ≡ true
  whole x e = released-whole m.history t.start x e

pub valid-draw : (m : Machine) (s : ℕ) (t : Transaction) → Valid m → transaction_of m s ≡ Some t → t.phase ≡ Running → t.id ≡ 0 → Valid (after m (DrawId s))
valid-draw m s t v there running none = subst (λ o. Valid (record m { sessions = slice_set m.sessions s o; next = m.next + 1 })) (sym (ap (option_map (drawing m.next)) there)) (record {
  run = v.run;
  next = omega arith;
  orderly = v.orderly;
  names = λ x e. elim (v.names x e) [ inl earlier ↦ inl earlier | inr now ↦ inr (now.0, now.1, (let high = now.2 in omega arith)) ];
  stamps = v.stamps;
  sessions = seats-set m.run m.next m.history m.run (m.next + 1) m.history m.sessions s (Some (drawing m.next t)) (seat-inside m.sessions s t there) v.sessions
      (λ r x other at. more-ids m.run m.next (m.next + 1) m.history x (omega arith) (v.sessions.each r x at))
      (λ x is. let same : drawing m.next t ≡ x = cc in subst (λ z. ValidTransaction m.run (m.next + 1) m.history z) same (drawn-valid m t v none running (v.sessions.each s t there)))
      (record {
        distinct = λ r x u other e f drawn ids. let same : drawing m.next t ≡ u = cc in let id : m.next ≡ u.id = ap (λ (z : Transaction). z.id) same in let low = (v.sessions.each r x e).id in omega arith;
        apart = λ r x u table key other e f one two. let same : drawing m.next t ≡ u = cc in
            let own : is_own (own_write t table key) ≡ true = subst (λ (z : Transaction). is_own (own_write z table key) ≡ true) (sym same) two in
            elim (v.sessions.apart s r t x table key there e (λ q. other (sym q)) own one) [ inl mine ↦ inr (subst (λ (z : Transaction). IsEnding z.phase) same mine) | inr theirs ↦ inl theirs ];
      });
  checkpoint = v.checkpoint;
  cursors = cursors-taken m.sessions m.cursors s (drawing m.next t) (seat-inside m.sessions s t there) v.cursors;
})
