-- Prepares, commits and rollbacks keep a machine valid.
use Rattle.std.proofs.Common.{◌≡◌, ◌≢◌, ◌<◌, ℕ, refl, sym, ◌∙◌, true, false, List, [], ◌∷◌, ◌++◌, length, inl, inr, subst, arith}
use Rattle.std.specs.Prelude.{Option, Some, slice_set}
use Rattle.std.proofs.lemmas.Bool.{cases_eq, both_ways, or_left, and_from, lt-ltb}
use Rattle.std.specs.Prelude.{nat_lt, ◌&&◌}
use Rattle.stamp.specs.declared.Name.{Name}
use Rattle.kv_model.specs.Holds.{Member}
use Rattle.kv_model.specs.Ordered.{IsOrderly}
use Rattle.kv_model.specs.History.{Entry, Prepare, Write, line, released, releases, committed, ends, name_eq}
use Rattle.kv_model.specs.Machine.{Machine, Transaction, Running, Prepared, Position, transaction_of, name_in, with_transaction, after, of_some, in_phase, prepared, appended, PrepareAt}
use Rattle.kv_model.specs.Captures.{MayFollow}
use Rattle.kv_model.specs.Reads.{own_write, is_own, IsEnding}
use Rattle.kv_model.specs.Valid.{Valid, ValidTransaction, ValidCursors, PhaseStands, NoRollbackSince}
use Rattle.kv_model.proofs.Finishing.{committed-start, name_eq-refl}
use Rattle.kv_model.proofs.Releases.{false-from, released-whole, released-cases, released-later, unreleased, still-uncommitted, committed-whole, committed-released, name_eq-same}
use Rattle.kv_model.proofs.Growing.{grown, grown-checkpoint}
use Rattle.kv_model.proofs.Seats.{seat-inside, seats-set, Beside, beside-kin}
use Rattle.kv_model.proofs.Cursors.{cursors-taken}
use Rattle.kv_model.proofs.Beginning.{replaced}
use Rattle.kv_model.proofs.Writing.{rephased, running-busy}

-- a transaction that has writes has drawn its id
pub drawn-by-write : (run next : ℕ) (history : List Entry) (t : Transaction) (w : Write) (writes : List Write) → ValidTransaction run next history t → t.writes ≡ w ∷ writes → 0 < t.id
drawn-by-write run next history t w writes v is = elim (cases_eq t.id 0) [
  | inl none ↦ let empty = v.undrawn none in absurd (cc)
  | inr some ↦ omega arith
]

-- an entry of one transaction, which then sits there otherwise
pub record Extends (m : Machine) (s : ℕ) (t : Transaction) (entry : Entry) : Type 0 where
  pub orderly : IsOrderly (entry ∷ m.history)
  pub release : (x : Name) → releases entry x ≡ true → name_eq (name_in m.run t) x ≡ true
  pub commit : (x : Name) → ends entry x ≡ true → name_eq (name_in m.run t) x ≡ true
  pub lines : (r : ℕ) (x : Transaction) → r ≢ s → transaction_of m r ≡ Some x → (IsEnding x.phase → ⊥) → (table : ℕ) (key : List ℕ) → is_own (own_write x table key) ≡ true → line (entry ∷ m.history) table key ≡ line m.history table key
  pub kept : (n : ℕ) → NoRollbackSince n m.history → NoRollbackSince n (entry ∷ m.history)
  pub may : (news start : List Entry) → m.history ≡ news ++ start → MayFollow start entry

pub extended : (m : Machine) (s : ℕ) (t : Transaction) (o : Option Transaction) (cursors : List (List (Option Position))) (entry : Entry) → Valid m → transaction_of m s ≡ Some t → 0 < t.id → Extends m s t entry
    → ((u : Transaction) → o ≡ Some u → ValidTransaction m.run m.next (entry ∷ m.history) u) → Beside m.sessions s o → ValidCursors (slice_set m.sessions s o) cursors
    → Valid (record m { history = entry ∷ m.history; sessions = slice_set m.sessions s o; cursors = cursors })
extended m s t o cursors entry v there drawn x now beside placed = record {
  run = v.run;
  next = v.next;
  orderly = x.orderly;
  names = λ name e. elim (released-cases entry m.history (length (entry ∷ m.history)) name e) [
    | inl here ↦ let same = name_eq-same (name_in m.run t) name (x.release name here.0) in let id = (v.sessions.each s t there).id in inr (sym same.0, (let e = same.1 in omega arith), (let e = same.1 in omega arith))
    | inr old ↦ v.names name (released-whole m.history (length (entry ∷ m.history)) name old)
  ];
  stamps = v.stamps;
  sessions = seats-set m.run m.next m.history m.run m.next (entry ∷ m.history) m.sessions s o (seat-inside m.sessions s t there) v.sessions
      (λ r y other at. grown m.run m.next entry m.history y (record {
        release = false-from (releases entry (name_in m.run y)) (λ e. apart r y other at (name_eq-same (name_in m.run t) (name_in m.run y) (x.release (name_in m.run y) e)).1);
        commit = false-from (ends entry (name_in m.run y)) (λ e. apart r y other at (name_eq-same (name_in m.run t) (name_in m.run y) (x.commit (name_in m.run y) e)).1);
        kept = x.kept;
        lines = x.lines r y other at;
      }) (v.sessions.each r y at))
      now beside;
  checkpoint = λ c runs. grown-checkpoint entry m.history m.oldest m.stable c x.may (v.checkpoint c runs);
  cursors = placed;
} where
  apart : (r : ℕ) (y : Transaction) → r ≢ s → transaction_of m r ≡ Some y → t.id ≡ y.id → ⊥
  apart r y other at ids = v.sessions.distinct s r t y there at (λ q. other (sym q)) drawn ids

-- what begins a checkpoint did not commit the name, where nothing did
pub fresh-in : (history news start : List Entry) (name : Name) → committed history (length history) name ≡ false → history ≡ news ++ start → committed start (length start) name ≡ false
fresh-in history news start name none whole = false-from (committed start (length start) name) (λ e.
    both_ways (committed history (length history) name) none (subst (λ h. committed h (length h) name ≡ true) (sym whole) (committed-whole (news ++ start) (length start) name (committed-start news start name ∙ e))))

pub never-committed : (m : Machine) (t : Transaction) → Valid m → released m.history (length m.history) (name_in m.run t) ≡ false → committed m.history (length m.history) (name_in m.run t) ≡ false
never-committed m t v none = false-from (committed m.history (length m.history) (name_in m.run t)) (λ e.
    both_ways (released m.history (length m.history) (name_in m.run t)) none (committed-released m.history v.orderly (length m.history) (name_in m.run t) e))

-- ---- prepare

-- the entry releases the name
released-now : (entry : Entry) (history : List Entry) (name : Name) → releases entry name ≡ true → released (entry ∷ history) (length (entry ∷ history)) name ≡ true
released-now entry history name is = or_left (releases entry name && nat_lt (length history) (length (entry ∷ history))) (released history (length (entry ∷ history)) name)
    (and_from (releases entry name) (nat_lt (length history) (length (entry ∷ history))) is (lt-ltb (length history) (length (entry ∷ history)) (omega arith)))

pub valid-prepare : (m : Machine) (s stamp : ℕ) (t : Transaction) → Valid m → transaction_of m s ≡ Some t → t.phase ≡ Running → m.stable < stamp → Valid (after m (PrepareAt s stamp))
valid-prepare m s stamp t v there running late = subst (λ o. Valid (of_some m (prepared m s stamp) o)) (sym there) (by-writes t.writes refl) where
  u : Transaction
  u = in_phase (Prepared stamp) t

  name : Name
  name = name_in m.run t

  old : ValidTransaction m.run m.next m.history t
  old = v.sessions.each s t there

  none : released m.history (length m.history) name ≡ false
  none = subst (λ p. PhaseStands p m.history (name_in m.run t) t) running old.phase

  entry : Entry
  entry = Prepare (name_in m.run t) stamp

  empty : t.writes ≡ [] → Valid (with_transaction m s (Some u))
  empty is = replaced m s t u v there refl refl (λ e. absurd (running-busy t running e))
      (rephased m.run m.next m.history t (Prepared stamp) old (λ b e. running-busy t running e) (record {
        marked = omega arith;
        uncommitted = never-committed m t v none;
        later = λ n e. absurd (unreleased m.history n name none e);
        released = record { writes = λ w there. absurd (subst (λ l. Member w l) is there); empty = λ e. none };
        prepared = λ w there. absurd (subst (λ l. Member w l) is there);
      }))

  now : (w : Write) (writes : List Write) → t.writes ≡ w ∷ writes → ValidTransaction m.run m.next (Prepare (name_in m.run t) stamp ∷ m.history) (in_phase (Prepared stamp) t)
  now o writes some = record {
    id = old.id;
    start = (let low = old.start in omega arith);
    kept = old.kept;
    sight = λ x e. old.sight x (sym (released-later (Prepare (name_in m.run t) stamp) m.history t.start x old.start) ∙ e);
    undrawn = old.undrawn;
    single = old.single;
    placed = old.placed;
    above = λ busy table key own x at. released-later (Prepare (name_in m.run t) stamp) m.history t.start x.window.name old.start ∙ old.above (running-busy t running) table key own x at;
    phase = record {
      marked = omega arith;
      uncommitted = still-uncommitted (Prepare (name_in m.run t) stamp) m.history name refl (never-committed m t v none);
      later = λ n e. elim (released-cases (Prepare (name_in m.run t) stamp) m.history n name e) [ inl here ↦ let after = here.1 in let low = old.start in omega arith | inr before ↦ absurd (unreleased m.history n name none before) ];
      released = record {
        writes = λ w at. released-now (Prepare (name_in m.run t) stamp) m.history name (name_eq-refl name);
        empty = λ e. let both = sym some ∙ e in absurd (cc);
      };
      prepared = λ w at. inl ((name_eq-refl name, refl), none);
    };
  }

  full : (w : Write) (writes : List Write) → t.writes ≡ w ∷ writes → Valid (record m { history = Prepare (name_in m.run t) stamp ∷ m.history; sessions = slice_set m.sessions s (Some (in_phase (Prepared stamp) t)); cursors = m.cursors })
  full w writes is = extended m s t (Some (in_phase (Prepared stamp) t)) m.cursors (Prepare (name_in m.run t) stamp) v there (drawn-by-write m.run m.next m.history t w writes old is)
      (record {
        orderly = v.orderly;
        release = λ x e. e;
        commit = λ x e. absurd (cc);
        lines = λ r x other at busy table key own. refl;
        kept = λ n k. k;
        may = λ news start whole. tt;
      })
      (λ x e. let same : in_phase (Prepared stamp) t ≡ x = cc in subst (λ z. ValidTransaction m.run m.next (Prepare (name_in m.run t) stamp ∷ m.history) z) same (now w writes is))
      (beside-kin m.run m.next m.history m.sessions s t (in_phase (Prepared stamp) t) v.sessions there refl refl (λ e. absurd (running-busy t running e)))
      (cursors-taken m.sessions m.cursors s (in_phase (Prepared stamp) t) (seat-inside m.sessions s t there) v.cursors)

  by-writes : (writes : List Write) → t.writes ≡ writes → Valid (prepared m s stamp t)
  by-writes [] is = subst (λ l. Valid (record (with_transaction m s (Some (in_phase (Prepared stamp) t))) { history = appended l (Prepare (name_in m.run t) stamp) m.history })) (sym is) (empty is)
  by-writes (w ∷ writes) is = subst (λ l. Valid (record (with_transaction m s (Some (in_phase (Prepared stamp) t))) { history = appended l (Prepare (name_in m.run t) stamp) m.history })) (sym is) (full w writes is)
