-- The ids of the transactions that have not ended, session by session.
use Rattle.std.proofs.Common.{◌≡◌, ◌≤◌, ◌<◌, ◌+◌, ℕ, zero, suc, refl, ap, sym, ◌∙◌, Bool, true, false, List, [], ◌∷◌, length, drop, get_or, subst, arith}
use Rattle.std.specs.Prelude.{fold, Option, Some, None, IfSome, ◌==◌, if◌then◌else◌, slice_index_or}
use Rattle.std.specs.List.{filter_map}
use Rattle.std.proofs.lemmas.Bool.{both_ways}
use Rattle.std.proofs.lemmas.List.{get_or_read}
use Rattle.limits.specs.declared.TheConstants.{SESSIONS_MAX}
use Rattle.snapshot.specs.Sight.{Sight, SnapshotValue, sight_at, with_id}
use Rattle.snapshot.proofs.Listed.{with-length}
use Rattle.txn_table.specs.SessionData.{SessionData, opened, is_idle, unended_id}
use Rattle.txn_table.specs.Tabled.{Table, session_of, counted, HasRoom}

-- a list with one id more, or none
abbrev pub with_some : List ℕ → Option ℕ → List ℕ
with_some ids None = ids
with_some ids (Some id) = with_id ids id

step-at : (x : SessionData) (states : List SessionData) (ids : List ℕ) (o : Option ℕ) → unended_id x ≡ o → fold with_id (with_some ids o) (filter_map unended_id states) ≡ fold with_id ids (filter_map unended_id (x ∷ states))
step-at x states ids None e = rw e refl
step-at x states ids (Some id) e = rw e refl

list-step : (states : List SessionData) (i : ℕ) (ids : List ℕ) (x : SessionData) → i < length states → x ≡ get_or states i x
    → fold with_id (with_some ids (unended_id x)) (filter_map unended_id (drop (suc i) states)) ≡ fold with_id ids (filter_map unended_id (drop i states))
list-step [] i ids x lt e = absurd (omega arith)
list-step (y ∷ states) zero ids x lt e = ap (λ z. fold with_id (with_some ids (unended_id z)) (filter_map unended_id states)) e ∙ step-at y states ids (unended_id y) refl
list-step (y ∷ states) (suc i) ids x lt e = list-step states i ids x (omega arith) e

-- a snapshot in which the ids of the first i sessions count
pub record Counting (run next : ℕ) (states : List SessionData) (i least : ℕ) (now : SnapshotValue) : Type 0 where
  pub sight : now.sight ≡ sight_at run next now.sight.list
  -- those of the others are still to come
  pub rest : fold with_id now.sight.list (filter_map unended_id (drop i states)) ≡ fold with_id [] (filter_map unended_id states)
  pub few : length now.sight.list ≤ i
  pub room : least ≤ now.room

counted-sight : (run next : ℕ) (s : Sight) (o : Option ℕ) → s ≡ sight_at run next s.list → counted s o ≡ sight_at run next (with_some s.list o)
counted-sight run next s None e = e
counted-sight run next s (Some id) e = ap (λ (z : Sight). sight_at z.run z.max (with_id s.list id)) e

some-length : (ids : List ℕ) (o : Option ℕ) → length (with_some ids o) ≤ length ids + 1
some-length ids None = omega arith
some-length ids (Some id) = with-length ids id

pub counting-more : (run next : ℕ) (states : List SessionData) (i least : ℕ) (old now : SnapshotValue) (x : SessionData) → i < length states → x ≡ get_or states i x → now.sight ≡ counted old.sight (unended_id x) → old.room ≤ now.room
    → Counting run next states i least old → Counting run next states (i + 1) least now
counting-more run next states i least old now x lt e is room c =
    let made : now.sight ≡ sight_at run next (with_some old.sight.list (unended_id x)) = is ∙ counted-sight run next old.sight (unended_id x) c.sight in
    let ids : now.sight.list ≡ with_some old.sight.list (unended_id x) = ap (λ (z : Sight). z.list) made in
    let n : i + 1 ≡ suc i = omega arith in record {
      sight = made ∙ ap (sight_at run next) (sym ids);
      rest = rw n (ap (λ l. fold with_id l (filter_map unended_id (drop (suc i) states))) ids ∙ (list-step states i old.sight.list x lt e ∙ c.rest));
      few = (let few = c.few in let most = some-length old.sight.list (unended_id x) in let same = ap length ids in omega arith);
      room = (let before = c.room in omega arith);
    }

pub counting-done : (run next : ℕ) (states : List SessionData) (least : ℕ) (now : SnapshotValue) → Counting run next states (length states) least now → now.sight ≡ sight_at run next (fold with_id [] (filter_map unended_id states))
counting-done run next states least now c = c.sight ∙ ap (sight_at run next) (sym (ap (λ l. fold with_id now.sight.list (filter_map unended_id l)) (drop-all states)) ∙ c.rest) where
  drop-all : (xs : List SessionData) → drop (length xs) xs ≡ []
  drop-all [] = refl
  drop-all (x ∷ xs) = drop-all xs

pub counting-start : (run next : ℕ) (states : List SessionData) (now : SnapshotValue) → now.sight ≡ sight_at run next [] → Counting run next states 0 now.room now
counting-start run next states now e = let none : now.sight.list ≡ [] = ap (λ (z : Sight). z.list) e in record {
  sight = e ∙ ap (sight_at run next) (sym none);
  rest = ap (λ l. fold with_id l (filter_map unended_id states)) none;
  few = (let n = ap length none in omega arith);
  room = omega arith;
}

-- ---- the table that the sessions are of

positive : (n : ℕ) → (n == 0) ≡ false → 1 ≤ n
positive zero isnt = absurd (both_ways (0 == 0) isnt refl)
positive (suc n) isnt = omega arith

-- an id of a session is below the next one
some-below : (x : SessionData) (high : ℕ) → x.id < high → IfSome (unended_id x) (λ id. (1 ≤ id) × (id < high))
some-below x high lt = by-tests (is_idle x.phase) (x.id == 0) refl where
  by-tests : (idle none : Bool) → (x.id == 0) ≡ none → IfSome (if idle then None else (if none then None else Some x.id)) (λ id. (1 ≤ id) × (id < high))
  by-tests true none is = tt
  by-tests false true is = tt
  by-tests false false is = (positive x.id is, lt)

pub unended-drawn : (t : Table) (states : List SessionData) (i least : ℕ) (now : SnapshotValue) (x : SessionData) (o : Option ℕ) → HasRoom t → states ≡ t.sessions → i < length states → x ≡ get_or states i x → o ≡ unended_id x
    → Counting t.run t.next states i least now → IfSome o (λ id. (1 ≤ id) × (id < now.sight.max))
unended-drawn t states i least now x o h same lt read is c =
    let at : x ≡ session_of t i = get_or_read states i x lt read (opened t.run) ∙ ap (λ l. slice_index_or l i (opened t.run)) same in
    let id : x.id ≡ (session_of t i).id = ap (λ (z : SessionData). z.id) at in
    let max : now.sight.max ≡ t.next = ap (λ (z : Sight). z.max) c.sight in
    let drawn = h.table.drawn i in
    subst (λ z. IfSome z (λ id. (1 ≤ id) × (id < now.sight.max))) (sym is) (some-below x now.sight.max (omega arith))

pub unended-fits : (t : Table) (states : List SessionData) (i least : ℕ) (now : SnapshotValue) → HasRoom t → states ≡ t.sessions → i < length states → SESSIONS_MAX ≤ least → Counting t.run t.next states i least now → length now.sight.list < now.room
unended-fits t states i least now h same lt enough c = let n = ap length same in let few = c.few in let room = c.room in let most = h.sessions in omega arith
