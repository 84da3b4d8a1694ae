-- A version that covers is admitted by every read that a transaction may make, so what it covers is never picked.
use Rattle.std.proofs.Common.{◌≡◌, ◌≤◌, ℕ, refl, ap, sym, ◌∙◌, Bool, true, ◌&&◌, List, [], ◌∷◌, inl, inr, subst, arith, zero, suc, min}
use Rattle.std.specs.Prelude.{Option, Some, None, fold, nat_le, ◌==◌, slice_index_or, option_and_then, if◌then◌else◌}
use Rattle.std.specs.List.{list_all, filter_map}
use Rattle.std.proofs.lemmas.Bool.{cases_Bool, and_parts, and_from, or_right, le-leb, leb-true, cases_eq, ne_eqb}
use Rattle.item.specs.declared.Change.{Change}
use Rattle.stamp.specs.declared.Version.{Version}
use Rattle.kv_model.specs.History.{released, admits, reads_at}
use Rattle.kv_model.specs.Machine.{Machine, Transaction, transaction_of, of_some, Checkpoint}
use Rattle.kv_model.specs.Droppable.{covers, pin, seen_by}
use Rattle.kv_model.specs.History.{committed}

-- a fold of least numbers is below its start and below each number
pub fold-min-start : (b : ℕ) (xs : List ℕ) → fold min b xs ≤ b
fold-min-start b [] = omega arith
fold-min-start b (x ∷ xs) = let later = fold-min-start (min b x) xs in omega arith

pub all-at : {A : Type 0} (p : Option A → Bool) (xs : List (Option A)) (s : ℕ) (x : A) → list_all p xs ≡ true → slice_index_or xs s None ≡ Some x → p (Some x) ≡ true
all-at p [] s x all e = absurd (cc)
all-at p (y ∷ ys) zero x all e = subst (λ v. p v ≡ true) e (and_parts (p y) (list_all p ys) all).0
all-at p (y ∷ ys) (suc s) x all e = all-at p ys s x (and_parts (p y) (list_all p ys) all).1 e

-- the pin is not above an active read stamp
pub pin-read : (b : ℕ) (sessions : List (Option Transaction)) (s : ℕ) (t : Transaction) → slice_index_or sessions s None ≡ Some t → (t.read ≡ 0 → ⊥)
    → fold min b (filter_map (λ o. option_and_then (λ (u : Transaction). if u.read == 0 then None else Some u.read) o) sessions) ≤ t.read
pin-read b [] s t e reads = absurd (cc)
pin-read b (None ∷ later) zero t e reads = absurd (cc)
pin-read b (None ∷ later) (suc s) t e reads = pin-read b later s t e reads
pin-read b (Some u ∷ later) zero t e reads =
    let is : u ≡ t = cc in
    let read_is = ap (λ x. x.read) is in
    rw (ne_eqb u.read 0 (λ z. reads (sym read_is ∙ z))) (let low = fold-min-start (min b u.read) (filter_map (λ o. option_and_then (λ (u : Transaction). if u.read == 0 then None else Some u.read) o) later) in omega arith)
pin-read b (Some u ∷ later) (suc s) t e reads = elim (cases_Bool (u.read == 0)) [
  | inl z ↦ rw z (pin-read b later s t e reads)
  | inr n ↦ rw n (pin-read (min b u.read) later s t e reads)
]

-- a covering version is admitted by each transaction
pub covers-admitted : (m : Machine) (s : ℕ) (t : Transaction) (v : Version Change) → transaction_of m s ≡ Some t → v.window.commit ≤ v.window.durable → covers m v ≡ true → admits m.history t.start t.read v ≡ true
covers-admitted m s t v there order is =
    let first = and_parts (nat_le v.window.durable (pin m)) (list_all (seen_by m v.window.name) m.sessions && of_some true (λ (c : Checkpoint). committed m.history c.prefix v.window.name) m.checkpoint) is in
    let second = and_parts (list_all (seen_by m v.window.name) m.sessions) (of_some true (λ (c : Checkpoint). committed m.history c.prefix v.window.name) m.checkpoint) first.1 in
    let low = leb-true v.window.durable (pin m) first.0 in
    and_from (released m.history t.start v.window.name) (reads_at t.read v.window.commit)
    (all-at (seen_by m v.window.name) m.sessions s t second.0 there)
    (elim (cases_eq t.read 0) [
      | inl none ↦ rw none refl
      | inr reads ↦ or_right (t.read == 0) (nat_le v.window.commit t.read) (le-leb v.window.commit t.read
          (let p = pin-read (of_some m.oldest (λ (c : Checkpoint). min m.oldest c.oldest) m.checkpoint) m.sessions s t there reads in omega arith))
    ])
