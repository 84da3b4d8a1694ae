-- A look-up that goes through the entries one by one finds what the line gives.
use Rattle.std.proofs.Common.{◌≡◌, ◌≤◌, ℕ, refl, ap, sym, ◌∙◌, true, false, ◌&&◌, List, [], ◌∷◌, ◌++◌, inl, inr, arith, map, min}
use Rattle.std.specs.Prelude.{find, filter, nat_le, Option, Some, None, if◌then◌else◌}
use Rattle.std.proofs.lemmas.Bool.{cases_Bool, both_ways, le-leb, leb-true}
use Rattle.item.specs.declared.Change.{Change}
use Rattle.stamp.specs.declared.Name.{Name}
use Rattle.stamp.specs.declared.Version.{Version}
use Rattle.kv_model.specs.History.{Entry, Create, Commit, Prepare, Resolve, Undo, Rts, Write, line, reads_at, version_of, writes_at, is_by}
use Rattle.kv_model.specs.StoreLaws.{or_else}
use Rattle.kv_plain.specs.Plain.{is_within, lower, is_seen, passes, newest_in, newest_write, newest_of, bound_under}
use Rattle.kv_model.proofs.Agrees.{line-rts}
use Rattle.kv_model.proofs.Ordering.{line-writes}

-- among the writes of a transaction that is seen
find-writes : (all : List Entry) (n : Option ℕ) (read table : ℕ) (key : List ℕ) (bound : Option ℕ) (name : Name) (writes : List Write) (rest : List (Version Change)) → is_seen all n name ≡ true
    → find (passes all n read bound) (map (version_of name) (filter (writes_at table key) writes) ++ rest) ≡ or_else (newest_write name writes read table key bound) (find (passes all n read bound) rest)
find-writes all n read table key bound name [] rest is = refl
find-writes all n read table key bound name (w ∷ writes) rest is = elim (cases_Bool (writes_at table key w)) [
  | inl at ↦ elim (cases_Bool (is_within bound (version_of name w) && reads_at read w.commit)) [
    | inl fits ↦ rw (at, is, fits) refl
    | inr not ↦ rw (at, is, not) (find-writes all n read table key bound name writes rest is)
  ]
  | inr off ↦ rw (off, find-writes all n read table key bound name writes rest is) refl
]

-- and among those of one that is not
skip-writes : (all : List Entry) (n : Option ℕ) (read table : ℕ) (key : List ℕ) (bound : Option ℕ) (name : Name) (writes : List Write) (rest : List (Version Change)) → is_seen all n name ≡ false
    → find (passes all n read bound) (map (version_of name) (filter (writes_at table key) writes) ++ rest) ≡ find (passes all n read bound) rest
skip-writes all n read table key bound name [] rest isnt = refl
skip-writes all n read table key bound name (w ∷ writes) rest isnt = elim (cases_Bool (writes_at table key w)) [
  | inl at ↦ rw (at, isnt) (skip-writes all n read table key bound name writes rest isnt)
  | inr off ↦ rw off (skip-writes all n read table key bound name writes rest isnt)
]

-- a commit of either kind
find-commit : (all : List Entry) (n : Option ℕ) (read table : ℕ) (key : List ℕ) (bound : Option ℕ) (name : Name) (writes : List Write) (rest : List (Version Change))
    → find (passes all n read bound) (map (version_of name) (filter (writes_at table key) writes) ++ rest) ≡ or_else (if is_seen all n name then newest_write name writes read table key bound else None) (find (passes all n read bound) rest)
find-commit all n read table key bound name writes rest = elim (cases_Bool (is_seen all n name)) [
  | inl is ↦ find-writes all n read table key bound name writes rest is ∙ ap (λ b. or_else (if b then newest_write name writes read table key bound else None) (find (passes all n read bound) rest)) (sym is)
  | inr isnt ↦ skip-writes all n read table key bound name writes rest isnt ∙ ap (λ b. or_else (if b then newest_write name writes read table key bound else None) (find (passes all n read bound) rest)) (sym isnt)
]

le-min : (d a b : ℕ) → nat_le d (min a b) ≡ nat_le d b && nat_le d a
le-min d a b = elim (cases_Bool (nat_le d b)) [
  | inl low ↦ elim (cases_Bool (nat_le d a)) [
    | inl also ↦ rw (low, also) (le-leb d (min a b) (let x = leb-true d b low in let y = leb-true d a also in omega arith))
    | inr not ↦ rw (low, not) (false-le (min a b) (λ le. both_ways (nat_le d a) not (le-leb d a (omega arith))))
  ]
  | inr not ↦ rw not (false-le (min a b) (λ le. both_ways (nat_le d b) not (le-leb d b (omega arith))))
] where
  false-le : (x : ℕ) → (d ≤ x → ⊥) → nat_le d x ≡ false
  false-le x never = elim (cases_Bool (nat_le d x)) [ inl is ↦ absurd (never (leb-true d x is)) | inr isnt ↦ isnt ]

pub within-lower : (bound : Option ℕ) (stamp : ℕ) (v : Version Change) → is_within (Some (lower bound stamp)) v ≡ is_by stamp v && is_within bound v
within-lower None stamp v = elim (cases_Bool (is_by stamp v)) [ inl is ↦ rw is refl | inr isnt ↦ rw isnt refl ]
within-lower (Some bound) stamp v = le-min v.window.durable bound stamp

-- the bound goes down at a rollback to stable
find-rts : (all : List Entry) (n : Option ℕ) (read : ℕ) (bound : Option ℕ) (stamp : ℕ) (l : List (Version Change)) → find (passes all n read bound) (filter (is_by stamp) l) ≡ find (passes all n read (Some (lower bound stamp))) l
find-rts all n read bound stamp [] = refl
find-rts all n read bound stamp (v ∷ older) = elim (cases_Bool (is_by stamp v)) [
  | inl is ↦ rw (is, within-lower bound stamp v, is, find-rts all n read bound stamp older) refl
  | inr isnt ↦ elim (cases_Bool (is_seen all n v.window.name)) [
    | inl out ↦ rw (isnt, within-lower bound stamp v, isnt, out) (find-rts all n read bound stamp older)
    | inr not ↦ rw (isnt, not) (find-rts all n read bound stamp older)
  ]
]

pub newest-entry : (all : List Entry) (entry : Entry) (older : List Entry) (n : Option ℕ) (read table : ℕ) (key : List ℕ) (bound : Option ℕ)
    → newest_in all (entry ∷ older) n read table key bound ≡ or_else (newest_of all entry n read table key bound) (newest_in all older n read table key (bound_under entry bound))
newest-entry all (Create t) older n read table key bound = refl
newest-entry all (Commit name writes) older n read table key bound = ap (find (passes all n read bound)) (line-writes name writes older table key) ∙ find-commit all n read table key bound name writes (line older table key)
newest-entry all (Prepare name stamp) older n read table key bound = refl
newest-entry all (Resolve name writes) older n read table key bound = ap (find (passes all n read bound)) (line-writes name writes older table key) ∙ find-commit all n read table key bound name writes (line older table key)
newest-entry all (Undo name) older n read table key bound = refl
newest-entry all (Rts s) older n read table key bound = ap (find (passes all n read bound)) (line-rts s older table key) ∙ find-rts all n read bound s (line older table key)

-- found in the first entry
pub newest-here : (all : List Entry) (history : List Entry) (entry : Entry) (older : List Entry) (n : Option ℕ) (read table : ℕ) (key : List ℕ) (bound : Option ℕ) (v : Version Change) → history ≡ entry ∷ older
    → Some v ≡ newest_of all entry n read table key bound → Some v ≡ newest_in all history n read table key bound
newest-here all history entry older n read table key bound v is found =
    sym (ap (λ h. newest_in all h n read table key bound) is ∙ (newest-entry all entry older n read table key bound
    ∙ ap (λ o. or_else o (newest_in all older n read table key (bound_under entry bound))) (sym found)))

-- or in an older one
pub newest-under : (all : List Entry) (history : List Entry) (entry : Entry) (older : List Entry) (n : Option ℕ) (read table : ℕ) (key : List ℕ) (bound below : Option ℕ) (o : Option (Version Change)) → history ≡ entry ∷ older
    → None ≡ newest_of all entry n read table key bound → below ≡ bound_under entry bound → o ≡ newest_in all older n read table key below → o ≡ newest_in all history n read table key bound
newest-under all history entry older n read table key bound below o is none bounds found =
    found ∙ (ap (newest_in all older n read table key) bounds
    ∙ sym (ap (λ h. newest_in all h n read table key bound) is ∙ (newest-entry all entry older n read table key bound
    ∙ ap (λ o. or_else o (newest_in all older n read table key (bound_under entry bound))) (sym none))))
