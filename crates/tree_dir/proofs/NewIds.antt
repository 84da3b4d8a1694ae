-- The ids of leaves that came.
use Rattle.std.proofs.Common.{◌≡◌, ℕ, zero, suc, ◌+◌, ◌^◌, ◌<◌, ◌≤◌, ◌-◌, List, [], ◌∷◌, ◌++◌, length, length-append, refl, sym, ap, ◌∙◌, inl, inr, arith}
use Rattle.std.specs.List.{Contains}
use Rattle.std.proofs.lemmas.Bool.{cases_lt}
use Rattle.stored.specs.Records.{IdsAscend}
use Rattle.stored.specs.TableTree.{Entry}
use Rattle.tree_dir.specs.declared.leaf.Leaf.{Leaf}
use Rattle.tree_dir.specs.Added.{ids_of}
use Rattle.tree_dir.specs.Leaves.{leaves_with}
use Rattle.tree_dir.specs.Slots.{home_of, leaf_at, new_leaf, numbered}
use Rattle.tree_dir.specs.Sound.{AreBelow, AreHome}
use Rattle.tree_dir.proofs.Members.{split}
use Rattle.tree_dir.proofs.NewLeaves.{numbered-long}

-- ids from this one on
abbrev pub counted : ℕ → List Entry → List ℕ
counted id [] = []
counted id (e ∷ es) = id ∷ counted (id + 1) es

pub counted-long : (id : ℕ) (es : List Entry) → length (counted id es) ≡ length es
counted-long id [] = refl
counted-long id (e ∷ es) = ap suc (counted-long (id + 1) es)

pub numbered-with : (table id : ℕ) (es : List Entry) → numbered table id es ≡ leaves_with table (counted id es) es
numbered-with table id [] = refl
numbered-with table id (e ∷ es) = ap (λ (ls : List Leaf). new_leaf table id e ∷ ls) (numbered-with table (id + 1) es)

pub counted-ascend : (least most id : ℕ) (es : List Entry) → least ≤ id → id + length es ≤ most → IdsAscend least most (counted id es)
counted-ascend least most id [] low high = tt
counted-ascend least most id (e ∷ es) low high = (low, omega (arith, high), counted-ascend (id + 1) most (id + 1) es (omega arith) (omega (arith, high)))

pub numbered-table : (table id : ℕ) (es : List Entry) (l : Leaf) → Contains (numbered table id es) l → l.table ≡ table
numbered-table table id [] l c = absurd (omega (arith, c.1))
numbered-table table id (e ∷ es) l c = elim (split (new_leaf table id e) l (numbered table (id + 1) es) c) [
  | inl same ↦ sym (ap (λ (m : Leaf). m.table) same)
  | inr more ↦ numbered-table table (id + 1) es l more
]

numbered-at : (table id : ℕ) (es : List Entry) (i : ℕ) → i < length es → (leaf_at (numbered table id es) i).id ≡ id + i
numbered-at table id [] i lt = absurd (omega (arith, lt))
numbered-at table id (e ∷ es) zero lt = omega arith
numbered-at table id (e ∷ es) (suc i) lt = let h = numbered-at table (id + 1) es i (omega (arith, lt)) in omega (arith, h)

pub at-left : (xs ys : List Leaf) (i : ℕ) → i < length xs → leaf_at (xs ++ ys) i ≡ leaf_at xs i
at-left [] ys i lt = absurd (omega (arith, lt))
at-left (x ∷ xs) ys zero lt = refl
at-left (x ∷ xs) ys (suc i) lt = at-left xs ys i (omega (arith, lt))

at-right : (xs ys : List Leaf) (i j : ℕ) → i ≡ length xs + j → leaf_at (xs ++ ys) i ≡ leaf_at ys j
at-right [] ys i j e = let same : i ≡ j = omega (arith, e) in ap (leaf_at ys) same
at-right (x ∷ xs) ys zero j e = absurd (omega (arith, e))
at-right (x ∷ xs) ys (suc i) j e = at-right xs ys i j (omega (arith, e))

-- the id of a new slot
new-id : (slots : List Leaf) (table serial : ℕ) (es : List Entry) (i : ℕ) → length slots ≤ i → i < length (slots ++ numbered table (ids_of serial + length slots) es) → (leaf_at (slots ++ numbered table (ids_of serial + length slots) es) i).id ≡ ids_of serial + i
new-id slots table serial es i ge lt =
    let n = length slots in
    let new = numbered table (ids_of serial + n) es in
    let long = length-append slots new in
    let many = numbered-long table (ids_of serial + n) es in
    let j = i - n in
    let there : i ≡ n + j = omega (arith, ge) in
    let id = numbered-at table (ids_of serial + n) es j (omega (arith, lt, long, many, there)) in
    let at = ap (λ (l : Leaf). l.id) (at-right slots new i j there) in
    omega (arith, at, id, there)

pub home-is : (serial i : ℕ) → i < 2 ^ 28 → home_of (ids_of serial + i) ≡ i
home-is serial i lt = omega (arith, lt)

pub home-added : (slots : List Leaf) (table serial : ℕ) (es : List Entry) → AreHome slots → length (slots ++ numbered table (ids_of serial + length slots) es) ≤ 2 ^ 28 → AreHome (slots ++ numbered table (ids_of serial + length slots) es)
home-added slots table serial es home few i lt = elim (cases_lt i (length slots)) [
  | inl old ↦ ap (λ (l : Leaf). home_of l.id) (at-left slots (numbered table (ids_of serial + length slots) es) i old) ∙ home i old
  | inr new ↦ ap home_of (new-id slots table serial es i new lt) ∙ home-is serial i (omega (arith, lt, few))
]

pub below-added : (slots : List Leaf) (table serial : ℕ) (es : List Entry) → AreBelow (ids_of serial) slots → length (slots ++ numbered table (ids_of serial + length slots) es) ≤ 2 ^ 28 → AreBelow (ids_of (serial + 1)) (slots ++ numbered table (ids_of serial + length slots) es)
below-added slots table serial es below few i lt = elim (cases_lt i (length slots)) [
  | inl old ↦
      let b = below i old in
      let same = ap (λ (l : Leaf). l.id) (at-left slots (numbered table (ids_of serial + length slots) es) i old) in
      omega (arith, b, same)
  | inr new ↦ let id = new-id slots table serial es i new lt in omega (arith, id, lt, few)
]
