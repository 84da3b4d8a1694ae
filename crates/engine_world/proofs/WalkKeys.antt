-- Which keys a walk over the leaves of a table has passed.
use Rattle.std.proofs.Common.{◌≡◌, ◌⊎◌, ℕ, refl, ap, sym, ◌∙◌, Bool, true, false, List, [], ◌∷◌, inl, inr, subst}
use Rattle.std.specs.Prelude.{IsTrue, Option, Some, None, not}
use Rattle.std.specs.List.{Contains}
use Rattle.std.proofs.lemmas.Bool.{and_from, and_parts, both_ways, cases_Bool, not-true, not_from_false}
use Rattle.row_page.proofs.Ascending.{below_trans}
use Rattle.kv_model.specs.Rows.{Way, Up, Down, comes_after, is_past, key_lt}
use Rattle.stored.specs.TableTree.{ends_below}
use Rattle.tree_dir.specs.declared.leaf.Leaf.{Leaf}
use Rattle.tree_dir.specs.Leaves.{Directory, IsDirectory, leaf_behind, leaf_under}
use Rattle.tree_dir.specs.Ranges.{low_key}
use Rattle.tree_dir.proofs.Parting.{first-begins, has-under, last-ends, next-turns, prev-turns, under-has}
use Rattle.call_steps.specs.Tables.{leaf_on, leaf_sought, row_sought}
use Rattle.engine_world.specs.Walks.{before_leaf, passed, passed_with}
use Rattle.std.proofs.lemmas.Option.{same_Some}
use Rattle.kv_model.specs.RowLaws.{before_cut}
use Rattle.engine_world.proofs.Beside.{IsAlike}
use Rattle.engine_world.proofs.WalkCounts.{behind-there}

-- ---- keys

never-below : (key : List ℕ) → key_lt key [] ≡ false
never-below [] = refl
never-below (x ∷ key) = refl

-- a key that the empty one is not below is empty
none-above : (key low : List ℕ) → key_lt [] low ≡ false → key_lt key low ≡ true → ⊥
none-above key [] first below = both_ways (key_lt key []) (never-below key) below
none-above key (x ∷ low) first below = both_ways (key_lt [] (x ∷ low)) first refl

-- no key between a key and a lower bound of it
not-between : (a b low : List ℕ) → key_lt a low ≡ false → key_lt a b ≡ true → key_lt b low ≡ true → ⊥
not-between a b low under one two = both_ways (key_lt a low) under (below_trans a b low one two)

-- ---- in a leaf

module _ (d : Directory) (is : IsDirectory d) (l : Leaf) (there : Contains d.leaves l) where
  lies : (key : List ℕ) → key_lt key l.entry.key ≡ false → IsTrue (ends_below (low_key (leaf_behind l.id d.leaves)) key) → leaf_under l.table key d.leaves ≡ Some l
  lies key from to = has-under d is l.table key l (record { there = there; table = refl; from = not_from_false (key_lt key l.entry.key) from; to = to })

  module _ (within : List ℕ → Bool) (key : List ℕ) (inside : within key ≡ true) where
    -- the key is at the leaf's low key or behind it, and the next leaf is this
    parted-down : (o : Option Leaf) → leaf_behind l.id d.leaves ≡ o → key_lt key l.entry.key ≡ false → (before_leaf Down o (λ k. false) within key ≡ true) ⊎ (leaf_under l.table key d.leaves ≡ Some l)
    parted-down None e from = inr (lies key from (subst (λ (o : Option Leaf). IsTrue (ends_below (low_key o) key)) (sym e) refl))
    parted-down (Some n) e from = elim (cases_Bool (key_lt key n.entry.key)) [
      | inl low ↦ inr (lies key from (subst (λ (o : Option Leaf). IsTrue (ends_below (low_key o) key)) (sym e) low))
      | inr high ↦ inl (and_from (within key) (not (key_lt key n.entry.key)) inside (not_from_false (key_lt key n.entry.key) high))
    ]

    passed-down : key_lt key l.entry.key ≡ false → (passed Down d.leaves l within key ≡ true) ⊎ (leaf_under l.table key d.leaves ≡ Some l)
    passed-down from = parted-down (leaf_behind l.id d.leaves) refl from

    passed-up : IsTrue (ends_below (low_key (leaf_behind l.id d.leaves)) key) → (passed Up d.leaves l within key ≡ true) ⊎ (leaf_under l.table key d.leaves ≡ Some l)
    passed-up to = elim (cases_Bool (key_lt key l.entry.key)) [
      | inl low ↦ inl (and_from (within key) (key_lt key l.entry.key) inside low)
      | inr high ↦ inr (lies key high to)
    ]

  ends-with : (within : List ℕ → Bool) (key : List ℕ) (o : Option Leaf) → before_leaf Up o within within key ≡ true → (within key ≡ true) × IsTrue (ends_below (low_key o) key)
  ends-with within key None e = (e, refl)
  ends-with within key (Some n) e = and_parts (within key) (key_lt key n.entry.key) e

  -- a key that was passed with the leaf was passed before, or lies in it
  pub passed-parts : (way : Way) (within : List ℕ → Bool) (key : List ℕ) → passed_with way d.leaves l within key ≡ true → (passed way d.leaves l within key ≡ true) ⊎ (leaf_under l.table key d.leaves ≡ Some l)
  passed-parts Up within key e = let p = ends-with within key (leaf_behind l.id d.leaves) e in passed-up within key p.0 p.1
  passed-parts Down within key e = let p = and_parts (within key) (not (key_lt key l.entry.key)) e in passed-down within key p.0 (not-true (key_lt key l.entry.key) p.1)

  -- it is of the range
  pub passed-inside : (way : Way) (within : List ℕ → Bool) (key : List ℕ) → passed_with way d.leaves l within key ≡ true → within key ≡ true
  passed-inside Up within key e = (ends-with within key (leaf_behind l.id d.leaves) e).0
  passed-inside Down within key e = (and_parts (within key) (not (key_lt key l.entry.key)) e).0

  ends-before : (o : Option Leaf) (key row : List ℕ) → IsTrue (ends_below (low_key o) row) → key_lt key row ≡ true → IsTrue (ends_below (low_key o) key)
  ends-before None key row to before = refl
  ends-before (Some n) key row to before = below_trans key row n.entry.key before to

  -- and so is one before a key of the leaf
  pub before-parts : (way : Way) (within : List ℕ → Bool) (key row : List ℕ) → within key ≡ true → leaf_under l.table row d.leaves ≡ Some l → comes_after way key row ≡ true
      → (passed way d.leaves l within key ≡ true) ⊎ (leaf_under l.table key d.leaves ≡ Some l)
  before-parts Up within key row inside under before =
      let has = under-has d is l.table row l under in passed-up within key inside (ends-before (leaf_behind l.id d.leaves) key row has.to before)
  before-parts Down within key row inside under before =
      let has = under-has d is l.table row l under in
      passed-down within key inside (elim (cases_Bool (key_lt key l.entry.key)) [
        | inl low ↦ absurd (not-between row key l.entry.key (not-true (key_lt row l.entry.key) has.from) before low)
        | inr high ↦ high
      ])

  -- ---- the next leaf

  behind-table : (n : Leaf) → leaf_behind l.id d.leaves ≡ Some n → n.table ≡ l.table
  behind-table n e = let back = prev-turns d is n l (behind-there l.id d.leaves n e) (next-turns d is l n there e) in sym back.1

  pub next-there : (way : Way) (n : Leaf) → leaf_on way l.id d.leaves ≡ Some n → Contains d.leaves n × (n.table ≡ l.table)
  next-there Up n e = (behind-there l.id d.leaves n e, behind-table n e)
  next-there Down n e = let back = prev-turns d is l n there e in (back.0, back.1)

  -- what was passed with the leaf is what was passed at the next one
  pub passed-next : (way : Way) (n : Leaf) (within : List ℕ → Bool) (key : List ℕ) → leaf_on way l.id d.leaves ≡ Some n → passed way d.leaves n within key ≡ passed_with way d.leaves l within key
  passed-next Up n within key e = sym (ap (λ (o : Option Leaf). before_leaf Up o within within key) e)
  passed-next Down n within key e = let back = prev-turns d is l n there e in ap (λ (o : Option Leaf). before_leaf Down o (λ k. false) within key) back.2

  -- where there is none, all was passed
  pub passed-all : (way : Way) (within : List ℕ → Bool) (key : List ℕ) → leaf_on way l.id d.leaves ≡ None → within key ≡ true → passed_with way d.leaves l within key ≡ true
  passed-all Up within key e inside = ap (λ (o : Option Leaf). before_leaf Up o within within key) e ∙ inside
  passed-all Down within key e inside = and_from (within key) (not (key_lt key l.entry.key)) inside
      (not_from_false (key_lt key l.entry.key) (ap (λ low. key_lt key low) (first-begins d is l there e) ∙ never-below key))

-- ---- the first leaf

none-behind : (o : Option Leaf) (start key : List ℕ) → IsTrue (ends_below (low_key o) start) → before_leaf Down o (λ k. false) (is_past Down (Some start)) key ≡ true → ⊥
none-behind None start key to e = absurd cc
none-behind (Some n) start key to e =
    let p = and_parts (key_lt key start) (not (key_lt key n.entry.key)) e in
    both_ways (key_lt key n.entry.key) (not-true (key_lt key n.entry.key) p.1) (below_trans key start n.entry.key p.0 to)

-- where a walk begins it has passed no key
pub none-passed : (d : Directory) (way : Way) (start : Option (List ℕ)) (table : ℕ) (l : Leaf) (key : List ℕ) → IsDirectory d → leaf_sought d.leaves table (row_sought way start) ≡ Some l
    → passed way d.leaves l (is_past way start) key ≡ true → ⊥
none-passed d Up None table l key is under e =
    let has = under-has d is table [] l under in
    none-above key l.entry.key (not-true (key_lt [] l.entry.key) has.from) e
none-passed d Up (Some start) table l key is under e =
    let has = under-has d is table start l under in
    let p = and_parts (key_lt start key) (key_lt key l.entry.key) e in
    not-between start key l.entry.key (not-true (key_lt start l.entry.key) has.from) p.0 p.1
none-passed d Down None table l key is last e =
    let none = (last-ends d is table l last).2 in
    both_ways (passed Down d.leaves l (is_past Down None) key) (ap (λ (o : Option Leaf). before_leaf Down o (λ k. false) (is_past Down None) key) none) e
none-passed d Down (Some start) table l key is under e =
    let has = under-has d is table start l under in
    none-behind (leaf_behind l.id d.leaves) start key has.to e

-- the leaf at which a walk begins is one of the table
pub sought-there : (d : Directory) (table : ℕ) (key : Option (List ℕ)) (l : Leaf) → IsDirectory d → leaf_sought d.leaves table key ≡ Some l → Contains d.leaves l × (l.table ≡ table)
sought-there d table None l is last = let end = last-ends d is table l last in (end.0, end.1)
sought-there d table (Some key) l is under = let has = under-has d is table key l under in (has.there, has.table)

-- ---- another directory that says the same of the leaf

before-low : (way : Way) (o p : Option Leaf) (others within : List ℕ → Bool) (key : List ℕ) → low_key o ≡ low_key p → before_leaf way o others within key ≡ before_leaf way p others within key
before-low way None None others within key same = refl
before-low way None (Some n) others within key same = absurd cc
before-low way (Some l) None others within key same = absurd cc
before-low way (Some l) (Some n) others within key same = ap (λ (low : List ℕ). before_cut way low within key) (same_Some l.entry.key n.entry.key same)

-- so does its next leaf
abbrev pub KeepsNext : List Leaf → List Leaf → Leaf → Type 0
KeepsNext leaves made l = low_key (leaf_behind l.id made) ≡ low_key (leaf_behind l.id leaves)

next-low : (freed : Option ℕ) (leaves made : List Leaf) (l now : Leaf) → IsAlike freed l now → KeepsNext leaves made l → low_key (leaf_behind now.id made) ≡ low_key (leaf_behind l.id leaves)
next-low freed leaves made l now alike next = ap (λ id. low_key (leaf_behind id made)) alike.id ∙ next

pub passed-kept : (freed : Option ℕ) (way : Way) (leaves made : List Leaf) (l now : Leaf) (within : List ℕ → Bool) (key : List ℕ) → IsAlike freed l now → KeepsNext leaves made l → passed way made now within key ≡ passed way leaves l within key
passed-kept freed Up leaves made l now within key alike next = ap (λ (low : List ℕ). before_cut Up low within key) alike.key
passed-kept freed Down leaves made l now within key alike next = before-low Down (leaf_behind now.id made) (leaf_behind l.id leaves) (λ k. false) within key (next-low freed leaves made l now alike next)

pub passed-with-kept : (freed : Option ℕ) (way : Way) (leaves made : List Leaf) (l now : Leaf) (within : List ℕ → Bool) (key : List ℕ) → IsAlike freed l now → KeepsNext leaves made l → passed_with way made now within key ≡ passed_with way leaves l within key
passed-with-kept freed Up leaves made l now within key alike next = before-low Up (leaf_behind now.id made) (leaf_behind l.id leaves) within within key (next-low freed leaves made l now alike next)
passed-with-kept freed Down leaves made l now within key alike next = ap (λ (low : List ℕ). before_cut Down low within key) alike.key
