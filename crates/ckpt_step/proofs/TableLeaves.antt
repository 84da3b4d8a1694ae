-- The leaves of a table: they differ, and of two that have keys the first has the lower ones.
use Rattle.std.specs.Prelude.{◌≡◌, ◌≢◌, ◌⊎◌, ℕ, zero, suc, ◌<◌, ◌==◌, not, true, false, List, [], ◌∷◌, ◌++◌, length, slice_index_or, Option, Some, None, if◌then◌else◌, refl}
use Rattle.std.specs.List.{AllByRecursion, AllPairs, Contains}
use Rattle.std.specs.Option.{option_or}
use Rattle.std.proofs.Common.{inl, inr, sym, ◌∙◌, ap, subst, arith}
use Rattle.std.proofs.lemmas.Bool.{and_from, and_parts, both_ways, cases_Bool, eq-eqb, eqb-true, not-true, not_from_false}
use Rattle.kv_model.specs.Holds.{Member}
use Rattle.row_page.specs.Rows.{is_below}
use Rattle.tree_dir.specs.declared.leaf.Leaf.{Leaf}
use Rattle.tree_dir.specs.Leaves.{TablesBegin, begins_by, leaf_under, leaves_of}
use Rattle.ckpt_step.proofs.Members.{all_made, all_of, none_some, some_same}

-- ---- members

pub member_of : {A : Type 0} (xs : List A) (x : A) → Contains xs x → Member x xs
member_of {A} xs x there = by xs there.0 there.1 there.2
  where
    by : (xs : List A) (k : ℕ) → k < length xs → slice_index_or xs k x ≡ x → Member x xs
    by [] k lt is = absurd (omega (arith, lt))
    by (y ∷ xs) zero lt is = inl (sym is)
    by (y ∷ xs) (suc k) lt is = inr (by xs k (omega (arith, lt)) is)

pub contains_of : {A : Type 0} (xs : List A) (x : A) → Member x xs → Contains xs x
contains_of [] x there = absurd there
contains_of (y ∷ xs) x (inl same) = (zero, omega arith, sym same)
contains_of (y ∷ xs) x (inr there) = let later = contains_of xs x there in (suc later.0, omega (arith, later.1), later.2)

-- ---- those of a table

pub in_table : (table : ℕ) (leaves : List Leaf) (m : Leaf) → Member m (leaves_of table leaves) → Member m leaves × (m.table ≡ table)
in_table table [] m there = absurd there
in_table table (l ∷ leaves) m there = elim (cases_Bool (l.table == table)) [
  | inr isnt ↦ let own : Member m (leaves_of table leaves) = rw isnt at there in let rest = in_table table leaves m own in (inr rest.0, rest.1)
  | inl is ↦ let own : Member m (l ∷ leaves_of table leaves) = rw is at there in elim own [
    | inl same ↦ (inl same, ap (λ (x : Leaf). x.table) same ∙ eqb-true l.table table is)
    | inr later ↦ let rest = in_table table leaves m later in (inr rest.0, rest.1)
  ]
]

pub table_in : (table : ℕ) (leaves : List Leaf) (m : Leaf) → Member m leaves → m.table ≡ table → Member m (leaves_of table leaves)
table_in table [] m there own = absurd there
table_in table (l ∷ leaves) m (inl same) own = let is : (l.table == table) ≡ true = eq-eqb l.table table (ap (λ (x : Leaf). x.table) (sym same) ∙ own) in rw is (inl same)
table_in table (l ∷ leaves) m (inr there) own = elim (cases_Bool (l.table == table)) [
  | inr isnt ↦ rw isnt (table_in table leaves m there own)
  | inl is ↦ rw is (inr (table_in table leaves m there own))
]

-- ---- no two have one id

abbrev pub AreOnce : List Leaf → Type 0
AreOnce [] = Unit {0}
AreOnce (l ∷ leaves) = AllByRecursion (λ (m : Leaf). m.id ≡ l.id → ⊥) leaves × AreOnce leaves

pub once_of : (leaves : List Leaf) → AllPairs (λ (a b : Leaf). a.id ≢ b.id) leaves → AreOnce leaves
once_of [] pairs = tt
once_of (l ∷ leaves) pairs = (all_made (λ (m : Leaf). m.id ≡ l.id → ⊥) leaves differs, once_of leaves (λ i j d lt within. pairs (suc i) (suc j) d (omega (arith, lt)) (omega (arith, within))))
  where
    differs : (m : Leaf) → Member m leaves → m.id ≡ l.id → ⊥
    differs m there same = let at = contains_of leaves m there in pairs zero (suc at.0) m (omega arith) (omega (arith, at.1)) (sym (ap (λ (x : Leaf). x.id) at.2 ∙ same))

pub once_table : (table : ℕ) (leaves : List Leaf) → AreOnce leaves → AreOnce (leaves_of table leaves)
once_table table [] once = tt
once_table table (l ∷ leaves) once = elim (cases_Bool (l.table == table)) [
  | inr isnt ↦ rw isnt (once_table table leaves once.1)
  | inl is ↦ rw is (all_made (λ (m : Leaf). m.id ≡ l.id → ⊥) (leaves_of table leaves) (λ m there. all_of (λ (x : Leaf). x.id ≡ l.id → ⊥) leaves m once.0 (in_table table leaves m there).0), once_table table leaves once.1)
]

-- the leaves behind a leaf differ from those before it
pub once_split : (front : List Leaf) (l : Leaf) (rest : List Leaf) → AreOnce (front ++ l ∷ rest) → (m : Leaf) → Member m front → m.id ≡ l.id → ⊥
once_split [] l rest once m there same = there
once_split (x ∷ front) l rest once m (inl is) same = all_of (λ (y : Leaf). y.id ≡ x.id → ⊥) (front ++ l ∷ rest) l once.0 (behind front) (sym same ∙ ap (λ (y : Leaf). y.id) is)
  where
    behind : (front : List Leaf) → Member l (front ++ l ∷ rest)
    behind [] = inl refl
    behind (y ∷ front) = inr (behind front)
once_split (x ∷ front) l rest once m (inr there) same = once_split front l rest once.1 m there same

-- ---- the leaf under a key

abbrev if_begins : ℕ → List ℕ → Leaf → Option Leaf
if_begins table key l = if begins_by table key l then Some l else None

-- it is of the leaves behind the first, or the first
pub record IsUnder (table : ℕ) (key : List ℕ) (x : Leaf) (leaves : List Leaf) (l : Leaf) : Type 0 where
  pub none : leaf_under table key leaves ≡ None
  pub same : x ≡ l
  pub begins : begins_by table key x ≡ true

under_cases : (table : ℕ) (key : List ℕ) (x : Leaf) (leaves : List Leaf) (l : Leaf) → leaf_under table key (x ∷ leaves) ≡ Some l → (leaf_under table key leaves ≡ Some l) ⊎ IsUnder table key x leaves l
under_cases table key x leaves l is = by (leaf_under table key leaves) refl
  where
    by : (o : Option Leaf) → leaf_under table key leaves ≡ o → (leaf_under table key leaves ≡ Some l) ⊎ IsUnder table key x leaves l
    by (Some m) there = inl (there ∙ (sym (ap (λ (o : Option Leaf). option_or o (if_begins table key x)) there) ∙ is))
    by None there =
        let here : if_begins table key x ≡ Some l = sym (ap (λ (o : Option Leaf). option_or o (if_begins table key x)) there) ∙ is in
        elim (cases_Bool (begins_by table key x)) [
          | inr isnt ↦ absurd (none_some (rw isnt at here))
          | inl begins ↦ inr (record { none = there; same = some_same (rw begins at here); begins = begins })
        ]

pub under_in : (table : ℕ) (key : List ℕ) (leaves : List Leaf) (l : Leaf) → leaf_under table key leaves ≡ Some l → Member l leaves × (begins_by table key l ≡ true)
under_in table key [] l is = absurd (none_some is)
under_in table key (x ∷ leaves) l is = elim (under_cases table key x leaves l is) [
  | inl later ↦ let rest = under_in table key leaves l later in (inr rest.0, rest.1)
  | inr first ↦ (inl (sym first.same), subst (λ (y : Leaf). begins_by table key y ≡ true) first.same first.begins)
]

pub under_none : (table : ℕ) (key : List ℕ) (leaves : List Leaf) (m : Leaf) → leaf_under table key leaves ≡ None → Member m leaves → begins_by table key m ≡ false
under_none table key [] m is there = absurd there
under_none table key (x ∷ leaves) m is there = by (leaf_under table key leaves) refl (under_none table key leaves m) there
  where
    by : (o : Option Leaf) → leaf_under table key leaves ≡ o → (leaf_under table key leaves ≡ None → Member m leaves → begins_by table key m ≡ false) → Member m (x ∷ leaves) → begins_by table key m ≡ false
    by (Some l) under rest also = absurd (none_some (sym is ∙ ap (λ (o : Option Leaf). option_or o (if_begins table key x)) under))
    by None under rest (inr later) = rest under later
    by None under rest (inl same) = subst (λ (y : Leaf). begins_by table key y ≡ false) (sym same) (elim (cases_Bool (begins_by table key x)) [
      | inr isnt ↦ isnt
      | inl begins ↦
          let here : if_begins table key x ≡ None = sym (ap (λ (o : Option Leaf). option_or o (if_begins table key x)) under) ∙ is in
          absurd (none_some (sym (rw begins at here)))
    ])

-- of leaves that differ
pub under_tail : (table : ℕ) (key : List ℕ) (x : Leaf) (leaves : List Leaf) (l : Leaf) → AreOnce (x ∷ leaves) → Member l leaves → leaf_under table key (x ∷ leaves) ≡ Some l → leaf_under table key leaves ≡ Some l
under_tail table key x leaves l once there is = elim (under_cases table key x leaves l is) [
  | inl later ↦ later
  | inr first ↦ absurd (all_of (λ (m : Leaf). m.id ≡ x.id → ⊥) leaves l once.0 there (sym (ap (λ (m : Leaf). m.id) first.same)))
]

pub under_head : (table : ℕ) (key : List ℕ) (x : Leaf) (leaves : List Leaf) → AreOnce (x ∷ leaves) → leaf_under table key (x ∷ leaves) ≡ Some x → leaf_under table key leaves ≡ None
under_head table key x leaves once is = elim (under_cases table key x leaves x is) [
  | inl later ↦ absurd (all_of (λ (m : Leaf). m.id ≡ x.id → ⊥) leaves x once.0 (under_in table key leaves x later).0 refl)
  | inr first ↦ first.none
]

-- only the leaves of the table matter
pub under_of : (table : ℕ) (key : List ℕ) (leaves : List Leaf) → leaf_under table key leaves ≡ leaf_under table key (leaves_of table leaves)
under_of table key [] = refl
under_of table key (l ∷ leaves) = elim (cases_Bool (l.table == table)) [
  | inl is ↦
      let own : leaves_of table (l ∷ leaves) ≡ l ∷ leaves_of table leaves = rw is refl in
      ap (λ (o : Option Leaf). option_or o (if_begins table key l)) (under_of table key leaves) ∙ sym (ap (λ (ls : List Leaf). leaf_under table key ls) own)
  | inr isnt ↦ rw isnt (nothing (leaf_under table key leaves) (leaf_under table key (leaves_of table leaves)) (under_of table key leaves))
]
  where
    nothing : (o p : Option Leaf) → o ≡ p → option_or o None ≡ p
    nothing None p same = same
    nothing (Some x) p same = same

-- ---- keys

-- a key that no leaf of the table begins by is below each of their low keys
pub above_key : (table : ℕ) (key : List ℕ) (l : Leaf) → l.table ≡ table → begins_by table key l ≡ false → is_below key l.entry.key ≡ true
above_key table key l own isnt = elim (cases_Bool (is_below key l.entry.key)) [
  | inl below ↦ below
  | inr above ↦ absurd (both_ways (begins_by table key l) isnt (and_from (l.table == table) (not (is_below key l.entry.key)) (eq-eqb l.table table own) (not_from_false (is_below key l.entry.key) above)))
]

pub begins_parts : (table : ℕ) (key : List ℕ) (l : Leaf) → begins_by table key l ≡ true → (l.table ≡ table) × (is_below key l.entry.key ≡ false)
begins_parts table key l is = let both = and_parts (l.table == table) (not (is_below key l.entry.key)) is in (eqb-true l.table table both.0, not-true (is_below key l.entry.key) both.1)

-- the keys of a leaf are below the low key of each behind it
pub below_later : (table : ℕ) (key : List ℕ) (front : List Leaf) (l : Leaf) (rest : List Leaf) (m : Leaf) → AreOnce (front ++ l ∷ rest) → l.table ≡ table → Member m front → leaf_under table key (front ++ l ∷ rest) ≡ Some m → is_below key l.entry.key ≡ true
below_later table key [] l rest m once own there is = absurd there
below_later table key (x ∷ front) l rest m once own (inr there) is = below_later table key front l rest m once.1 own there (under_tail table key x (front ++ l ∷ rest) m once (in_all front there) is)
  where
    in_all : (front : List Leaf) → Member m front → Member m (front ++ l ∷ rest)
    in_all [] there = absurd there
    in_all (y ∷ front) (inl same) = inl same
    in_all (y ∷ front) (inr later) = inr (in_all front later)
below_later table key (x ∷ front) l rest m once own (inl same) is =
    above_key table key l own (under_none table key (front ++ l ∷ rest) l (under_head table key x (front ++ l ∷ rest) once (is ∙ ap (λ (y : Leaf). Some y) same)) (behind front))
  where
    behind : (front : List Leaf) → Member l (front ++ l ∷ rest)
    behind [] = inl refl
    behind (y ∷ front) = inr (behind front)

-- each key of a table that has a leaf lies in one
pub under_some : (table : ℕ) (key : List ℕ) (leaves : List Leaf) (m : Leaf) → TablesBegin leaves → Member m leaves → m.table ≡ table → (l : Leaf) × (leaf_under table key leaves ≡ Some l)
under_some table key leaves m begins there own = by (leaf_under table key leaves) refl
  where
    never_below : (k : List ℕ) → is_below k [] ≡ false
    never_below [] = refl
    never_below (x ∷ k) = refl

    by : (o : Option Leaf) → leaf_under table key leaves ≡ o → (l : Leaf) × (leaf_under table key leaves ≡ Some l)
    by (Some l) is = (l, is)
    by None is =
        let first = begins m (contains_of leaves m there) in
        let isnt = under_none table key leaves first.0 is (member_of leaves first.0 first.1) in
        let low = above_key table key first.0 (first.2.0 ∙ own) isnt in
        absurd (both_ways (is_below key []) (never_below key) (subst (λ (k : List ℕ). is_below key k ≡ true) first.2.1 low))
