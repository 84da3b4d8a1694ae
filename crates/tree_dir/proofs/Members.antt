-- Which leaves a list has after others came among its leaves.
use Rattle.std.proofs.Common.{◌≡◌, ℕ, zero, suc, ◌<◌, ◌⊎◌, List, [], ◌∷◌, ◌++◌, length, get_or, refl, sym, ap, subst, ◌∙◌, inl, inr, arith}
use Rattle.std.specs.List.{Contains}
use Rattle.std.proofs.lemmas.List.Elements.{Contains-append_left, Contains-append_right, Contains-append_cases}
use Rattle.tree_dir.specs.declared.leaf.Leaf.{Leaf}
use Rattle.tree_dir.specs.Leaves.{is_first_of, TablesBegin}

pub split : (a x : Leaf) (more : List Leaf) → Contains (a ∷ more) x → (a ≡ x) ⊎ Contains more x
split a x more c = go c.0 c.1 c.2 where
  go : (k : ℕ) → k < suc (length more) → get_or (a ∷ more) k x ≡ x → (a ≡ x) ⊎ Contains more x
  go zero lt e = inl e
  go (suc k) lt e = inr (k, omega (arith, lt), e)

pub head-in : (a : Leaf) (more : List Leaf) → Contains (a ∷ more) a
head-in a more = (0, omega arith, refl)

pub later : (a x : Leaf) (more : List Leaf) → Contains more x → Contains (a ∷ more) x
later a x more c = (suc c.0, omega (arith, c.1), c.2)

pub sides : (xs ps ys : List Leaf) (l : Leaf) → Contains (xs ++ (ps ++ ys)) l → Contains (xs ++ ys) l ⊎ Contains ps l
sides xs ps ys l c = elim (Contains-append_cases xs (ps ++ ys) l c) [
  | inl a ↦ inl (Contains-append_left xs ys l a)
  | inr b ↦ elim (Contains-append_cases ps ys l b) [
    | inl p ↦ inr p
    | inr y ↦ inl (Contains-append_right xs ys l y)
  ]
]

pub outside : (xs ps ys : List Leaf) (l : Leaf) → Contains (xs ++ ys) l → Contains (xs ++ (ps ++ ys)) l
outside xs ps ys l c = elim (Contains-append_cases xs ys l c) [
  | inl a ↦ Contains-append_left xs (ps ++ ys) l a
  | inr b ↦ Contains-append_right xs (ps ++ ys) l (Contains-append_right ps ys l b)
]

pub inside : (xs ps ys : List Leaf) (l : Leaf) → Contains ps l → Contains (xs ++ (ps ++ ys)) l
inside xs ps ys l c = Contains-append_right xs (ps ++ ys) l (Contains-append_left ps ys l c)

-- leaves of a table came, one of them from the empty key on
pub begins-spliced : (xs ps ys : List Leaf) (table : ℕ) (first : Leaf) → TablesBegin (xs ++ ys) → ((l : Leaf) → Contains ps l → l.table ≡ table) → Contains ps first → is_first_of table first → TablesBegin (xs ++ (ps ++ ys))
begins-spliced xs ps ys table first begins own there is l c = elim (sides xs ps ys l c) [
  | inl old ↦ let f = begins l old in (f.0, outside xs ps ys f.0 f.1, f.2)
  | inr new ↦ (first, inside xs ps ys first there, (is.0 ∙ sym (own l new), is.1))
]

-- a leaf gave way to leaves of its table, one of them from its low key on
pub begins-given : (xs ps ys : List Leaf) (leaf first : Leaf) → TablesBegin (xs ++ (leaf ∷ ys)) → ((l : Leaf) → Contains ps l → l.table ≡ leaf.table) → Contains ps first → first.table ≡ leaf.table → first.entry.key ≡ leaf.entry.key → TablesBegin (xs ++ (ps ++ ys))
begins-given xs ps ys leaf first begins own there its-table its-key l c = elim (sides xs ps ys l c) [
  | inl old ↦ from l.table (begins l (outside xs (leaf ∷ []) ys l old))
  | inr new ↦ from l.table (subst (λ (t : ℕ). (f : Leaf) × Contains (xs ++ (leaf ∷ ys)) f × is_first_of t f) (sym (own l new)) (begins leaf (inside xs (leaf ∷ []) ys leaf (head-in leaf []))))
] where
  from : (table : ℕ) → (f : Leaf) × Contains (xs ++ (leaf ∷ ys)) f × is_first_of table f → (f : Leaf) × Contains (xs ++ (ps ++ ys)) f × is_first_of table f
  from table f = elim (sides xs (leaf ∷ []) ys f.0 f.1) [
    | inl old ↦ (f.0, outside xs ps ys f.0 old, f.2)
    | inr it ↦ elim (split leaf f.0 [] it) [
      | inl same ↦ (first, inside xs ps ys first there, (its-table ∙ (ap (λ (m : Leaf). m.table) same ∙ f.2.0), its-key ∙ (ap (λ (m : Leaf). m.entry.key) same ∙ f.2.1)))
      | inr none ↦ absurd (omega (arith, none.1))
    ]
  ]
