-- A directory to which the only leaf of a table came, between those of lower and of greater tables.
use Rattle.std.proofs.Common.{◌≡◌, ◌≢◌, ◌⊎◌, ◌<◌, ℕ, refl, ap, sym, ◌∙◌, Bool, true, false, List, [], ◌∷◌, ◌++◌, length, get_or, inl, inr, subst, append_assoc, arith}
use Rattle.std.specs.Prelude.{◌==◌, Option, Some, None, filter, if◌then◌else◌, nat_lt}
use Rattle.std.specs.Option.{option_or}
use Rattle.std.specs.List.{All, Contains}
use Rattle.std.proofs.lemmas.Bool.{cases_Bool, eq-eqb, ltb-true, ne_eqb}
use Rattle.std.proofs.lemmas.List.Elements.{All-contains, Contains-get_or}
use Rattle.kv_model.specs.Rows.{Way, Up, Down}
use Rattle.row_page.specs.Rows.{is_below}
use Rattle.tree_dir.specs.declared.leaf.Leaf.{Leaf}
use Rattle.tree_dir.specs.Leaves.{Directory, IsDirectory, begins_by, changed, in_frame, leaf_behind, leaf_under, of_table}
use Rattle.tree_dir.proofs.Members.{head-in, later, outside, sides, split}
use Rattle.tree_dir.proofs.Parting.{under-has}
use Rattle.tree_dir.proofs.Splicing.{greater, lower, parted}
use Rattle.engine_world.specs.Systems.{HasFirstLeaf, first_entry}
use Rattle.engine_world.specs.Walks.{all_ahead, all_behind, in_table, leaves_on}
use Rattle.tree_dir.specs.Ranges.{low_key}
use Rattle.engine_world.proofs.Beside.{LeavesKept}

-- ---- one more between these

-- these are of lower tables, and those of greater ones
abbrev pub Lows : ℕ → List Leaf → Type 0
Lows table [] = Unit {0}
Lows table (x ∷ xs) = (x.table < table) × Lows table xs

abbrev pub Highs : ℕ → List Leaf → Type 0
Highs table [] = Unit {0}
Highs table (y ∷ ys) = (table < y.table) × Highs table ys

pub lows-filter : (table : ℕ) (leaves : List Leaf) → Lows table (lower table leaves)
lows-filter table [] = tt
lows-filter table (x ∷ leaves) = elim (cases_Bool (nat_lt x.table table)) [
  | inl is ↦ rw is (ltb-true x.table table is, lows-filter table leaves)
  | inr isnt ↦ rw isnt (lows-filter table leaves)
]

pub highs-filter : (table : ℕ) (leaves : List Leaf) → Highs table (greater table leaves)
highs-filter table [] = tt
highs-filter table (x ∷ leaves) = elim (cases_Bool (nat_lt table x.table)) [
  | inl is ↦ rw is (ltb-true table x.table is, highs-filter table leaves)
  | inr isnt ↦ rw isnt (highs-filter table leaves)
]

not-begins : (table : ℕ) (key : List ℕ) (l : Leaf) → l.table ≢ table → begins_by table key l ≡ false
not-begins table key l other = rw (ne_eqb l.table table other) refl

or-none : (o : Option Leaf) → option_or o None ≡ o
or-none None = refl
or-none (Some l) = refl

under-one : (table : ℕ) (key : List ℕ) (n : Leaf) (ys : List Leaf) → n.table ≢ table → leaf_under table key (n ∷ ys) ≡ leaf_under table key ys
under-one table key n ys other = ap (λ (b : Bool). option_or (leaf_under table key ys) (if b then Some n else None)) (not-begins table key n other) ∙ or-none (leaf_under table key ys)

-- a key of another table
under-other : (table : ℕ) (key : List ℕ) (xs ys : List Leaf) (n : Leaf) → n.table ≢ table → leaf_under table key (xs ++ (n ∷ ys)) ≡ leaf_under table key (xs ++ ys)
under-other table key [] ys n other = under-one table key n ys other
under-other table key (x ∷ xs) ys n other = ap (λ (o : Option Leaf). option_or o (if begins_by table key x then Some x else None)) (under-other table key xs ys n other)

under-none-high : (table : ℕ) (key : List ℕ) (ys : List Leaf) → Highs table ys → leaf_under table key ys ≡ None
under-none-high table key [] high = refl
under-none-high table key (y ∷ ys) high = under-one table key y ys (λ e. let more = high.0 in omega (arith, more, e)) ∙ under-none-high table key ys high.1

-- and one of this table
pub under-new : (key : List ℕ) (xs ys : List Leaf) (n : Leaf) → Lows n.table xs → Highs n.table ys → n.entry.key ≡ [] → leaf_under n.table key (xs ++ (n ∷ ys)) ≡ Some n
under-new key [] ys n low high first = ap (λ (o : Option Leaf). option_or o (if begins_by n.table key n then Some n else None)) (under-none-high n.table key ys high)
    ∙ ap (λ (b : Bool). option_or None (if b then Some n else None)) begins where
      empty : (k : List ℕ) → is_below k [] ≡ false
      empty [] = refl
      empty (c ∷ k) = refl

      begins : begins_by n.table key n ≡ true
      begins = rw (eq-eqb n.table n.table refl, first, empty key) refl
under-new key (x ∷ xs) ys n low high first = under-one n.table key x (xs ++ (n ∷ ys)) (λ e. let less = low.0 in omega (arith, less, e)) ∙ under-new key xs ys n low.1 high first

of-other : (table : ℕ) (l : Leaf) → l.table ≢ table → of_table table l ≡ None
of-other table l other = rw (ne_eqb l.table table other) refl

-- the leaf behind one of other leaves
behind-other : (id : ℕ) (xs ys : List Leaf) (n : Leaf) → Lows n.table xs → Highs n.table ys → n.id ≢ id → leaf_behind id (xs ++ (n ∷ ys)) ≡ leaf_behind id (xs ++ ys)
behind-other id [] [] n low high other = refl
behind-other id [] (y ∷ ys) n low high other = rw (ne_eqb n.id id other) refl
behind-other id (x ∷ []) [] n low high other = elim (cases_Bool (x.id == id)) [
  | inl is ↦ rw is (of-other x.table n (λ e. let less = low.0 in omega (arith, less, e)))
  | inr isnt ↦ rw isnt refl
]
behind-other id (x ∷ []) (y ∷ ys) n low high other = elim (cases_Bool (x.id == id)) [
  | inl is ↦ rw is (of-other x.table n (λ e. let less = low.0 in omega (arith, less, e)) ∙ sym (of-other x.table y (λ e. let less = low.0 in let more = high.0 in omega (arith, less, more, e))))
  | inr isnt ↦ rw (isnt, ne_eqb n.id id other) refl
]
behind-other id (x ∷ z ∷ xs) ys n low high other =
    ap (λ (o : Option Leaf). if x.id == id then of_table x.table z else o) (behind-other id (z ∷ xs) ys n low.1 high other)

-- the leaves of another table
table-other : (table : ℕ) (xs ys : List Leaf) (n : Leaf) → n.table ≢ table → in_table table (xs ++ (n ∷ ys)) ≡ in_table table (xs ++ ys)
table-other table [] ys n other = rw (ne_eqb n.table table other) refl
table-other table (x ∷ xs) ys n other = ap (λ (l : List Leaf). if x.table == table then x ∷ l else l) (table-other table xs ys n other)

on-other : (way : Way) (table id : ℕ) (xs ys : List Leaf) (n : Leaf) → n.table ≢ table → leaves_on way table id (xs ++ (n ∷ ys)) ≡ leaves_on way table id (xs ++ ys)
on-other Up table id xs ys n other = ap (λ l. length (all_behind id l)) (table-other table xs ys n other)
on-other Down table id xs ys n other = ap (λ l. length (all_ahead id l)) (table-other table xs ys n other)

-- ---- the directory

-- the leaves of other tables and ids, before and after this one came to them
pub record IsCome (leaves made : List Leaf) (n : Leaf) : Type 0 where
  pub before : List Leaf
  pub behind : List Leaf
  pub low : Lows n.table before
  pub high : Highs n.table behind
  pub old : leaves ≡ before ++ behind
  pub new : made ≡ before ++ (n ∷ behind)
  pub apart : (l : Leaf) → Contains leaves l → n.table ≢ l.table
  pub fresh : (l : Leaf) → Contains leaves l → n.id ≢ l.id

module _ (d : Directory) (made : List Leaf) (n : Leaf) (is : IsDirectory d) (c : IsCome d.leaves made n) where
  pub come-there : (l : Leaf) → Contains d.leaves l → Contains made l
  come-there l there = subst (λ ls. Contains ls l) (sym c.new) (outside c.before (n ∷ []) c.behind l (subst (λ ls. Contains ls l) c.old there))

  pub new-there : Contains made n
  new-there = subst (λ ls. Contains ls n) (sym c.new) (at c.before) where
    at : (xs : List Leaf) → Contains (xs ++ (n ∷ c.behind)) n
    at [] = head-in n c.behind
    at (x ∷ xs) = later x n (xs ++ (n ∷ c.behind)) (at xs)

  pub under-same : (table : ℕ) (key : List ℕ) → n.table ≢ table → leaf_under table key made ≡ leaf_under table key d.leaves
  under-same table key other = ap (leaf_under table key) c.new ∙ (under-other table key c.before c.behind n other ∙ ap (leaf_under table key) (sym c.old))

  under-kept : (table : ℕ) (key : List ℕ) (l : Leaf) → leaf_under table key d.leaves ≡ Some l → leaf_under table key made ≡ Some l
  under-kept table key l e = let has = under-has d is table key l e in under-same table key (λ same. c.apart l has.there (same ∙ sym has.table)) ∙ e

  pub come-kept : LeavesKept None d.leaves made
  come-kept = record {
    to = λ l. l;
    alike = λ l. record { id = refl; table = refl; key = refl; frame = λ f e other. e };
    there = come-there;
    under = under-kept;
    behind = λ l there. ap low_key (ap (leaf_behind l.id) c.new ∙ (behind-other l.id c.before c.behind n c.low c.high (c.fresh l there) ∙ ap (leaf_behind l.id) (sym c.old)));
    on = λ way l there. ap (leaves_on way l.table l.id) c.new ∙ (on-other way l.table l.id c.before c.behind n (c.apart l there) ∙ ap (leaves_on way l.table l.id) (sym c.old));
  }

  pub under-come : n.entry.key ≡ [] → (key : List ℕ) → leaf_under n.table key made ≡ Some n
  under-come first key = ap (leaf_under n.table key) c.new ∙ under-new key c.before c.behind n c.low c.high first

  -- a leaf that is there now was there, or is the new one
  pub come-cases : (l : Leaf) → Contains made l → Contains d.leaves l ⊎ (n ≡ l)
  come-cases l there = elim (sides c.before (n ∷ []) c.behind l (subst (λ ls. Contains ls l) c.new there)) [
    | inl old ↦ inl (subst (λ ls. Contains ls l) (sym c.old) old)
    | inr new ↦ elim (split n l [] new) [ inl same ↦ inr same | inr none ↦ absurd (omega (arith, none.1)) ]
  ]

-- ---- a table that comes to a directory

abbrev pub new_leaf : ℕ → ℕ → ℕ → ℕ → Leaf
new_leaf table id frame generation = record { id = id; table = table; entry = first_entry; frame = Some (record { frame = frame; generation = generation }) }

-- none of these has the id
changed-none : (id : ℕ) (f : Leaf → Leaf) (leaves : List Leaf) → ((l : Leaf) → Contains leaves l → id ≢ l.id) → changed id f leaves ≡ leaves
changed-none id f [] none = refl
changed-none id f (x ∷ leaves) none = rw (ne_eqb x.id id (λ e. none x (head-in x leaves) (sym e))) (ap (λ (ls : List Leaf). x ∷ ls) (changed-none id f leaves (λ l there. none l (later x l leaves there))))

changed-append : (id : ℕ) (f : Leaf → Leaf) (xs ys : List Leaf) → changed id f (xs ++ ys) ≡ changed id f xs ++ changed id f ys
changed-append id f [] ys = refl
changed-append id f (x ∷ xs) ys = ap (λ (ls : List Leaf). (if x.id == id then f x else x) ∷ ls) (changed-append id f xs ys)

filter-there : (p : Leaf → Bool) (leaves : List Leaf) (l : Leaf) → Contains (filter p leaves) l → Contains leaves l
filter-there p [] l c = c
filter-there p (x ∷ leaves) l c = elim (cases_Bool (p x)) [
  | inl is ↦ elim (split x l (filter p leaves) (rw is at c)) [
    | inl same ↦ subst (Contains (x ∷ leaves)) same (head-in x leaves)
    | inr more ↦ later x l leaves (filter-there p leaves l more)
  ]
  | inr isnt ↦ later x l leaves (filter-there p leaves l (rw isnt at c))
]

pub comes : (old new : Directory) (table id frame generation : ℕ) → IsDirectory old → ((l : Leaf) → Contains old.leaves l → l.table ≢ table) → HasFirstLeaf old new table id frame generation → IsCome old.leaves new.leaves (new_leaf table id frame generation)
comes old new table id frame generation is none h = record {
  before = lower table old.leaves;
  behind = greater table old.leaves;
  low = lows-filter table old.leaves;
  high = highs-filter table old.leaves;
  old = parted table old.leaves is.ascends all-none;
  new = ap (λ (d : Directory). d.leaves) h.placed ∙ (ap (changed id f) (h.added.leaves ∙ append_assoc (lower table old.leaves) (bare ∷ []) (greater table old.leaves)) ∙ whole);
  apart = λ l there e. none l there (sym e);
  fresh = fresh;
} where
  bare : Leaf
  bare = record { id = id; table = table; entry = first_entry; frame = None }

  f : Leaf → Leaf
  f = in_frame (Some (record { frame = frame; generation = generation }))

  all-none : All (λ l. l.table ≢ table) old.leaves
  all-none i d within = none (get_or old.leaves i d) (Contains-get_or old.leaves i d within)

  fresh : (l : Leaf) → Contains old.leaves l → id ≢ l.id
  fresh l there e = let below = All-contains (λ (l : Leaf). l.id < old.next) old.leaves l is.below there in let from = h.added.fresh.ascend.0 in omega (arith, below, from, e)

  whole : changed id (in_frame (Some (record { frame = frame; generation = generation }))) (lower table old.leaves ++ ((record { id = id; table = table; entry = first_entry; frame = None }) ∷ greater table old.leaves))
      ≡ lower table old.leaves ++ (new_leaf table id frame generation ∷ greater table old.leaves)
  whole = changed-append id f (lower table old.leaves) (bare ∷ greater table old.leaves)
      ∙ ((λ i. changed-none id f (lower table old.leaves) (λ l c. fresh l (filter-there (λ l. nat_lt l.table table) old.leaves l c)) i ++ changed id f (bare ∷ greater table old.leaves))
      ∙ ap (λ (ls : List Leaf). lower table old.leaves ++ ls) (rw (eq-eqb id id refl) (ap (λ (ls : List Leaf). new_leaf table id frame generation ∷ ls) (changed-none id f (greater table old.leaves) (λ l c. fresh l (filter-there (λ l. nat_lt table l.table) old.leaves l c))))))
