-- The leaves of a table, from its first one on.
use Rattle.std.proofs.Common.{◌≡◌, ℕ, zero, suc, ◌+◌, ◌==◌, ◌<◌, ◌≤◌, true, false, List, [], ◌∷◌, length, get_or, drop, filter, refl, sym, ap, subst, ◌∙◌, inl, inr, arith}
use Rattle.std.specs.List.{HoldsAt}
use Rattle.std.specs.List.Sorted.{IsPartitionPoint}
use Rattle.std.specs.Ordering.{nat_cmp}
use Rattle.std.specs.Cmp.Lexicographic.{slice_cmp}
use Rattle.std.specs.declared.cmp.Ordering.TheVariants.{Less, Equal, Greater}
use Rattle.std.proofs.lemmas.Bool.{cases_eq, cases_lt, eq-eqb, ne_eqb}
use Rattle.std.proofs.lemmas.List.{drop-map}
use Rattle.std.proofs.lemmas.Map.Lookups.{exact_bytes}
use Rattle.tree_dir.specs.declared.leaf.Leaf.{Leaf}
use Rattle.tree_dir.specs.Leaves.{TablesBegin, leaves_of, place_key}
use Rattle.tree_dir.specs.Order.{IsWay, rank_at, rank_order}
use Rattle.tree_dir.specs.Slots.{front_of, leaf_at, leaves_at, no_leaf}
use Rattle.tree_dir.proofs.Index.{never-missed}
use Rattle.tree_dir.proofs.KeyOrder.{place-same}
use Rattle.tree_dir.proofs.SlotLemmas.{view-at, view-long, view-rank, view-slot}
use Rattle.tree_dir.proofs.ViewLemmas.{places-rise, tables-rise}

-- ---- lists of leaves

-- none of the first leaves is of the table
skipped : (table : ℕ) (leaves : List Leaf) (r : ℕ) → ((k : ℕ) → k < r → k < length leaves → (get_or leaves k no_leaf).table ≡ table → ⊥) → leaves_of table leaves ≡ leaves_of table (drop r leaves)
skipped table leaves zero none = refl
skipped table [] (suc r) none = refl
skipped table (l ∷ leaves) (suc r) none =
    let isnt : (l.table == table) ≡ false = ne_eqb l.table table (none 0 (omega arith) (omega arith)) in
    rw isnt (skipped table leaves r (λ k less within same. none (suc k) (omega (arith, less)) (omega (arith, within)) same))

-- no leaf is of the table
none_of : (table : ℕ) (leaves : List Leaf) → ((k : ℕ) → k < length leaves → (get_or leaves k no_leaf).table ≡ table → ⊥) → leaves_of table leaves ≡ []
none_of table [] none = refl
none_of table (l ∷ leaves) none =
    let isnt : (l.table == table) ≡ false = ne_eqb l.table table (none 0 (omega arith)) in
    rw isnt (none_of table leaves (λ k within same. none (suc k) (omega (arith, within)) same))

-- the tables do not go down, from this one on
fronted : (table : ℕ) (leaves : List Leaf) → ((i j : ℕ) → i < j → j < length leaves → (get_or leaves i no_leaf).table ≤ (get_or leaves j no_leaf).table) → ((k : ℕ) → k < length leaves → table ≤ (get_or leaves k no_leaf).table) → front_of table leaves ≡ leaves_of table leaves
fronted table [] rise from = refl
fronted table (l ∷ leaves) rise from = elim (cases_eq l.table table) [
  | inl same ↦
      let is : (l.table == table) ≡ true = eq-eqb l.table table same in
      rw is (ap (λ (m : List Leaf). l ∷ m) (fronted table leaves (λ i j less within. rise (suc i) (suc j) (omega (arith, less)) (omega (arith, within))) (λ k within. from (suc k) (omega (arith, within)))))
  | inr other ↦
      let isnt : (l.table == table) ≡ false = ne_eqb l.table table other in
      let past : table < l.table = above (from 0 (omega arith)) other in
      rw isnt (sym (none_of table leaves (λ k within same. let up = rise 0 (suc k) (omega arith) (omega (arith, within)) in absurd (omega (arith, up, same, past)))))
]
  where
    above : table ≤ l.table → (l.table ≡ table → ⊥) → table < l.table
    above least other = elim (cases_lt table l.table) [ inl less ↦ less | inr most ↦ absurd (other (omega (arith, least, most))) ]

-- ---- from a place on

none_plus : (n : ℕ) → n ≡ 0 + n
none_plus n = omega arith

suc_plus : (m n : ℕ) → suc (m + n) ≡ suc m + n
suc_plus m n = omega arith

dropped_at : (leaves : List Leaf) (r k : ℕ) → get_or (drop r leaves) k no_leaf ≡ get_or leaves (r + k) no_leaf
dropped_at leaves zero k = ap (λ (n : ℕ). get_or leaves n no_leaf) (none_plus k)
dropped_at [] (suc r) k = ap (λ (n : ℕ). get_or [] n no_leaf) (none_plus k)
dropped_at (l ∷ leaves) (suc r) k = dropped_at leaves r k ∙ ap (λ (n : ℕ). get_or (l ∷ leaves) n no_leaf) (suc_plus r k)

dropped_long : (leaves : List Leaf) (r k : ℕ) → k < length (drop r leaves) → r + k < length leaves
dropped_long leaves zero k within = omega (arith, within)
dropped_long [] (suc r) k within = absurd (omega (arith, within))
dropped_long (l ∷ leaves) (suc r) k within = let rest = dropped_long leaves r k within in omega (arith, rest)

plus_none : (n : ℕ) → n + 0 ≡ n
plus_none n = omega arith

head_is : {a b : ℕ} {xs ys : List ℕ} → a ∷ xs ≡ b ∷ ys → a ≡ b
head_is {a} {b} {xs} {ys} same = ap (λ (l : List ℕ). get_or l 0 0) same

-- no key is below the empty one
never_less : (key : List ℕ) → slice_cmp nat_cmp key [] ≡ Less → ⊥
never_less [] less = absurd cc
never_less (x ∷ key) less = absurd cc

module _ (slots : List Leaf) (order : List ℕ) (table : ℕ) (way : IsWay slots order) where
  abbrev L : List Leaf
  L = leaves_at slots order

  abbrev at : ℕ → Leaf
  at k = leaf_at slots (get_or order k 0)

  at_is : (k : ℕ) → k < length order → get_or L k no_leaf ≡ at k
  at_is k within = view-at slots order k no_leaf within

  within_of : (k : ℕ) → k < length L → k < length order
  within_of k within = let long = view-long slots order in omega (arith, within, long)

  tables_up : (i j : ℕ) → i < j → j < length L → (get_or L i no_leaf).table ≤ (get_or L j no_leaf).table
  tables_up i j less within =
      let inside = within_of j within in
      let up = tables-rise slots order i j way less inside in
      let one = ap (λ (l : Leaf). l.table) (at_is i (omega (arith, less, inside))) in
      let two = ap (λ (l : Leaf). l.table) (at_is j inside) in
      omega (arith, up, one, two)

  -- the place of the slot of this table and the empty key
  module _ (r : ℕ) (within : r < length order) (equal : HoldsAt (λ y. rank_order slots (table ∷ []) y ≡ Equal) order r) where
    first_key_is : place_key (at r) ≡ table ∷ []
    first_key_is = sym (view-rank slots order r way within) ∙ exact_bytes (rank_at slots (get_or order r 0)) (table ∷ []) (equal 0)

    first_table : (at r).table ≡ table
    first_table = head_is first_key_is

    before : (k : ℕ) → k < r → k < length L → (get_or L k no_leaf).table ≡ table → ⊥
    before k less inside same =
        let own : (at k).table ≡ table = ap (λ (l : Leaf). l.table) (sym (at_is k (within_of k inside))) ∙ same in
        let low = places-rise slots order k r way less within in
        let cmp = ap (λ (p : List ℕ). slice_cmp nat_cmp (place_key (at k)) p) (sym first_key_is) ∙ low in
        never_less (at k).entry.key (sym (place-same (at k).table table (at k).entry.key [] own) ∙ cmp)

    rest : (k : ℕ) → k < length (drop r L) → table ≤ (get_or (drop r L) k no_leaf).table
    rest k inside =
        let there = dropped_long L r k inside in
        let here = ap (λ (l : Leaf). l.table) (dropped_at L r k) in
        let first = ap (λ (l : Leaf). l.table) (at_is r within) in
        let up = up_from r k there in
        omega (arith, here, first, first_table, up)
      where
        up_from : (r k : ℕ) → r + k < length L → (get_or L r no_leaf).table ≤ (get_or L (r + k) no_leaf).table
        up_from r zero there = let same = ap (λ (n : ℕ). (get_or L n no_leaf).table) (plus_none r) in omega (arith, same)
        up_from r (suc k) there = tables_up r (r + suc k) (omega arith) there

    rising : (i j : ℕ) → i < j → j < length (drop r L) → (get_or (drop r L) i no_leaf).table ≤ (get_or (drop r L) j no_leaf).table
    rising i j less inside =
        let there = dropped_long L r j inside in
        let one = ap (λ (l : Leaf). l.table) (dropped_at L r i) in
        let two = ap (λ (l : Leaf). l.table) (dropped_at L r j) in
        let up = tables_up (r + i) (r + j) (omega (arith, less)) there in
        omega (arith, one, two, up)

    pub from_place : front_of table (leaves_at slots (drop r order)) ≡ leaves_of table (leaves_at slots order)
    from_place = ap (front_of table) (sym (drop-map (leaf_at slots) r order)) ∙ (fronted table (drop r L) rising rest ∙ sym (skipped table L r before))

  -- there is none
  module _ (r : ℕ) (parts : IsPartitionPoint (λ y. rank_order slots (table ∷ []) y ≡ Less) (λ y. rank_order slots (table ∷ []) y ≡ Greater) order r) (begins : TablesBegin (leaves_at slots order)) where
    nothing : (k : ℕ) → k < length L → (get_or L k no_leaf).table ≡ table → ⊥
    nothing k inside same =
        let there = begins (get_or L k no_leaf) (k, inside, refl_at k inside) in
        let first = there.0 in
        let j = there.1.0 in
        let here : j < length order = within_of j there.1.1 in
        let is : at j ≡ first = sym (at_is j here) ∙ (any_default L j no_leaf first there.1.1 ∙ there.1.2) in
        let key : place_key (at j) ≡ table ∷ [] = ap place_key is ∙ (ap (λ (t : ℕ). t ∷ first.entry.key) (there.2.0 ∙ same) ∙ ap (λ (l : List ℕ). table ∷ l) there.2.1) in
        let rank : rank_at slots (get_or order j 0) ≡ table ∷ [] = view-rank slots order j way here ∙ key in
        never-missed slots order (get_or order j 0) r way (view-slot slots order j way here)
        (subst (λ (p : List ℕ). IsPartitionPoint (λ y. rank_order slots p y ≡ Less) (λ y. rank_order slots p y ≡ Greater) order r) (sym rank) parts)
      where
        any_default : (l : List Leaf) (i : ℕ) (d e : Leaf) → i < length l → get_or l i d ≡ get_or l i e
        any_default [] i d e inside = absurd (omega (arith, inside))
        any_default (x ∷ l) zero d e inside = refl
        any_default (x ∷ l) (suc i) d e inside = any_default l i d e (omega (arith, inside))

        refl_at : (i : ℕ) → i < length L → get_or L i (get_or L k no_leaf) ≡ get_or L i no_leaf
        refl_at i inside = any_default L i (get_or L k no_leaf) no_leaf inside

    pub from_end : front_of table (leaves_at slots (drop (length order) order)) ≡ leaves_of table (leaves_at slots order)
    from_end = ap (λ (l : List ℕ). front_of table (leaves_at slots l)) (drop_all order) ∙ sym (none_of table L nothing)
      where
        drop_all : (l : List ℕ) → drop (length l) l ≡ []
        drop_all [] = refl
        drop_all (x ∷ l) = drop_all l
