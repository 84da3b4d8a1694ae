-- The leaf behind another one is the next of its table, and a leaf that has rows up to there.
use Rattle.std.proofs.Common.{◌≡◌, ◌<◌, ◌≤◌, ℕ, zero, suc, List, [], ◌∷◌, ◌++◌, map, ◌⊎◌, Option, Some, None, refl, sym, ap, subst, ◌∙◌, inl, inr, arith}
use Rattle.std.specs.Prelude.{◌==◌, true, false, option_map}
use Rattle.std.specs.List.{AllByRecursion, AllPairs, Contains}
use Rattle.std.proofs.lemmas.Bool.{cases_Bool, cases_lt, eq-eqb, ne_eqb, false≢true}
use Rattle.kv_model.specs.Holds.{Member}
use Rattle.row_page.specs.Rows.{Row}
use Rattle.stored.specs.TableTree.{Entry, first_key}
use Rattle.tree_dir.specs.declared.leaf.Leaf.{Leaf}
use Rattle.tree_dir.specs.Leaves.{Directory, IsDirectory, is_before, leaf_behind, leaves_of, of_table}
use Rattle.tree_dir.proofs.KeyOrder.{less-from, tables-less}
use Rattle.tree_open.proofs.OneLayer.{key_none}
use Rattle.recover_open.specs.Leaves.{AreLeaves, IsUnder}
use Rattle.ckpt_step.proofs.Members.{all_made, all_of}
use Rattle.ckpt_step.proofs.TableLeaves.{AreOnce, contains_of, in_table, member_of, once_of, once_table, table_in}
use Rattle.engine_store.specs.Loads.{low_behind}

-- ---- the order of leaves by tables

-- no table is behind a greater one
abbrev AreSorted : List Leaf → Type 0
AreSorted [] = Unit {0}
AreSorted (l ∷ leaves) = AllByRecursion (λ (m : Leaf). l.table ≤ m.table) leaves × AreSorted leaves

sorted_of : (leaves : List Leaf) → AllPairs (λ (a b : Leaf). is_before a b ≡ true) leaves → AreSorted leaves
sorted_of [] pairs = tt
sorted_of (l ∷ leaves) pairs = (all_made (λ (m : Leaf). l.table ≤ m.table) leaves later, sorted_of leaves (λ i j d lt within. pairs (suc i) (suc j) d (omega (arith, lt)) (omega (arith, within))))
  where
    later : (m : Leaf) → Member m leaves → l.table ≤ m.table
    later m there =
        let at = contains_of leaves m there in
        let before : is_before l m ≡ true = subst (λ (x : Leaf). is_before l x ≡ true) at.2 (pairs zero (suc at.0) m (omega arith) (omega (arith, at.1))) in
        tables-less l.table m.table l.entry.key m.entry.key (less-from _ before)

none_greater : (n : ℕ) (leaves : List Leaf) → AllByRecursion (λ (m : Leaf). n < m.table) leaves → leaves_of n leaves ≡ []
none_greater n [] all = refl
none_greater n (l ∷ leaves) all = rw (ne_eqb l.table n (λ same. omega (arith, all.0, same))) (none_greater n leaves all.1)

-- ---- the next one

skip_first : (a : Leaf) (leaves : List Leaf) (id : ℕ) (l : Leaf) → (a.id == id) ≡ false → Member l leaves → leaf_behind id (a ∷ leaves) ≡ leaf_behind id leaves
skip_first a [] id l isnt there = absurd there
skip_first a (b ∷ leaves) id l isnt there = rw isnt refl

same_id : (n : ℕ) → (n == n) ≡ true
same_id n = eq-eqb n n refl

-- only the leaves of its table matter
pub behind_own : (leaves : List Leaf) (l : Leaf) → AreOnce leaves → AreSorted leaves → Member l leaves → leaf_behind l.id leaves ≡ leaf_behind l.id (leaves_of l.table leaves)
behind_own [] l once sorted there = absurd there
behind_own (a ∷ []) l once sorted there = elim (cases_Bool (a.table == l.table)) [ inl is ↦ rw is refl | inr isnt ↦ rw isnt refl ]
behind_own (a ∷ b ∷ rest) l once sorted (inl same) = subst (λ (x : Leaf). leaf_behind x.id (a ∷ b ∷ rest) ≡ leaf_behind x.id (leaves_of x.table (a ∷ b ∷ rest))) (sym same) first
  where
    above : (b.table == a.table) ≡ false → (a.table < b.table) ⊎ (b.table ≤ a.table) → a.table < b.table
    above isnt (inl less) = less
    above isnt (inr most) = absurd (false≢true (sym isnt ∙ eq-eqb b.table a.table (omega (arith, most, sorted.0.0))))

    behind : (m : Leaf) → Member m (b ∷ rest) → a.table < b.table → a.table < m.table
    behind m there more = elim there [
      | inl is ↦ subst (λ (x : Leaf). a.table < x.table) (sym is) more
      | inr later ↦ let least = all_of (λ (x : Leaf). b.table ≤ x.table) rest m sorted.1.0 later in omega (arith, more, least)
    ]

    first : leaf_behind a.id (a ∷ b ∷ rest) ≡ leaf_behind a.id (leaves_of a.table (a ∷ b ∷ rest))
    first = elim (cases_Bool (b.table == a.table)) [
      | inl is ↦
          let own : leaves_of a.table (a ∷ b ∷ rest) ≡ a ∷ b ∷ leaves_of a.table rest = rw (same_id a.table, is) refl in
          here rest ∙ sym (ap (leaf_behind a.id) own ∙ here (leaves_of a.table rest))
      | inr isnt ↦
          let more : a.table < b.table = above isnt (cases_lt a.table b.table) in
          let others : leaves_of a.table (b ∷ rest) ≡ [] = none_greater a.table (b ∷ rest) (all_made (λ (m : Leaf). a.table < m.table) (b ∷ rest) (λ m there. behind m there more)) in
          let own : leaves_of a.table (a ∷ b ∷ rest) ≡ a ∷ [] = rw (same_id a.table) (ap (λ (ls : List Leaf). a ∷ ls) others) in
          here rest ∙ (rw isnt refl ∙ sym (ap (leaf_behind a.id) own))
    ]
      where
        here : (leaves : List Leaf) → leaf_behind a.id (a ∷ b ∷ leaves) ≡ of_table a.table b
        here leaves = rw (same_id a.id) refl
behind_own (a ∷ b ∷ rest) l once sorted (inr there) =
    let isnt : (a.id == l.id) ≡ false = ne_eqb a.id l.id (λ same. all_of (λ (m : Leaf). m.id ≡ a.id → ⊥) (b ∷ rest) l once.0 there (sym same)) in
    rw isnt (behind_own (b ∷ rest) l once.1 sorted.1 there ∙ sym (own isnt))
  where
    own : (a.id == l.id) ≡ false → leaf_behind l.id (leaves_of l.table (a ∷ b ∷ rest)) ≡ leaf_behind l.id (leaves_of l.table (b ∷ rest))
    own isnt = elim (cases_Bool (a.table == l.table)) [
      | inl is ↦ rw is (skip_first a (leaves_of l.table (b ∷ rest)) l.id l isnt (table_in l.table (b ∷ rest) l there refl))
      | inr other ↦ rw other refl
    ]

-- ---- by the entries of a table

abbrev pub entries_in : List Leaf → List Entry
entries_in leaves = map {A = Leaf} (λ l. l.entry) leaves

abbrev AreOf : ℕ → List Leaf → Type 0
AreOf n leaves = AllByRecursion (λ (m : Leaf). m.table ≡ n) leaves

-- where a leaf stands among the leaves of a table, and what is behind it
pub record IsSplit (leaves : List Leaf) (l : Leaf) : Type 0 where
  pub front : List Entry
  pub others : List Entry
  pub is : entries_in leaves ≡ front ++ l.entry ∷ others
  pub low : low_behind l.id leaves ≡ first_key others

split_at : (n : ℕ) (leaves : List Leaf) (l : Leaf) → AreOnce leaves → AreOf n leaves → Member l leaves → IsSplit leaves l
split_at n [] l once own there = absurd there
split_at n (a ∷ []) l once own (inl same) = record { front = []; others = []; is = ap (λ (x : Leaf). x.entry ∷ []) (sym same); low = refl }
split_at n (a ∷ b ∷ rest) l once own (inl same) = record { front = []; others = entries_in (b ∷ rest); is = ap (λ (x : Leaf). x.entry ∷ entries_in (b ∷ rest)) (sym same); low = subst (λ (x : Leaf). low_behind x.id (a ∷ b ∷ rest) ≡ Some b.entry.key) (sym same) low }
  where
    low : low_behind a.id (a ∷ b ∷ rest) ≡ Some b.entry.key
    low = let its : (b.table == a.table) ≡ true = eq-eqb b.table a.table (own.1.0 ∙ sym own.0) in rw (same_id a.id, its) refl
split_at n (a ∷ leaves) l once own (inr there) =
    let later = split_at n leaves l once.1 own.1 there in
    let isnt : (a.id == l.id) ≡ false = ne_eqb a.id l.id (λ same. all_of (λ (m : Leaf). m.id ≡ a.id → ⊥) leaves l once.0 there (sym same)) in
    record {
      front = a.entry ∷ later.front;
      others = later.others;
      is = ap (λ (es : List Entry). a.entry ∷ es) later.is;
      low = ap (option_map (λ (x : Leaf). x.entry.key)) (skip_first a leaves l.id l isnt there) ∙ later.low;
    }

-- its rows are those of its entry
led_at : (bytes : List ℕ) (rows_of : Entry → List Row) (es front : List Entry) (e : Entry) (others : List Entry) → es ≡ front ++ e ∷ others → AreLeaves bytes es None (map rows_of es) → IsUnder bytes e (first_key others) (rows_of e)
led_at bytes rows_of es front e others is are = by front (subst (λ (xs : List Entry). AreLeaves bytes xs None (map rows_of xs)) is are)
  where
    by : (front : List Entry) → AreLeaves bytes (front ++ e ∷ others) None (map rows_of (front ++ e ∷ others)) → IsUnder bytes e (first_key others) (rows_of e)
    by [] all = subst (λ (k : Option (List ℕ)). IsUnder bytes e k (rows_of e)) (key_none others) all.0
    by (x ∷ front) all = by front all.1

-- ---- in a directory

module _ (d : Directory) (is : IsDirectory d) where
  pub once_in : AreOnce d.leaves
  once_in = once_of d.leaves is.once

  -- what is behind a leaf is behind it among those of its table
  pub low_own : (n : ℕ) (l : Leaf) → Contains d.leaves l → l.table ≡ n → low_behind l.id d.leaves ≡ low_behind l.id (leaves_of n d.leaves)
  low_own n l there its = ap (option_map (λ (x : Leaf). x.entry.key)) (behind_own d.leaves l once_in (sorted_of d.leaves is.ascends) (member_of d.leaves l there) ∙ ap (λ (k : ℕ). leaf_behind l.id (leaves_of k d.leaves)) its)

  pub split_in : (n : ℕ) (l : Leaf) → Contains d.leaves l → l.table ≡ n → (s : IsSplit (leaves_of n d.leaves) l) × (low_behind l.id d.leaves ≡ first_key s.others)
  split_in n l there its =
      let own : Member l (leaves_of n d.leaves) = table_in n d.leaves l (member_of d.leaves l there) its in
      let s = split_at n (leaves_of n d.leaves) l (once_table n d.leaves once_in) (all_made (λ (m : Leaf). m.table ≡ n) (leaves_of n d.leaves) (λ m among. (in_table n d.leaves m among).1)) own in
      (s, low_own n l there its ∙ s.low)

  -- a leaf of a table whose entries lead to these rows
  pub under_in : (bytes : List ℕ) (rows_of : Entry → List Row) (n : ℕ) (es : List Entry) → entries_in (leaves_of n d.leaves) ≡ es → AreLeaves bytes es None (map rows_of es) → (l : Leaf) → Contains d.leaves l → l.table ≡ n → IsUnder bytes l.entry (low_behind l.id d.leaves) (rows_of l.entry)
  under_in bytes rows_of n es same are l there its =
      let s = split_in n l there its in
      subst (λ (k : Option (List ℕ)). IsUnder bytes l.entry k (rows_of l.entry)) (sym s.1) (led_at bytes rows_of es s.0.front l.entry s.0.others (sym same ∙ s.0.is) are)
