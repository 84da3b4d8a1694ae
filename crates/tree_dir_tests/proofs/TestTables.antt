-- What the tests' directories have.
use Rattle.std.proofs.Common.{◌≡◌, ◌≢◌, ℕ, List, [], ◌∷◌, ◌++◌, length, Some, option_map, refl, sym, ap, subst, ◌∙◌, inl, inr, arith}
use Rattle.std.specs.List.{All}
use Rattle.std.proofs.lemmas.Bool.{cases_Bool, eq-eqb}
use Rattle.std.proofs.lemmas.List.Elements.{All-cons, All-nil}
use Rattle.std.proofs.lemmas.Option.{same_Some}
use Rattle.row_page.specs.Rows.{is_below}
use Rattle.stored.specs.TableTree.{Climbs, Entry, first_key}
use Rattle.tree_dir.specs.declared.leaf.Leaf.{Leaf}
use Rattle.tree_dir.specs.Leaves.{Directory, HasTable, TakePlace, begins_by, leaf_named, leaf_under, leaves_with, no_leaves}
use Rattle.tree_dir.specs.Slots.{new_leaf}
use Rattle.tree_dir_tests.specs.Tries.{AreThree, IsKeyed}

three-climb : (es : List Entry) → AreThree es → Climbs es
three-climb es t =
    subst Climbs (sym t.all)
    (ap (λ (k : List ℕ). is_below k t.second.key) t.first_key ∙ ap (is_below []) t.second_key, (ap (λ (k : List ℕ). is_below k t.third.key) t.second_key ∙ ap (is_below (103 ∷ [])) t.third_key, tt))

append-nil : (xs : List Leaf) → xs ++ [] ≡ xs
append-nil [] = refl
append-nil (x ∷ xs) = ap (λ (ls : List Leaf). x ∷ ls) (append-nil xs)

its-leaves : (new : Directory) (table : ℕ) (es : List Entry) (ids : List ℕ) → HasTable no_leaves new table es ids → new.leaves ≡ leaves_with table ids es
its-leaves new table es ids h = h.leaves ∙ append-nil (leaves_with table ids es)

all-of : (table other : ℕ) (ids : List ℕ) (es : List Entry) → table ≢ other → All (λ l. l.table ≢ other) (leaves_with table ids es)
all-of table other [] es n = All-nil (λ (l : Leaf). l.table ≢ other)
all-of table other (id ∷ ids) [] n = All-nil (λ (l : Leaf). l.table ≢ other)
all-of table other (id ∷ ids) (e ∷ es) n = All-cons (λ (l : Leaf). l.table ≢ other) (new_leaf table id e) (leaves_with table ids es) n (all-of table other ids es n)

-- a directory of one table has no other
pub no-other : (new : Directory) (table other : ℕ) (es : List Entry) (ids : List ℕ) → HasTable no_leaves new table es ids → table ≢ other → All (λ l. l.table ≢ other) new.leaves
no-other new table other es ids h n = subst (λ (ls : List Leaf). All (λ l. l.table ≢ other) ls) (sym (its-leaves new table es ids h)) (all-of table other ids es n)

-- a directory of one table of one leaf
one-leaf : (new : Directory) (table : ℕ) (es : List Entry) (ids : List ℕ) → HasTable no_leaves new table es ids → IsKeyed [] es → (leaf : Leaf) × (new.leaves ≡ leaf ∷ []) × (leaf.entry.key ≡ [])
one-leaf new table es ids h t = go ids (h.fresh.many ∙ ap length t.all) (its-leaves new table es ids h ∙ ap (leaves_with table ids) t.all) where
  go : (ks : List ℕ) → length ks ≡ 1 → new.leaves ≡ leaves_with table ks (t.entry ∷ []) → (leaf : Leaf) × (new.leaves ≡ leaf ∷ []) × (leaf.entry.key ≡ [])
  go [] long e = absurd (omega (arith, long))
  go (k ∷ []) long e = (new_leaf table k t.entry, e, t.key)
  go (k ∷ j ∷ ks) long e = absurd (omega (arith, long))

only-id : (table : ℕ) (key : List ℕ) (leaf : Leaf) (id : ℕ) → Some id ≡ option_map (λ l. l.id) (leaf_under table key (leaf ∷ [])) → leaf.id ≡ id
only-id table key leaf id e = elim (cases_Bool (begins_by table key leaf)) [
  | inl t ↦ sym (same_Some id leaf.id (rw t at e))
  | inr f ↦ let clash = rw f at e in absurd cc
]

pub takes-place : (new : Directory) (table id : ℕ) (key : List ℕ) (es news : List Entry) (ids : List ℕ) → HasTable no_leaves new table es ids → IsKeyed [] es → Some id ≡ option_map (λ l. l.id) (leaf_under table key new.leaves) → AreThree news → TakePlace id news new.leaves
takes-place new table id key es news ids h t found three =
    let one = one-leaf new table es ids h t in
    let leaf = one.0 in
    let its = only-id table key leaf id (found ∙ ap (λ (ls : List Leaf). option_map (λ (l : Leaf). l.id) (leaf_under table key ls)) one.1) in
    let low = sym one.2 in
    let named : leaf_named id (leaf ∷ []) ≡ Some leaf = rw (eq-eqb leaf.id id its) refl in
    subst (λ (ls : List Leaf). TakePlace id news ls) (sym one.1) (record {
      leaf = leaf;
      there = named;
      begins = ap first_key three.all ∙ ap (λ (k : List ℕ). Some k) (three.first_key ∙ low);
      climbs = subst Climbs (sym (nothing-behind news)) (three-climb news three);
    }) where
      nothing-behind : (xs : List Entry) → xs ++ [] ≡ xs
      nothing-behind [] = refl
      nothing-behind (x ∷ xs) = ap (λ (ys : List Entry). x ∷ ys) (nothing-behind xs)
