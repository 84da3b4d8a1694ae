-- The keys that lie in a leaf of the directory: from its low key up to that of the leaf behind it.
use Rattle.std.specs.Prelude.{◌≡◌, ℕ, ◌==◌, not, IsTrue, true, false, List, [], ◌∷◌, Option, Some, None, option_map, refl}
use Rattle.std.proofs.Common.{inl, inr, sym, ◌∙◌, ap}
use Rattle.std.proofs.lemmas.Bool.{cases_Bool, eq-eqb, eqb-true, ne_eqb}
use Rattle.kv_model.specs.Holds.{Member}
use Rattle.row_page.specs.Rows.{Row, is_below}
use Rattle.stored.specs.TableTree.{ends_below}
use Rattle.recover_open.specs.Leaves.{AreUnder}
use Rattle.tree_dir.specs.declared.leaf.Leaf.{Leaf}
use Rattle.tree_dir.specs.Leaves.{leaf_under, of_table}
use Rattle.ckpt_step.specs.Parts.{LieIn}
use Rattle.ckpt_step.proofs.Members.{all_made, all_of, none_some}
use Rattle.ckpt_step.proofs.TableLeaves.{AreOnce, above_key, begins_parts, under_head, under_in, under_none, under_tail}
use Rattle.engine_store.specs.Loads.{low_behind}

abbrev key_of : Option Leaf → Option (List ℕ)
key_of o = option_map (λ (l : Leaf). l.entry.key) o

-- the leaf behind the one that has the key, if it is of the same table
behind_here : (table : ℕ) (key : List ℕ) (a b : Leaf) (rest : List Leaf) → a.table ≡ table → leaf_under table key (b ∷ rest) ≡ None → ends_below (key_of (of_table a.table b)) key ≡ true
behind_here table key a b rest own none = elim (cases_Bool (b.table == a.table)) [
  | inl is ↦ rw is (above_key table key b (eqb-true b.table a.table is ∙ own) (under_none table key (b ∷ rest) b none (inl refl)))
  | inr isnt ↦ rw isnt refl
]

below_behind : (table : ℕ) (key : List ℕ) (leaves : List Leaf) (l : Leaf) → AreOnce leaves → leaf_under table key leaves ≡ Some l → ends_below (low_behind l.id leaves) key ≡ true
below_behind table key [] l once is = absurd (none_some is)
below_behind table key (a ∷ []) l once is = refl
below_behind table key (a ∷ b ∷ rest) l once is =
    by (under_in table key (a ∷ b ∷ rest) l is).0 (begins_parts table key l (under_in table key (a ∷ b ∷ rest) l is).1).0
    (λ later. below_behind table key (b ∷ rest) l once.1 (under_tail table key a (b ∷ rest) l once later is))
  where
    by : Member l (a ∷ b ∷ rest) → l.table ≡ table → (Member l (b ∷ rest) → ends_below (low_behind l.id (b ∷ rest)) key ≡ true) → ends_below (low_behind l.id (a ∷ b ∷ rest)) key ≡ true
    by (inl same) own more =
        let here : (a.id == l.id) ≡ true = eq-eqb a.id l.id (ap (λ (m : Leaf). m.id) (sym same)) in
        rw here (behind_here table key a b rest (ap (λ (m : Leaf). m.table) (sym same) ∙ own) (under_head table key a (b ∷ rest) once (is ∙ ap (λ (m : Leaf). Some m) same)))
    by (inr later) own more =
        let other : (a.id == l.id) ≡ false = ne_eqb a.id l.id (λ same. all_of (λ (m : Leaf). m.id ≡ a.id → ⊥) (b ∷ rest) l once.0 later (sym same)) in
        rw other (more later)

pub lie_under : (table : ℕ) (leaves : List Leaf) (l : Leaf) (rows : List Row) → AreOnce leaves → LieIn leaves table l rows → AreUnder l.entry (low_behind l.id leaves) rows
lie_under table leaves l rows once lie = all_made (λ (r : Row). IsTrue (not (is_below r.0 l.entry.key)) × IsTrue (ends_below (low_behind l.id leaves) r.0)) rows (λ r there.
    let under = all_of (λ (q : Row). leaf_under table q.0 leaves ≡ Some l) rows r lie there in
    let from = begins_parts table r.0 l (under_in table r.0 leaves l under).1 in
    (rw from.1 refl, below_behind table r.0 leaves l once under))
