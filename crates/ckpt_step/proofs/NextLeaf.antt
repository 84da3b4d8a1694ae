-- The leaf behind another one is a leaf of the directory.
use Rattle.std.specs.Prelude.{◌≡◌, ℕ, ◌==◌, List, [], ◌∷◌, Option, Some, None, option_map, refl}
use Rattle.std.proofs.Common.{inl, inr, sym, ap, ◌∙◌}
use Rattle.std.proofs.lemmas.Bool.{cases_Bool}
use Rattle.kv_model.specs.Holds.{Member}
use Rattle.tree_dir.specs.declared.leaf.Leaf.{Leaf}
use Rattle.tree_dir.specs.Leaves.{Directory, IsDirectory, leaf_behind, leaf_named, of_table}
use Rattle.tree_dir.proofs.Parting.{ids-name}
use Rattle.ckpt_step.proofs.Members.{none_some, some_same}
use Rattle.ckpt_step.proofs.TableLeaves.{contains_of}

of_is : (n : ℕ) (b l : Leaf) → of_table n b ≡ Some l → b ≡ l
of_is n b l is = elim (cases_Bool (b.table == n)) [ inl own ↦ some_same (rw own at is) | inr other ↦ absurd (none_some (rw other at is)) ]

behind_in : (id : ℕ) (leaves : List Leaf) (l : Leaf) → leaf_behind id leaves ≡ Some l → Member l leaves
behind_in id [] l is = absurd (none_some is)
behind_in id (a ∷ []) l is = absurd (none_some is)
behind_in id (a ∷ b ∷ leaves) l is = elim (cases_Bool (a.id == id)) [
  | inl here ↦ inr (inl (sym (of_is a.table b l (rw here at is))))
  | inr other ↦ inr (behind_in id (b ∷ leaves) l (rw other at is))
]

-- it is found by its id
pub behind_named : (d : Directory) → IsDirectory d → (id : ℕ) (l : Leaf) → leaf_behind id d.leaves ≡ Some l → leaf_named l.id d.leaves ≡ Some l
behind_named d is id l behind = ids-name d is l (contains_of d.leaves l (behind_in id d.leaves l behind))

-- what is looked up at the id that is behind is the leaf there
pub found_behind : (d : Directory) → IsDirectory d → (id next : ℕ) → Some next ≡ option_map (λ (x : Leaf). x.id) (leaf_behind id d.leaves) → leaf_named next d.leaves ≡ leaf_behind id d.leaves
found_behind d is id next there = by (leaf_behind id d.leaves) refl
  where
    by : (o : Option Leaf) → leaf_behind id d.leaves ≡ o → leaf_named next d.leaves ≡ leaf_behind id d.leaves
    by None none = absurd (none_some (sym (there ∙ ap (option_map (λ (x : Leaf). x.id)) none)))
    by (Some x) some =
        let same : next ≡ x.id = some_same (there ∙ ap (option_map (λ (x : Leaf). x.id)) some) in
        ap (λ (n : ℕ). leaf_named n d.leaves) same ∙ (behind_named d is id x some ∙ sym some)
