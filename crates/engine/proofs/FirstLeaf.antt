-- The only leaf of a table that came to a directory.
use Rattle.std.proofs.Common.{◌≡◌, ℕ, refl, ap, ◌∙◌, List, [], ◌∷◌, length, subst, append_assoc}
use Rattle.std.specs.Prelude.{Option, Some, None, option_map}
use Rattle.stored.specs.TableTree.{Entry}
use Rattle.tree_dir.specs.declared.leaf.Leaf.{Leaf}
use Rattle.tree_dir.specs.Leaves.{Directory, HasTable, changed, in_frame, leaf_under}
use Rattle.tree_dir.proofs.Splicing.{greater, lower}
use Rattle.engine_world.specs.Systems.{HasFirstLeaf, first_entry}
use Rattle.engine_world.proofs.NewLeaf.{highs-filter, lows-filter, under-new}

-- a leaf that has all keys, in no frame yet
abbrev pub bare_leaf : ℕ → ℕ → Leaf
bare_leaf table id = record { id = id; table = table; entry = first_entry; frame = None }

pub record CameAs (old new : Directory) (table : ℕ) (key : List ℕ) : Type 0 where
  pub id : ℕ
  pub added : HasTable old new table (first_entry ∷ []) (id ∷ [])
  pub under : leaf_under table key new.leaves ≡ Some (bare_leaf table id)

module _ (old new : Directory) (table : ℕ) (key : List ℕ) where
  came-as : (ids : List ℕ) → HasTable old new table (first_entry ∷ []) ids → CameAs old new table key
  came-as [] h = absurd (let none : length {A = ℕ} [] ≡ 1 = h.fresh.many in cc)
  came-as (id ∷ []) h = record {
    id = id;
    added = h;
    under = ap (leaf_under table key) (h.leaves ∙ append_assoc (lower table old.leaves) (bare_leaf table id ∷ []) (greater table old.leaves))
        ∙ under-new key (lower table old.leaves) (greater table old.leaves) (bare_leaf table id) (lows-filter table old.leaves) (highs-filter table old.leaves) refl;
  }
  came-as (id ∷ j ∷ more) h = absurd (let many : length (id ∷ j ∷ more) ≡ 1 = h.fresh.many in cc)

  pub comes-as : (entries : List Entry) → entries ≡ first_entry ∷ [] → (ids : List ℕ) × HasTable old new table entries ids → CameAs old new table key
  comes-as entries is h = came-as h.0 (subst (λ (es : List Entry). HasTable old new table es h.0) is h.1)

  -- the leaf that has the key is found
  pub found-as : (c : CameAs old new table key) (o : Option ℕ) → o ≡ option_map (λ (l : Leaf). l.id) (leaf_under table key new.leaves) → o ≡ Some c.id
  found-as c o e = e ∙ ap (option_map (λ (l : Leaf). l.id)) c.under

pub has-first : (old new made : Directory) (table frame : ℕ) (key : List ℕ) (c : CameAs old new table key) (id : ℕ) → c.id ≡ id
    → made ≡ record new { leaves = changed id (in_frame (Some (record { frame = frame; generation = 0 }))) new.leaves } → HasFirstLeaf old made table id frame 0
has-first old new made table frame key c id same is = record {
  between = new;
  added = subst (λ (x : ℕ). HasTable old new table (first_entry ∷ []) (x ∷ [])) same c.added;
  placed = is;
}
