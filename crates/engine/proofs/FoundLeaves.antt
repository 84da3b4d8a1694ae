-- A leaf that is found by a key is found by its id.
use Rattle.std.proofs.Common.{◌≡◌, ℕ, refl, ap, sym, ◌∙◌, List}
use Rattle.std.specs.Prelude.{Option, Some, None, option_map}
use Rattle.std.specs.List.{Contains}
use Rattle.std.proofs.lemmas.Option.{same_Some}
use Rattle.tree_dir.specs.declared.leaf.Leaf.{Leaf}
use Rattle.tree_dir.specs.Leaves.{Directory, IsDirectory, leaf_named}
use Rattle.tree_dir.proofs.Parting.{ids-name}
use Rattle.call_steps.specs.Tables.{leaf_sought}
use Rattle.engine_world.proofs.WalkKeys.{sought-there}

again : (d : Directory) (o : Option Leaf) (id : ℕ) → IsDirectory d → ((l : Leaf) → o ≡ Some l → Contains d.leaves l) → option_map (λ (l : Leaf). l.id) o ≡ Some id → leaf_named id d.leaves ≡ o
again d None id is there e = let clash : None ≡ Some id = e in absurd cc
again d (Some l) id is there e = ap (λ (n : ℕ). leaf_named n d.leaves) (sym (same_Some l.id id e)) ∙ ids-name d is l (there l refl)

pub found-again : (d : Directory) (table : ℕ) (key : Option (List ℕ)) (id : ℕ) → IsDirectory d → option_map (λ (l : Leaf). l.id) (leaf_sought d.leaves table key) ≡ Some id → leaf_named id d.leaves ≡ leaf_sought d.leaves table key
found-again d table key id is e = again d (leaf_sought d.leaves table key) id is (λ l at. (sought-there d table key l is at).0) e
