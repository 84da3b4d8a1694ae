-- What a directory is once others took the place of a leaf.
use Rattle.std.specs.Prelude.{◌≡◌, ◌≢◌, ◌⊎◌, ◌≤◌, ◌++◌, ◌∷◌, ℕ, List, Some, None}
use Rattle.std.specs.List.{Contains}
use Rattle.stored.specs.TableTree.{Entry}
use Rattle.tree_dir.specs.declared.leaf.Leaf.{Leaf}
use Rattle.tree_dir.specs.Leaves.{Directory, GaveWay, IsDirectory, TakePlace, leaf_under, leaves_of, leaves_with}

-- These stand where the leaf stood: each key that lay in it lies in one of them, and any other key where it lay.
pub record StandFor (old next : Directory) (l : Leaf) (made : List Leaf) : Type 0 where
  pub ids : old.next ≤ next.next
  pub later : (n : Leaf) → Contains made n → old.next ≤ n.id
  pub own : (n : Leaf) → Contains made n → (n.table ≡ l.table) × (n.frame ≡ None)
  pub members : (x : Leaf) → Contains next.leaves x → (Contains old.leaves x × (x.id ≢ l.id)) ⊎ Contains made x
  pub others : (x : Leaf) → Contains old.leaves x → x.id ≢ l.id → Contains next.leaves x
  pub news : (n : Leaf) → Contains made n → Contains next.leaves n
  pub under_new : (key : List ℕ) → leaf_under l.table key old.leaves ≡ Some l → (n : Leaf) × Contains made n × (leaf_under l.table key next.leaves ≡ Some n)
  pub under_other : (table : ℕ) (key : List ℕ) (x : Leaf) → x.id ≢ l.id → leaf_under table key old.leaves ≡ Some x → leaf_under table key next.leaves ≡ Some x
  pub under_none : (table : ℕ) (key : List ℕ) → leaf_under table key old.leaves ≡ None → leaf_under table key next.leaves ≡ None
  -- in the order of their keys
  pub front : List Leaf
  pub back : List Leaf
  pub were : leaves_of l.table old.leaves ≡ front ++ l ∷ back
  pub are : leaves_of l.table next.leaves ≡ front ++ made ++ back
  pub rest : (table : ℕ) → table ≢ l.table → leaves_of table next.leaves ≡ leaves_of table old.leaves

abbrev pub LeavesGiveWay : Type 0
LeavesGiveWay = (d next : Directory) (l : Leaf) (entries : List Entry) (ids : List ℕ) → IsDirectory d → IsDirectory next → Contains d.leaves l → TakePlace l.id entries d.leaves → GaveWay d next l.id entries ids
    → StandFor d next l (leaves_with l.table ids entries)
