-- The nearest rows of a leaf, one behind the other.
use Rattle.std.proofs.Common.{◌≡◌, ◌≤◌, ℕ, refl, List, [], ◌∷◌, ◌++◌, length}
use Rattle.std.specs.Prelude.{Option, Some}
use Rattle.stamp.specs.declared.View.{View}
use Rattle.kv_model.specs.Rows.{Way}
use Rattle.update_chain.specs.Updates.{Gives}
use Rattle.leaf_frame.specs.Leaf.{HeldLeaf}
use Rattle.leaf_frame.specs.Walks.{Walked, walk_on}
use Rattle.call_steps.specs.Looks.{IsNearestRow}
use Rattle.engine.specs.RowReads.{AreNearest, start_behind}

-- so far: the way goes on behind the last of them
pub record Copied (view : View) (way : Way) (from : Option (List ℕ)) (here : Walked) (leaf : HeldLeaf) (most : ℕ) (rows : List (List ℕ × List ℕ)) : Type 0 where
  pub near : AreNearest view way from leaf rows
  pub here_is : here ≡ walk_on way (start_behind from rows) leaf
  pub few : length rows ≤ most

pub start-more : (from : Option (List ℕ)) (rows : List (List ℕ × List ℕ)) (row : List ℕ × List ℕ) → start_behind from (rows ++ row ∷ []) ≡ Some row.0
start-more from [] row = refl
start-more from (one ∷ rows) row = start-more (Some one.0) rows row

pub nearest-more : (view : View) (way : Way) (from : Option (List ℕ)) (leaf : HeldLeaf) (rows : List (List ℕ × List ℕ)) (row : List ℕ × List ℕ) → AreNearest view way from leaf rows
    → IsNearestRow view way (start_behind from rows) leaf row.0 (Gives row.1) → AreNearest view way from leaf (rows ++ row ∷ [])
nearest-more view way from leaf [] row near is = (is, tt)
nearest-more view way from leaf (one ∷ rows) row near is = (near.0, nearest-more view way (Some one.0) leaf rows row near.1 is)
