-- Tables that are as they were.
use Rattle.std.specs.Prelude.{List, [], Option}
use Rattle.kv_model.specs.History.{Table}
use Rattle.recover_open.specs.Bare.{tree_rows}
use Rattle.stored.specs.Stored.{Stored}
use Rattle.stored.specs.TableTree.{TableTree}
use Rattle.tree_dir.specs.declared.leaf.Leaf.{Leaf}
use Rattle.tree_open.specs.declared.place.TreePlace.{TreePlace}
use Rattle.ckpt_step.specs.declared.lives.Lone.{Lone}
use Rattle.ckpt_step.specs.Lives.{NoneLive}
use Rattle.ckpt_step.specs.Moments.{Moment, RowsServe}
use Rattle.ckpt_step.specs.Parts.{IsParted}
use Rattle.ckpt_step.specs.Rooms.{Written}
use Rattle.ckpt_step.specs.Trees.{HasTreeAt}

-- the tree there, of the parts of the table's leaves, of which none was written since, serves as it stands
pub record IsStill (old : Option Stored) (lives : List Lone) (leaves : List Leaf) (written : Written) (n : Moment) (t : Table) (place : TreePlace) : Type 0 where
  pub tree : TableTree
  pub has : HasTreeAt old t place tree
  pub none : NoneLive lives leaves t.number
  pub parted : IsParted [] leaves t.number written place tree
  pub is : RowsServe n t (tree_rows tree)
