-- The tables of a record, from what the engine has by place.
use Rattle.std.specs.Prelude.{ℕ, ◌==◌, List, [], ◌∷◌, map, if◌then◌else◌}
use Rattle.kv_model.specs.History.{Table}
use Rattle.le_codec.specs.Fields.{IsBytes}
use Rattle.stored.specs.Records.{Root, RootFits, TableRoot}
use Rattle.stored.specs.TableTree.{TableTree}
use Rattle.catalog.specs.Known.{by_name}
use Rattle.device_leaf.specs.NoHistory.{no_root}
use Rattle.ckpt_step.specs.Trees.{table_root}

-- what a list by place has for the table of this number
abbrev pub of_number : {A : Type 0} → A → List Table → List A → ℕ → A
of_number none [] xs number = none
of_number none (t ∷ known) [] number = none
of_number none (t ∷ known) (x ∷ xs) number = if t.number == number then x else of_number none known xs number

-- the tables in the order of their names, each with the root of its tree
abbrev pub roots_by_name : List Table → List Root → List TableRoot
roots_by_name known roots = map {A = Table} (λ t. table_root t (of_number no_root known roots t.number)) (by_name known)

-- the tree of no rows
abbrev pub no_tree : TableTree
no_tree = record { layers = []; leaves = [] ∷ [] }

-- the trees in that order
abbrev pub trees_by_name : List Table → List TableTree → List TableTree
trees_by_name known trees = map {A = Table} (λ t. of_number no_tree known trees t.number) (by_name known)

-- the bytes and numbers of a table of a record are such by their types
pub record IsTyped (r : TableRoot) : Type 0 where
  pub name : IsBytes r.table.name
  pub root : RootFits r.root
