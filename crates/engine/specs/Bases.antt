-- On what an engine begins.
use Rattle.std.specs.Prelude.{◌≡◌, ◌+◌, ◌≤◌, ℕ, List, [], reverse}
use Rattle.std.specs.List.{Contains}
use Rattle.kv_model.specs.Content.{Content, descending, table_lt}
use Rattle.row_page.specs.Rows.{Row}
use Rattle.tree_dir.specs.declared.leaf.Leaf.{Leaf}
use Rattle.tree_dir.specs.Leaves.{Directory}
use Rattle.catalog.specs.Known.{Known}
use Rattle.engine_world.specs.Leaves.{TablesBegun}
use Rattle.engine_world.specs.Systems.{StartsOnDevice}
use Rattle.engine_world.specs.Worlds.{Records}

-- what is handed to an engine is this content, whose leaves are on the device alone; records: what the history keeps of them
pub record IsBaseOf (c : Content) (shelf : ℕ → List Row) (records : Records) (run oldest stable : ℕ) (known : Known) (dir : Directory) : Type 0 where
  pub run_is : run ≡ c.run + 1
  pub oldest_is : oldest ≡ c.oldest
  pub stable_is : stable ≡ c.stable
  pub tables_are : reverse known.tables ≡ descending table_lt c.tables
  pub begun : TablesBegun known.tables dir.leaves
  pub leaves : (l : Leaf) → Contains dir.leaves l → StartsOnDevice c shelf records dir.leaves l
  pub unused : (id : ℕ) → dir.next ≤ id → (key : List ℕ) → records id key ≡ []
