-- A leaf that was in no frame comes into one, with the rows of its block and, older than these, what the history keeps of it.
use Rattle.std.specs.Prelude.{◌≡◌, ◌<◌, ◌≤◌, ℕ, List, ◌++◌, length, Some, None, slice_set}
use Rattle.std.specs.List.{Contains}
use Rattle.std.specs.Option.{option_to_list}
use Rattle.item.specs.declared.Change.{Change}
use Rattle.stamp.specs.declared.Version.{Version}
use Rattle.kv_model.specs.Holds.{Member}
use Rattle.row_page.specs.Rows.{Row}
use Rattle.reconcile.specs.Shows.{shown_at}
use Rattle.update_chain.specs.declared.update.Update.{Update}
use Rattle.leaf_chains.specs.Slots.{chain_at}
use Rattle.reconcile.specs.Held.{held_at}
use Rattle.leaf_frame.specs.Leaf.{HeldLeaf}
use Rattle.tree_dir.specs.declared.leaf.Leaf.{Leaf}
use Rattle.tree_dir.specs.Leaves.{IsDirectory, changed, in_frame}
use Rattle.call_steps.specs.Tables.{filled}
use Rattle.engine_world.specs.Leaves.{frame_in, generation_at}
use Rattle.engine_world.specs.Stands.{Engine, Stands}
use Rattle.engine_world.specs.Worlds.{World, without_records}

-- a leaf has of each key what its block and the history have of it, newest first, and nothing else
pub record ComesFrom (leaf : HeldLeaf) (rows : List Row) (records : List ℕ → List (Version Change)) : Type 0 where
  pub held : (key : List ℕ) → held_at key leaf.page leaf.chains ≡ option_to_list (shown_at key rows) ++ records key
  pub unmarked : (key : List ℕ) (u : Update) → Member u (chain_at key leaf.chains) → u.prepared ≡ 0
  -- a page with rows is that of the block
  pub lies : 1 ≤ length leaf.page → leaf.page ≡ rows

-- the leaf comes into a frame that had none
abbrev pub with_leaf : Engine → Leaf → ℕ → HeldLeaf → Engine
with_leaf e l frame leaf =
    record e {
      hub = record e.hub { dir = record e.hub.dir { leaves = changed l.id (in_frame (Some (record { frame = frame; generation = generation_at e.pieces frame }))) e.hub.dir.leaves } };
      pieces = slice_set e.pieces frame (record { generation = generation_at e.pieces frame; frame = Some (record { table = l.table; id = l.id; leaf = leaf }) });
      states = slice_set e.states frame (filled (generation_at e.pieces frame));
    }

-- nobody sees it, and the history keeps nothing more of it
abbrev pub LeavesCome : Type 0
LeavesCome = (e : Engine) (w : World) (l : Leaf) (frame : ℕ) (leaf : HeldLeaf) → Stands e w → Contains e.hub.dir.leaves l → l.frame ≡ None → frame_in e.pieces frame ≡ None → frame < length e.pieces → frame < length e.states
    → ComesFrom leaf (w.shelf l.id) (w.records l.id) → IsDirectory (with_leaf e l frame leaf).hub.dir → Stands (with_leaf e l frame leaf) (without_records l.id w)
