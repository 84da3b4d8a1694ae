-- A leaf that is evicted: it goes out of its frame while no session is at it, and its block and the history have anew what it held.
use Rattle.std.specs.Prelude.{◌≡◌, ◌≢◌, ◌<◌, ◌+◌, ◌^◌, ℕ, Bool, ◌==◌, List, [], ◌++◌, map, Some, None, if◌then◌else◌, slice_get, slice_set}
use Rattle.std.specs.List.{Contains}
use Rattle.std.specs.Option.{option_to_list}
use Rattle.item.specs.declared.Change.{Change}
use Rattle.stamp.specs.declared.Version.{Version}
use Rattle.device_layout.specs.declared.link.Link.{Link}
use Rattle.kv_model.specs.Captures.{ReconciledLists}
use Rattle.kv_model.specs.History.{line}
use Rattle.kv_model.specs.Holds.{Descends, Member}
use Rattle.kv_model.specs.Machine.{Machine}
use Rattle.kv_model.specs.Ordered.{Older}
use Rattle.kv_model.specs.Reconciling.{EndedWhere, PastCovers, each_one}
use Rattle.row_page.specs.Rows.{Row}
use Rattle.reconcile.specs.Shows.{shown_at}
use Rattle.update_chain.specs.declared.update.Update.{Update}
use Rattle.leaf_chains.specs.Slots.{chain_at}
use Rattle.tree_dir.specs.declared.leaf.Framed.{Framed}
use Rattle.tree_dir.specs.declared.leaf.Leaf.{Leaf}
use Rattle.tree_dir.specs.Leaves.{IsDirectory, changed, in_frame, leaf_under, led_to}
use Rattle.call_steps.specs.declared.frame.Frame.{Frame}
use Rattle.call_steps.specs.declared.written.WrittenKey.{WrittenKey}
use Rattle.call_steps.specs.State.{State}
use Rattle.call_steps.specs.Tables.{empty}
use Rattle.engine_world.specs.GoingOut.{IsAside, IsClearOf, with_again}
use Rattle.engine_world.specs.Leaves.{emptied, frame_in, generation_at}
use Rattle.engine_world.specs.Stands.{Engine, Stands}
use Rattle.engine_world.specs.Worlds.{World, with_records}

-- no key that the session's transaction wrote is in this frame
abbrev pub NoneWroteIn : ℕ → State → Type 0
NoneWroteIn frame a = (k : WrittenKey) → Member k a.written → k.frame ≢ frame

-- what the leaf in the frame holds of a key, newest first
abbrev pub held_of : Frame → List ℕ → List (Version Change)
held_of f key = map {A = Update} (λ u. u.version) (chain_at key f.leaf.chains) ++ option_to_list (shown_at key f.leaf.page)

-- The rows have the newest version of each key that lies in the leaf, a removal too, and of no other key. Each version that is held is of an ended transaction. moved: the older ones that are not out of reach, newest first, which go to the history.
pub record IsEvictedTo (m : Machine) (leaves : List Leaf) (l : Leaf) (f : Frame) (rows : List Row) (moved : List ℕ → List (Version Change)) : Type 0 where
  -- a version that makes what is older unreachable
  pub past : Version Change → Bool
  pub covers : (key : List ℕ) → leaf_under l.table key leaves ≡ Some l → PastCovers m past (line m.history l.table key)
  pub ended : (key : List ℕ) → leaf_under l.table key leaves ≡ Some l → EndedWhere m each_one (held_of f key)
  pub made : (key : List ℕ) → leaf_under l.table key leaves ≡ Some l → ReconciledLists Older each_one past (held_of f key) (shown_at key rows) (moved key)
  pub ordered : (key : List ℕ) → leaf_under l.table key leaves ≡ Some l → Descends Older (option_to_list (shown_at key rows) ++ moved key)
  pub bare : (key : List ℕ) → leaf_under l.table key leaves ≢ Some l → (shown_at key rows ≡ None) × (moved key ≡ [])

-- the leaf in no frame, led to another block
abbrev pub led_out : Link → Leaf → Leaf
led_out link l = in_frame None (led_to link l)

-- the engine with the leaf of this id in no frame and led to this block, and with this frame without a leaf
abbrev pub evicted : Engine → ℕ → Link → ℕ → Engine
evicted e id link frame =
    record e {
      hub = record e.hub { dir = record e.hub.dir { leaves = changed id (led_out link) e.hub.dir.leaves } };
      pieces = slice_set e.pieces frame (emptied e.pieces frame);
      states = slice_set e.states frame (empty (generation_at e.pieces frame + 1));
    }

-- the world in which the block of this leaf has these rows
abbrev pub with_rows : ℕ → List Row → World → World
with_rows id rows w = record w { shelf = λ other. if other == id then rows else w.shelf other }

-- who has found it may be told so, and nobody else sees it
abbrev pub LeavesAreEvicted : Type 0
LeavesAreEvicted = (e : Engine) (w : World) (l : Leaf) (framed : Framed) (f : Frame) (link : Link) (rows : List Row) (moved : List ℕ → List (Version Change)) → Stands e w → Contains e.hub.dir.leaves l → l.frame ≡ Some framed → frame_in e.pieces framed.frame ≡ Some f
    → ((session : ℕ) (a : State) → slice_get e.sessions session ≡ Some a → IsAside framed.frame a × NoneWroteIn framed.frame a)
    → generation_at e.pieces framed.frame + 1 < 2 ^ 62 → IsDirectory (evicted e l.id link framed.frame).hub.dir → IsEvictedTo w.machine e.hub.dir.leaves l f rows moved
    → Stands (evicted e l.id link framed.frame) (with_records l.id moved (with_rows l.id rows (with_again e framed.frame w)))

-- where no call has found it, nobody sees it
abbrev pub LeavesAreEvictedUnseen : Type 0
LeavesAreEvictedUnseen = (e : Engine) (w : World) (l : Leaf) (framed : Framed) (f : Frame) (link : Link) (rows : List Row) (moved : List ℕ → List (Version Change)) → Stands e w → Contains e.hub.dir.leaves l → l.frame ≡ Some framed → frame_in e.pieces framed.frame ≡ Some f
    → ((session : ℕ) (a : State) → slice_get e.sessions session ≡ Some a → IsClearOf framed.frame a × NoneWroteIn framed.frame a)
    → generation_at e.pieces framed.frame + 1 < 2 ^ 62 → IsDirectory (evicted e l.id link framed.frame).hub.dir → IsEvictedTo w.machine e.hub.dir.leaves l f rows moved
    → Stands (evicted e l.id link framed.frame) (with_records l.id moved (with_rows l.id rows w))
