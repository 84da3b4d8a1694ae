-- A leaf that parts while others are at work: it goes out of its frame and gives way to others, which are in none, and their blocks and the history have anew what it held.
use Rattle.std.specs.Prelude.{◌≡◌, ◌≢◌, ◌<◌, ◌≤◌, ◌+◌, ◌^◌, ℕ, Bool, List, [], ◌++◌, Option, Some, None, slice_get}
use Rattle.std.specs.List.{Contains}
use Rattle.std.specs.Option.{option_to_list}
use Rattle.item.specs.declared.Change.{Change}
use Rattle.stamp.specs.declared.Version.{Version}
use Rattle.kv_model.specs.Captures.{ReconciledLists}
use Rattle.kv_model.specs.History.{line}
use Rattle.kv_model.specs.Holds.{Descends}
use Rattle.kv_model.specs.Ordered.{Older}
use Rattle.kv_model.specs.Reconciling.{EndedWhere, PastCovers, each_one}
use Rattle.row_page.specs.Rows.{Row}
use Rattle.reconcile.specs.Shows.{shown_at}
use Rattle.stored.specs.TableTree.{Entry}
use Rattle.tree_dir.specs.declared.leaf.Framed.{Framed}
use Rattle.tree_dir.specs.declared.leaf.Leaf.{Leaf}
use Rattle.tree_dir.specs.Leaves.{Directory, GaveWay, IsDirectory, TakePlace, leaf_under, leaves_with}
use Rattle.call_steps.specs.declared.frame.Frame.{Frame}
use Rattle.call_steps.specs.declared.stage.KeyCall.{KeyCall}
use Rattle.call_steps.specs.declared.stage.KeyCall.TheVariants.{Step}
use Rattle.call_steps.specs.declared.stage.Stage.{Stage}
use Rattle.call_steps.specs.declared.stage.Stage.TheVariants as stage
use Rattle.call_steps.specs.State.{State}
use Rattle.engine_world.specs.Evicting.{NoneWroteIn, held_of}
use Rattle.engine_world.specs.GivingWay.{without_leaf}
use Rattle.engine_world.specs.GoingOut.{IsAside}
use Rattle.engine_world.specs.Leaves.{frame_in, generation_at}
use Rattle.engine_world.specs.Stands.{Engine, Stands}
use Rattle.engine_world.specs.Worlds.{Records, World}

-- ---- the sessions

-- the leaf that a call has not come to yet
abbrev pub leaf_ahead_of : Stage → Option ℕ
leaf_ahead_of (stage.Fill call wanted) = Some wanted.leaf
leaf_ahead_of (stage.Publish call target) = Some target.leaf
leaf_ahead_of (stage.Validate call target) = Some target.leaf
leaf_ahead_of _ = None

-- the table that a call goes over leaf by leaf
abbrev pub walked_by : KeyCall → ℕ → Option ℕ
walked_by (Step cursor way) table = Some table
walked_by _ table = None

abbrev pub table_walked : Stage → Option ℕ
table_walked (stage.Fill call wanted) = walked_by call wanted.table
table_walked (stage.Publish call target) = walked_by call target.table
table_walked (stage.Validate call target) = walked_by call target.table
table_walked (stage.Look call target) = walked_by call target.table
table_walked (stage.Pass call target) = walked_by call target.table
table_walked _ = None

-- no call of the session is at the leaf, which is in this frame, or on its way to it, or goes over its table leaf by leaf, and its transaction wrote no key in it
pub record IsBesideLeaf (l : Leaf) (frame : ℕ) (a : State) : Type 0 where
  pub aside : IsAside frame a
  pub elsewhere : leaf_ahead_of a.stage ≢ Some l.id
  pub walks : table_walked a.stage ≢ Some l.table
  pub unwritten : NoneWroteIn frame a

-- ---- what the leaves have

-- The blocks of the new leaves have of each key that lies in them the newest version that was held, a removal too, and the history those older ones that are not out of reach, newest first; they have no other key. Each version that was held is of an ended transaction. Of other leaves they have what they had.
pub record IsPartedTo (w : World) (old next : Directory) (l : Leaf) (f : Frame) (made : List Leaf) (shelf : ℕ → List Row) (records : Records) : Type 0 where
  -- a version that makes what is older unreachable
  pub past : Version Change → Bool
  pub covers : (key : List ℕ) → leaf_under l.table key old.leaves ≡ Some l → PastCovers w.machine past (line w.machine.history l.table key)
  pub ended : (key : List ℕ) → leaf_under l.table key old.leaves ≡ Some l → EndedWhere w.machine each_one (held_of f key)
  pub made_of : (n : Leaf) → Contains made n → (key : List ℕ) → leaf_under n.table key next.leaves ≡ Some n → ReconciledLists Older each_one past (held_of f key) (shown_at key (shelf n.id)) (records n.id key)
  pub ordered : (n : Leaf) → Contains made n → (key : List ℕ) → leaf_under n.table key next.leaves ≡ Some n → Descends Older (option_to_list (shown_at key (shelf n.id)) ++ records n.id key)
  pub bare : (n : Leaf) → Contains made n → (key : List ℕ) → leaf_under n.table key next.leaves ≢ Some n → (shown_at key (shelf n.id) ≡ None) × (records n.id key ≡ [])
  pub others : (id : ℕ) → id < old.next → shelf id ≡ w.shelf id
  pub kept : (id : ℕ) → id < old.next → (key : List ℕ) → records id key ≡ w.records id key
  pub unused : (id : ℕ) → next.next ≤ id → (key : List ℕ) → records id key ≡ []

-- nobody sees it
abbrev pub LeavesPart : Type 0
LeavesPart = (e : Engine) (w : World) (l : Leaf) (framed : Framed) (f : Frame) (dir : Directory) (entries : List Entry) (ids : List ℕ) (shelf : ℕ → List Row) (records : Records) → Stands e w
    → Contains e.hub.dir.leaves l → l.frame ≡ Some framed → frame_in e.pieces framed.frame ≡ Some f → generation_at e.pieces framed.frame + 1 < 2 ^ 62
    → ((session : ℕ) (a : State) → slice_get e.sessions session ≡ Some a → IsBesideLeaf l framed.frame a)
    → TakePlace l.id entries e.hub.dir.leaves → GaveWay e.hub.dir dir l.id entries ids → IsDirectory dir
    → IsPartedTo w e.hub.dir dir l f (leaves_with l.table ids entries) shelf records → Stands (without_leaf e dir framed.frame) (record w { shelf = shelf; records = records })
