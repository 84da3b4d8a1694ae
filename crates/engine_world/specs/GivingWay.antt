-- What an engine at rest leaves whose leaf gives way to others, which are in no frame.
use Rattle.std.specs.Prelude.{◌≡◌, ◌≢◌, ◌<◌, ◌≤◌, ◌+◌, ◌^◌, ℕ, List, Some, None, IfSome, slice_get, slice_set}
use Rattle.std.specs.List.{Contains}
use Rattle.kv_model.specs.AgreementLaws.{head_of}
use Rattle.kv_model.specs.History.{line}
use Rattle.kv_model.specs.Machine.{Machine}
use Rattle.row_page.specs.Rows.{Row}
use Rattle.reconcile.specs.Shows.{shown_at}
use Rattle.stored.specs.TableTree.{Entry}
use Rattle.tree_dir.specs.declared.leaf.Framed.{Framed}
use Rattle.tree_dir.specs.declared.leaf.Leaf.{Leaf}
use Rattle.tree_dir.specs.Leaves.{Directory, GaveWay, IsDirectory, TakePlace, leaf_under, leaves_with}
use Rattle.txn_table.specs.declared.phase.Phase.TheVariants.{Idle}
use Rattle.call_steps.specs.declared.stage.Stage.TheVariants as stage
use Rattle.call_steps.specs.State.{State, first_pinned}
use Rattle.call_steps.specs.Tables.{empty}
use Rattle.engine_world.specs.Leaves.{emptied, generation_at}
use Rattle.engine_world.specs.Stands.{Engine, Stands}
use Rattle.engine_world.specs.Worlds.{World}

-- the session has no call, no transaction and no cursor on a leaf
pub record RestsWhole (a : State) : Type 0 where
  pub stage : a.stage ≡ stage.Rest
  pub phase : a.phase ≡ Idle
  pub unpinned : first_pinned a.cursors ≡ None

-- so does each
abbrev pub IsIdle : Engine → Type 0
IsIdle e = (session : ℕ) (a : State) → slice_get e.sessions session ≡ Some a → RestsWhole a

-- The shelf has of the new leaves the newest version of each key that lies in them, which is durable at the oldest stamp, and of others what it had.
pub record IsShelved (m : Machine) (old next : Directory) (made : List Leaf) (before shelf : ℕ → List Row) : Type 0 where
  pub others : (id : ℕ) → id < old.next → shelf id ≡ before id
  pub newest : (n : Leaf) → Contains made n → (key : List ℕ) → leaf_under n.table key next.leaves ≡ Some n → head_of (line m.history n.table key) ≡ shown_at key (shelf n.id)
  pub bare : (n : Leaf) → Contains made n → (key : List ℕ) → leaf_under n.table key next.leaves ≢ Some n → shown_at key (shelf n.id) ≡ None
  pub durable : (n : Leaf) → Contains made n → (key : List ℕ) → IfSome (shown_at key (shelf n.id)) (λ v. v.window.durable ≤ m.oldest)

-- the engine with another directory, and a frame that its leaf has left
abbrev pub without_leaf : Engine → Directory → ℕ → Engine
without_leaf e dir frame = record e { hub = record e.hub { dir = dir }; pieces = slice_set e.pieces frame (emptied e.pieces frame); states = slice_set e.states frame (empty (generation_at e.pieces frame + 1)) }

-- nobody sees it
abbrev pub LeavesGiveWay : Type 0
LeavesGiveWay = (e : Engine) (w : World) (l : Leaf) (framed : Framed) (dir : Directory) (entries : List Entry) (ids : List ℕ) (shelf : ℕ → List Row) → Stands e w → IsIdle e → w.machine.checkpoint ≡ None
    → Contains e.hub.dir.leaves l → l.frame ≡ Some framed → generation_at e.pieces framed.frame + 1 < 2 ^ 62 → TakePlace l.id entries e.hub.dir.leaves → GaveWay e.hub.dir dir l.id entries ids → IsDirectory dir
    → IsShelved w.machine e.hub.dir dir (leaves_with l.table ids entries) w.shelf shelf → Stands (without_leaf e dir framed.frame) (record w { shelf = shelf })
