-- What the calls and steps of an engine leave of its tables and leaves.
use Rattle.std.specs.Prelude.{◌≡◌, ◌≢◌, ℕ, ◌≤◌, List, [], ◌∷◌, None, Some, slice_get}
use Rattle.std.specs.List.{Contains}
use Rattle.kv_model.specs.History.{Table}
use Rattle.stored.specs.Links.{nowhere}
use Rattle.tree_dir.specs.declared.leaf.Leaf.{Leaf}
use Rattle.tree_dir.specs.Leaves.{Directory, leaves_of}
use Rattle.call_steps.specs.declared.hub.Hub.{Hub}

-- a leaf is the same, but for its frame, and does not leave that
pub record LeafGoesOn (l next : Leaf) : Type 0 where
  pub id : next.id ≡ l.id
  pub table : next.table ≡ l.table
  pub entry : next.entry ≡ l.entry
  pub stays : next.frame ≡ None → l.frame ≡ None

-- so is each of these, in their order
abbrev pub LeavesGoOn : List Leaf → List Leaf → Type 0
LeavesGoOn [] [] = Unit {0}
LeavesGoOn [] (n ∷ next) = ⊥
LeavesGoOn (l ∷ leaves) [] = ⊥
LeavesGoOn (l ∷ leaves) (n ∷ next) = LeafGoesOn l n × LeavesGoOn leaves next

-- A directory goes on: the tables that are known keep their leaves, and each leaf of another has a later id and no block, and is in a frame.
pub record DirGoesOn (known : List Table) (d next : Directory) : Type 0 where
  pub ids : d.next ≤ next.next
  pub kept : (i : ℕ) (t : Table) → slice_get known i ≡ Some t → LeavesGoOn (leaves_of t.number d.leaves) (leaves_of t.number next.leaves)
  pub made : (l : Leaf) → Contains next.leaves l → ((i : ℕ) (t : Table) → slice_get known i ≡ Some t → l.table ≢ t.number) → (d.next ≤ l.id) × (l.entry.link ≡ nowhere) × (l.frame ≢ None)

-- the run and what failed stay, the tables keep their places, and the directory goes on
pub record HubGoesOn (h next : Hub) : Type 0 where
  pub run : next.txns.run ≡ h.txns.run
  pub fault : next.fault ≡ h.fault
  pub tables : (i : ℕ) (t : Table) → slice_get h.tables.tables i ≡ Some t → slice_get next.tables.tables i ≡ Some t
  pub dir : DirGoesOn h.tables.tables h.dir next.dir
