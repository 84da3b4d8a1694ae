-- Frames, the leaf that comes into one, and leaves that leave one.
use Rattle.std.specs.Prelude.{◌≡◌, ◌≢◌, ◌<◌, ◌≤◌, ◌+◌, ◌^◌, ◌++◌, ℕ, nat_lt, List, [], ◌∷◌, length, if◌then◌else◌, None, Some, slice_get, slice_set}
use Rattle.leaf_frame.specs.Leaf.{HeldLeaf}
use Rattle.stored.specs.TableTree.{Entry}
use Rattle.tree_dir.specs.declared.leaf.Framed.{Framed}
use Rattle.tree_dir.specs.declared.leaf.Leaf.{Leaf}
use Rattle.tree_dir.specs.Leaves.{Directory, GaveWay, changed, in_frame, leaf_named}
use Rattle.call_steps.specs.declared.frame.Frame.{Frame}
use Rattle.call_steps.specs.declared.frame.FramePiece.{FramePiece}
use Rattle.call_steps.specs.State.{State}
use Rattle.engine_world.specs.GivingWay.{without_leaf}
use Rattle.engine_world.specs.GoingOut.{IsClearOf, gone_out}
use Rattle.engine_world.specs.Leaves.{frame_in, generation_at}
use Rattle.engine_world.specs.Stands.{Engine}

-- a frame with a leaf, at this generation
abbrev pub piece_of : ℕ → ℕ → ℕ → HeldLeaf → FramePiece
piece_of generation table id leaf = record { generation = generation; frame = Some (record { table = table; id = id; leaf = leaf }) }

-- the frame has no leaf, or is the next one behind the others
abbrev pub IsBare : List FramePiece → ℕ → Type 0
IsBare pieces frame = (frame ≤ length pieces) × (frame_in pieces frame ≡ None)

-- at this place, or behind the others
abbrev pub put_at : {A : Type 0} → List A → ℕ → A → List A
put_at xs i x = if nat_lt i (length xs) then slice_set xs i x else xs ++ x ∷ []

-- the directory, with the leaf of this id in a frame, at this generation
abbrev pub framed_at : Directory → ℕ → ℕ → ℕ → Directory
framed_at dir id frame generation = record dir { leaves = changed id (in_frame (Some (record { frame = frame; generation = generation }))) dir.leaves }

-- a frame that had no leaf has the one of this id
pub record IsFilled (old new : Engine) (id : ℕ) (held : HeldLeaf) : Type 0 where
  pub leaf : Leaf
  pub there : leaf_named id old.hub.dir.leaves ≡ Some leaf
  pub frame : ℕ
  pub bare : IsBare old.pieces frame
  pub dir : new.hub.dir ≡ framed_at old.hub.dir id frame (generation_at old.pieces frame)
  pub pieces : new.pieces ≡ put_at old.pieces frame (piece_of (generation_at old.pieces frame) leaf.table id held)

-- the leaf of this id is there, in a frame
abbrev pub IsFramed : List Leaf → ℕ → Type 0
IsFramed leaves id = (l : Leaf) × (leaf_named id leaves ≡ Some l) × (l.frame ≢ None)

-- The leaf of this id, which was in a frame, has given way to others with these entries, and the frame has no leaf.
pub record HasGivenWay (old new : Engine) (id : ℕ) (entries : List Entry) : Type 0 where
  pub leaf : Leaf
  pub there : leaf_named id old.hub.dir.leaves ≡ Some leaf
  pub framed : Framed
  pub placed : leaf.frame ≡ Some framed
  pub ids : List ℕ
  pub gave : GaveWay old.hub.dir new.hub.dir id entries ids
  pub next : generation_at old.pieces framed.frame + 1 < 2 ^ 62
  pub is : new ≡ without_leaf old new.hub.dir framed.frame

-- ---- a leaf that goes out of its frame

-- a leaf that was read, and whose keys were never written since
abbrev pub IsUnwritten : HeldLeaf → Type 0
IsUnwritten leaf = (leaf.chains ≡ []) × (1 ≤ length leaf.page)

-- no call has found the leaf in the frame, or is at it
abbrev pub AllClearOf : ℕ → List State → Type 0
AllClearOf frame sessions = (session : ℕ) (a : State) → slice_get sessions session ≡ Some a → IsClearOf frame a

-- no hazard word names the frame
abbrev pub IsUnpinned : ℕ → List ℕ → Type 0
IsUnpinned frame words = (word : ℕ) → slice_get words word ≢ Some (frame + 1)

-- The leaf of this id, which is in a frame, may go out of it: it has rows and no chains, no call has found it or is at it, no hazard word names its frame, and that is not at its last generation.
pub record MayGoOut (e : Engine) (id : ℕ) : Type 0 where
  pub leaf : Leaf
  pub there : leaf_named id e.hub.dir.leaves ≡ Some leaf
  pub framed : Framed
  pub placed : leaf.frame ≡ Some framed
  pub frame : Frame
  pub filled : frame_in e.pieces framed.frame ≡ Some frame
  pub unwritten : frame.leaf.chains ≡ []
  pub rows : 1 ≤ length frame.leaf.page
  pub clear : (session : ℕ) (a : State) → slice_get e.sessions session ≡ Some a → IsClearOf framed.frame a
  pub unpinned : (word : ℕ) → slice_get e.hazards word ≢ Some (framed.frame + 1)
  pub next : generation_at e.pieces framed.frame + 1 < 2 ^ 62

-- it has
pub record HasGoneOut (old new : Engine) (id : ℕ) : Type 0 where
  pub may : MayGoOut old id
  pub is : new ≡ gone_out old id may.framed.frame
