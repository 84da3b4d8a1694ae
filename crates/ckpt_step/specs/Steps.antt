-- What a checkpoint does with a leaf of the directory.
use Rattle.std.specs.Prelude.{◌≡◌, ◌⊎◌, List, None, Some, true}
use Rattle.std.specs.List.{Contains}
use Rattle.call_steps.specs.declared.frame.Frame.{Frame}
use Rattle.engine_world.specs.Leaves.{frame_in}
use Rattle.engine_world.specs.Stands.{Engine, Stands}
use Rattle.engine_world.specs.Worlds.{World}
use Rattle.reconcile.specs.Capture.{ChainsFit}
use Rattle.leaf_frame.specs.Leaf.{HeldLeaf}
use Rattle.leaf_frame.specs.Updates.{NoneAbove}
use Rattle.leaf_rows.specs.Rows.{AreFit}
use Rattle.snapshot.specs.Past.{is_below}
use Rattle.stamp.specs.declared.Name.{Name}
use Rattle.stored.specs.TableTree.{Entry}
use Rattle.tree_dir.specs.declared.leaf.Framed.{Framed}
use Rattle.tree_dir.specs.declared.leaf.Leaf.{Leaf}
use Rattle.ckpt_step.specs.declared.clean.LeafStep.{LeafStep}
use Rattle.ckpt_step.specs.declared.clean.LeafStep.TheVariants.{Keep, Write}
use Rattle.ckpt_step.specs.Parts.{AreBelowFloor, part_in, part_of}
use Rattle.ckpt_step.specs.Rooms.{Written}

-- the leaf is in a frame, which has this
pub record IsLoaded (e : Engine) (l : Leaf) (held : HeldLeaf) : Type 0 where
  pub framed : Framed
  pub frame : Frame
  pub placed : l.frame ≡ Some framed
  pub there : frame_in e.pieces framed.frame ≡ Some frame
  pub is : held ≡ frame.leaf
  pub chains_fit : ChainsFit held.chains
  pub rows_fit : AreFit held.page

-- it is in none, if the engine stands for a world and the leaf is of its directory
abbrev pub IsUnloaded : Engine → Leaf → Type 0
IsUnloaded e l = (w : World) → Stands e w → Contains e.hub.dir.leaves l → l.frame ≡ None

-- a leaf in a frame is clean: the checkpoint before has a part of it, and the names of that and those in the frame are all below the floor
pub record IsCleanLeaf (e : Engine) (written : Written) (floor : Name) (l : Leaf) : Type 0 where
  pub held : HeldLeaf
  pub loaded : IsLoaded e l held
  pub part : List Entry
  pub there : part_in written l ≡ Some part
  pub below : AreBelowFloor floor part
  pub greatest : Name
  pub none_above : NoneAbove greatest held
  pub under : is_below greatest floor ≡ true

-- a checkpoint keeps what the one before has of it
abbrev pub IsKept : Engine → Written → Name → Leaf → Type 0
IsKept e written floor l = IsUnloaded e l ⊎ IsCleanLeaf e written floor l

-- that is a step for a leaf, over what the checkpoint before has of it
abbrev pub IsStepOf : Engine → Written → Name → Leaf → LeafStep → Type 0
IsStepOf e written floor l (Keep part) = (part.now ≡ part_of written l) × IsKept e written floor l
IsStepOf e written floor l (Write held part) = (part.now ≡ part_of written l) × IsLoaded e l held.now
