-- Frames that have leaves which may not go, and a store of which each frame is such a one.
use Rattle.std.specs.Prelude.{◌≡◌, ◌⊎◌, ◌≤◌, ◌^◌, ℕ, zero, suc, length, Some}
use Rattle.call_steps.specs.declared.frame.Frame.{Frame}
use Rattle.engine_world.specs.Leaves.{frame_in}
use Rattle.engine_world.specs.Stands.{Engine, Stands}
use Rattle.engine_world.specs.Worlds.{Records, World}
use Rattle.engine.specs.Evictions.{KeepsLeaf}
use Rattle.engine.specs.declared.evicting.Stays.{Stays}
use Rattle.engine_store.specs.declared.frames.Frames.{Frames}
use Rattle.engine_store.specs.declared.frames.Frames.TheVariants.{Soft, Firm}

abbrev pub count_of : Frames → ℕ
count_of (Soft count) = count
count_of (Firm count) = count

-- the frame has a leaf that may not go: a call is at it, a hazard word names the frame, a transaction that has not ended wrote in it, or the frame is at its last generation
abbrev pub IsKeptIn : Engine → ℕ → Type 0
IsKeptIn e frame = (held : Frame) × (frame_in e.pieces frame ≡ Some held) × (why : Stays) × KeepsLeaf e held.id why

-- so many of the first frames have such a leaf
abbrev pub CountsKept : Engine → (frames count : ℕ) → Type 0
CountsKept e zero count = count ≡ 0
CountsKept e (suc frames) count = ((fewer : ℕ) × (count ≡ suc fewer) × IsKeptIn e frames × CountsKept e frames fewer) ⊎ ((IsKeptIn e frames → ⊥) × CountsKept e frames count)

-- as many frames as there are to be, or more, have such a leaf
pub record IsFull (most : ℕ) (e : Engine) : Type 0 where
  pub frames : ℕ
  pub there : frames ≤ length e.pieces
  pub numbered : frames ≤ 2 ^ 32
  pub count : ℕ
  pub kept : CountsKept e frames count
  pub many : most ≤ count

-- no frame is added for one leaf more
abbrev pub IsFullOf : Frames → Engine → Type 0
IsFullOf (Soft count) e = ⊥
IsFullOf (Firm count) e = IsFull count e

-- so it is of an engine that stands for the world, with some history
pub record IsFullAt (most : ℕ) (w : World) : Type 0 where
  pub engine : Engine
  pub records : Records
  pub stands : Stands engine (record w { records = records })
  pub full : IsFull most engine

abbrev pub MayBeFull : Frames → World → Type 0
MayBeFull (Soft count) w = ⊥
MayBeFull (Firm count) w = IsFullAt count w
