-- A leaf that is evicted: what is out of reach, why a leaf stays, and the engine that is left.
use Rattle.std.specs.Prelude.{◌≡◌, ◌<◌, ◌≤◌, ◌+◌, ◌^◌, ℕ, List, Option, Some, None, option_and_then, slice_get}
use Rattle.kv_model.specs.Holds.{Member}
use Rattle.device_layout.specs.declared.link.Link.{Link}
use Rattle.tree_dir.specs.declared.leaf.Framed.{Framed}
use Rattle.tree_dir.specs.declared.leaf.Leaf.{Leaf}
use Rattle.tree_dir.specs.Leaves.{leaf_named}
use Rattle.txn_table.specs.Tabled.{floor_of, pin_of}
use Rattle.call_steps.specs.declared.frame.Frame.{Frame}
use Rattle.call_steps.specs.declared.written.WrittenKey.{WrittenKey}
use Rattle.call_steps.specs.State.{State}
use Rattle.engine_world.specs.Evicting.{NoneWroteIn, evicted}
use Rattle.engine_world.specs.GoingOut.{IsAside, frame_in_hand}
use Rattle.engine_world.specs.Leaves.{frame_in, generation_at}
use Rattle.engine_world.specs.Stands.{Engine}
use Rattle.engine.specs.declared.evicting.Horizon.{Horizon}
use Rattle.engine.specs.declared.evicting.Stays.{Stays}
use Rattle.engine.specs.declared.evicting.Stays.TheVariants.{Away, Call, Pinned, Written, LastGeneration, Coming, Walked}
use Rattle.engine.specs.declared.running_checkpoint.RunningCheckpoint.{RunningCheckpoint}
use Rattle.engine.specs.Frames.{IsUnpinned}
use Rattle.engine.specs.Running.{recorded, sight_of_running}

-- the pin stamp and the floor of names, beside this checkpoint
abbrev pub horizon_of : Engine → Option RunningCheckpoint → Horizon
horizon_of e running = record { pin = pin_of e.hub.txns e.hub.stamps.oldest (recorded running); floor = floor_of e.hub.txns (sight_of_running running) }

-- ---- whether a leaf may be evicted

-- no call is at the leaf in the frame
abbrev pub AllAside : ℕ → List State → Type 0
AllAside frame sessions = (session : ℕ) (a : State) → slice_get sessions session ≡ Some a → IsAside frame a

-- no transaction that has not ended wrote in it
abbrev pub NoneWrote : ℕ → List State → Type 0
NoneWrote frame sessions = (session : ℕ) (a : State) → slice_get sessions session ≡ Some a → NoneWroteIn frame a

-- a frame may be emptied: no call is at its leaf, no hazard word of any session names it, no transaction that has not ended wrote in it, and it is not at its last generation
pub record MayBeEmptied (e : Engine) (frame : ℕ) : Type 0 where
  pub aside : AllAside frame e.sessions
  pub unpinned : IsUnpinned frame e.hazards
  pub unwritten : NoneWrote frame e.sessions
  pub next : generation_at e.pieces frame + 1 < 2 ^ 62

-- the leaf of this id is there, in a frame that may be emptied
pub record MayBeEvicted (e : Engine) (id : ℕ) : Type 0 where
  pub leaf : Leaf
  pub there : leaf_named id e.hub.dir.leaves ≡ Some leaf
  pub framed : Framed
  pub placed : leaf.frame ≡ Some framed
  pub frame : Frame
  pub filled : frame_in e.pieces framed.frame ≡ Some frame
  pub may : MayBeEmptied e framed.frame

-- ---- why it stays

-- the session's call is at the leaf in the frame
abbrev pub IsCalledIn : ℕ → List State → ℕ → Type 0
IsCalledIn frame sessions session = (a : State) × (slice_get sessions session ≡ Some a) × (frame_in_hand a.stage ≡ Some frame)

-- its transaction wrote in it
abbrev pub HasWrittenIn : ℕ → List State → ℕ → Type 0
HasWrittenIn frame sessions session = (a : State) × (slice_get sessions session ≡ Some a) × (k : WrittenKey) × Member k a.written × (k.frame ≡ frame)

-- why this frame is not emptied; what keeps a leaf from parting alone is no reason
abbrev pub KeepsFrame : Engine → ℕ → Stays → Type 0
KeepsFrame e frame Away = frame_in e.pieces frame ≡ None
KeepsFrame e frame (Call session) = IsCalledIn frame e.sessions session
KeepsFrame e frame (Pinned word) = slice_get e.hazards word ≡ Some (frame + 1)
KeepsFrame e frame (Written session) = HasWrittenIn frame e.sessions session
KeepsFrame e frame LastGeneration = 2 ^ 62 ≤ generation_at e.pieces frame + 1
KeepsFrame e frame (Coming session) = ⊥
KeepsFrame e frame (Walked session) = ⊥

-- where the leaf of this id is
abbrev pub framed_in : Engine → ℕ → Option Framed
framed_in e id = option_and_then (λ (l : Leaf). l.frame) (leaf_named id e.hub.dir.leaves)

-- why the leaf of this id is not evicted
abbrev pub KeepsLeaf : Engine → ℕ → Stays → Type 0
KeepsLeaf e id Away = (framed : Framed) → framed_in e id ≡ Some framed → frame_in e.pieces framed.frame ≡ None
KeepsLeaf e id why = (framed : Framed) × (framed_in e id ≡ Some framed) × KeepsFrame e framed.frame why

-- ---- the engine that is left

-- the leaf has left its frame, and leads to this block
pub record HasBeenEvicted (old new : Engine) (id : ℕ) (link : Link) : Type 0 where
  pub may : MayBeEvicted old id
  pub is : new ≡ evicted old id link may.framed.frame
