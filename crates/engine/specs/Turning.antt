-- Evictions that go by steps, the frames that they lock, and calls that are turned away from these.
use Rattle.std.specs.Prelude.{◌≡◌, ◌≢◌, ◌<◌, ◌+◌, ◌*◌, ◌^◌, ℕ, List, length, Option, Some, None, option_and_then, option_map, slice_get, slice_index_or, slice_set}
use Rattle.tree_dir.specs.Leaves.{leaf_named}
use Rattle.call_steps.specs.declared.stage.Stage.{Stage}
use Rattle.call_steps.specs.declared.stage.Stage.TheVariants as stage
use Rattle.call_steps.specs.declared.stage.Target.{Target}
use Rattle.call_steps.specs.State.{State}
use Rattle.call_steps.specs.Tables.{target_in}
use Rattle.engine_world.specs.Stands.{Engine}
use Rattle.engine.specs.declared.turning.Evicting.{Evicting}
use Rattle.engine.specs.declared.turning.EvictStage.{EvictStage}
use Rattle.engine.specs.declared.turning.EvictStage.TheVariants.{Find, Lock, Scan, Ask, Cut, Write}

-- ---- locks

-- the leaf whose frame an eviction has locked: from its lock to its end
abbrev pub locked_in : EvictStage → Option Target
locked_in Find = None
locked_in (Lock target) = None
locked_in (Scan target word) = Some target
locked_in (Ask target) = Some target
locked_in (Cut target) = Some target
locked_in (Write target) = Some target

-- the leaf that it has found: from its find to its end
abbrev pub found_in : EvictStage → Option Target
found_in Find = None
found_in (Lock target) = Some target
found_in (Scan target word) = Some target
found_in (Ask target) = Some target
found_in (Cut target) = Some target
found_in (Write target) = Some target

-- it is in this frame, which had this state word
abbrev pub IsLock : Option Target → ℕ → ℕ → Type 0
IsLock None frame word = ⊥
IsLock (Some target) frame word = (target.frame ≡ frame) × (target.word ≡ word)

abbrev pub LocksIn : Option Evicting → ℕ → ℕ → Type 0
LocksIn None frame word = ⊥
LocksIn (Some x) frame word = IsLock (locked_in x.stage) frame word

-- the eviction of the actor of this number has locked the frame which had this state word
abbrev pub LocksFrame : List (Option Evicting) → ℕ → ℕ → ℕ → Type 0
LocksFrame evicting number frame word = (x : Option Evicting) × (slice_get evicting number ≡ Some x) × LocksIn x frame word

-- how many hazard words the open sessions have
abbrev pub words_of : Engine → ℕ
words_of e = 5 * length e.sessions

-- what is read of a locked frame in place of its state word: the one above it
pub record SeesLock (evicting : List (Option Evicting)) (frame word seen : ℕ) : Type 0 where
  pub number : ℕ
  pub locks : LocksFrame evicting number frame word
  pub above : seen ≡ word + 1
  pub fits : seen < 2 ^ 64

-- of an actor that has one
abbrev pub found_on : Option Evicting → Option Target
found_on None = None
found_on (Some x) = found_in x.stage

-- ---- the evictions of actors, by their numbers

abbrev pub evicting_by : List (Option Evicting) → ℕ → Option Evicting
evicting_by evicting number = slice_index_or evicting number None

-- one of them is at another stage
abbrev pub staged : List (Option Evicting) → ℕ → EvictStage → List (Option Evicting)
staged evicting number stage = slice_set evicting number (option_map (λ (x : Evicting). let y : Evicting = record x { stage = stage } in y) (evicting_by evicting number))

-- ---- calls that come to a leaf

-- where the leaf of this id is
abbrev pub target_of : Engine → ℕ → Option Target
target_of e id = option_and_then target_in (leaf_named id e.hub.dir.leaves)

-- the leaf at which a call looks next whether its frame has it still
abbrev pub coming_in : Stage → Option Target
coming_in (stage.Validate call target) = Some target
coming_in _ = None

-- that of a session's call
abbrev pub coming_for : Engine → ℕ → Option Target
coming_for e session = option_and_then (λ (a : State). coming_in a.stage) (slice_get e.sessions session)

-- the session's call looks so next, and this is not the state word that it had found
pub record IsComing (e : Engine) (session seen : ℕ) : Type 0 where
  pub state : State
  pub at : slice_get e.sessions session ≡ Some state
  pub target : Target
  pub comes : coming_in state.stage ≡ Some target
  pub other : seen ≢ target.word

-- the session's call looks so next, and an eviction has locked that frame
pub record IsTurned (e : Engine) (session : ℕ) (evicting : List (Option Evicting)) (seen : ℕ) : Type 0 where
  pub target : Target
  pub comes : coming_for e session ≡ Some target
  pub sees : SeesLock evicting target.frame target.word seen
