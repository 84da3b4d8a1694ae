-- Calls that wait for a leaf that is in no frame, and how many steps a call has left.
use Rattle.std.specs.Prelude.{◌≡◌, ◌<◌, ℕ, Bool, true, false, List, Option, Some, None, if◌then◌else◌, option_and_then, slice_get}
use Rattle.kv_model.specs.Machine.{of_some}
use Rattle.tree_dir.specs.declared.leaf.Framed.{Framed}
use Rattle.tree_dir.specs.declared.leaf.Leaf.{Leaf}
use Rattle.tree_dir.specs.Leaves.{leaf_named}
use Rattle.call_steps.specs.declared.next.Next.{Next}
use Rattle.call_steps.specs.declared.next.Next.TheVariants as next
use Rattle.call_steps.specs.State.{State}
use Rattle.call_steps.specs.Words.{next_of}
use Rattle.call_turns.specs.Turns.{turns}
use Rattle.engine_world.specs.Stands.{Engine}
use Rattle.engine.specs.declared.called.Called.{Called}
use Rattle.engine.specs.declared.called.Called.TheVariants as called
use Rattle.engine.specs.declared.step.Actor.TheVariants as actor
use Rattle.engine.specs.declared.step.Step.{Step}
use Rattle.engine.specs.declared.step.Step.TheVariants.{Go}

-- a leaf that is in no frame
abbrev pub in_none : Option Framed → Bool
in_none None = true
in_none (Some f) = false

-- a leaf of this id is there, in no frame
abbrev pub is_away : List Leaf → ℕ → Bool
is_away leaves id = of_some false (λ (l : Leaf). in_none l.frame) (leaf_named id leaves)

abbrev pub IsAway : List Leaf → ℕ → Type 0
IsAway leaves id = (l : Leaf) × (leaf_named id leaves ≡ Some l) × (l.frame ≡ None)

-- the leaf that the next event waits for
abbrev pub waits_at : List Leaf → Next → Option ℕ
waits_at leaves (next.Fill leaf) = if is_away leaves leaf then Some leaf else None
waits_at leaves _ = None

-- the leaf that a session's call waits for
abbrev pub waits_in : Engine → ℕ → Option ℕ
waits_in e session = option_and_then (λ (a : State). waits_at e.hub.dir.leaves (next_of a)) (slice_get e.sessions session)

abbrev pub IsWaiting : Engine → ℕ → Type 0
IsWaiting e session = (leaf : ℕ) × (waits_in e session ≡ Some leaf)

-- a call that has not ended waits for a leaf that is there in no frame
abbrev pub WaitsAs : Called → Engine → ℕ → Type 0
WaitsAs (called.Ended answer) e session = Unit {0}
WaitsAs (called.Waits leaf) e session = (waits_in e session ≡ Some leaf) × IsAway e.hub.dir.leaves leaf

-- the leaf that a step's call waits for
abbrev pub awaited_by : Engine → Step → Option ℕ
awaited_by e (Go (actor.Session session)) = waits_in e session
awaited_by e _ = None

-- how many steps a session's call has left at most
abbrev pub turns_in : Engine → ℕ → ℕ
turns_in e session = of_some 0 (λ (a : State). turns e.hub.dir.leaves a) (slice_get e.sessions session)

-- a call that was ready to go on and waits for a leaf has fewer left
abbrev pub WaitsFewer : Called → Engine → Engine → ℕ → Type 0
WaitsFewer (called.Ended answer) old new session = Unit {0}
WaitsFewer (called.Waits leaf) old new session = waits_in old session ≡ None → turns_in new session < turns_in old session
