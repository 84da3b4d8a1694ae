-- A leaf that goes out of its frame, as it was read, while no session is at it.
use Rattle.std.specs.Prelude.{◌≡◌, ◌≢◌, ◌<◌, ◌≤◌, ◌+◌, ◌^◌, ℕ, Bool, false, ◌==◌, ◌||◌, [], length, Option, Some, None, slice_get, slice_set}
use Rattle.std.specs.List.{Contains}
use Rattle.kv_model.specs.Machine.{of_some}
use Rattle.tree_dir.specs.declared.leaf.Framed.{Framed}
use Rattle.tree_dir.specs.declared.leaf.Leaf.{Leaf}
use Rattle.tree_dir.specs.Leaves.{IsDirectory, changed, in_frame}
use Rattle.call_steps.specs.declared.frame.Frame.{Frame}
use Rattle.call_steps.specs.declared.stage.Stage.{Stage}
use Rattle.call_steps.specs.declared.stage.Stage.TheVariants as stage
use Rattle.call_steps.specs.State.{State}
use Rattle.call_steps.specs.Tables.{empty}
use Rattle.engine_world.specs.Leaves.{emptied, frame_in, generation_at}
use Rattle.engine_world.specs.Stands.{Engine, Stands}
use Rattle.engine_world.specs.Worlds.{World}

-- the frame whose leaf a call is at
abbrev pub frame_in_hand : Stage → Option ℕ
frame_in_hand (stage.Look call target) = Some target.frame
frame_in_hand (stage.Pass call target) = Some target.frame
frame_in_hand (stage.History call target) = Some target.frame
frame_in_hand (stage.ClearCursor call target) = Some target.frame
frame_in_hand _ = None

-- the frame whose leaf a call has found and has not come to yet
abbrev pub frame_found : Stage → Option ℕ
frame_found (stage.Publish call target) = Some target.frame
frame_found (stage.Validate call target) = Some target.frame
frame_found _ = None

-- the frame that a call names, from the finding of its leaf on
abbrev pub frame_named : Stage → Option ℕ
frame_named (stage.Publish call target) = Some target.frame
frame_named (stage.Validate call target) = Some target.frame
frame_named (stage.Look call target) = Some target.frame
frame_named (stage.Pass call target) = Some target.frame
frame_named (stage.History call target) = Some target.frame
frame_named (stage.ClearCursor call target) = Some target.frame
frame_named (stage.Clear call target) = Some target.frame
frame_named _ = None

-- no call of the session is at the leaf in this frame
abbrev pub IsAside : ℕ → State → Type 0
IsAside frame a = frame_in_hand a.stage ≢ Some frame

-- no call of the session has found the leaf in this frame either
abbrev pub IsClearOf : ℕ → State → Type 0
IsClearOf frame a = frame_named a.stage ≢ Some frame

-- the session's call has found the leaf in this frame, and has not come to it yet
abbrev pub has_found : Engine → ℕ → ℕ → Bool
has_found e frame session = of_some false (λ (a : State). of_some false (λ n. n == frame) (frame_found a.stage)) (slice_get e.sessions session)

-- the world in which these calls may be told that it has gone out
abbrev pub with_again : Engine → ℕ → World → World
with_again e frame w = record w { again = λ session. has_found e frame session || w.again session }

-- the engine with the leaf of this id in no frame, and with this frame without a leaf
abbrev pub gone_out : Engine → ℕ → ℕ → Engine
gone_out e id frame =
    record e {
      hub = record e.hub { dir = record e.hub.dir { leaves = changed id (in_frame None) e.hub.dir.leaves } };
      pieces = slice_set e.pieces frame (emptied e.pieces frame);
      states = slice_set e.states frame (empty (generation_at e.pieces frame + 1));
    }

-- who has found it may be told so, and nobody else sees it
abbrev pub LeavesGoOut : Type 0
LeavesGoOut = (e : Engine) (w : World) (l : Leaf) (framed : Framed) (f : Frame) → Stands e w → Contains e.hub.dir.leaves l → l.frame ≡ Some framed → frame_in e.pieces framed.frame ≡ Some f
    → f.leaf.chains ≡ [] → 1 ≤ length f.leaf.page → ((session : ℕ) (a : State) → slice_get e.sessions session ≡ Some a → IsAside framed.frame a)
    → generation_at e.pieces framed.frame + 1 < 2 ^ 62
    → IsDirectory (gone_out e l.id framed.frame).hub.dir → Stands (gone_out e l.id framed.frame) (with_again e framed.frame w)

-- where no call has found it, nobody sees it
abbrev pub LeavesGoOutUnseen : Type 0
LeavesGoOutUnseen = (e : Engine) (w : World) (l : Leaf) (framed : Framed) (f : Frame) → Stands e w → Contains e.hub.dir.leaves l → l.frame ≡ Some framed → frame_in e.pieces framed.frame ≡ Some f
    → f.leaf.chains ≡ [] → 1 ≤ length f.leaf.page → ((session : ℕ) (a : State) → slice_get e.sessions session ≡ Some a → IsClearOf framed.frame a)
    → generation_at e.pieces framed.frame + 1 < 2 ^ 62
    → IsDirectory (gone_out e l.id framed.frame).hub.dir → Stands (gone_out e l.id framed.frame) w
