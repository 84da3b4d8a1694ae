-- What a step of a session makes of the engine's data.
use Rattle.std.specs.Prelude.{◌≡◌, ℕ, List, Some, slice_get, slice_set}
use Rattle.stamp.specs.declared.View.{View}
use Rattle.call_steps.specs.declared.frame.FramePiece.{FramePiece}
use Rattle.call_steps.specs.FrameEvents.{FrameMade}
use Rattle.call_steps.specs.State.{State}
use Rattle.engine.specs.Sizes.{StampsFitAt}

-- an event on a frame, of the session at its place
pub record IsFrameEvent (view : View) (session frame : ℕ) (pieces : List FramePiece) (sessions : List State) (pieces' : List FramePiece) (sessions' : List State) : Type 0 where
  pub p : FramePiece
  pub p' : FramePiece
  pub a : State
  pub a' : State
  pub piece : slice_get pieces frame ≡ Some p
  pub session_is : slice_get sessions session ≡ Some a
  pub made : FrameMade view p a p' a'
  pub stamps : StampsFitAt a.stage
  pub pieces_are : pieces' ≡ slice_set pieces frame p'
  pub sessions_are : sessions' ≡ slice_set sessions session a'
