-- One step of a session, by how the call went.
use Rattle.std.specs.Prelude.{◌≡◌, ◌<◌, ℕ, List, Some}
use Rattle.wt_code.specs.declared.answers.Answer.{Answer}
use Rattle.call_steps.specs.declared.reply.Reply.{Reply}
use Rattle.call_steps.specs.declared.reply.Reply.TheVariants as reply
use Rattle.call_turns.specs.Turns.{IsNoAnswer}
use Rattle.engine_world.specs.Laws.{Leads}
use Rattle.engine_world.specs.Stands.{Engine, Stands}
use Rattle.engine_world.specs.Worlds.{World}
use Rattle.engine.specs.declared.called.Went.{Went}
use Rattle.engine.specs.declared.called.Went.TheVariants as went
use Rattle.engine.specs.Told.{IsOwnFrom, answer_in}
use Rattle.engine.specs.Waits.{turns_in, waits_in}

-- an answer ends the call, and is taken
abbrev pub IsTaken : Reply → Went → Answer (List ℕ) → Type 0
IsTaken (reply.Answer a) now answer = (now ≡ went.Ended) × (answer ≡ a)
IsTaken _ now answer = now ≡ went.On

-- each world goes on by a step that may reply so
abbrev pub LeadsEach : Engine → Engine → ℕ → Reply → Type 0
LeadsEach old new session told = (w : World) → Stands old w → Leads new w session told

-- a step whose reply is no answer leaves fewer of them
abbrev pub LeavesFewer : Engine → Engine → ℕ → Reply → Type 0
LeavesFewer old new session told = IsNoAnswer told → turns_in new session < turns_in old session

-- a step after which the call goes on
pub record StepsOn (old new : Engine) (session : ℕ) : Type 0 where
  pub told : Reply
  pub none : IsNoAnswer told
  pub leads : LeadsEach old new session told
  pub fewer : turns_in new session < turns_in old session

-- a step that ends the call with this answer, one of its own
pub record EndsHere (old new : Engine) (session : ℕ) (answer : Answer (List ℕ)) : Type 0 where
  pub leads : LeadsEach old new session (reply.Answer answer)
  pub own : IsOwnFrom (answer_in old session) answer

-- by how the call went
abbrev pub GoesBy : Went → Engine → Engine → ℕ → Answer (List ℕ) → Type 0
GoesBy went.On old new session answer = StepsOn old new session
GoesBy went.Ended old new session answer = EndsHere old new session answer
GoesBy (went.Waits leaf) old new session answer = (new ≡ old) × (waits_in old session ≡ Some leaf)
