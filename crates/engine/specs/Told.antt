-- Which refusals the calls of actors tell by themselves, whatever a device brought.
use Rattle.std.specs.Prelude.{◌≡◌, ◌≢◌, ℕ, List, slice_get}
use Rattle.wt_code.specs.declared.answers.Answer.{Answer}
use Rattle.wt_code.specs.declared.answers.Answer.TheVariants.{Done, Refused}
use Rattle.wt_code.specs.declared.refusals.Refusal.{Refusal}
use Rattle.kv_model.specs.Machine.{of_some}
use Rattle.call_steps.specs.declared.reply.Reply.{Reply}
use Rattle.call_steps.specs.declared.reply.Reply.TheVariants as reply
use Rattle.call_steps.specs.State.{State}
use Rattle.call_turns.specs.Answers.{IsOwnAnswer}
use Rattle.engine_world.specs.Stands.{Engine}
use Rattle.engine.specs.declared.called.Called.{Called}
use Rattle.engine.specs.declared.called.Called.TheVariants as called
use Rattle.engine.specs.declared.step.Actor.TheVariants as actor
use Rattle.engine.specs.declared.step.Step.{Step}
use Rattle.engine.specs.declared.step.Step.TheVariants.{Go}

-- the answer that a session's call keeps
abbrev pub answer_in : Engine → ℕ → Answer (List ℕ)
answer_in e session = of_some Done (λ (a : State). a.answer) (slice_get e.sessions session)

-- an answer is one of a call's own, or the refusal that was kept
abbrev pub IsOwnFrom : Answer (List ℕ) → Answer (List ℕ) → Type 0
IsOwnFrom kept answer = (but : Refusal) → IsOwnAnswer but kept → IsOwnAnswer but answer

-- it is one of a call's own, whatever was kept
abbrev pub IsOwnAlways : Answer (List ℕ) → Type 0
IsOwnAlways answer = IsOwnFrom Done answer

-- so each session keeps it
abbrev pub KeepOwn : Engine → Engine → Type 0
KeepOwn old new = (session : ℕ) → IsOwnFrom (answer_in old session) (answer_in new session)

-- one session is refused so, and each other keeps what it kept
pub record KeepsOut (session : ℕ) (refusal : Refusal) (old new : Engine) : Type 0 where
  pub refused : answer_in new session ≡ Refused refusal
  pub others : (other : ℕ) → other ≢ session → answer_in new other ≡ answer_in old other

-- ---- what is told, where a call kept this

abbrev pub TellsFrom : Answer (List ℕ) → Reply → Type 0
TellsFrom kept (reply.Answer answer) = IsOwnFrom kept answer
TellsFrom kept _ = Unit {0}

abbrev pub EndsFrom : Answer (List ℕ) → Called → Type 0
EndsFrom kept (called.Ended answer) = IsOwnFrom kept answer
EndsFrom kept (called.Waits leaf) = Unit {0}

-- what the call keeps that goes on by a step
abbrev pub kept_by : Engine → Step → Answer (List ℕ)
kept_by e (Go (actor.Session session)) = answer_in e session
kept_by e _ = Done
