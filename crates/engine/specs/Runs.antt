-- Steps of actors, one after the other.
use Rattle.std.specs.Prelude.{◌≡◌, ◌<◌, ℕ, zero, suc, List, [], ◌∷◌, length, Option, Some, None, slice_index_or, slice_set}
use Rattle.wt_code.specs.declared.answers.Answer.{Answer}
use Rattle.wt_code.specs.declared.answers.Answer.TheVariants as answers
use Rattle.wt_code.specs.declared.refusals.Refusal.TheVariants as refusal
use Rattle.wt_code.specs.declared.refusals.Invalid.TheVariants.{InCall, NoCall}
use Rattle.kv_model.specs.Machine.{Machine}
use Rattle.kv_model.specs.Calls.{Call as ModelCall, SystemAnswers}
use Rattle.wt_calls.specs.declared.call.Call.{Call}
use Rattle.wt_calls.specs.declared.call.Call.TheVariants as call
use Rattle.wt_calls.specs.declared.system_call.SystemCall.{SystemCall}
use Rattle.wt_calls.specs.declared.system_call.SystemCall.TheVariants as system
use Rattle.wt_calls.specs.Calls.{session_call_in, system_call_in}
use Rattle.call_steps.specs.declared.reply.Reply.{Reply}
use Rattle.call_steps.specs.declared.reply.Reply.TheVariants as reply
use Rattle.engine_world.specs.Worlds.{World}
use Rattle.engine_world.specs.Steps.{MayBegin, MayGo}
use Rattle.engine_world.specs.Whole.{nothing_around}
use Rattle.engine_world.specs.Stands.{Engine}
use Rattle.engine.specs.declared.step.Actor.{Actor}
use Rattle.engine.specs.declared.step.Actor.TheVariants as actor
use Rattle.engine.specs.declared.step.Step.{Step}
use Rattle.engine.specs.declared.step.Step.TheVariants.{Start, Go}

-- a call of the system is started, unless its actor has one
abbrev pub AsksIn : Option ModelCall → World → ℕ → ModelCall → Reply → World → Type 0
AsksIn None w number asked told later = (told ≡ reply.Started) × (later ≡ record w { systems = slice_set w.systems number (Some asked) })
AsksIn (Some other) w number asked told later = (told ≡ reply.Answer (answers.Refused (refusal.Invalid InCall))) × (later ≡ w)

abbrev pub MayAsk : World → ℕ → ModelCall → Reply → World → Type 0
MayAsk w number asked told later = AsksIn (slice_index_or w.systems number None) w number asked told later

-- one event makes it
abbrev pub MakesIn : Option ModelCall → World → ℕ → Reply → World → Type 0
MakesIn None w number told later = (told ≡ reply.Answer (answers.Refused (refusal.Invalid NoCall))) × (later ≡ w)
MakesIn (Some asked) w number told later =
    (answer : Answer (List ℕ)) × (next : Machine) × SystemAnswers nothing_around w.machine asked answer next × (told ≡ reply.Answer answer)
    × (later ≡ record w { machine = next; systems = slice_set w.systems number None })

abbrev pub MayMake : World → ℕ → Reply → World → Type 0
MayMake w number told later = MakesIn (slice_index_or w.systems number None) w number told later

abbrev pub MayStep : World → Step → Reply → World → Type 0
MayStep w (Start (call.Session session made)) told later = MayBegin w session (session_call_in made) told later
MayStep w (Start (call.System number made)) told later = MayAsk w number (system_call_in made) told later
MayStep w (Go (actor.Session session)) told later = MayGo w session told later
MayStep w (Go (actor.System number)) told later = MayMake w number told later

-- the replies to steps, one after the other
abbrev pub MayRun : World → List Step → List Reply → World → Type 0
MayRun w [] [] later = later ≡ w
MayRun w (step ∷ steps) (told ∷ replies) later = (middle : World) × MayStep w step told middle × MayRun middle steps replies later
MayRun w _ _ later = ⊥

-- steps of an actor up to its answer, so many before it
abbrev pub StepsOut : ℕ → World → Actor → Answer (List ℕ) → World → Type 0
StepsOut zero w who answer later = MayStep w (Go who) (reply.Answer answer) later
StepsOut (suc n) w who answer later = (middle : World) × MayStep w (Go who) reply.More middle × StepsOut n middle who answer later

-- steps of an actor after which its call goes on
abbrev pub StepsMore : ℕ → World → Actor → World → Type 0
StepsMore zero w who later = later ≡ w
StepsMore (suc n) w who later = (middle : World) × MayStep w (Go who) reply.More middle × StepsMore n middle who later

-- a call of the system that the engine has
abbrev pub IsBuilt : SystemCall → Type 0
IsBuilt (system.Create table formats) = Unit {0}
IsBuilt (system.SetStamps oldest stable) = Unit {0}
IsBuilt _ = ⊥

-- the actor is there
abbrev pub StepFits : Engine → Step → Type 0
StepFits e (Start (call.Session session made)) = session < length e.sessions
StepFits e (Start (call.System number made)) = (number < length e.systems) × IsBuilt made
StepFits e (Go (actor.Session session)) = session < length e.sessions
StepFits e (Go (actor.System number)) = number < length e.systems

abbrev pub CallFits : Engine → Call → Type 0
CallFits e made = StepFits e (Start made)
