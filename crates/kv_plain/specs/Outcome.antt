-- What the plain answers and events stand for.
use Rattle.std.specs.Prelude.{option_map}
use Rattle.kv_model.specs.Machine as model
use Rattle.kv_model.specs.Decisions as answer
use Rattle.kv_plain.specs.declared.outcome.Outcome.{Outcome}
use Rattle.kv_plain.specs.declared.outcome.Outcome.TheVariants as outcome
use Rattle.kv_plain.specs.declared.event.Event.{Event}
use Rattle.kv_plain.specs.declared.event.Event.TheVariants as event
use Rattle.kv_plain.specs.declared.event.Decision.{Decision}
use Rattle.kv_plain.specs.Plain.{table_in}
use Rattle.kv_plain.specs.Machine.{position_in}

abbrev pub outcome_in : Outcome → answer.Outcome
outcome_in outcome.Done = answer.Done
outcome_in (outcome.Gives v) = answer.Gives v
outcome_in (outcome.GivesRow key v) = answer.GivesRow key v
outcome_in outcome.Left = answer.Left
outcome_in outcome.End = answer.End
outcome_in outcome.Resumes = answer.Resumes
outcome_in (outcome.Refused refusal) = answer.Refused refusal

abbrev pub event_in : Event → model.Event
event_in event.OpenSession = model.OpenSession
event_in (event.Begin session read) = model.BeginAt session read
event_in (event.DrawId session) = model.DrawId session
event_in (event.AcceptWrite session table key change) = model.AcceptWrite session table key change
event_in (event.RefuseWrite session) = model.RefuseWrite session
event_in (event.Prepare session stamp) = model.PrepareAt session stamp
event_in (event.Commit session commit durable) = model.CommitAt session commit durable
event_in (event.StartLeaving session) = model.StartLeaving session
event_in (event.EndTransaction session) = model.EndTransaction session
event_in (event.PlaceCursor session cursor position) = model.PlaceCursor session cursor (option_map position_in position)
event_in (event.CreateTable table) = model.CreateTable (table_in table)
event_in (event.SetStamps oldest stable) = model.SetStamps oldest stable
event_in event.RollbackToStable = model.RollbackToStable
event_in event.CheckpointStart = model.CheckpointStart
event_in event.CheckpointFinish = model.CheckpointFinish
event_in event.CheckpointDrop = model.CheckpointDrop
event_in (event.GoDown fault) = model.GoDown fault
event_in event.Nothing = model.Nothing

-- the outcome and the event of a decision
abbrev pub Judges : (answer.Outcome → model.Event → Type 0) → Decision → Type 0
Judges Next d = Next (outcome_in d.outcome) (event_in d.event)

abbrev pub decision_in : Decision → answer.Outcome × model.Event
decision_in d = (outcome_in d.outcome, event_in d.event)
