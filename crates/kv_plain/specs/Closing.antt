-- What the plain events of a Close stand for.
use Rattle.std.specs.Prelude.{List, map}
use Rattle.kv_model.specs.Machine as model
use Rattle.kv_model.specs.Decisions.{Outcome}
use Rattle.kv_plain.specs.declared.event.Event.{Event}
use Rattle.kv_plain.specs.declared.closing.Closing.{Closing}
use Rattle.kv_plain.specs.Outcome.{outcome_in, event_in}

abbrev pub events_in : List Event → List model.Event
events_in events = map event_in events

abbrev pub closing_in : Closing → Outcome × List model.Event
closing_in c = (outcome_in c.outcome, events_in c.events.items)
