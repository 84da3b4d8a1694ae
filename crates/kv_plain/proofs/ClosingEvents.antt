-- What the events of a Close leave.
use Rattle.std.proofs.Common.{◌≡◌, List, [], ◌∷◌, ◌++◌, refl}
use Rattle.kv_model.specs.Machine.{Machine, after}
use Rattle.kv_model.specs.Closing.{after_all}
use Rattle.kv_plain.specs.declared.event.Event.{Event}
use Rattle.kv_plain.specs.Outcome.{event_in}
use Rattle.kv_plain.specs.Closing.{events_in}

pub after_one_more : (m : Machine) (events : List Event) (event : Event) → after_all m (events_in (events ++ event ∷ [])) ≡ after (after_all m (events_in events)) (event_in event)
after_one_more m [] event = refl
after_one_more m (e ∷ events) event = after_one_more (after m (event_in e)) events event
