-- What is true of every machine that is reached.
use Rattle.kv_model.specs.Machine.{Machine, Event, after}
use Rattle.kv_model.specs.Allowed.{Allowed}
use Rattle.kv_model.specs.Valid.{Valid}
use Rattle.kv_model.specs.Content.{Content, start}
use Rattle.kv_model.specs.Regular.{IsRegular}

-- an event that may come leaves a valid machine
abbrev pub EventsKeepValid : Type 0
EventsKeepValid = (m : Machine) (event : Event) → Valid m → Allowed m event → Valid (after m event)

-- the machine that an opening makes of a regular content is valid
abbrev pub StartsAreValid : Type 0
StartsAreValid = (c : Content) → IsRegular c → Valid (start c)
