-- What is true of every snapshot that is taken of a machine.
use Rattle.std.specs.Prelude.{ℕ, List, length}
use Rattle.kv_model.specs.Machine.{Machine, Event, after}
use Rattle.kv_model.specs.Allowed.{Allowed}
use Rattle.kv_model.specs.Valid.{Valid}
use Rattle.snapshot.specs.Sight.{Sight, Ascends, sight_at}
use Rattle.snapshot.specs.Matters.{AreRunning, SeesFirst, AreUnended, NoneResolves, SeesCommitted, SeesNoneLiving}

-- a snapshot that is taken now is one of all entries
abbrev pub SightsSeeFirst : Type 0
SightsSeeFirst = (m : Machine) (ids : List ℕ) → Valid m → Ascends 1 ids m.next → AreRunning m ids → SeesFirst m (length m.history) (sight_at m.run m.next ids)

-- and stays one of those entries at each event that may come
abbrev pub SightsGoOn : Type 0
SightsGoOn = (m : Machine) (event : Event) (n : ℕ) (s : Sight) → Valid m → Allowed m event → SeesFirst m n s → SeesFirst (after m event) n s

-- so for a checkpoint: where no prepared transaction is being resolved, a snapshot with the ids of all transactions that have not ended is one of what is committed
abbrev pub SightsSeeCommitted : Type 0
SightsSeeCommitted = (m : Machine) (ids : List ℕ) → Valid m → NoneResolves m → Ascends 1 ids m.next → AreUnended m ids → SeesCommitted m (length m.history) (sight_at m.run m.next ids)

-- and stays so
abbrev pub CommittedGoOn : Type 0
CommittedGoOn = (m : Machine) (event : Event) (n : ℕ) (s : Sight) → Valid m → Allowed m event → SeesCommitted m n s → SeesCommitted (after m event) n s

-- what sees nothing of the living goes on to see nothing of them
abbrev pub LivingStayUnseen : Type 0
LivingStayUnseen = (m : Machine) (event : Event) (s : Sight) → Valid m → Allowed m event → SeesNoneLiving m s → SeesNoneLiving (after m event) s
