-- Close: what it answers, and the events that it makes.
use Rattle.std.specs.Prelude.{ℕ, ◌+◌, Bool, true, false, ◌||◌, nat_le, List, [], ◌∷◌, ◌++◌, Option, Some, None, option_map, slice_index_or, if◌then◌else◌}
use Rattle.limits.specs.declared.TheConstants.{NUMBER_MAX}
use Rattle.wt_code.specs.declared.refusals.Refusal.{Refusal}
use Rattle.wt_code.specs.declared.refusals.Refusal.TheVariants as told
use Rattle.wt_code.specs.declared.refusals.Busy.{Busy}
use Rattle.wt_code.specs.declared.refusals.Busy.TheVariants as who
use Rattle.wt_code.specs.declared.refusals.Limit.TheVariants as counted
use Rattle.kv_model.specs.Machine.{Machine, Transaction, Phase, Resolving, Leaving, of_some, Event, StartLeaving, EndTransaction, CheckpointStart, CheckpointFinish, GoDown, after}
use Rattle.kv_model.specs.Outside.{Storing, Stored, NoPlace, ReadFailed, Damaged, WriteFailed, Unfinished}
use Rattle.kv_model.specs.Decisions.{Outcome, Done, Refused, is_there}

-- its commit or rollback was decided and has not ended
abbrev pub is_ending : Phase → Bool
is_ending Resolving = true
is_ending Leaving = true
is_ending _ = false

-- the session's call is unfinished, or its transaction is ending
abbrev pub is_held : List Bool → ℕ → Option Transaction → Bool
is_held calls session t = slice_index_or calls session false || of_some false (λ t. is_ending t.phase) t

-- the lowest of the sessions that is
abbrev pub first_held : List Bool → ℕ → List (Option Transaction) → Option ℕ
first_held calls at [] = None
first_held calls at (t ∷ later) = if is_held calls at t then Some at else first_held calls (at + 1) later

-- who keeps a Close from its work, in the order of refusals
abbrev pub close_busy : Machine → Unfinished → Option Busy
close_busy m u =
    if is_there m.checkpoint then Some who.Checkpoint
    else of_some (option_map who.Resolving (first_held u.calls 0 m.sessions)) (λ place. Some (who.Evicting place)) u.eviction

-- the events that roll back the transaction of each session, the lowest first
abbrev pub rolling_back : ℕ → List (Option Transaction) → List Event
rolling_back at [] = []
rolling_back at (None ∷ later) = rolling_back (at + 1) later
rolling_back at (Some t ∷ later) = StartLeaving at ∷ EndTransaction at ∷ rolling_back (at + 1) later

-- the checkpoint of a Close, by how the device took it
abbrev pub last_stored : Storing → Outcome × List Event
last_stored Stored = (Done, CheckpointStart ∷ CheckpointFinish ∷ [])
last_stored NoPlace = (Refused told.NoSpace, [])
last_stored ReadFailed = (Refused told.DiskFault, [])
last_stored (Damaged offset want found) = (Refused (told.Corrupt offset want found), [])
last_stored (WriteFailed fault) = (Refused told.DiskFault, GoDown fault ∷ [])

-- number: that of the last completed checkpoint, 0 where there is none
abbrev pub last_checkpoint : ℕ → Storing → Outcome × List Event
last_checkpoint number storing = if nat_le NUMBER_MAX number then (Refused (told.Limit counted.Checkpoints), []) else last_stored storing

-- the transactions are rolled back first
abbrev pub closing : Machine → Outcome × List Event → Outcome × List Event
closing m last = (last.0, rolling_back 0 m.sessions ++ last.1)

abbrev pub close_refused : Refusal → Outcome × List Event
close_refused refusal = (Refused refusal, [])

-- the answer to Close, and its events in order
abbrev pub close_decision : Machine → Unfinished → ℕ → Storing → Outcome × List Event
close_decision m u number storing =
    of_some (of_some (closing m (last_checkpoint number storing)) (λ busy. close_refused (told.Busy busy)) (close_busy m u)) (λ fault. close_refused (told.Panic fault)) m.fault

-- what events leave, one after the other
abbrev pub after_all : Machine → List Event → Machine
after_all m [] = m
after_all m (event ∷ later) = after_all (after m event) later
