use Rattle.call_turns.proofs.SeatsStay.{frame-seats, hub-seats, keep-out-seats, load-seats, start-seats, store-seats}
use Rattle.call_turns.proofs.seats.seats_stay.Goals as goal

pub returns-clause-hub : goal.returns-clause-hub
returns-clause-hub c = hub-seats

pub returns-clause-frames : goal.returns-clause-frames
returns-clause-frames c = frame-seats

pub returns-clause-loads : goal.returns-clause-loads
returns-clause-loads c = load-seats

pub returns-clause-stores : goal.returns-clause-stores
returns-clause-stores c = store-seats

pub returns-clause-kept_out : goal.returns-clause-kept_out
returns-clause-kept_out c = keep-out-seats

pub returns-clause-starts : goal.returns-clause-starts
returns-clause-starts c = start-seats
