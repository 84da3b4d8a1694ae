use Rattle.call_turns.proofs.CallsRun.{frame-runs, hub-runs, keep-out-runs, load-runs, start-runs, store-runs}
use Rattle.call_turns.proofs.seats.calls_run.Goals as goal

pub returns-clause-hub : goal.returns-clause-hub
returns-clause-hub c = hub-runs

pub returns-clause-frames : goal.returns-clause-frames
returns-clause-frames c = frame-runs

pub returns-clause-loads : goal.returns-clause-loads
returns-clause-loads c = load-runs

pub returns-clause-stores : goal.returns-clause-stores
returns-clause-stores c = store-runs

pub returns-clause-kept_out : goal.returns-clause-kept_out
returns-clause-kept_out c = keep-out-runs

pub returns-clause-starts : goal.returns-clause-starts
returns-clause-starts c = start-runs
