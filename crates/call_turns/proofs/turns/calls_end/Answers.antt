use Rattle.call_turns.proofs.FrameTurns.{frame-lowers}
use Rattle.call_turns.proofs.HubTurns.{hub-lowers}
use Rattle.call_turns.proofs.HubPlaces.{hub-keeps}
use Rattle.call_turns.proofs.WordTurns.{store-lowers}
use Rattle.call_turns.proofs.turns.calls_end.Goals as goal

pub returns-clause-hub : goal.returns-clause-hub
returns-clause-hub c = hub-lowers

pub returns-clause-keeps : goal.returns-clause-keeps
returns-clause-keeps c = hub-keeps

pub returns-clause-frames : goal.returns-clause-frames
returns-clause-frames c = frame-lowers

pub returns-clause-stores : goal.returns-clause-stores
returns-clause-stores c = store-lowers
