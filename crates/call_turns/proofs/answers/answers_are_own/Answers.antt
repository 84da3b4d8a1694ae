use Rattle.call_turns.proofs.AnswersAreOwn.{frame-tells, hub-tells, kept-tells, load-tells, start-tells, store-tells}
use Rattle.call_turns.proofs.answers.answers_are_own.Goals as goal

pub returns-clause-hub : goal.returns-clause-hub
returns-clause-hub c = hub-tells

pub returns-clause-frames : goal.returns-clause-frames
returns-clause-frames c = frame-tells

pub returns-clause-loads : goal.returns-clause-loads
returns-clause-loads c = load-tells

pub returns-clause-stores : goal.returns-clause-stores
returns-clause-stores c = store-tells

pub returns-clause-kept_out : goal.returns-clause-kept_out
returns-clause-kept_out c = kept-tells

pub returns-clause-starts : goal.returns-clause-starts
returns-clause-starts c = start-tells
