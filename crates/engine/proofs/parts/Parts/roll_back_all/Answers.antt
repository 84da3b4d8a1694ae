use Rattle.std.proofs.Common.{arith}
use Rattle.engine.proofs.RollingBack.{rolls-all, rolls-none, rolls-one}
use Rattle.engine.proofs.parts.Parts.roll_back_all.Goals as goal

pub loop-session-init : goal.loop-session-init
loop-session-init c = rolls-none c.args.self.now c.requires

pub call-requires-clause-open : goal.call-requires-clause-open
call-requires-clause-open c = let count = c.count-sessions.ensures in let same = c.loop-session.invariant.kept.sessions in let below = c.loop-session-test.true in omega (arith, count, same, below)

pub call-requires-clause-sound : goal.call-requires-clause-sound
call-requires-clause-sound c = c.loop-session.invariant.sound

pub loop-session-preserved : goal.loop-session-preserved
loop-session-preserved c = rolls-one c.args.self.now c.loop-session.self c.call.new.self c.loop-session.session c.call.result c.loop-session.invariant
    (let count = c.count-sessions.ensures in let same = c.loop-session.invariant.kept.sessions in let below = c.loop-session-test.true in omega (arith, count, same, below)) c.call.ensures.answer c.call.ensures.waits c.call.ensures.kept

pub returns-clause-rolled_back : goal.returns-clause-rolled_back
returns-clause-rolled_back c = rolls-all c.args.self.now c.loop-session.self c.loop-session.session c.loop-session.invariant
    (let count = c.count-sessions.ensures in let same = c.loop-session.invariant.kept.sessions in let end = c.loop-session-test.false in omega (arith, count, same, end))

pub returns-clause-kept : goal.returns-clause-kept
returns-clause-kept c = c.loop-session.invariant.kept

pub returns-clause-sound : goal.returns-clause-sound
returns-clause-sound c = c.loop-session.invariant.sound
