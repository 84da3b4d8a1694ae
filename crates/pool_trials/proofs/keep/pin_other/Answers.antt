use Rattle.std.proofs.Common.{arith}
use Rattle.pool_trials.proofs.Keeping.{may_pin, pin_keeper}
use Rattle.pool_trials.proofs.keep.pin_other.Goals as goal

pub pin-requires-clause-session : goal.pin-requires-clause-session
pin-requires-clause-session c =
    c.requires.keeper.1.session

pub pin-requires-clause-frame : goal.pin-requires-clause-frame
pin-requires-clause-frame c =
    let a = c.requires.frame.0 in let d = c.requires.keeper.1.frames in omega arith

pub pin-requires-clause-beside : goal.pin-requires-clause-beside
pin-requires-clause-beside c =
    may_pin c.args.pool.now.pieces c.args.seat.now c.requires.keeper.0 c.requires.keeper.1 0 c.args.f

pub returns-clause-keeper : goal.returns-clause-keeper
returns-clause-keeper c =
    λ word k. pin_keeper c.args.pool.now.pieces c.args.seat.now word k c.pin.new.seat c.pin.ensures.session c.pin.ensures.pieces 0 c.args.f c.args.g c.pin.result c.requires.frame.1 c.pin.ensures.pinned
