use Rattle.std.proofs.Common.{arith}
use Rattle.pool_law.proofs.Keepers.{may_read}
use Rattle.latch_table.specs.Tables.{knows}
use Rattle.hazard_law.specs.Safety.{inner}
use Rattle.pool_trials.proofs.Keeping.{validated_keeper}
use Rattle.pool_trials.proofs.keep.look_again.Goals as goal

pub validate-requires-clause-session : goal.validate-requires-clause-session
validate-requires-clause-session c =
    c.requires.keeper.1.session

pub validate-requires-clause-frame : goal.validate-requires-clause-frame
validate-requires-clause-frame c =
    let a = c.requires.frame.0 in let d = c.requires.keeper.1.frames in omega arith

pub validate-requires-clause-beside : goal.validate-requires-clause-beside
validate-requires-clause-beside c =
    may_read 2 (inner (knows c.args.seat.now)) c.args.f

pub returns-clause-keeper : goal.returns-clause-keeper
returns-clause-keeper c =
    λ word k. validated_keeper c.args.pool.now.pieces c.args.seat.now word k c.validate.new.seat c.validate.ensures.session c.validate.ensures.pieces 0 c.args.f c.args.g c.validate.result c.requires.frame.1 c.validate.ensures.validated
