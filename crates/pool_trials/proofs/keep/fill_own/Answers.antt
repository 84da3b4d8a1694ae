use Rattle.std.proofs.Common.{◌+◌, suc, sym, ap, ◌∙◌, add-one, arith}
use Rattle.pool_law.specs.Keeping.{Own}
use Rattle.pool_law.proofs.Keepers.{may_fill_own}
use Rattle.latch_table.specs.Tables.{knows}
use Rattle.hazard_law.specs.Safety.{inner}
use Rattle.hazard_law.specs.Words.{empty, filled}
use Rattle.pool_trials.proofs.Keeping.{few, opened_keeper, own_frame, same_seat}
use Rattle.pool_trials.proofs.keep.fill_own.Goals as goal

pub touch-requires-clause-frame : goal.touch-requires-clause-frame
touch-requires-clause-frame c =
    let a = few c.args.pool.now.pieces c.args.seat.now (empty (suc c.args.g)) c.requires.keeper in let b = c.number-own.ensures in omega arith

pub fill-requires-clause-session : goal.fill-requires-clause-session
fill-requires-clause-session c =
    let m = c.touch.ensures.keeper (empty (suc c.args.g)) c.requires.keeper in
    let e = c.number-own.ensures ∙ sym c.touch.ensures.number.0 in
    m.session

pub fill-requires-clause-frame : goal.fill-requires-clause-frame
fill-requires-clause-frame c =
    let a = few c.args.pool.now.pieces c.args.seat.now (empty (suc c.args.g)) c.requires.keeper in let b = c.number-own.ensures in let d = c.requires.keeper.frames in omega arith

pub fill-requires-clause-beside : goal.fill-requires-clause-beside
fill-requires-clause-beside c =
    let m = c.touch.ensures.keeper (empty (suc c.args.g)) c.requires.keeper in
    let e = c.number-own.ensures ∙ sym c.touch.ensures.number.0 in
    may_fill_own 2 (inner (knows c.touch.new.seat)) c.number-own.result (empty (c.args.g + 1)) (filled (c.args.g + 1)) (own_frame c.args.pool.now.pieces c.touch.new.seat (empty (suc c.args.g)) m c.number-own.result e) (let a = few c.args.pool.now.pieces c.args.seat.now (empty (suc c.args.g)) c.requires.keeper in let b = c.number-own.ensures in omega arith) (ap (λ (y : Own). y.1) m.note ∙ ap empty (sym (add-one c.args.g)))

pub returns-clause-keeper : goal.returns-clause-keeper
returns-clause-keeper c =
    let m = c.touch.ensures.keeper (empty (suc c.args.g)) c.requires.keeper in
    let e = c.number-own.ensures ∙ sym c.touch.ensures.number.0 in
    opened_keeper c.args.pool.now.pieces c.touch.new.seat (empty (suc c.args.g)) m c.fill.new.seat c.fill.ensures.session c.fill.ensures.pieces c.number-own.result (empty (c.args.g + 1)) (filled (c.args.g + 1)) e c.fill.ensures.filled

pub returns-clause-number : goal.returns-clause-number
returns-clause-number c =
    same_seat c.args.seat.now c.touch.new.seat c.fill.new.seat c.touch.ensures.number c.fill.ensures.pieces.2
