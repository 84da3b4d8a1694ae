use Rattle.std.proofs.Common.{suc, refl, ◌∙◌, arith}
use Rattle.pool_law.specs.Keeping.{puts_anything, tells_nothing}
use Rattle.latch_table.specs.Tables.{knows, note_of}
use Rattle.hazard_law.specs.Safety.{Puts, Told}
use Rattle.pool_trials.proofs.Held.{frame_held, frame_may_put, frame_note, frame_number, frame_put, frame_seat, frame_told, not_held}
use Rattle.pool_trials.proofs.Keeping.{same_keeper, told_same}
use Rattle.pool_trials.proofs.keep.touch.Goals as goal

pub try_latch-requires-clause-apart : goal.try_latch-requires-clause-apart
try_latch-requires-clause-apart c =
    not_held c.args.seat.now (suc c.args.f) c.requires.keeper.1.idle

pub try_latch-requires-clause-piece : goal.try_latch-requires-clause-piece
try_latch-requires-clause-piece c =
    (let a = c.args.pool.now.sized.pieces in let b = c.args.pool.now.sized.frames in let d = c.requires.keeper.1.frames in let f = c.requires.frame in omega arith)

pub add-page-requires : goal.add-page-requires
add-page-requires c =
    record { held = frame_held c.args.pool.now.pieces (Told tells_nothing) (Puts puts_anything) c.args.seat.now c.try_latch.new.seat c.args.f (c.requires.keeper.1.session.seat, c.requires.keeper.1.idle) (let a = c.args.pool.now.sized.pieces in let b = c.args.pool.now.sized.frames in let d = c.requires.keeper.1.frames in let f = c.requires.frame in omega arith) c.in-Held.ensures.latches }

pub unlatch-requires-clause-seat : goal.unlatch-requires-clause-seat
unlatch-requires-clause-seat c =
    frame_seat c.args.pool.now.pieces (Told tells_nothing) (Puts puts_anything) c.args.seat.now c.try_latch.new.seat c.args.f (c.requires.keeper.1.session.seat, c.requires.keeper.1.idle) (let a = c.args.pool.now.sized.pieces in let b = c.args.pool.now.sized.frames in let d = c.requires.keeper.1.frames in let f = c.requires.frame in omega arith) c.in-Held.ensures.latches c.add-page.new.seat c.add-page.result c.in-Held.ensures.seat c.add-page.ensures.seat

pub unlatch-requires-clause-puts : goal.unlatch-requires-clause-puts
unlatch-requires-clause-puts c =
    frame_may_put c.args.pool.now.pieces (Told tells_nothing) (Puts puts_anything) c.args.seat.now c.try_latch.new.seat c.args.f (c.requires.keeper.1.session.seat, c.requires.keeper.1.idle) (let a = c.args.pool.now.sized.pieces in let b = c.args.pool.now.sized.frames in let d = c.requires.keeper.1.frames in let f = c.requires.frame in omega arith) c.in-Held.ensures.latches c.add-page.new.seat c.add-page.result c.in-Held.ensures.seat c.add-page.ensures.seat (note_of c.add-page.new.seat) (refl, refl)

pub returns-in-Held-clause-keeper : goal.returns-in-Held-clause-keeper
returns-in-Held-clause-keeper c =
    let p = frame_put c.args.pool.now.pieces (Told tells_nothing) (Puts puts_anything) c.args.seat.now c.try_latch.new.seat c.args.f (c.requires.keeper.1.session.seat, c.requires.keeper.1.idle) (let a = c.args.pool.now.sized.pieces in let b = c.args.pool.now.sized.frames in let d = c.requires.keeper.1.frames in let f = c.requires.frame in omega arith) c.in-Held.ensures.latches c.add-page.new.seat c.add-page.result c.in-Held.ensures.seat c.add-page.ensures.seat c.unlatch.new.seat c.unlatch.ensures.put in
    let d = frame_told c.args.pool.now.pieces (Told tells_nothing) (Puts puts_anything) c.args.seat.now c.try_latch.new.seat c.args.f (c.requires.keeper.1.session.seat, c.requires.keeper.1.idle) (let a = c.args.pool.now.sized.pieces in let b = c.args.pool.now.sized.frames in let d = c.requires.keeper.1.frames in let f = c.requires.frame in omega arith) c.in-Held.ensures.latches in
    let n = told_same (knows c.add-page.new.seat) (note_of c.unlatch.new.seat) p.1.0 p.1.1 ∙ (frame_note c.args.pool.now.pieces (Told tells_nothing) (Puts puts_anything) c.args.seat.now c.try_latch.new.seat c.args.f (c.requires.keeper.1.session.seat, c.requires.keeper.1.idle) (let a = c.args.pool.now.sized.pieces in let b = c.args.pool.now.sized.frames in let d = c.requires.keeper.1.frames in let f = c.requires.frame in omega arith) c.in-Held.ensures.latches c.add-page.new.seat c.add-page.result c.in-Held.ensures.seat c.add-page.ensures.seat ∙ told_same (knows c.args.seat.now) (note_of c.try_latch.new.seat) d.0 d.1) in
    λ word k. same_keeper c.args.pool.now.pieces c.args.seat.now word k c.unlatch.new.seat c.unlatch.ensures.seat p.0 (frame_number c.args.pool.now.pieces (Told tells_nothing) (Puts puts_anything) c.args.seat.now c.try_latch.new.seat c.args.f (c.requires.keeper.1.session.seat, c.requires.keeper.1.idle) (let a = c.args.pool.now.sized.pieces in let b = c.args.pool.now.sized.frames in let d = c.requires.keeper.1.frames in let f = c.requires.frame in omega arith) c.in-Held.ensures.latches c.add-page.new.seat c.add-page.result c.in-Held.ensures.seat c.add-page.ensures.seat c.unlatch.new.seat c.in-Held.ensures.number c.unlatch.ensures.number) n

pub returns-in-Held-clause-number : goal.returns-in-Held-clause-number
returns-in-Held-clause-number c =
    frame_number c.args.pool.now.pieces (Told tells_nothing) (Puts puts_anything) c.args.seat.now c.try_latch.new.seat c.args.f (c.requires.keeper.1.session.seat, c.requires.keeper.1.idle) (let a = c.args.pool.now.sized.pieces in let b = c.args.pool.now.sized.frames in let d = c.requires.keeper.1.frames in let f = c.requires.frame in omega arith) c.in-Held.ensures.latches c.add-page.new.seat c.add-page.result c.in-Held.ensures.seat c.add-page.ensures.seat c.unlatch.new.seat c.in-Held.ensures.number c.unlatch.ensures.number

pub returns-in-Held-clause-note : goal.returns-in-Held-clause-note
returns-in-Held-clause-note c =
    let p = frame_put c.args.pool.now.pieces (Told tells_nothing) (Puts puts_anything) c.args.seat.now c.try_latch.new.seat c.args.f (c.requires.keeper.1.session.seat, c.requires.keeper.1.idle) (let a = c.args.pool.now.sized.pieces in let b = c.args.pool.now.sized.frames in let d = c.requires.keeper.1.frames in let f = c.requires.frame in omega arith) c.in-Held.ensures.latches c.add-page.new.seat c.add-page.result c.in-Held.ensures.seat c.add-page.ensures.seat c.unlatch.new.seat c.unlatch.ensures.put in
    let d = frame_told c.args.pool.now.pieces (Told tells_nothing) (Puts puts_anything) c.args.seat.now c.try_latch.new.seat c.args.f (c.requires.keeper.1.session.seat, c.requires.keeper.1.idle) (let a = c.args.pool.now.sized.pieces in let b = c.args.pool.now.sized.frames in let d = c.requires.keeper.1.frames in let f = c.requires.frame in omega arith) c.in-Held.ensures.latches in
    let n = told_same (knows c.add-page.new.seat) (note_of c.unlatch.new.seat) p.1.0 p.1.1 ∙ (frame_note c.args.pool.now.pieces (Told tells_nothing) (Puts puts_anything) c.args.seat.now c.try_latch.new.seat c.args.f (c.requires.keeper.1.session.seat, c.requires.keeper.1.idle) (let a = c.args.pool.now.sized.pieces in let b = c.args.pool.now.sized.frames in let d = c.requires.keeper.1.frames in let f = c.requires.frame in omega arith) c.in-Held.ensures.latches c.add-page.new.seat c.add-page.result c.in-Held.ensures.seat c.add-page.ensures.seat ∙ told_same (knows c.args.seat.now) (note_of c.try_latch.new.seat) d.0 d.1) in
    n

pub returns-in-Again-clause-keeper : goal.returns-in-Again-clause-keeper
returns-in-Again-clause-keeper c =
    λ word k. same_keeper c.args.pool.now.pieces c.args.seat.now word k c.try_latch.new.seat c.in-Again.ensures.seat (c.in-Again.ensures.latches.1 ∙ k.idle) c.in-Again.ensures.number c.in-Again.ensures.latches.0
