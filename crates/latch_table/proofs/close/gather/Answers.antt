use Rattle.std.proofs.Common.{length, map, ap, ◌∙◌, arith}
use Rattle.latch_table.specs.Seats.{vacated}
use Rattle.latch_table.proofs.Ending.{covers, gathers_first, gathers_more, last_idle, leaves_all}
use Rattle.latch_table.proofs.close.gather.Goals as goal

pub loop-seat-init : goal.loop-seat-init
loop-seat-init g c =
    let gathers = gathers_first c.args.table c.args.seats.items c.pop.new.self.items c.in-Some.last c.in-Some.ensures.items c.requires.all in
    let idle = c.requires.all.idle (length c.pop.new.self.items) c.in-Some.last (Rattle.latch_table.proofs.Ending.at_last_of c.args.seats.items c.pop.new.self.items c.in-Some.last c.in-Some.ensures.items) in
    (gathers, idle.0.table, idle.0.mine, idle.1)

pub absorb-requires-clause-table : goal.absorb-requires-clause-table
absorb-requires-clause-table g c =
    let i = c.loop-seat.invariant in
    let idle = last_idle c.args.table c.args.seats.items c.loop-seat.seats.items c.pop-in-loop-seat.new.self.items c.in-Some-pop.seat c.loop-seat.keeper.me.0 c.in-Some-pop.ensures.items i.0 in
    (i.1, idle.0.table)

pub absorb-requires-clause-seats : goal.absorb-requires-clause-seats
absorb-requires-clause-seats g c =
    let i = c.loop-seat.invariant in
    let idle = last_idle c.args.table c.args.seats.items c.loop-seat.seats.items c.pop-in-loop-seat.new.self.items c.in-Some-pop.seat c.loop-seat.keeper.me.0 c.in-Some-pop.ensures.items i.0 in
    (i.2, idle.0.mine, idle.1, idle.0.away ∙ ap (λ l. map vacated l) idle.1)

pub loop-seat-preserved : goal.loop-seat-preserved
loop-seat-preserved g c =
    let i = c.loop-seat.invariant in
    let more = gathers_more c.args.table c.args.seats.items c.loop-seat.seats.items c.pop-in-loop-seat.new.self.items c.in-Some-pop.seat c.loop-seat.keeper.me.0 c.in-Some-pop.ensures.items i.0 in
    let e = c.absorb.ensures in
    (rw e.gathered more, e.same.0 ∙ i.1, ap (λ m. m.0.spent) e.gathered ∙ i.2, ap (λ m. m.0.held) e.gathered ∙ i.3)

pub finish-requires-clause-all : goal.finish-requires-clause-all
finish-requires-clause-all g c =
    covers c.args.table c.args.seats.items c.loop-seat.seats.items c.loop-seat.keeper.me.0 (Rattle.latch_table.proofs.Ending.none_of c.loop-seat.seats.items (let z = c.in_default-pop.ensures.cases in let k = c.loop-seat.seats.ok.0 in omega arith)) c.requires.all c.loop-seat.invariant.0

pub returns-clause-leaves : goal.returns-clause-leaves
returns-clause-leaves g c =
    leaves_all g.L.Law.joint c.args.table c.args.seats.items c.loop-seat.seats.items c.loop-seat.keeper.me.0 _ _ (Rattle.latch_table.proofs.Ending.none_of c.loop-seat.seats.items (let z = c.in_default-pop.ensures.cases in let k = c.loop-seat.seats.ok.0 in omega arith)) c.loop-seat.invariant.0 c.finish.ensures.leaves
