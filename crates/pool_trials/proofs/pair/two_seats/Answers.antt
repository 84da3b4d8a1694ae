use Rattle.std.proofs.Common.{[], ◌∷◌, length, ap, ◌∙◌, arith}
use Rattle.std.proofs.lemmas.List.{length-append}
use Rattle.latch_table.specs.Tables.{shape_of}
use Rattle.pool_trials.proofs.Pairs.{last_but_one_fresh, last_fresh}
use Rattle.pool_trials.proofs.pair.two_seats.Goals as goal

pub returns-clause-first : goal.returns-clause-first
returns-clause-first g c =
    let e = c.in-Some.ensures.items in
    let d = c.in-Some-pop.ensures.items in
    let n = ap length e ∙ length-append c.pop.new.self.items (c.in-Some.second ∷ []) in
    let m = ap length d ∙ length-append c.pop-2.new.self.items (c.in-Some-pop.first ∷ []) in
    let count = c.requires.seats.count in
    let two = c.requires.two in
    last_but_one_fresh c.args.table.now (g.L.Law.start (shape_of c.args.table.now)) c.args.seats.items c.pop.new.self.items c.pop-2.new.self.items c.in-Some-pop.first c.in-Some.second 0 c.requires.seats e d (omega arith)

pub returns-clause-second : goal.returns-clause-second
returns-clause-second g c =
    let e = c.in-Some.ensures.items in
    let n = ap length e ∙ length-append c.pop.new.self.items (c.in-Some.second ∷ []) in
    let count = c.requires.seats.count in
    let two = c.requires.two in
    last_fresh c.args.table.now (g.L.Law.start (shape_of c.args.table.now)) c.args.seats.items c.pop.new.self.items c.in-Some.second 1 c.requires.seats e (omega arith)
