use Rattle.std.proofs.Common.{refl, arith}
use Rattle.atomic_table.proofs.Lists.{at_index}
use Rattle.latch_table.specs.Tables.{shape_of}
use Rattle.latch_table.proofs.Growing.{grows_more}
use Rattle.latch_table.proofs.open.add_seat.Goals as goal

pub make_seat-raw-requires-clause-table : goal.make_seat-raw-requires-clause-table
make_seat-raw-requires-clause-table g c =
    let l = c.args.seats.now.ok.0 in
    let s = c.requires.some in
    let at = at_index c.args.seats.now.items 0 c.index_mut-first.result.now (let a = s.0 in omega arith) c.index_mut-first.ensures.value in
    ((c.requires.grows.fresh 0 c.index_mut-first.result.now at).0.table, c.requires.words, (c.requires.grows.first c.index_mut-first.result.now at).0)

pub make_seat-raw-requires-clause-shape : goal.make_seat-raw-requires-clause-shape
make_seat-raw-requires-clause-shape g c =
    let l = c.args.seats.now.ok.0 in
    let s = c.requires.some in
    let at = at_index c.args.seats.now.items 0 c.index_mut-first.result.now (let a = s.0 in omega arith) c.index_mut-first.ensures.value in
    (c.requires.grows.first c.index_mut-first.result.now at).2

pub make_seat-raw-requires-clause-seat : goal.make_seat-raw-requires-clause-seat
make_seat-raw-requires-clause-seat g c =
    let l = c.args.seats.now.ok.0 in
    let s = c.requires.some in
    let at = at_index c.args.seats.now.items 0 c.index_mut-first.result.now (let a = s.0 in omega arith) c.index_mut-first.ensures.value in
    let f = (c.requires.grows.first c.index_mut-first.result.now at).1 in
    ((c.requires.grows.fresh 0 c.index_mut-first.result.now at).0.mine, (let a = s.1 in omega arith))

pub returns-clause-grows : goal.returns-clause-grows
returns-clause-grows g c =
    let l = c.args.seats.now.ok.0 in
    let s = c.requires.some in
    let at = at_index c.args.seats.now.items 0 c.index_mut-first.result.now (let a = s.0 in omega arith) c.index_mut-first.ensures.value in
    let e = c.make_seat-raw.ensures in
    rw c.push_reserved.ensures.items
    (grows_more (g.L.Law.start (shape_of c.args.table.now)) c.args.table.now c.args.seats.now.items c.index_mut-first.result.now _ _ at c.requires.grows refl (let n = c.len-number.ensures in omega arith) refl e.first.0 e.first.1 e.first.2 e.made.0 e.made.1 c.requires.row)
