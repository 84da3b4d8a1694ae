use Rattle.std.proofs.Common.{refl, ◌≡◌, ◌∷◌, [], Some, length, ap, ◌∙◌, arith}
use Rattle.std.proofs.lemmas.List.{length-append}
use Rattle.std.proofs.lemmas.List.Elements.{All-pop}
use Rattle.latch_table.specs.Opening.{IsGone}
use Rattle.latch_table.specs.Tables.{pieces_in, shape_of}
use Rattle.latch_table.proofs.Growing.{grows_one}
use Rattle.latch_table.proofs.open.seat_all.Goals as goal

pub loop-row-init : goal.loop-row-init
loop-row-init g c =
    let a = All-pop (IsGone (pieces_in c.args.table.now)) c.args.rows.items c.pop.new.self.items (Some c.in-Some.row) c.in-Some.ensures.items c.requires.rows.0 in
    let f = c.requires.first in
    let n : length c.args.seats.items ≡ 0 = ap length c.requires.room.0 in
    let x = c.args.seats.ok.0 in
    let y = c.push_reserved.new.self.ok.0 in
    let len = c.push_reserved.ensures.len in
    let m = ap length c.in-Some.ensures.items ∙ length-append c.pop.new.self.items (c.in-Some.row ∷ []) in
    let all = c.requires.rows.1 in
    let cap = c.push_reserved.ensures.capacity in
    let room = c.requires.room.2 in (
      rw (c.push_reserved.ensures.items, c.requires.room.0) (grows_one (g.L.Law.start (shape_of c.args.table.now)) c.args.table.now _ refl f.0 f.1 f.2 a.1 c.requires.wide.0),
      a.0,
      omega arith,
      omega arith,
      omega arith,
    )

pub add_seat-requires-clause-row : goal.add_seat-requires-clause-row
add_seat-requires-clause-row g c =
    (All-pop (IsGone (pieces_in c.args.table.now)) c.loop-row.rows.items c.pop-in-loop-row.new.self.items (Some c.in-Some-pop.row) c.in-Some-pop.ensures.items c.loop-row.invariant.1).1

pub loop-row-preserved : goal.loop-row-preserved
loop-row-preserved g c =
    let a = All-pop (IsGone (pieces_in c.args.table.now)) c.loop-row.rows.items c.pop-in-loop-row.new.self.items (Some c.in-Some-pop.row) c.in-Some-pop.ensures.items c.loop-row.invariant.1 in
    let m = ap length c.in-Some-pop.ensures.items ∙ length-append c.pop-in-loop-row.new.self.items (c.in-Some-pop.row ∷ []) in
    let count = c.loop-row.invariant.2 in
    let cap = c.loop-row.invariant.4 in
    let more = c.add_seat.ensures.one_more in
    let same = c.add_seat.ensures.room in
    let x = c.loop-row.seats.ok.0 in
    let y = c.add_seat.new.seats.ok.0 in (
      c.add_seat.ensures.grows,
      a.0,
      omega arith,
      omega arith,
      omega arith,
    )
