use Rattle.std.proofs.Common.{◌<◌, length, get_or, ◌∙◌, ap, arith}
use Rattle.std.proofs.lemmas.List.{length-set}
use Rattle.block_mgr.specs.Cells.{cell_at, ended_cell}
use Rattle.block_mgr.proofs.MarkLemmas.{marked_now, marked_some, marked_there, front_listed, rest_listed, all_listed}
use Rattle.block_mgr.proofs.marks.end_marked.Goals as goal

pub settle_ended-requires-clause-some : goal.settle_ended-requires-clause-some
settle_ended-requires-clause-some c =
    let now = c.loop-i.cells.items in
    marked_some now c.loop-i.space (get_or c.args.marked.now c.loop-i.i 0) c.loop-i.invariant.units (marked_now c.args.cells.now.items now c.args.marked.now c.loop-i.i c.requires.exact c.requires.distinct c.loop-i-test.true c.loop-i.invariant.rest)

pub settle_ended-requires-clause-within : goal.settle_ended-requires-clause-within
settle_ended-requires-clause-within c =
    let now = c.loop-i.cells.items in
    marked_there now (get_or c.args.marked.now c.loop-i.i 0) (marked_now c.args.cells.now.items now c.args.marked.now c.loop-i.i c.requires.exact c.requires.distinct c.loop-i-test.true c.loop-i.invariant.rest)

pub loop-i-preserved : goal.loop-i-preserved
loop-i-preserved c =
    let f = ended_cell c.args.is_complete in
    let old = c.args.cells.now.items in
    let now = c.loop-i.cells.items in
    let new = c.settle_ended.new.cells.items in
    let marked = c.args.marked.now in
    let i = c.loop-i.i in
    let u = get_or marked i 0 in
    let kept = c.loop-i.invariant in
    let there : u < length now = marked_there now u (marked_now old now marked i c.requires.exact c.requires.distinct c.loop-i-test.true kept.rest) in
    record {
      units = c.settle_ended.ensures.units;
      len = ap length c.settle_ended.ensures.cells ∙ (length-set now u (f (cell_at now u)) ∙ kept.len);
      end = c.settle_ended.ensures.end ∙ kept.end;
      front = front_listed f old now new marked i c.requires.distinct c.loop-i-test.true there c.settle_ended.ensures.cells kept.rest kept.front;
      rest = rest_listed f old now new marked i c.requires.distinct c.loop-i-test.true there c.settle_ended.ensures.cells kept.rest;
    }

pub returns-clause-cells : goal.returns-clause-cells
returns-clause-cells c = all_listed c.args.is_complete c.args.cells.now.items c.loop-i.cells.items c.args.space.now c.args.marked.now c.requires.units c.requires.exact c.loop-i.invariant.len (λ k lt. c.loop-i.invariant.front k (omega (arith, lt, c.loop-i-test.false))) (λ u none. c.loop-i.invariant.rest u (λ k lt same. none k (omega (arith, lt, c.loop-i-test.false)) same))
