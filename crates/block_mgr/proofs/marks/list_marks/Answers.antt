use Rattle.std.proofs.Common.{List, ℕ, sym, subst, arith}
use Rattle.block_mgr.specs.Marks.{ListedTo}
use Rattle.block_mgr.proofs.MarkLemmas.{to_none, to_all}
use Rattle.block_mgr.proofs.marks.list_marks.Goals as goal

pub loop-u-init : goal.loop-u-init
loop-u-init c = record {
  to = subst (λ (l : List ℕ). ListedTo c.args.cells.now l 0) (sym c.in_ok-marked.ensures.items) (to_none c.args.cells.now);
  room = omega (arith, c.in_ok-marked.ensures.capacity);
}

pub returns : goal.returns
returns c = to_all c.args.cells.now c.loop-u.marked.items c.loop-u.u c.loop-u.invariant.to _ c.loop-u-test.false c.loop-u.invariant.room
