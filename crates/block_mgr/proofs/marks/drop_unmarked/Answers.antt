use Rattle.std.proofs.Common.{ℕ, List, eqb, take, refl, sym, ◌∙◌, ap, subst, arith}
use Rattle.std.specs.List.{list_any, IsDistinct}
use Rattle.block_mgr.proofs.MarkLemmas.{walked_none, walked_more, listed_kept}
use Rattle.block_mgr.proofs.marks.drop_unmarked.Goals as goal

pub loop-i-init : goal.loop-i-init
loop-i-init c = record {
  walked = walked_none c.args.cells.now c.args.marked.now.items;
  room = refl;
}

pub loop-i-preserved : goal.loop-i-preserved
loop-i-preserved c = record {
  walked = walked_more c.args.cells.now c.args.marked.now.items c.loop-i.marked.items c.keep_mark-kept.new.marked.items c.loop-i.i c.loop-i.kept c.keep_mark-kept.result c.requires.distinct (omega (arith, c.loop-i-test.true, c.len-i-end.ensures)) c.loop-i.invariant.walked (λ is. (c.keep_mark-kept.ensures.has is, c.keep_mark-kept.ensures.moved is)) c.keep_mark-kept.ensures.none;
  room = c.keep_mark-kept.ensures.capacity ∙ c.loop-i.invariant.room;
}

pub returns : goal.returns
returns c =
    let walked = c.loop-i.invariant.walked in
    let kept : List ℕ = take c.loop-i.kept c.loop-i.marked.items in
    listed_kept c.args.cells.now c.args.marked.now.items c.truncate.new.self.items c.loop-i.i _ (omega (arith, c.loop-i-test.false, c.len-i-end.ensures)) (omega (arith, c.requires.room, c.truncate.ensures.capacity, c.loop-i.invariant.room)) c.requires.all (λ v. ap (list_any (eqb v)) c.truncate.ensures.items ∙ walked.exact v) (subst (IsDistinct eqb) (sym c.truncate.ensures.items) walked.distinct)
