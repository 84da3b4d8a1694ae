use Rattle.std.proofs.Common.{◌∙◌, ap, List, sym, inl, inr}
use Rattle.block_mgr.specs.declared.cell.Cell.{Cell}
use Rattle.block_mgr.specs.Cells.{cell_at}
use Rattle.std.proofs.lemmas.Bool.{false≢true}
use Rattle.ckpt_step.proofs.Frees.{freed_is, not_freed}
use Rattle.ckpt_step.proofs.books.let_go_of.Goals as goal
use Rattle.ckpt_step.proofs.books.let_go_of.Goals.{else-is_live-via-then-is_live+else-not-is_last, else-is_live-via-else-is_live}

pub returns-then-not-is_last-clause-cells : goal.returns-then-not-is_last-clause-cells
returns-then-not-is_last-clause-cells c u =
    ap (λ (l : List Cell). cell_at l u) c.free.ensures.cells ∙ freed_is c.args.blocks.now.cells c.args.addr u (c.is_live.ensures.0 c.if-is_live.true) (λ last. false≢true (sym c.if-not-is_last.true ∙ c.is_last.ensures.1 last))

pub returns-else-is_live-clause-cells : goal.returns-else-is_live-clause-cells
returns-else-is_live-clause-cells c u =
    sym (not_freed c.args.blocks.now.cells c.args.addr u (elim c.else-is_live.branch [
      | else-is_live-via-then-is_live+else-not-is_last w ↦ inr (w.is_last.ensures.0 w.if-not-is_last.false)
      | else-is_live-via-else-is_live w ↦ inl (λ live. false≢true (sym w.if-is_live.false ∙ c.is_live.ensures.1 live))
    ]))
