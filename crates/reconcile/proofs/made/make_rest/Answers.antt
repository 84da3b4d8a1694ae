use Rattle.std.proofs.Common.{◌+◌, ◌∙◌, List, [], ◌∷◌, drop, ap, sym, subst}
use Rattle.row_page.specs.Rows.{Row}
use Rattle.row_page.specs.Views.{row_seen}
use Rattle.reconcile.specs.Held.{page_rows}
use Rattle.reconcile.specs.Making.{MadeTo}
use Rattle.reconcile.specs.Merged.{merged}
use Rattle.reconcile.proofs.Making.{step_none, step_rest}
use Rattle.reconcile.proofs.made.make_rest.Goals as goal

pub loop-cell-preserved : goal.loop-cell-preserved
loop-cell-preserved c = λ all fit to.
    let page = page_rows c.args.page in
    let at = c.loop-cell.at in
    let rest = merged [] (drop (at + 1) page) in
    c.in_ok-make.ensures rest all fit
    (subst (λ (gs : List (List Row)). MadeTo c.args.rule.now c.loop-cell.making gs all)
    (step_rest page at (row_seen c.in-Some.cell) (sym c.in-Some.ensures.row) ∙ ap (λ (l : List Row). l ∷ rest) (sym c.of_row.ensures))
    (c.loop-cell.invariant all fit to))

pub returns : goal.returns
returns c = λ all fit to.
    subst (λ (gs : List (List Row)). MadeTo c.args.rule.now c.loop-cell.making gs all) (step_none (page_rows c.args.page) c.loop-cell.at (sym c.in_default.ensures.row)) (c.loop-cell.invariant all fit to)
