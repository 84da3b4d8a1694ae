use Rattle.std.proofs.Common.{◌+◌, ◌∙◌, ℕ, List, [], ◌∷◌, drop, ap, sym, subst}
use Rattle.std.specs.List.{AllByRecursion}
use Rattle.std.specs.Ordering.{nat_cmp}
use Rattle.std.specs.Cmp.Lexicographic.{slice_cmp}
use Rattle.row_page.specs.Rows.{Row, RowFits, key_most}
use Rattle.row_page.specs.Views.{row_seen}
use Rattle.reconcile.specs.Held.{page_rows}
use Rattle.reconcile.specs.Making.{MadeTo}
use Rattle.reconcile.specs.Merged.{chain_rows, merged}
use Rattle.reconcile.proofs.Making.{both_fit, chain_fits, row_fits, step_end, step_equal, step_greater, step_less}
use Rattle.reconcile.proofs.made.make_key.Goals as goal

pub loop-cell-preserved : goal.loop-cell-preserved
loop-cell-preserved c = λ chains all fit to.
    let page = page_rows c.args.page in
    let at = c.loop-cell.at in
    let r = row_seen c.in-Some.cell in
    let rest = merged (c.args.there.now ∷ chains) (drop (at + 1) page) in
    c.in_ok-make-in-Less.ensures rest all fit
    (subst (λ (gs : List (List Row)). MadeTo c.args.rule.now c.loop-cell.making gs all)
    (step_less c.args.there.now chains page at r (sym c.in-Some.ensures.row) (sym (c.in-Less.ensures ∙ ap (λ (k : List ℕ). slice_cmp nat_cmp r.0 k) c.as_bytes.ensures)) ∙ ap (λ (l : List Row). l ∷ rest) (sym c.of_row.ensures))
    (c.loop-cell.invariant chains all fit to))

pub make-requires-in-Equal : goal.make-requires-in-Equal
make-requires-in-Equal c =
    let key = c.args.there.now.key in
    let chain = c.args.there.now.chain in
    let r = row_seen c.in-Some.cell in
    subst (λ (l : List Row). AllByRecursion (λ (q : Row). RowFits [] key_most q) l) (sym c.of_both.ensures)
    (both_fit (chain_rows key chain) r (chain_fits key chain c.requires.fit) (row_fits (page_rows c.args.page) c.loop-cell.at r (sym c.in-Some.ensures.row) c.requires.page.fit))

pub returns-in-Equal : goal.returns-in-Equal
returns-in-Equal c = λ chains all fit to.
    let page = page_rows c.args.page in
    let at = c.loop-cell.at in
    let r = row_seen c.in-Some.cell in
    let rest = merged chains (drop (at + 1) page) in
    c.in_ok-make-in-Equal.ensures rest all fit
    (subst (λ (gs : List (List Row)). MadeTo c.args.rule.now c.loop-cell.making gs all)
    (step_equal c.args.there.now chains page at r (sym c.in-Some.ensures.row) (sym (c.in-Equal.ensures ∙ ap (λ (k : List ℕ). slice_cmp nat_cmp r.0 k) c.as_bytes.ensures)) ∙ ap (λ (l : List Row). l ∷ rest) (sym c.of_both.ensures))
    (c.loop-cell.invariant chains all fit to))

pub make-requires-in-Greater : goal.make-requires-in-Greater
make-requires-in-Greater c =
    subst (λ (l : List Row). AllByRecursion (λ (q : Row). RowFits [] key_most q) l) (sym c.of_chain.ensures) (chain_fits c.args.there.now.key c.args.there.now.chain c.requires.fit)

pub returns-in-Greater : goal.returns-in-Greater
returns-in-Greater c = λ chains all fit to.
    let page = page_rows c.args.page in
    let at = c.loop-cell.at in
    let r = row_seen c.in-Some.cell in
    let rest = merged chains (drop at page) in
    c.in_ok-make-in-Greater.ensures rest all fit
    (subst (λ (gs : List (List Row)). MadeTo c.args.rule.now c.loop-cell.making gs all)
    (step_greater c.args.there.now chains page at r (sym c.in-Some.ensures.row) (sym (c.in-Greater.ensures ∙ ap (λ (k : List ℕ). slice_cmp nat_cmp r.0 k) c.as_bytes.ensures)) ∙ ap (λ (l : List Row). l ∷ rest) (sym c.of_chain.ensures))
    (c.loop-cell.invariant chains all fit to))

pub make-requires-2 : goal.make-requires-2
make-requires-2 c =
    subst (λ (l : List Row). AllByRecursion (λ (q : Row). RowFits [] key_most q) l) (sym c.of_chain-2.ensures) (chain_fits c.args.there.now.key c.args.there.now.chain c.requires.fit)

pub returns : goal.returns
returns c = λ chains all fit to.
    let page = page_rows c.args.page in
    let at = c.loop-cell.at in
    let rest = merged chains (drop at page) in
    c.in_ok-make.ensures rest all fit
    (subst (λ (gs : List (List Row)). MadeTo c.args.rule.now c.loop-cell.making gs all)
    (step_end c.args.there.now chains page at (sym c.in_default.ensures.row) ∙ ap (λ (l : List Row). l ∷ rest) (sym c.of_chain-2.ensures))
    (c.loop-cell.invariant chains all fit to))
