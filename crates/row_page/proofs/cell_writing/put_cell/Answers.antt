use Rattle.std.proofs.Common.{rules, ◌++◌, List, ℕ, ap, sym, ◌∙◌}
use Rattle.std.proofs.lemmas.List.{append_assoc}
use Rattle.std.proofs.lemmas.Result.{on_err_weaker}
use Rattle.row_page.specs.Rows.{cell, value_of}
use Rattle.row_page.specs.Views.{row_seen}
use Rattle.row_page.proofs.Fronts.{front_written}
use Rattle.row_page.proofs.cell_writing.put_cell.Goals as goal

pub returns-in_err-slice-2-clause-begun : goal.returns-in_err-slice-2-clause-begun
returns-in_err-slice-2-clause-begun c =
    let r = row_seen c.args.cell.now in
    let numbers = c.numbers_of-numbers.result in
    let value = value_of r.1.change in
    let begun =
    front_written numbers (r.0 ++ value) (cell r) c.args.out.now c.slice-2.new.self
    (ap (λ (l : List ℕ). (l ++ r.0) ++ value) (sym c.numbers_of-numbers.ensures) ∙ append_assoc numbers r.0 value)
    (c.in_err-slice-2.ensures.kept ∙ c.in_ok-slice.ensures.written)
    in search rules

pub returns-clause-begun : goal.returns-clause-begun
returns-clause-begun c =
    let r = row_seen c.args.cell.now in
    let numbers = c.numbers_of-numbers.result in
    let value = value_of r.1.change in
    on_err_weaker c.slice-3.result (λ kept. front_written (numbers ++ r.0) value (cell r) c.args.out.now c.slice-3.new.self
    (ap (λ (l : List ℕ). (l ++ r.0) ++ value) (sym c.numbers_of-numbers.ensures))
    (kept ∙ c.in_ok-slice-2.ensures.written ∙ ap (λ (l : List ℕ). l ++ r.0) c.in_ok-slice.ensures.written ∙ append_assoc c.args.out.now numbers r.0)) c.slice-3.ensures.kept
