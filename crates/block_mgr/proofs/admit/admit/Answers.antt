use Rattle.std.proofs.Common.{◌≡◌, ◌∙◌, sym, ap, arith}
use Rattle.std.proofs.lemmas.Grind.{common_steps}
use Rattle.block_mgr.specs.declared.cell.Cell.{Cell}
use Rattle.block_mgr.specs.Cells.{cell_at}
use Rattle.block_mgr.specs.Blocks.{unit_of}
use Rattle.block_mgr.specs.Open.{joined}
use Rattle.block_mgr.proofs.AdmitLemmas.{block_found, block_shared}
use Rattle.block_mgr.proofs.admit.admit.Goals as goal

pub returns-then-take_at-clause-units : goal.returns-then-take_at-clause-units
returns-then-take_at-clause-units c =
    let cells = c.args.cells.now.items in
    let cell : c.index-cell.result.now ≡ cell_at cells (unit_of c.args.found.addr.offset) = grind (arith, common_steps) in
    let both = c.take_at.ensures.took c.if-take_at.true in
    block_found cells c.args.space.now c.args.found c.requires.units c.requires.place c.requires.within c.take_at.new.self c.join.result (c.join.ensures ∙ ap (λ (x : Cell). joined x c.args.found) cell) both.0 both.1 c.take_at.ensures.end

pub returns-then-is_shared-clause-units : goal.returns-then-is_shared-clause-units
returns-then-is_shared-clause-units c =
    let cells = c.args.cells.now.items in
    let cell : c.index-cell.result.now ≡ cell_at cells (unit_of c.args.found.addr.offset) = grind (arith, common_steps) in
    let shared = c.is_shared.ensures.yes c.if-is_shared.true in
    let same : c.take_at.new.self ≡ c.args.space.now = c.take_at.ensures.same c.if-take_at.false in
    rw same (block_shared cells c.args.space.now c.args.found c.requires.units c.requires.place c.requires.within c.join-then-is_shared.result (c.join-then-is_shared.ensures ∙ ap (λ (x : Cell). joined x c.args.found) cell) (ap (λ (x : Cell). x.units) (sym cell) ∙ shared.0))
