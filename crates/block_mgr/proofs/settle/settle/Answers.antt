use Rattle.std.proofs.Common.{set, sym, ◌∙◌, subst, arith}
use Rattle.block_mgr.specs.declared.cell.Cell.{Cell}
use Rattle.block_mgr.specs.Cells.{AreUnits}
use Rattle.block_mgr.proofs.UnitLemmas.{same_block, block_gone}
use Rattle.block_mgr.proofs.settle.settle.Goals as goal

pub returns-then-has_use-clause-units : goal.returns-then-has_use-clause-units
returns-then-has_use-clause-units c =
    same_block c.args.cells.now.items c.args.space.now c.args.u c.requires.units c.requires.within c.args.next c.requires.same c.requires.some (sym c.has_use.ensures ∙ c.if-has_use.true)

pub overflow_mul-u : goal.overflow_mul-u
overflow_mul-u c = omega (arith, c.requires.units.small, c.requires.units.long, c.requires.within)

pub overflow_add-u : goal.overflow_add-u
overflow_add-u c = omega (arith, c.requires.units.small, c.requires.units.long, c.requires.within)

pub returns-clause-units : goal.returns-clause-units
returns-clause-units c = subst (λ (x : Cell). AreUnits (set c.args.cells.now.items c.args.u x) c.give.new.self) (sym c.no_block.ensures) (block_gone c.args.cells.now.items c.args.space.now c.args.u c.requires.units c.requires.within c.args.next.units c.give.new.self c.requires.same c.requires.some c.give.ensures.end c.give.ensures.gave)
