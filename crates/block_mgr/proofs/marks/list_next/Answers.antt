use Rattle.std.proofs.Common.{◌+◌, List, ℕ, sym, ◌∙◌, subst}
use Rattle.block_mgr.specs.Marks.{ListedTo}
use Rattle.block_mgr.proofs.MarkLemmas.{to_pushed, to_skipped}
use Rattle.block_mgr.proofs.marks.list_next.Goals as goal

pub returns-then-not-has_mark-clause-to : goal.returns-then-not-has_mark-clause-to
returns-then-not-has_mark-clause-to c = to_skipped c.args.cells.now c.args.marked.now.items c.args.u c.requires.to (sym c.has_mark.ensures ∙ c.if-not-has_mark.true)

pub returns-clause-to : goal.returns-clause-to
returns-clause-to c = subst (λ (l : List ℕ). ListedTo c.args.cells.now l (c.args.u + 1)) (sym c.add.ensures.items) (to_pushed c.args.cells.now c.args.marked.now.items c.args.u c.requires.to (sym c.has_mark.ensures ∙ c.if-not-has_mark.false))
