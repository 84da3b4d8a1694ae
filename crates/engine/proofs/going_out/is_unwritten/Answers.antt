use Rattle.std.proofs.Common.{ap, sym, ◌∙◌, length}
use Rattle.engine.proofs.GoingOut.{unwritten, unwritten-not, written-not}
use Rattle.engine.proofs.going_out.is_unwritten.Goals as goal

pub returns-then-is_empty-clause-yes : goal.returns-then-is_empty-clause-yes
returns-then-is_empty-clause-yes c = unwritten c.args.leaf.now c.in-Some.page.now c.is_empty-then-is_empty.result (ap length (sym c.chains.ensures) ∙ c.is_empty.ensures.0 c.if-is_empty.true) c.in-Some.ensures.rows c.is_empty-then-is_empty.ensures.1

pub returns-then-is_empty-clause-no : goal.returns-then-is_empty-clause-no
returns-then-is_empty-clause-no c = unwritten-not c.args.leaf.now c.in-Some.page.now c.is_empty-then-is_empty.result c.in-Some.ensures.rows c.is_empty-then-is_empty.ensures.0

pub returns-else-is_empty-clause-no : goal.returns-else-is_empty-clause-no
returns-else-is_empty-clause-no c = λ is. written-not c.args.leaf.now c.is_empty.result is (λ none. c.is_empty.ensures.1 (ap length c.chains.ensures ∙ none))
