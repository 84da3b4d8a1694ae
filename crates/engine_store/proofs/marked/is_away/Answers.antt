use Rattle.std.proofs.Common.{sym, ◌∙◌}
use Rattle.engine_store.proofs.LeavesGo.{away_none, away_some}
use Rattle.engine_store.proofs.marked.is_away.Goals as goal

pub returns-in-None-clause-no : goal.returns-in-None-clause-no
returns-in-None-clause-no c = λ is. away_none c.args.leaves.now c.stands.ensures c.args.leaf (sym c.in-None.ensures)

pub returns-in-Some-clause-no : goal.returns-in-Some-clause-no
returns-in-Some-clause-no c = λ is. away_some c.args.leaves.now c.stands.ensures c.args.leaf c.in-Some.found.now (sym c.in-Some.ensures) (sym c.is_in_none.ensures ∙ is)
