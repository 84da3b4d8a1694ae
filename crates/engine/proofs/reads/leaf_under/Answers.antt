use Rattle.std.proofs.Common.{sym, ◌∙◌, Some}
use Rattle.engine.proofs.FoundLeaves.{found-again}
use Rattle.engine.proofs.reads.leaf_under.Goals as goal

pub returns : goal.returns
returns c = c.leaf.ensures ∙ found-again c.args.dir.now c.args.table (Some c.args.key.now) c.in_ok-id.id c.stands.ensures (sym c.leaf_for.ensures ∙ c.in_ok-id.was)
