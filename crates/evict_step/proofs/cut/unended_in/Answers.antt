use Rattle.std.proofs.Common.{sym}
use Rattle.evict_step.proofs.Unended.{tells-all}
use Rattle.evict_step.proofs.cut.unended_in.Goals as goal

pub returns-in-Some : goal.returns-in-Some
returns-in-Some c = tells-all c.args.engine.now c.args.leaf c.in-Some.frame.now (sym c.in-Some.ensures.is) c.unended_at.result c.unended_at.ensures
