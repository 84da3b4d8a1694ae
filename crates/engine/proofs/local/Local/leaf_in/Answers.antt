use Rattle.engine.proofs.Checkpoints.{leaf-fits}
use Rattle.engine.proofs.local.Local.leaf_in.Goals as goal

pub returns-clause-fit : goal.returns-clause-fit
returns-clause-fit c = leaf-fits c.self.inside.parts c.args.frame c.leaf_in.result c.self.invariant.sizes.leaves c.leaf_in.ensures
