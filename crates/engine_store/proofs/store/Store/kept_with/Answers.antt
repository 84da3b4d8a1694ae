use Rattle.engine_store.proofs.KeptFrames.{counted_in, counted_out}
use Rattle.engine_store.proofs.store.Store.kept_with.Goals as goal

pub returns-then-is_kept-clause-counts : goal.returns-then-is_kept-clause-counts
returns-then-is_kept-clause-counts c = λ rest. counted_in c.args.self.now.engine c.args.frame c.args.kept (c.is_kept.ensures.yes c.if-is_kept.true) rest

pub returns-else-is_kept-clause-counts : goal.returns-else-is_kept-clause-counts
returns-else-is_kept-clause-counts c = λ rest. counted_out c.args.self.now.engine c.args.frame c.args.kept (c.is_kept.ensures.no c.if-is_kept.false) rest
