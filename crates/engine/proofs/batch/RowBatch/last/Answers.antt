use Rattle.std.proofs.Common.{arith}
use Rattle.engine.proofs.Batches.{ends-in}
use Rattle.engine.proofs.batch.RowBatch.last.Goals as goal

pub returns : goal.returns
returns c = ends-in c.args.self.now _ _ (let some = c.if-count-eq0.false in let same = c.len-count.ensures in omega (arith, some, same)) c.row.ensures
