use Rattle.std.proofs.Common.{take}
use Rattle.wt_std_io.proofs.KnownBytesLemmas.{keeps_itself, keeps_then_appends, keeps_twice}
use Rattle.wt_std_io.proofs.sink.write_some.Goals as goal

pub loop-init : goal.loop-init
loop-init g c = keeps_itself (g.W.Write.contents c.args.inner.now)

pub returns-in-Ok-clause-bytes : goal.returns-in-Ok-clause-bytes
returns-in-Ok-clause-bytes g c =
    keeps_then_appends (g.W.Write.contents c.args.inner.now) (g.W.Write.contents c.loop.inner) (g.W.Write.contents c.write.new.self) (take c.in-Ok.n c.args.piece.now)
    c.loop.invariant c.in-Ok.ensures.bytes

pub loop-preserved : goal.loop-preserved
loop-preserved g c =
    keeps_twice (g.W.Write.contents c.args.inner.now) (g.W.Write.contents c.loop.inner) (g.W.Write.contents c.write.new.self)
    c.loop.invariant c.in-Err.ensures.bytes
