use Rattle.std.proofs.Common.{take}
use Rattle.wt_std_io.proofs.KnownBytesLemmas.{keeps_itself, keeps_then_consumes, keeps_twice}
use Rattle.wt_std_io.proofs.source.read_some.Goals as goal

pub loop-init : goal.loop-init
loop-init g c = keeps_itself (g.R.Read.remaining c.args.inner.now)

pub returns-in-Ok-clause-bytes : goal.returns-in-Ok-clause-bytes
returns-in-Ok-clause-bytes g c =
    keeps_then_consumes (g.R.Read.remaining c.args.inner.now) (g.R.Read.remaining c.loop.inner) (g.R.Read.remaining c.read.new.self) (take c.in-Ok.n c.read.new.buf)
    c.loop.invariant c.in-Ok.ensures.bytes.0

pub returns-in-Err-2-clause-failed : goal.returns-in-Err-2-clause-failed
returns-in-Err-2-clause-failed g c =
    keeps_twice (g.R.Read.remaining c.args.inner.now) (g.R.Read.remaining c.loop.inner) (g.R.Read.remaining c.read.new.self)
    c.loop.invariant c.in-Err-2.ensures.bytes

pub loop-preserved : goal.loop-preserved
loop-preserved g c =
    keeps_twice (g.R.Read.remaining c.args.inner.now) (g.R.Read.remaining c.loop.inner) (g.R.Read.remaining c.read.new.self)
    c.loop.invariant c.in-Err.ensures.bytes

pub returns-clause-failed : goal.returns-clause-failed
returns-clause-failed g c = c.loop.invariant
