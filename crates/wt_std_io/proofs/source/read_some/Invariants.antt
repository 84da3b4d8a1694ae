use Rattle.std.specs.Io.KnownBytes.{Keeps}
use Rattle.wt_std_io.proofs.source.read_some.Given as goal

-- a call that a signal interrupted has read nothing
abbrev pub invariant-loop : goal.invariant-loop
invariant-loop g l = Keeps (g.R.Read.remaining l.fn.inner) (g.R.Read.remaining l.inner)
