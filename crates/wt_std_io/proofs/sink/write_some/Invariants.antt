use Rattle.std.specs.Io.KnownBytes.{Keeps}
use Rattle.wt_std_io.proofs.sink.write_some.Given as goal

-- a call that a signal interrupted has written nothing
abbrev pub invariant-loop : goal.invariant-loop
invariant-loop g l = Keeps (g.W.Write.contents l.fn.inner) (g.W.Write.contents l.inner)
