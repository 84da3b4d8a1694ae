use Rattle.std.proofs.Common.{◌≡◌, drop}
use Rattle.reconcile.specs.Capture.{captured}
use Rattle.reconcile.proofs.version.pick.Given as goal

abbrev pub invariant-loop-place : goal.invariant-loop-place
invariant-loop-place l = captured l.snapshot.sight l.chain ≡ captured l.snapshot.sight (drop l.place l.chain)
