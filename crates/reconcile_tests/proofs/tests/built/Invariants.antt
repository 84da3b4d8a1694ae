use Rattle.reconcile.specs.Capture.{ChainsFit}
use Rattle.reconcile_tests.proofs.tests.built.Given as goal

abbrev pub invariant-loop-write : goal.invariant-loop-write
invariant-loop-write l = ChainsFit l.chains
