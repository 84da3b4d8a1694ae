use Rattle.reconcile.specs.Capture.{ChainsFit}
use Rattle.tree_write_tests.proofs.tests.images.Given as goal

abbrev pub invariant-loop-i : goal.invariant-loop-i
invariant-loop-i l = ChainsFit l.chains
