use Rattle.std.proofs.Common.{sym, subst}
use Rattle.reconcile.specs.Capture.{ChainsFit}
use Rattle.leaf_frame.specs.Leaf.{HeldLeaf}
use Rattle.leaf_frame.proofs.frame.LeafFrame.reconcile.Goals as goal

pub reconcile-requires-clause-fit : goal.reconcile-requires-clause-fit
reconcile-requires-clause-fit c = subst (λ (l : HeldLeaf). ChainsFit l.chains) (sym c.self.view_is) c.requires
