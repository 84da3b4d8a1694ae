-- A leaf without updates.
use Rattle.std.proofs.Common.{◌≡◌, [], subst, sym}
use Rattle.reconcile.specs.Capture.{ChainsFit}
use Rattle.leaf_frame.specs.Leaf.{HeldLeaf}

pub bare_fits : (leaf : HeldLeaf) → leaf.chains ≡ [] → ChainsFit leaf.chains
bare_fits leaf bare = subst ChainsFit (sym bare) (λ key. tt)
