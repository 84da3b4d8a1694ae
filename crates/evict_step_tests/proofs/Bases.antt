-- On what an engine may begin: no leaf, with no stamp set.
use Rattle.std.proofs.Common.{List, inl, refl, arith}
use Rattle.kv_model.specs.Allowed.{StampsFit}
use Rattle.kv_model.specs.History.{Table}
use Rattle.tree_dir.specs.Leaves.{no_leaves}
use Rattle.engine_world.specs.Leaves.{LeavesOwned}

pub none_owned : (known : List Table) → LeavesOwned known no_leaves.leaves
none_owned known l there = absurd (omega (arith, there.1))

pub unset_fit : StampsFit 0 0
unset_fit = inl refl
