-- Leaves that a checkpoint writes are of the directory, and none of them comes later.
use Rattle.std.proofs.Common.{◌<◌, ◌≤◌, ℕ, List, [], ◌∷◌, subst, arith}
use Rattle.kv_model.specs.History.{Table}
use Rattle.tree_dir.specs.declared.leaf.Leaf.{Leaf}
use Rattle.tree_dir.specs.Leaves.{Directory, IsDirectory}
use Rattle.ckpt_step.specs.Parts.{AreOfLeaves, AreOfTables}
use Rattle.ckpt_step.specs.declared.parts.LeafPart.{LeafPart}
use Rattle.ckpt_step.proofs.GoingLeaves.{of_there}
use Rattle.ckpt_step.proofs.WithParts.{NoneOf}

-- what is written of the leaves of tables is of leaves of the directory
pub of_tables : (known : List Table) (leaves : List Leaf) (more : List LeafPart) → AreOfTables known leaves more → AreOfLeaves leaves more
of_tables known leaves [] of = tt
of_tables known leaves (p ∷ more) of = (let own = of.0.3 in (own.0, of_there of.0.1.number leaves own.0 own.1, own.2), of_tables known leaves more of.1)

-- none of it is of a leaf that comes later
pub later_none : (d : Directory) (more : List LeafPart) (id : ℕ) → IsDirectory d → AreOfLeaves d.leaves more → d.next ≤ id → NoneOf id more
later_none d [] id is of late = tt
later_none d (p ∷ more) id is of late = (
  (λ same.
      let l = of.0.0 in
      let at = of.0.1 in
      let low = is.below at.0 l at.1 in
      let below : l.id < d.next = subst (λ (x : Leaf). x.id < d.next) at.2 low in
      omega (arith, below, late, same, of.0.2)),
  later_none d more id is of.1 late,
)
