use Rattle.std.proofs.Common.{◌≡◌, false, length}
use Rattle.std.specs.List.{Contains}
use Rattle.tree_dir.specs.declared.leaf.Leaf.{Leaf}
use Rattle.tree_dir.specs.Leaves.{leaves_of}
use Rattle.ckpt_step.specs.Lives.{is_live}
use Rattle.ckpt_step.specs.Rooms.{known_in}
use Rattle.ckpt_step.specs.Steps.{IsKept}
use Rattle.ckpt_step.proofs.clean.keeps_all.Given as goal

abbrev pub invariant-loop-leaf : goal.invariant-loop-leaf
invariant-loop-leaf l =
    ((x : Leaf) → Contains l.leaves x → (is_live l.was.lives.now x ≡ false) × IsKept l.engine (known_in l.was.parts.now) l.was.floor x)
    → (x : Leaf) → Contains (leaves_of l.table l.engine.hub.dir.leaves) x → (is_live l.was.lives.now x ≡ false) × IsKept l.engine (known_in l.was.parts.now) l.was.floor x

abbrev pub decreases-loop-leaf : goal.decreases-loop-leaf
decreases-loop-leaf l = length l.leaves
