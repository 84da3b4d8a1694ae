use Rattle.std.proofs.Common.{◌≡◌, ◌≤◌, ℕ, List, take, length}
use Rattle.ckpt_step.specs.Holding.{AreNewAt, held_all}
use Rattle.ckpt_step.specs.declared.lives.Lone.{Lone}
use Rattle.ckpt_step.proofs.moving_in.drop_all.Given as goal

abbrev pub invariant-loop-left : goal.invariant-loop-left
invariant-loop-left l = record {
  within : l.left ≤ length l.entries;
  held : (leaf : ℕ) (before : List Lone) → AreNewAt before l.entries → l.fn.lives ≡ held_all leaf before l.entries → l.lives ≡ held_all leaf before (take l.left l.entries);
}

abbrev pub decreases-loop-left : goal.decreases-loop-left
decreases-loop-left l = l.left
