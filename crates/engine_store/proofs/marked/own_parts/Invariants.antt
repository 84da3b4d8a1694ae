use Rattle.std.proofs.Common.{◌≡◌, ◌⊎◌, ◌<◌, ℕ, None, get_or}
use Rattle.tree_dir.specs.Leaves.{leaf_named}
use Rattle.ckpt_step.specs.Rooms.{known_in}
use Rattle.engine_store.specs.Marked.{framed_part}
use Rattle.engine_store.proofs.marked.own_parts.Given as goal

abbrev pub invariant-loop-leaf : goal.invariant-loop-leaf
invariant-loop-leaf l = record {
  own : (id : ℕ) → (known_in l.parts id ≡ None) ⊎ (known_in l.parts id ≡ framed_part (leaf_named id l.leaves.leaves));
  all : (k : ℕ) → k < l.leaf-index → known_in l.parts (get_or l.ids k 0) ≡ framed_part (leaf_named (get_or l.ids k 0) l.leaves.leaves);
}
