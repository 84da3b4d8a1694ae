use Rattle.std.proofs.Common.{◌≡◌, ◌≤◌, take}
use Rattle.tree_dir.specs.Levels.{page_length}
use Rattle.tree_dir.proofs.levels.front_len.Given as goal

abbrev pub invariant-loop-i : goal.invariant-loop-i
invariant-loop-i l = record {
  so_far : l.used ≡ page_length (take l.i l.entries);
  room : l.used ≤ 4096;
}
