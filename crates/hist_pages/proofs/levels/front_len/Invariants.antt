use Rattle.std.proofs.Common.{◌≡◌, ◌≤◌, take}
use Rattle.hist_pages.specs.Levels.{page_length}
use Rattle.hist_pages.proofs.levels.front_len.Given as goal

abbrev pub invariant-loop-i : goal.invariant-loop-i
invariant-loop-i l = record {
  so_far : l.used ≡ page_length (take l.i l.entries);
  room : l.used ≤ 4096;
}
