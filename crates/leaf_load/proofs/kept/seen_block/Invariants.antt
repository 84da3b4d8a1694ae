use Rattle.std.proofs.Common.{◌≡◌, take}
use Rattle.row_page.specs.Writing.{Wrote}
use Rattle.leaf_rows.specs.Contents.{seen_rows}
use Rattle.leaf_load.proofs.kept.seen_block.Given as goal

abbrev pub invariant-loop-i : goal.invariant-loop-i
invariant-loop-i l = record {
  wrote : Wrote l.writer (seen_rows l.marks l.ids (take l.i l.page));
  limit : l.writer.limit ≡ 32768;
}
