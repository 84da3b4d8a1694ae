use Rattle.std.proofs.Common.{◌≡◌, take}
use Rattle.std.specs.Prelude.{vec_len, vec_capacity, length}
use Rattle.hist_pages.proofs.Sorting.{all_now}
use Rattle.hist_pages.proofs.by_stamp.lent.Given as goal

abbrev pub invariant-loop-place : goal.invariant-loop-place
invariant-loop-place l = record {
  room : vec_capacity l.lent ≡ length l.versions;
  len : vec_len l.lent ≡ l.place;
  items : all_now l.lent.items ≡ take l.place l.versions;
}
