use Rattle.std.proofs.Common.{◌≡◌, length, take}
use Rattle.std.specs.Prelude.{vec_len, vec_capacity}
use Rattle.checkpoint_record_tests.proofs.tests.lent_roots.Given as goal

abbrev pub invariant-loop-root : goal.invariant-loop-root
invariant-loop-root l = record {
  room : vec_capacity l.roots ≡ length l.tables;
  len : vec_len l.roots ≡ l.root-index;
  items : l.roots.items ≡ take l.root-index l.tables;
}
