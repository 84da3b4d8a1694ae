use Rattle.std.proofs.Common.{◌≡◌, length}
use Rattle.std.specs.Prelude.{vec_len}
use Rattle.engine_store.proofs.Over.{IsRest}
use Rattle.engine_store.proofs.tables.with_entries.Given as goal

abbrev pub invariant-loop-root : goal.invariant-loop-root
invariant-loop-root l = record {
  count : length l.uppers.items ≡ length l.tables.items;
  rest : IsRest l.both.items l.tables.items l.uppers.items l.fn.tables.items l.fn.uppers.items;
}

abbrev pub decreases-loop-root : goal.decreases-loop-root
decreases-loop-root l = vec_len l.tables
