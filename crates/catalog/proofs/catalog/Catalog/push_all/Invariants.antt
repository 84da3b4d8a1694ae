use Rattle.std.proofs.Common.{◌≡◌, ◌++◌, reverse}
use Rattle.std.specs.Prelude.{vec_len}
use Rattle.catalog.specs.Push.{MayAllFollow}
use Rattle.catalog.proofs.catalog.Catalog.push_all.Given as goal

abbrev pub invariant-loop-table : goal.invariant-loop-table
invariant-loop-table l = record {
  may : MayAllFollow l.self l.rest.items l.next;
  same : l.rest.items ++ reverse l.self.tables ≡ l.fn.rest.items ++ reverse l.fn.self.tables;
}

abbrev pub decreases-loop-table : goal.decreases-loop-table
decreases-loop-table l = vec_len l.rest
