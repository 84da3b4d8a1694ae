use Rattle.std.proofs.Common.{◌≡◌, ◌++◌, ℕ, List, length}
use Rattle.item.specs.Escapes.{escaped}
use Rattle.dump_text.proofs.escape.push_escaped.Given as goal

abbrev pub invariant-runs : goal.invariant-runs
invariant-runs l = record {
  done : List ℕ;
  items : l.out.items ≡ l.fn.out.items ++ done;
  text : done ++ escaped l.rest ≡ escaped l.bytes;
}

abbrev pub decreases-runs : goal.decreases-runs
decreases-runs l = length l.rest
