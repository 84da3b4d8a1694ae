use Rattle.std.proofs.Common.{◌≡◌, ◌+◌, ◌<◌, ◌≤◌, ℕ, take}
use Rattle.extent_list.specs.Space.{IsWhole}
use Rattle.block_mgr.specs.Open.{Fits, found_at, last_end}
use Rattle.block_mgr.proofs.open.end_within.Given as goal

abbrev pub invariant-loop-i : goal.invariant-loop-i
invariant-loop-i l = record {
  end : l.end ≡ last_end (take l.i l.found);
  behind : 8192 ≤ l.end;
  whole : IsWhole l.end;
  before : (k : ℕ) → k < l.i → (found_at l.found k).addr.offset + (found_at l.found k).addr.size ≤ l.end;
  fit : (k : ℕ) → k < l.i → Fits (found_at l.found k) l.len;
}
