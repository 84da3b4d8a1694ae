use Rattle.std.proofs.Common.{◌≡◌, ◌≤◌, length, All}
use Rattle.std.specs.Prelude.{vec_capacity}
use Rattle.latch_table.specs.Opening.{IsGone}
use Rattle.latch_table.proofs.open.gone_rows.Given as goal

abbrev pub invariant-loop : goal.invariant-loop
invariant-loop g l = All (IsGone l.pieces) l.rows.items × (length l.rows.items ≡ l.counter) × (l.seats ≤ vec_capacity l.rows)
