use Rattle.std.proofs.Common.{◌≡◌, ◌+◌, ◌≤◌, length}
use Rattle.row_page.specs.Rows.{cells}
use Rattle.reconcile.specs.Gathered.{rows_of, slots_at}
use Rattle.reconcile.proofs.fits.fits_a_leaf.Given as goal

abbrev pub invariant-loop-slot : goal.invariant-loop-slot
invariant-loop-slot l = record {
  is : l.size + length (cells (rows_of l.snapshot.sight (slots_at l.chains l.walk))) ≡ 16 + length (cells (rows_of l.snapshot.sight (slots_at l.chains l.initial.walk)));
  small : l.size ≤ 32768;
}

abbrev pub decreases-loop-slot : goal.decreases-loop-slot
decreases-loop-slot l = length l.walk
