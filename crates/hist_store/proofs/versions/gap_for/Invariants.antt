use Rattle.hist_store.proofs.Adding.{is_not_newer}
use Rattle.hist_store.proofs.Searching.{NoneBefore}
use Rattle.hist_store.proofs.versions.gap_for.Given as goal

abbrev pub invariant-loop-i : goal.invariant-loop-i
invariant-loop-i l = NoneBefore (is_not_newer l.version) l.versions.items l.i
