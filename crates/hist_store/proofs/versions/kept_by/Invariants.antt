use Rattle.hist_store.specs.Versions.{is_past}
use Rattle.hist_store.proofs.Searching.{NoneBefore}
use Rattle.hist_store.proofs.versions.kept_by.Given as goal

abbrev pub invariant-loop-i : goal.invariant-loop-i
invariant-loop-i l = NoneBefore (is_past l.pin l.floor) l.versions.items l.i
