use Rattle.hist_store.specs.Versions.{is_admitted}
use Rattle.hist_store.proofs.Searching.{NoneBefore}
use Rattle.hist_store.proofs.versions.newest_in.Given as goal

abbrev pub invariant-loop-i : goal.invariant-loop-i
invariant-loop-i l = NoneBefore (is_admitted l.view) l.versions.items l.i
