use Rattle.std.proofs.Common.{◌≡◌, drop}
use Rattle.inner_page.specs.Names.{names_once}
use Rattle.inner_page.proofs.names.names_once.Given as goal

abbrev pub invariant-loop-i : goal.invariant-loop-i
invariant-loop-i l = names_once (drop l.i l.records) ≡ names_once l.records
