use Rattle.std.proofs.Common.{◌≡◌, ◌-◌, drop}
use Rattle.inner_page.specs.Names.{names_climb}
use Rattle.inner_page.proofs.names.names_climb.Given as goal

abbrev pub invariant-loop-i : goal.invariant-loop-i
invariant-loop-i l = names_climb (drop (l.i - 1) l.records) ≡ names_climb l.records
