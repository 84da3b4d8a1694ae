use Rattle.std.proofs.Common.{◌≡◌, drop}
use Rattle.inner_page.specs.Names.{stands_again}
use Rattle.inner_page.proofs.names.stands_again.Given as goal

abbrev pub invariant-loop-other : goal.invariant-loop-other
invariant-loop-other l = stands_again l.first (drop l.other-index l.others) ≡ stands_again l.first l.others
