use Rattle.std.proofs.Common.{drop, length}
use Rattle.reconcile.specs.Gathered.{slots_at}
use Rattle.reconcile.specs.Held.{page_rows}
use Rattle.reconcile.specs.Making.{MadeTo}
use Rattle.reconcile.specs.Merged.{merged}
use Rattle.reconcile.proofs.made.reconcile.Given as goal

abbrev pub invariant-loop-slot : goal.invariant-loop-slot
invariant-loop-slot l = MadeTo l.rule l.making (merged (slots_at l.chains l.walk) (drop l.at (page_rows l.page))) (merged (slots_at l.chains l.initial.walk) (page_rows l.page))

abbrev pub decreases-loop-slot : goal.decreases-loop-slot
decreases-loop-slot l = length l.walk
