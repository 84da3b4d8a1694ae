use Rattle.std.proofs.Common.{rules}
use Rattle.std.specs.Prelude.{slice_get}
use Rattle.tree_dir.specs.Order.{table_order}
use Rattle.tree_dir.proofs.LastLeaves.{never-equal}
use Rattle.tree_dir.proofs.places.gap_behind.Goals as goal

pub returns-in-Ok-clause-parts : goal.returns-in-Ok-clause-parts
returns-in-Ok-clause-parts c rises = absurd (never-equal c.args.table _ (c.in-Ok.ensures.found (λ i. table_order c.args.table (slice_get c.args.slots.now i)) (λ x r called. search rules) 0))
