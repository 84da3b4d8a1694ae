use Rattle.std.proofs.Common.{◌∷◌, rules}
use Rattle.tree_dir.specs.Order.{not_above, rank_order}
use Rattle.tree_dir.proofs.Index.{never-tied}
use Rattle.tree_dir.proofs.places.gap_above.Goals as goal

pub returns-in-Ok-clause-parts : goal.returns-in-Ok-clause-parts
returns-in-Ok-clause-parts c rises = absurd (never-tied _ (c.in-Ok.ensures.found (λ i. not_above (rank_order c.args.slots.now (c.args.table ∷ c.args.key.now) i)) (λ x r called. search rules) 0))
