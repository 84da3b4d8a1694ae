use Rattle.std.proofs.Common.{rules}
use Rattle.std.specs.Ordering.{is_lt}
use Rattle.std.proofs.lemmas.List.Sorted.{answers_always, ranks_by}
use Rattle.stored.specs.HistoryTree.{HistoryRecord}
use Rattle.kept_open.specs.Keeping.{record_cmp}
use Rattle.kept_open.proofs.Sorting.{record_total, sorted_is}
use Rattle.kept_open.proofs.order.sort.Goals as goal

pub returns-clause-same : goal.returns-clause-same
returns-clause-same c = c.sort_unstable_by.ensures.permutation

pub returns-clause-ordered : goal.returns-clause-ordered
returns-clause-ordered c = λ once.
    sorted_is c.args.records.now.items c.sort_unstable_by.new.self.items once c.sort_unstable_by.ensures.permutation
    (c.sort_unstable_by.ensures.sorted (λ r s. is_lt (record_cmp r s)) (ranks_by record_total (λ (r : HistoryRecord). r)) (answers_always _ _ _ (λ f a r g k. search rules)))
