use Rattle.std.proofs.Common.{rules}
use Rattle.std.specs.Ordering.{is_lt}
use Rattle.std.proofs.lemmas.List.Sorted.{answers_always, ranks_by}
use Rattle.hist_pages.specs.Records.{stamp_cmp}
use Rattle.hist_pages.proofs.Sorting.{now_of, sorted_is, stamp_total}
use Rattle.hist_pages.proofs.by_stamp.by_stamp.Goals as goal

pub returns : goal.returns
returns c =
    sorted_is c.args.versions.now c.in_ok-lent.lent.items c.sort_unstable_by.new.self.items c.requires c.in_ok-lent.ensures c.sort_unstable_by.ensures.permutation
    (c.sort_unstable_by.ensures.sorted (λ a b. is_lt (stamp_cmp a.now b.now)) (ranks_by stamp_total now_of) (answers_always _ _ _ (λ f a r g k. search rules)))
