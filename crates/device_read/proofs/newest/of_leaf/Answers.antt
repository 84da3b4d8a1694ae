use Rattle.std.proofs.Common.{◌∙◌, option_map, List, ℕ, Option, Bor, ap, take, subst, sym}
use Rattle.stored.specs.HistoryTree.{HistoryRecord}
use Rattle.device_read.specs.Newest.{IsCountBefore, KeysClimb}
use Rattle.device_read.proofs.Parts.{climb_drop, leaf_part}
use Rattle.device_read.proofs.newest.of_leaf.Goals as goal

pub count_before-requires-2 : goal.count_before-requires-2
count_before-requires-2 c = subst (λ (l : List HistoryRecord). KeysClimb l) (sym c.split_at.ensures.back) (climb_drop c.args.newest.now c.count_before.result c.requires)

pub returns : goal.returns
returns c =
    let next : Option (List ℕ) = option_map {T = Bor (List ℕ)} {U = List ℕ} (λ k. k.now) c.args.next in
    let n = c.count_before.result in
    let m = c.count_before-2.result in
    c.split_at-2.ensures.front
    ∙ ap (λ (l : List HistoryRecord). take m l) c.split_at.ensures.back
    ∙ leaf_part c.args.table c.args.low.now next c.args.newest.now n m c.count_before.ensures (subst (λ (l : List HistoryRecord). IsCountBefore c.args.table next l m) c.split_at.ensures.back c.count_before-2.ensures)
