use Rattle.std.proofs.Common.{List, [], ◌∷◌, ◌++◌, ◌∙◌, ap}
use Rattle.hist_pages.specs.declared.leaf.HistoryLeaf.{HistoryLeaf}
use Rattle.hist_pages.proofs.Cutting.{close_some}
use Rattle.hist_pages.proofs.leaves.close.Goals as goal

pub returns-in_ok-reserve : goal.returns-in_ok-reserve
returns-in_ok-reserve c =
    close_some c.args.opened c.in-Some.leaf c.finish.result c.args.done.now.items c.push_reserved.new.self.items c.in-Some.is c.finish.ensures
    (c.push_reserved.ensures.items ∙ ap (λ (l : List HistoryLeaf). l ++ c.finish.result ∷ []) c.in_ok-reserve.ensures.items)
