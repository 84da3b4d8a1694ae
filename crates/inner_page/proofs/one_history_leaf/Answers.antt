use Rattle.inner_page.proofs.HistoryLeaves.{one_leaf_page}
use Rattle.inner_page.proofs.one_history_leaf.Goals as goal

pub returns : goal.returns
returns c = one_leaf_page
