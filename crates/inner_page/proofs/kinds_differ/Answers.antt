use Rattle.inner_page.proofs.HistoryPages.{kinds_part}
use Rattle.inner_page.proofs.HistoryLeaves.{leaf_parts}
use Rattle.inner_page.proofs.kinds_differ.Goals as goal

pub returns-clause-inner : goal.returns-clause-inner
returns-clause-inner c = kinds_part

pub returns-clause-leaf : goal.returns-clause-leaf
returns-clause-leaf c = leaf_parts
