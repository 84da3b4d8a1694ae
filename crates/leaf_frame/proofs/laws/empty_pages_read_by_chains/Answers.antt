use Rattle.leaf_frame.proofs.Holding.{empty_pages}
use Rattle.leaf_frame.proofs.laws.empty_pages_read_by_chains.Goals as goal

pub returns : goal.returns
returns c = empty_pages
