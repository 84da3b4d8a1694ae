use Rattle.row_page.proofs.Leaves.{one_page}
use Rattle.row_page.proofs.one_spelling.Goals as goal

pub returns : goal.returns
returns c = one_page
