use Rattle.inner_page.proofs.HistoryPages.{one_history_page}
use Rattle.inner_page.proofs.one_history_page.Goals as goal

pub returns : goal.returns
returns c = one_history_page
