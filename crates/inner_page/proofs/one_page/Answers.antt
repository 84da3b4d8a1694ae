use Rattle.inner_page.proofs.TablePages.{one_table_page}
use Rattle.inner_page.proofs.one_page.Goals as goal

pub returns : goal.returns
returns c = one_table_page
