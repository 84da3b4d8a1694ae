use Rattle.std.proofs.Common.{◌∙◌, sym}
use Rattle.row_page.proofs.Steps.{equal_is}
use Rattle.leaf_frame.proofs.page.has_key_at.Goals as goal

pub returns-in-Equal : goal.returns-in-Equal
returns-in-Equal c told = (c.key.ensures.0, c.key.ensures.1, c.key.ensures.2 ∙ equal_is c.key.result.now c.args.key.now (sym c.order.ensures ∙ c.in-Equal.is))
