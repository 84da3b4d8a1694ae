use Rattle.config_text.proofs.ReadItems.{one-list}
use Rattle.config_text.proofs.laws.a_text_has_one_list_of_items.Goals as goal

pub returns : goal.returns
returns c = λ text items others is other. one-list is others other
