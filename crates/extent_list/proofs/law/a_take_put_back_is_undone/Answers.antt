use Rattle.extent_list.proofs.SpaceLemmas.{undone}
use Rattle.extent_list.proofs.law.a_take_put_back_is_undone.Goals as goal

pub returns : goal.returns
returns c = undone
