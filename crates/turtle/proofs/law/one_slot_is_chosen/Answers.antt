use Rattle.turtle.proofs.Choice.{chooses_one, chosen_in_form}
use Rattle.turtle.proofs.law.one_slot_is_chosen.Goals as goal

pub returns-clause-one : goal.returns-clause-one
returns-clause-one c = chooses_one

pub returns-clause-in_form : goal.returns-clause-in_form
returns-clause-in_form c = chosen_in_form
