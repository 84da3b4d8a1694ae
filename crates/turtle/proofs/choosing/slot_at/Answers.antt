use Rattle.std.proofs.Common.{inr, sym}
use Rattle.turtle.proofs.Choice.{stands_in, out_of_form_in}
use Rattle.turtle.proofs.choosing.slot_at.Goals as goal

pub returns-in-Ok-slot_of-clause-slot : goal.returns-in-Ok-slot_of-clause-slot
returns-in-Ok-slot_of-clause-slot g c = λ h. stands_in _ _ c.args.at c.in-Ok-slot_of.slot (sym (c.in-Ok.ensures.bytes h)) c.in-Ok-slot_of.ensures.slot

pub returns-in-Err-slot_of-clause-err : goal.returns-in-Err-slot_of-clause-err
returns-in-Err-slot_of-clause-err g c = inr (c.corrupt.ensures, λ h. out_of_form_in _ _ c.args.at (sym (c.in-Ok.ensures.bytes h)) c.in-Err-slot_of.ensures.out_of_form)
