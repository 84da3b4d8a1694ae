use Rattle.turtle.proofs.Choice.{text_is, slot_is_text}
use Rattle.turtle.proofs.law.a_slot_is_its_bytes.Goals as goal

pub returns : goal.returns
returns c = λ bytes at slot. ((λ has. (text_is bytes at slot has, has.is)), λ both. slot_is_text bytes at slot both.0 both.1)
