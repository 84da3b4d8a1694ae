use Rattle.std.proofs.lemmas.List.{take_all}
use Rattle.turtle.specs.Slots.{fields_of}
use Rattle.std.proofs.Common.{ap, ◌∙◌, ◌≡◌, IsTrue, Bool, false, arith, length, drop, take, [], ◌∷◌}
use Rattle.std.proofs.lemmas.Grind.{common_steps}
use Rattle.disk_model.specs.Ranges.{range}
use Rattle.turtle.proofs.Choice.{not_spelled}
use Rattle.turtle.proofs.slot.slot_of.Goals as goal

not_both : (b : Bool) → b ≡ false → IsTrue b → ⊥
not_both b nope is = cc

pub returns-else-is_spelled-clause-out_of_form : goal.returns-else-is_spelled-clause-out_of_form
returns-else-is_spelled-clause-out_of_form c =
    let gate : range c.args.text.now 0 1 ≡ 165 ∷ [] = grind (arith, common_steps) in
    let long : length (drop 1 c.args.text.now) ≡ 35 = grind (arith, common_steps) in
    let body : take 35 (drop 1 c.args.text.now) ≡ drop 1 c.args.text.now = take_all 35 (drop 1 c.args.text.now) (omega arith) in
    not_spelled c.args.text.now c.fields-slot.result long gate (c.fields-slot.ensures ∙ ap fields_of body) (λ both. not_both _ c.if-is_spelled.false (c.is_spelled.ensures.1 (body ∙ both.0, both.1)))
