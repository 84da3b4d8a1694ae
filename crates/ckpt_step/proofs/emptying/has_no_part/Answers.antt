use Rattle.std.proofs.Common.{◌≡◌, ◌∙◌, [], List, Option, ap, refl, sym}
use Rattle.kv_model.specs.Machine.{of_some}
use Rattle.stored.specs.TableTree.{Entry}
use Rattle.ckpt_step.specs.Rooms.{known_in}
use Rattle.ckpt_step.proofs.OutCuts.{is_none}
use Rattle.ckpt_step.proofs.WithParts.{part_none}
use Rattle.ckpt_step.proofs.emptying.has_no_part.Goals as goal

pub returns-in-None : goal.returns-in-None
returns-in-None c = λ yes. part_none (known_in c.args.parts.now) c.args.leaf.now (sym c.in-None.ensures)

pub returns-in-Some : goal.returns-in-Some
returns-in-Some c = λ yes.
    let none : c.in-Some.entries.now ≡ [] = is_none c.in-Some.entries.now _ refl (sym c.is_empty.ensures ∙ yes) in
    ap (λ (o : Option (List Entry)). of_some [] (λ (es : List Entry). es) o) (sym c.in-Some.ensures) ∙ none
