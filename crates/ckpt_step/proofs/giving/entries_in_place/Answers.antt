use Rattle.std.proofs.Common.{refl, sym}
use Rattle.std.specs.Borrow.{Bor}
use Rattle.std.specs.Prelude.{option_map}
use Rattle.stored.specs.TableTree.{Entry}
use Rattle.ckpt_step.specs.Rooms.{known_in}
use Rattle.ckpt_step.proofs.InPlace.{may_take_over}
use Rattle.ckpt_step.proofs.giving.entries_in_place.Goals as goal

pub returns-clause-some : goal.returns-clause-some
returns-clause-some c =
    may_take_over c.args.leaves.now (known_in c.args.parts.now) c.args.leaf c.args.oldest c.in-Some.found.now (sym c.in-Some.ensures) c.in-Some-part_of.entries.now c.in_ok-copy_of.field-0.items c.low_of.result.now (option_map (λ (e : Bor Entry). e.now) c.behind.result)
    c.in_ok-copy_of.ensures (sym c.in-Some-part_of.ensures) c.low_of.ensures c.behind.ensures (c.if-not-may_stand.ensures.yes refl)
