use Rattle.std.proofs.Common.{◌∙◌, ap}
use Rattle.ckpt_step.specs.Rooms.{Rooms, known_in}
use Rattle.ckpt_step.proofs.KnownRooms.{known_gone, known_left}
use Rattle.ckpt_step.proofs.parts.Parts.forget.Goals as goal

pub returns-clause-gone : goal.returns-clause-gone
returns-clause-gone c = known_gone c.self.inside.by_leaf.entries c.remove.new.self.entries c.args.leaf c.remove.ensures.updates.0

pub returns-clause-others : goal.returns-clause-others
returns-clause-others c = λ id other. known_left c.self.inside.by_leaf.entries c.remove.new.self.entries c.args.leaf c.remove.ensures.updates.0 id other ∙ ap (λ (r : Rooms). known_in r id) c.self.view_is
