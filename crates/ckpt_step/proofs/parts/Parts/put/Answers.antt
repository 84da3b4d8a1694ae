use Rattle.std.proofs.Common.{◌∙◌, ap, Some}
use Rattle.std.specs.Prelude.{◌==◌, if◌then◌else◌}
use Rattle.ckpt_step.specs.Rooms.{Rooms, has_room, known_in}
use Rattle.ckpt_step.proofs.KnownRooms.{known_put, on_ok, rooms_put, some_found}
use Rattle.ckpt_step.proofs.parts.Parts.put.Goals as goal

pub returns-clause-known : goal.returns-clause-known
returns-clause-known c = λ id.
    let leaf = c.args.part.leaf in
    let had = ap (λ (r : Rooms). has_room r leaf) c.self.view_is ∙ c.requires.room in
    let puts = on_ok c.insert.result c.insert.ensures.updates c.insert.ensures.absent (some_found c.self.inside.by_leaf.entries leaf had) in
    known_put c.self.inside.by_leaf.entries c.insert.new.self.entries leaf c.args.part.entries puts.0 id
    ∙ ap (λ (r : Rooms). if id == leaf then Some c.args.part.entries.items else known_in r id) c.self.view_is

pub returns-clause-rooms : goal.returns-clause-rooms
returns-clause-rooms c = λ id.
    let leaf = c.args.part.leaf in
    let had = ap (λ (r : Rooms). has_room r leaf) c.self.view_is ∙ c.requires.room in
    let puts = on_ok c.insert.result c.insert.ensures.updates c.insert.ensures.absent (some_found c.self.inside.by_leaf.entries leaf had) in
    rooms_put c.self.inside.by_leaf.entries c.insert.new.self.entries leaf (Some c.args.part.entries) puts.0 had id
    ∙ ap (λ (r : Rooms). has_room r id) c.self.view_is
