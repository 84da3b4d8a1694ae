use Rattle.std.proofs.Common.{◌≡◌, ◌∙◌, sym, ap, None}
use Rattle.ckpt_step.specs.Rooms.{Rooms, has_room, known_in}
use Rattle.ckpt_step.proofs.KnownRooms.{found, known_kept, none_found, room_found, room_kept, room_new}
use Rattle.ckpt_step.proofs.parts.Parts.reserve.Goals as goal

pub returns-then-contains_key-clause-room : goal.returns-then-contains_key-clause-room
returns-then-contains_key-clause-room c =
    ap (λ (r : Rooms). has_room r c.args.leaf) (sym c.self.view_is) ∙ (room_found c.self.inside.by_leaf.entries c.args.leaf ∙ (sym c.contains_key.ensures ∙ c.if-contains_key.true))

pub returns-in-Ok-clause-room : goal.returns-in-Ok-clause-room
returns-in-Ok-clause-room c = room_new c.self.inside.by_leaf.entries c.insert.new.self.entries c.args.leaf None c.in-Ok.ensures.updates.0

pub returns-in-Ok-clause-kept : goal.returns-in-Ok-clause-kept
returns-in-Ok-clause-kept c = λ id had. room_kept c.self.inside.by_leaf.entries c.insert.new.self.entries c.args.leaf None c.in-Ok.ensures.updates.0 id (ap (λ (r : Rooms). has_room r id) c.self.view_is ∙ had)

pub returns-in-Ok-clause-known : goal.returns-in-Ok-clause-known
returns-in-Ok-clause-known c = λ id.
    let none : found c.self.inside.by_leaf.entries c.args.leaf ≡ None = none_found (found c.self.inside.by_leaf.entries c.args.leaf) (sym c.contains_key.ensures ∙ c.if-contains_key.false) in
    known_kept c.self.inside.by_leaf.entries c.insert.new.self.entries c.args.leaf c.in-Ok.ensures.updates.0 none id ∙ ap (λ (r : Rooms). known_in r id) c.self.view_is
