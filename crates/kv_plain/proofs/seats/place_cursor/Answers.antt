use Rattle.std.proofs.Common.{◌∙◌, ap, sym, List}
use Rattle.std.specs.Prelude.{option_map, map, slice_set, slice_index_or, [], Vec, Option}
use Rattle.std.specs.declared.alloc.Global.{Global}
use Rattle.std.proofs.lemmas.List.{map-set, get_or-map, with_items_is}
use Rattle.kv_model.specs.Machine as model
use Rattle.kv_plain.specs.declared.machine.Position.{Position}
use Rattle.kv_plain.specs.Machine.{position_in, cursors_in}
use Rattle.kv_plain.proofs.seats.place_cursor.Goals as goal

abbrev row_in : Vec (Option Position) Global → List (Option model.Position)
row_in row = map (option_map position_in) row.items

pub returns-then-session-cursors : goal.returns-then-session-cursors
returns-then-session-cursors c =
    let rows = c.args.cursors.now in
    let old = c.index-cursors-session.result in
    map-set row_in rows c.args.session _
    ∙ ap (slice_set (cursors_in rows) c.args.session)
    (ap (map (option_map position_in)) (with_items_is (slice_index_or rows c.args.session old) c.set_cursor.new.row (c.set_cursor.auto.row ∙ c.deref_mut.ensures.len))
    ∙ (c.set_cursor.ensures
    ∙ ap (λ l. slice_set l c.args.cursor (option_map position_in c.args.position))
    (ap (map (option_map position_in)) c.deref_mut.ensures.value ∙ sym (get_or-map row_in rows c.args.session old [] c.if-session-cursors.true))))
