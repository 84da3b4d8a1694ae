use Rattle.std.proofs.Common.{[], ◌∙◌, refl}
use Rattle.row_page.specs.Views.{row_seen}
use Rattle.reconcile.proofs.Cutting.{first_image, first_room}
use Rattle.reconcile.proofs.open_image.OpenImage.with.Goals as goal

pub returns : goal.returns
returns c =
    let w = c.in_ok-writer.writer in
    let r = row_seen c.args.cell.now in
    let h = c.in_ok-writer.ensures.empty in
    let limit = c.in_ok-writer.ensures.limit in
    let wrote = c.push-has_room.ensures.written (c.push-has_room.ensures.room.1 (first_room w r h limit c.requires)) [] h in
    first_image w c.push-has_room.new.self c.new-low.result c.args.cell.now.window.name c.args.cell.now.window.durable r h limit c.requires wrote c.push-has_room.ensures.limit (c.new-low.ensures ∙ c.in_ok-from_slice.ensures.items) refl refl
