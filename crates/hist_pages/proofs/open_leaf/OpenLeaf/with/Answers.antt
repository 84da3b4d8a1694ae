use Rattle.std.proofs.Common.{[], refl}
use Rattle.hist_pages.specs.Views.{record_seen}
use Rattle.hist_pages.proofs.Writings.{first_room}
use Rattle.hist_pages.proofs.Cutting.{first_leaf}
use Rattle.hist_pages.proofs.open_leaf.OpenLeaf.with.Goals as goal

pub returns : goal.returns
returns c =
    let w = c.in_ok-writer.writer in
    let r = record_seen c.args.lent.now in
    let h = c.in_ok-writer.ensures in
    let wrote = c.push-has_room.ensures.written (c.push-has_room.ensures.room.1 (first_room w r h c.requires)) [] h in
    first_leaf w c.push-has_room.new.self c.in_ok-least.least c.args.lent.now.version.now.window.name c.args.lent.now.version.now.window.durable r h c.requires wrote c.in_ok-least.ensures refl refl
