use Rattle.std.proofs.Common.{[], ap, ◌∙◌, arith}
use Rattle.row_page.specs.Rows.{key_most}
use Rattle.row_page.specs.Reading.{cell_at}
use Rattle.row_page.specs.Places.{row_read}
use Rattle.row_page.specs.Views.{row_seen}
use Rattle.row_page.proofs.Steps.{gives_some, gives_view}
use Rattle.row_page.proofs.Founds.{in_block, cell_there}
use Rattle.row_page.proofs.leaf.cell_from.Goals as goal

pub overflow_add-place : goal.overflow_add-place
overflow_add-place c = omega (arith, in_block c.args.block.now c.args.place c.requires, c.type_inv.block)

pub split_at-requires : goal.split_at-requires
split_at-requires c = in_block c.args.block.now c.args.place c.requires

pub unwrap-requires : goal.unwrap-requires
unwrap-requires c =
    (gives_some row_seen c.cell_of-cell.result c.cell_of-cell.new.reader _ c.requires.row c.requires.rest c.cell_of-cell.ensures.read (ap (cell_at [] key_most) (c.new-reader.ensures ∙ c.split_at.ensures.back) ∙ cell_there c.args.block.now c.args.place c.requires)).0

pub returns : goal.returns
returns c =
    let is = ap (cell_at [] key_most) (c.new-reader.ensures ∙ c.split_at.ensures.back) ∙ cell_there c.args.block.now c.args.place c.requires in
    ap row_read c.requires.is ∙ gives_view row_seen c.cell_of-cell.result c.unwrap.result c.cell_of-cell.new.reader _ c.requires.row c.requires.rest c.unwrap.ensures c.cell_of-cell.ensures.read is
