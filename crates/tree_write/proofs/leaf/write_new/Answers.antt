use Rattle.std.proofs.Common.{arith}
use Rattle.row_page.specs.Rows.{image}
use Rattle.row_page.proofs.Leaves.{length-image}
use Rattle.device_leaf.proofs.Leaves.{leaf_bytes}
use Rattle.tree_write.proofs.Deciding.{page_size}
use Rattle.tree_write.proofs.OneBlock.{captures_new, fails_new}
use Rattle.tree_write.proofs.leaf.write_new.Goals as goal

pub write_block-requires-clause-some : goal.write_block-requires-clause-some
write_block-requires-clause-some g c = let size = page_size c.args.block.now c.requires.rows.0 c.requires.rows.1 in let bytes = leaf_bytes c.requires.rows.0 in omega (arith, size, bytes)

pub returns-in-Err-clause-writes : goal.returns-in-Err-clause-writes
returns-in-Err-clause-writes g c rows page h old first may =
    let wrote = c.in-Err.ensures in
    let bytes = leaf_bytes rows in
    fails_new g.D.Disk old first (image rows) c.args.block.now c.args.blocks.now c.args.disk.now c.write_block.new.disk may page.spelled (omega (arith, bytes)) wrote.leaves c.write_block.new.self c.in-Err.error wrote.no_memory wrote.no_space wrote.no_read wrote.same

pub returns-in-Ok-clause-writes : goal.returns-in-Ok-clause-writes
returns-in-Ok-clause-writes g c rows page h old first may =
    let wrote = c.in-Ok.ensures in
    let bytes = leaf_bytes rows in
    captures_new g.D.Disk old first (image rows) c.args.block.now c.args.blocks.now c.args.disk.now c.write_block.new.disk may page.spelled (omega (arith, bytes)) wrote.leaves c.write_block.new.self c.capture.new.blocks c.in-Ok.addr (wrote.written h) wrote.images wrote.address wrote.taken wrote.added wrote.units (c.requires.ready h) c.capture.ensures.cells c.capture.ensures.space c.capture.ensures.synced

pub write_block-requires-clause-most : goal.write_block-requires-clause-most
write_block-requires-clause-most g c = let size = page_size c.args.block.now c.requires.rows.0 c.requires.rows.1 in let long = length-image c.requires.rows.0 in let most = c.requires.rows.1.admitted.size in omega (arith, size, long, most)
