use Rattle.std.proofs.Common.{List, ℕ, sym, subst}
use Rattle.device_layout.specs.declared.link.Link.{Link}
use Rattle.row_page.specs.Rows.{IsPage}
use Rattle.leaf_write.specs.Writes.{LeafWritten}
use Rattle.leaf_write.proofs.OneLeaf.{leaf_fails, leaf_written, page_most, page_some}
use Rattle.leaf_write.proofs.leaf.write_leaf.Goals as goal

pub write_block-requires-clause-some : goal.write_block-requires-clause-some
write_block-requires-clause-some g c = page_some c.deref.result.now c.requires.rows.0 (subst (λ (l : List ℕ). IsPage l c.requires.rows.0) (sym c.deref.ensures.value) c.requires.rows.1.page)

pub write_block-requires-clause-most : goal.write_block-requires-clause-most
write_block-requires-clause-most g c = page_most c.deref.result.now c.requires.rows.0 (subst (λ (l : List ℕ). IsPage l c.requires.rows.0) (sym c.deref.ensures.value) c.requires.rows.1.page)

pub returns-in-Err-clause-writes : goal.returns-in-Err-clause-writes
returns-in-Err-clause-writes g c rows spells h old may =
    let wrote = c.in-Err.ensures in
    let page = subst (λ (l : List ℕ). IsPage l rows) (sym c.deref.ensures.value) spells.page in
    leaf_fails g.D.Disk old rows c.deref.result.now c.args.blocks.now c.args.disk.now c.write_block.new.disk may page wrote.leaves c.write_block.new.self c.in-Err.error wrote.no_memory wrote.no_space wrote.no_read wrote.same

pub returns-in-Ok-write_block-clause-writes : goal.returns-in-Ok-write_block-clause-writes
returns-in-Ok-write_block-clause-writes g c rows spells h old may =
    let wrote = c.in-Ok-write_block.ensures in
    let page = subst (λ (l : List ℕ). IsPage l rows) (sym c.deref.ensures.value) spells.page in
    let link : Link = record { addr = c.in-Ok-write_block.addr; greatest = c.args.image.now.greatest; durable = c.args.image.now.durable } in
    subst (λ (l : Link). LeafWritten g.D.Disk old c.args.blocks.now c.write_block.new.self c.args.disk.now c.write_block.new.disk rows l) (sym c.link_to.ensures.link)
    (leaf_written g.D.Disk old rows c.deref.result.now c.args.blocks.now c.args.disk.now c.write_block.new.disk may page wrote.leaves c.write_block.new.self link (record { greatest = spells.greatest; durable = spells.durable })
    (wrote.written h) wrote.images wrote.address wrote.taken wrote.added wrote.units (c.requires.ready h))
