use Rattle.std.proofs.Common.{◌∙◌, ◌++◌, [], ◌∷◌, List, ℕ, length, ap, sym, subst, refl, arith}
use Rattle.std.specs.Prelude.{Ok}
use Rattle.std.proofs.lemmas.List.{append-nil}
use Rattle.le_codec.specs.Images.{block_of}
use Rattle.device_layout.specs.declared.addr.Addr.{Addr}
use Rattle.device_layout.specs.declared.link.Link.{Link}
use Rattle.device_leaf.proofs.Leaves.{length_block}
use Rattle.stored.specs.HistoryTree.{HistoryEntry, history_image}
use Rattle.tree_write.proofs.Keeping.{looked_same}
use Rattle.tree_write.proofs.LeafSteps.{want_space}
use Rattle.tree_write.proofs.OneBlock.{captures_new, fails_alone, fails_new}
use Rattle.hist_write.specs.Steps.{LeafWrites}
use Rattle.hist_write.proofs.LeafGoing.{leaf_bytes, leaf_fails, leaf_most, leaf_new, placed_some, same_block}
use Rattle.hist_write.proofs.leaves.write_leaf.Goals as goal

pub returns-in_default-clause-writes : goal.returns-in_default-clause-writes
returns-in_default-clause-writes g c records spells h old first may =
    let d = c.args.disk.now in
    ([], c.reserve.ensures.items ∙ sym (append-nil c.args.captured.now.items), (refl, fails_alone g.D.Disk old first c.args.blocks.now d d (looked_same g.D.Disk d) (λ d left. g.met.D.Disk.only_now _ d left) (Unit {0}), λ is. want_space is))

pub write-requires-clause-some : goal.write-requires-clause-some
write-requires-clause-some g c =
    let leaf = c.requires.leaf in
    let long = ap (λ (l : List ℕ). length l) leaf.1.block.spelled in
    let filled = length_block (history_image leaf.0) in
    let bytes = leaf_bytes leaf.0 in
    omega (arith, long, filled, bytes)

pub write-requires-clause-most : goal.write-requires-clause-most
write-requires-clause-most g c =
    let leaf = c.requires.leaf in
    let long = ap (λ (l : List ℕ). length l) leaf.1.block.spelled in
    let filled = length_block (history_image leaf.0) in
    let most = leaf_most leaf.0 leaf.1.block.admitted in
    omega (arith, long, filled, most)

pub returns-in-Err-clause-writes : goal.returns-in-Err-clause-writes
returns-in-Err-clause-writes g c records spells h old first may =
    let D = g.D.Disk in
    let wrote = c.in-Err.ensures in
    let bytes = leaf_bytes records in (
      [],
      c.reserve.ensures.items ∙ sym (append-nil c.args.captured.now.items),
      leaf_fails D old first c.args.blocks.now c.write.new.self c.args.disk.now c.write.new.disk records c.args.draft spells c.in-Err.error
          (fails_new D old first (history_image records) (block_of c.args.draft.block.items) c.args.blocks.now c.args.disk.now c.write.new.disk may (same_block c.args.draft records spells) (omega (arith, bytes)) wrote.leaves c.write.new.self c.in-Err.error wrote.no_memory wrote.no_space wrote.no_read wrote.same),
    )

pub returns-in-Ok-write-clause-writes : goal.returns-in-Ok-write-clause-writes
returns-in-Ok-write-clause-writes g c records spells h old first may =
    let D = g.D.Disk in
    let wrote = c.in-Ok-write.ensures in
    let a = c.in-Ok-write.addr in
    let bytes = leaf_bytes records in
    let new = captures_new D old first (history_image records) (block_of c.args.draft.block.items) c.args.blocks.now c.args.disk.now c.write.new.disk may (same_block c.args.draft records spells) (omega (arith, bytes)) wrote.leaves c.write.new.self c.capture.new.blocks a (wrote.written h) wrote.images wrote.address wrote.taken wrote.added wrote.units.1 (c.requires.ready h) c.capture.ensures.cells c.capture.ensures.space c.capture.ensures.synced in (
      a ∷ [],
      c.capture.ensures.listed ∙ ap (λ (l : List Addr). l ++ a ∷ []) c.reserve.ensures.items,
      subst (λ (l : Link). let e : HistoryEntry = record { least = c.args.draft.least; link = l } in LeafWrites D old first c.args.blocks.now c.capture.new.blocks c.args.disk.now c.write.new.disk records (a ∷ []) (Ok e)) (sym c.link_to.ensures.link)
          (leaf_new D old first c.args.blocks.now c.capture.new.blocks c.args.disk.now c.write.new.disk records c.args.draft spells a (placed_some c.args.blocks.now a new.0) new),
    )
