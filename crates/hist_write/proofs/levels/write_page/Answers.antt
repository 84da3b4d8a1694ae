use Rattle.std.proofs.Common.{◌∙◌, ◌++◌, [], ◌∷◌, List, ℕ, length, ap, sym, subst, refl, arith}
use Rattle.std.specs.Prelude.{Ok}
use Rattle.std.proofs.lemmas.List.{append-nil}
use Rattle.le_codec.specs.Images.{block_of}
use Rattle.device_layout.specs.declared.addr.Addr.{Addr}
use Rattle.device_layout.specs.declared.link.Link.{Link}
use Rattle.stored.specs.HistoryTree.{HistoryEntry, history_inner_image}
use Rattle.hist_write.specs.Steps.{PageWrites}
use Rattle.tree_write.proofs.Keeping.{looked_same}
use Rattle.tree_write.proofs.LeafSteps.{want_space}
use Rattle.tree_write.proofs.OneBlock.{captures_new, fails_alone, fails_new}
use Rattle.hist_write.proofs.PageSteps.{page_bytes, page_fails, page_least, page_new}
use Rattle.hist_write.proofs.levels.write_page.Goals as goal

pub returns-in_default-clause-writes : goal.returns-in_default-clause-writes
returns-in_default-clause-writes g c level es spells h old first may =
    let d = c.args.disk.now in
    ([], c.reserve.ensures.items ∙ sym (append-nil c.args.captured.now.items), (refl, fails_alone g.D.Disk old first c.args.blocks.now d d (looked_same g.D.Disk d) (λ d left. g.met.D.Disk.only_now _ d left) (Unit {0}), λ is. want_space is))

pub write-requires-clause-some : goal.write-requires-clause-some
write-requires-clause-some g c = let page = c.requires.page in let long = ap (λ (l : List ℕ). length l) page.2.image in let bytes = page_bytes page.0 page.1 in omega (arith, long, bytes)

pub write-requires-clause-most : goal.write-requires-clause-most
write-requires-clause-most g c = let page = c.requires.page in let long = ap (λ (l : List ℕ). length l) page.2.image in let most = page_least page.0 page.1 page.2.admitted in omega (arith, long, most)

pub returns-in-Err-clause-writes : goal.returns-in-Err-clause-writes
returns-in-Err-clause-writes g c level es spells h old first may =
    let D = g.D.Disk in
    let wrote = c.in-Err.ensures in
    let bytes = page_bytes level es in (
      [],
      c.reserve.ensures.items ∙ sym (append-nil c.args.captured.now.items),
      page_fails D old first c.args.blocks.now c.write.new.self c.args.disk.now c.write.new.disk level es c.args.draft spells c.in-Err.error
          (fails_new D old first (history_inner_image level es) (block_of c.args.draft.image.items) c.args.blocks.now c.args.disk.now c.write.new.disk may (ap block_of spells.image) (omega (arith, bytes)) wrote.leaves c.write.new.self c.in-Err.error wrote.no_memory wrote.no_space wrote.no_read wrote.same),
    )

pub returns-in-Ok-write-clause-writes : goal.returns-in-Ok-write-clause-writes
returns-in-Ok-write-clause-writes g c level es spells h old first may =
    let D = g.D.Disk in
    let wrote = c.in-Ok-write.ensures in
    let a = c.in-Ok-write.addr in
    let bytes = page_bytes level es in (
      a ∷ [],
      c.capture.ensures.listed ∙ ap (λ (l : List Addr). l ++ a ∷ []) c.reserve.ensures.items,
      subst (λ (l : Link). let e : HistoryEntry = record { least = c.args.draft.least; link = l } in PageWrites D old first c.args.blocks.now c.capture.new.blocks c.args.disk.now c.write.new.disk level es (a ∷ []) (Ok e)) (sym c.link_to.ensures.link)
          (page_new D old first c.args.blocks.now c.capture.new.blocks c.args.disk.now c.write.new.disk level es c.args.draft spells a
          (captures_new D old first (history_inner_image level es) (block_of c.args.draft.image.items) c.args.blocks.now c.args.disk.now c.write.new.disk may (ap block_of spells.image) (omega (arith, bytes)) wrote.leaves c.write.new.self c.capture.new.blocks a (wrote.written h) wrote.images wrote.address wrote.taken wrote.added wrote.units.1 (c.requires.ready h) c.capture.ensures.cells c.capture.ensures.space c.capture.ensures.synced)),
    )
