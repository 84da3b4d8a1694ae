use Rattle.std.proofs.Common.{◌≡◌, ◌∙◌, List, refl, sym, ap, subst, arith, length, Vec, Global}
use Rattle.wt_code.specs.declared.store_error.StoreError.TheVariants.{NoMemory, NoSpace}
use Rattle.reconcile.specs.declared.image.Image.{Image}
use Rattle.reconcile.specs.Images.{AreImages}
use Rattle.std.specs.List.{AllByRecursion}
use Rattle.device_layout.specs.declared.addr.Addr.{Addr}
use Rattle.stored.specs.TableTree.{Climbs, Entry, EntryFits}
use Rattle.tree_dir.specs.declared.leaf.Leaf.{Leaf}
use Rattle.ckpt_step.specs.Drafting.{WritesLeaf}
use Rattle.ckpt_step.proofs.LeafNoted.{keys_grow, leaf_stops, noted_behind, notes_leaf}
use Rattle.ckpt_step.proofs.LeafWrites.{no_leaf}
use Rattle.ckpt_step.proofs.leaves.write_leaf.Goals as goal

memory_not_space : NoMemory ≡ NoSpace → ⊥
memory_not_space same = cc

pub returns-then-not-may_begin_behind-clause-writes : goal.returns-then-not-may_begin_behind-clause-writes
returns-then-not-may_begin_behind-clause-writes g c h =
    no_leaf g.D.Disk c.args.snapshot.now.sight c.args.frame.now c.args.leaf.now c.args.part.now c.args.blocks.now c.args.draft.now c.args.draft.now c.args.taken.now.parts.items c.args.taken.now.parts.items c.args.taken.now.captured.items c.args.taken.now.captured.items c.args.disk.now NoMemory memory_not_space refl

pub returns-in_default-clause-writes : goal.returns-in_default-clause-writes
returns-in_default-clause-writes g c h =
    no_leaf g.D.Disk c.args.snapshot.now.sight c.args.frame.now c.args.leaf.now c.args.part.now c.args.blocks.now c.args.draft.now c.args.draft.now c.args.taken.now.parts.items c.args.taken.now.parts.items c.args.taken.now.captured.items c.args.taken.now.captured.items c.args.disk.now NoMemory memory_not_space refl

pub returns-then-not-stand_from-clause-writes : goal.returns-then-not-stand_from-clause-writes
returns-then-not-stand_from-clause-writes g c h =
    no_leaf g.D.Disk c.args.snapshot.now.sight c.args.frame.now c.args.leaf.now c.args.part.now c.args.blocks.now c.args.draft.now c.args.draft.now c.args.taken.now.parts.items c.args.taken.now.parts.items c.args.taken.now.captured.items c.args.taken.now.captured.items c.args.disk.now NoMemory memory_not_space refl

pub returns-in_default-links_of-clause-writes : goal.returns-in_default-links_of-clause-writes
returns-in_default-links_of-clause-writes g c h =
    no_leaf g.D.Disk c.args.snapshot.now.sight c.args.frame.now c.args.leaf.now c.args.part.now c.args.blocks.now c.args.draft.now c.args.draft.now c.args.taken.now.parts.items c.args.taken.now.parts.items c.args.taken.now.captured.items c.args.taken.now.captured.items c.args.disk.now NoMemory memory_not_space refl

pub returns-in_default-reserve-clause-writes : goal.returns-in_default-reserve-clause-writes
returns-in_default-reserve-clause-writes g c h =
    no_leaf g.D.Disk c.args.snapshot.now.sight c.args.frame.now c.args.leaf.now c.args.part.now c.args.blocks.now c.args.draft.now c.args.draft.now c.args.taken.now.parts.items c.reserve.new.self.items c.args.taken.now.captured.items c.args.taken.now.captured.items c.args.disk.now NoMemory memory_not_space refl

pub write-requires-clause-rows : goal.write-requires-clause-rows
write-requires-clause-rows g c =
    let rows = c.in-Ok.ensures.0 in
    let fit = c.in-Ok.ensures.1.fit in
    let first : AreImages c.deref.result.now rows = subst (λ (l : List Image). AreImages l rows) (sym c.deref.ensures.value) c.in-Ok.ensures.2 in
    let are : AreImages c.deref-3.result.now rows = subst (λ (l : List Image). AreImages l rows) (sym c.deref-3.ensures.value) c.in-Ok.ensures.2 in
    (rows, are, fit, c.stand_from.ensures rows first fit c.if-not-stand_from.false)

pub slice_bounds-note_part-count : goal.slice_bounds-note_part-count
slice_bounds-note_part-count g c = omega (arith, c.len-before.ensures, ap (λ (es : List Entry). length es) c.entries-in-Ok-write.ensures.is, keys_grow c.args.draft.now c.write.new.self _ c.in-Ok-write.ensures.keys)

pub slice_bounds-note_part-start : goal.slice_bounds-note_part-start
slice_bounds-note_part-start g c = omega (arith, c.len-before.ensures, ap (λ (es : List Entry). length es) c.entries-in-Ok-write.ensures.is, keys_grow c.args.draft.now c.write.new.self _ c.in-Ok-write.ensures.keys)

pub returns-in-Ok-write-clause-writes : goal.returns-in-Ok-write-clause-writes
returns-in-Ok-write-clause-writes g c h =
    let rows = c.in-Ok.ensures.0 in
    let fit = c.in-Ok.ensures.1.fit in
    let first : AreImages c.deref.result.now rows = subst (λ (l : List Image). AreImages l rows) (sym c.deref.ensures.value) c.in-Ok.ensures.2 in
    let are : AreImages c.deref-3.result.now rows = subst (λ (l : List Image). AreImages l rows) (sym c.deref-3.ensures.value) c.in-Ok.ensures.2 in
    let from = c.stand_from.ensures rows first fit c.if-not-stand_from.false in
    let short = c.may_begin_behind.ensures.short c.if-not-may_begin_behind.false in
    let all = c.write.new.self in
    let whole : c.entries-in-Ok-write.result.now ≡ all = c.entries-in-Ok-write.ensures.is in
    subst (λ (l : Leaf). WritesLeaf g.D.Disk c.args.snapshot.now.sight c.args.frame.now l c.args.part.now c.args.blocks.now c.write.new.blocks c.args.draft.now all c.args.taken.now.parts.items c.note_part.new.taken.parts.items c.args.taken.now.captured.items c.note_part.new.taken.captured.items c.args.disk.now c.write.new.disk c.note_part.result) c.leaf.view_is
    (notes_leaf g.D.Disk c.args.snapshot.now.sight c.args.frame.now _ c.args.part.now c.args.blocks.now c.write.new.blocks c.args.draft.now all c.args.taken.now.parts.items c.note_part.new.taken.parts.items c.args.taken.now.captured.items c.write.new.captured.items c.note_part.new.taken.captured.items c.args.disk.now c.write.new.disk c.deref-3.result.now rows c.in-Ok.ensures.1
    c.deref-2.result.now (c.deref-2.ensures.value ∙ c.in-Ok-links_of.ensures) (ap (λ (v : Vec Addr Global). v.items) c.note_part.ensures.others.1)
    c.note_part.result from short c.in-Ok-write.ensures.keys (subst Climbs whole c.entries-in-Ok-write.ensures.climbs) (subst (λ (es : List Entry). AllByRecursion EntryFits es) whole c.entries-in-Ok-write.ensures.fit)
    (noted_behind c.note_part.result c.entries-in-Ok-write.result.now c.args.draft.now all c.len-before.result _ c.args.taken.now.parts.items c.reserve.new.self.items c.note_part.new.taken.parts.items c.len-before.ensures whole c.reserve.ensures.items c.note_part.ensures.noted)
    c.note_part.ensures.err
    (λ old first_books books before links leaves listed draft live. c.in-Ok-write.ensures.writes rows are h old first_books books before links leaves listed draft live))

pub returns-clause-writes : goal.returns-clause-writes
returns-clause-writes g c h =
    let rows = c.in-Ok.ensures.0 in
    let are : AreImages c.deref-3.result.now rows = subst (λ (l : List Image). AreImages l rows) (sym c.deref-3.ensures.value) c.in-Ok.ensures.2 in
    leaf_stops g.D.Disk c.args.snapshot.now.sight c.args.frame.now c.args.leaf.now c.args.part.now c.args.blocks.now c.write.new.blocks c.args.draft.now c.write.new.self c.args.taken.now.parts.items c.reserve.new.self.items c.args.taken.now.captured.items c.write.new.captured.items c.write.new.captured.items c.args.disk.now c.write.new.disk c.deref-3.result.now rows c.in-Ok.ensures.1
    c.deref-2.result.now (c.deref-2.ensures.value ∙ c.in-Ok-links_of.ensures) refl c.in-Err.error
    (λ old first books before links leaves listed draft live. c.in-Err.ensures.writes rows are h old first books before links leaves listed draft live)
