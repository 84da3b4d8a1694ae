use Rattle.std.proofs.Common.{◌≡◌, Global, Vec, ap, refl}
use Rattle.wt_code.specs.declared.store_error.StoreError.TheVariants.{NoMemory, NoSpace}
use Rattle.ckpt_step.specs.Rooms.{known_in}
use Rattle.ckpt_step.specs.declared.parts.LeafPart.{LeafPart}
use Rattle.ckpt_step.proofs.LeafTaken.{keeps_drafts, takes_none, writes_drafts}
use Rattle.ckpt_step.proofs.leaves.take_leaf.Goals as goal

memory_not_space : NoMemory ≡ NoSpace → ⊥
memory_not_space same = cc

pub returns-then-are_live-clause-drafts : goal.returns-then-are_live-clause-drafts
returns-then-are_live-clause-drafts g c h n moment i t at own stood old first books before more captured front rest may has follows device all drafting =
    let d = c.args.disk.now in
    keeps_drafts g.D.Disk old first c.args.engine.now c.args.snapshot.now.sight c.args.was.floor n moment (known_in c.args.was.parts.now) c.args.was.trees.now t stood i at
    books c.args.blocks.now c.keep_leaf.new.blocks more c.args.taken.now.parts.items c.keep_leaf.new.taken.parts.items captured c.args.taken.now.captured.items c.keep_leaf.new.taken.captured.items before d d
    c.args.was.lives.now may has follows device c.args.leaf.now c.requires.there own front rest all c.args.draft.now drafting
    c.keep_leaf.result c.keep_leaf.new.draft c.in-Keep.part.now c.in-Keep.ensures.0 (λ x left. g.met.D.Disk.only_now _ x left) c.in-Keep.ensures.1
    c.keep_leaf.ensures.keeps c.keep_leaf.ensures.listed c.keep_leaf.ensures.entries c.keep_leaf.ensures.same (ap (λ (v : Vec LeafPart Global). v.items) c.keep_leaf.ensures.others.1) c.keep_leaf.ensures.err

pub returns-in_default-clause-drafts : goal.returns-in_default-clause-drafts
returns-in_default-clause-drafts g c h n moment i t at own stood old first books before more captured front rest may has follows device all drafting =
    let d = c.args.disk.now in
    takes_none g.D.Disk old first c.args.engine.now c.args.snapshot.now.sight c.args.was.floor n moment (known_in c.args.was.parts.now) c.args.was.trees.now t stood i at
    books c.args.blocks.now c.args.blocks.now more c.args.taken.now.parts.items c.args.taken.now.parts.items captured c.args.taken.now.captured.items c.args.taken.now.captured.items before d d
    c.args.was.lives.now may has follows device c.args.leaf.now c.requires.there own front rest all c.args.draft.now drafting NoMemory memory_not_space refl

pub returns-in-Some-clause-drafts : goal.returns-in-Some-clause-drafts
returns-in-Some-clause-drafts g c h n moment i t at own stood old first books before more captured front rest may has follows device all drafting =
    writes_drafts g.D.Disk old first c.args.engine.now c.args.snapshot.now.sight c.args.was.floor n moment (known_in c.args.was.parts.now) c.args.was.trees.now t stood i at
    books c.args.blocks.now c.write_leaf.new.blocks more c.args.taken.now.parts.items c.write_leaf.new.taken.parts.items captured c.args.taken.now.captured.items c.write_leaf.new.taken.captured.items before c.args.disk.now c.write_leaf.new.disk
    c.args.was.lives.now may has follows device c.args.leaf.now c.requires.there own front rest all c.args.draft.now drafting
    c.write_leaf.result c.in-Some.frame.now c.write_leaf.new.draft c.in-Keep.part.now c.in-Keep.ensures.0 c.in-Some.ensures.some (c.write_leaf.ensures.writes h)

pub returns-in-Write-clause-drafts : goal.returns-in-Write-clause-drafts
returns-in-Write-clause-drafts g c h n moment i t at own stood old first books before more captured front rest may has follows device all drafting =
    writes_drafts g.D.Disk old first c.args.engine.now c.args.snapshot.now.sight c.args.was.floor n moment (known_in c.args.was.parts.now) c.args.was.trees.now t stood i at
    books c.args.blocks.now c.write_leaf-in-Write.new.blocks more c.args.taken.now.parts.items c.write_leaf-in-Write.new.taken.parts.items captured c.args.taken.now.captured.items c.write_leaf-in-Write.new.taken.captured.items before c.args.disk.now c.write_leaf-in-Write.new.disk
    c.args.was.lives.now may has follows device c.args.leaf.now c.requires.there own front rest all c.args.draft.now drafting
    c.write_leaf-in-Write.result c.in-Write.frame.now c.write_leaf-in-Write.new.draft c.in-Write.part.now c.in-Write.ensures.0 c.in-Write.ensures.1 (c.write_leaf-in-Write.ensures.writes h)
