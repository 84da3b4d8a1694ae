use Rattle.std.proofs.Common.{◌≡◌, ◌∙◌, ◌++◌, ◌∷◌, [], ℕ, List, refl, sym, ap, subst, append_assoc, arith, length}
use Rattle.std.proofs.lemmas.List.{append-nil}
use Rattle.std.proofs.lemmas.Result.{err_from_is_err_and}
use Rattle.disk_model.proofs.Crash.{same_disk_then}
use Rattle.stored.specs.TableTree.{Entry}
use Rattle.tree_dir.specs.declared.leaf.Leaf.{Leaf}
use Rattle.tree_dir.specs.Leaves.{Directory, leaves_of}
use Rattle.ckpt_step.specs.Drafting.{Drafting, DraftStopped}
use Rattle.ckpt_step.specs.Rooms.{known_in}
use Rattle.ckpt_step.specs.Trees.{leaves_at}
use Rattle.ckpt_step.proofs.DraftingMore.{drafting_none}
use Rattle.ckpt_step.proofs.LeafTaken.{leaf_next}
use Rattle.ckpt_step.proofs.leaves.take_leaves.Goals as goal

pub loop-leaf-init : goal.loop-leaf-init
loop-leaf-init g c = record {
  held = c.requires.held;
  trees = refl;
  disk = record { same = refl; room = refl; home = refl; later = omega arith };
  ready = c.requires.ready;
  front = [];
  all = sym (c.leaves_of-leaves.ensures ∙ ap (λ (d : Directory). leaves_of c.args.table d.leaves) c.leaves.ensures.are);
  drafts = λ h n moment i t at number stood old first may has follows device.
      subst (λ (es : List Entry). Drafting g.D.Disk old first c.args.engine.now.hub.dir.leaves (known_in c.args.was.parts.now) n t.number c.args.blocks.now c.args.blocks.now c.args.taken.now.parts.items c.args.taken.now.parts.items c.args.taken.now.captured.items c.args.taken.now.captured.items c.args.disk.now c.args.disk.now [] es) (sym c.requires.empty)
      (drafting_none g.D.Disk old first c.args.engine.now.hub.dir.leaves (known_in c.args.was.parts.now) n t.number c.args.blocks.now c.args.taken.now.parts.items c.args.taken.now.captured.items c.args.disk.now (λ x left. g.met.D.Disk.only_now _ x left) (leaves_at c.args.was.trees.now i) may.over (c.requires.ready h));
}

pub loop-leaf-smaller : goal.loop-leaf-smaller
loop-leaf-smaller g c = omega (arith, ap (λ (l : List Leaf). length l) c.in-Some.ensures.after)

pub take_leaf-requires-clause-there : goal.take_leaf-requires-clause-there
take_leaf-requires-clause-there g c = (leaf_next c.args.table c.args.engine.now.hub.dir.leaves c.loop-leaf.invariant.front c.in-Some.leaf.now c.next_leaf.new.self (c.loop-leaf.invariant.all ∙ ap (λ (l : List Leaf). c.loop-leaf.invariant.front ++ l) c.in-Some.ensures.after)).0

pub loop-leaf-preserved : goal.loop-leaf-preserved
loop-leaf-preserved g c =
    let inv = c.loop-leaf.invariant in
    let leaves = c.args.engine.now.hub.dir.leaves in
    let leaf = c.in-Some.leaf.now in
    let rest = c.next_leaf.new.self in
    let split : leaves_of c.args.table leaves ≡ inv.front ++ leaf ∷ rest = inv.all ∙ ap (λ (l : List Leaf). inv.front ++ l) c.in-Some.ensures.after in
    record {
      held = c.take_leaf.ensures.held;
      trees = c.take_leaf.ensures.trees ∙ inv.trees;
      disk = same_disk_then g.D.Disk c.args.disk.now c.loop-leaf.disk c.take_leaf.new.disk inv.disk c.take_leaf.ensures.disk;
      ready = λ h. c.in_ok-take_leaf.ensures.ready (sym c.take_leaf.ensures.disk.same ∙ h);
      front = inv.front ++ leaf ∷ [];
      all = split ∙ sym (append_assoc inv.front (leaf ∷ []) rest);
      drafts = λ h n moment i t at number stood old first may has follows device.
          c.in_ok-take_leaf.ensures.drafts (inv.disk.same ∙ h) n moment i t at ((leaf_next c.args.table leaves inv.front leaf rest split).1 ∙ sym number) stood old first c.args.blocks.now c.args.disk.now c.args.taken.now.parts.items c.args.taken.now.captured.items inv.front rest
          may has follows device (ap (λ (k : ℕ). leaves_of k leaves) number ∙ split) (inv.drafts h n moment i t at number stood old first may has follows device);
    }

pub returns-clause-drafts : goal.returns-clause-drafts
returns-clause-drafts g c h n moment i t at number stood old first may has follows device =
    let inv = c.loop-leaf.invariant in
    let leaves = c.args.engine.now.hub.dir.leaves in
    let had = known_in c.args.was.parts.now in
    let whole : leaves_of c.args.table leaves ≡ inv.front = inv.all ∙ (ap (λ (l : List Leaf). inv.front ++ l) c.in_default.ensures.ends ∙ append-nil inv.front) in
    subst (λ (m : List Leaf). Drafting g.D.Disk old first leaves had n c.args.table c.args.blocks.now c.loop-leaf.blocks c.args.taken.now.parts.items c.loop-leaf.taken.parts.items c.args.taken.now.captured.items c.loop-leaf.taken.captured.items c.args.disk.now c.loop-leaf.disk m c.loop-leaf.draft) (sym whole)
    (subst (λ (k : ℕ). Drafting g.D.Disk old first leaves had n k c.args.blocks.now c.loop-leaf.blocks c.args.taken.now.parts.items c.loop-leaf.taken.parts.items c.args.taken.now.captured.items c.loop-leaf.taken.captured.items c.args.disk.now c.loop-leaf.disk inv.front c.loop-leaf.draft) number (inv.drafts h n moment i t at number stood old first may has follows device))

pub returns-in_err-take_leaf-clause-drafts : goal.returns-in_err-take_leaf-clause-drafts
returns-in_err-take_leaf-clause-drafts g c h n moment i t at number stood old first may has follows device =
    let inv = c.loop-leaf.invariant in
    let leaves = c.args.engine.now.hub.dir.leaves in
    let had = known_in c.args.was.parts.now in
    let leaf = c.in-Some.leaf.now in
    let rest = c.next_leaf.new.self in
    let split : leaves_of c.args.table leaves ≡ inv.front ++ leaf ∷ rest = inv.all ∙ ap (λ (l : List Leaf). inv.front ++ l) c.in-Some.ensures.after in
    let p = err_from_is_err_and c.from_residual.result c.from_residual.ensures.1 in
    rw (p.1, p.2) (subst (λ (k : ℕ). DraftStopped g.D.Disk old first leaves had n k c.args.blocks.now c.take_leaf.new.blocks c.args.taken.now.parts.items c.take_leaf.new.taken.parts.items c.args.taken.now.captured.items c.take_leaf.new.taken.captured.items c.args.disk.now c.take_leaf.new.disk c.in_err-take_leaf.field-0.0) number
    (c.in_err-take_leaf.ensures.drafts (inv.disk.same ∙ h) n moment i t at ((leaf_next c.args.table leaves inv.front leaf rest split).1 ∙ sym number) stood old first c.args.blocks.now c.args.disk.now c.args.taken.now.parts.items c.args.taken.now.captured.items inv.front rest
    may has follows device (ap (λ (k : ℕ). leaves_of k leaves) number ∙ split) (inv.drafts h n moment i t at number stood old first may has follows device)))
