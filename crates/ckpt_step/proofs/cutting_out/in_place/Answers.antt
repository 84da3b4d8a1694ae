use Rattle.std.proofs.Common.{◌∙◌, List, sym, ap, subst}
use Rattle.std.specs.Borrow.{Bor}
use Rattle.std.specs.Prelude.{IfSome, option_map}
use Rattle.reconcile.specs.declared.image.Image.{Image}
use Rattle.reconcile.specs.Images.{AreImages}
use Rattle.stored.specs.TableTree.{Entry}
use Rattle.ckpt_step.specs.CutOuts.{AreAhead}
use Rattle.tree_dir.specs.declared.leaf.Leaf.{Leaf}
use Rattle.tree_dir.specs.Leaves.{Directory, leaf_behind, leaf_named}
use Rattle.ckpt_step.proofs.OutCuts.{next_ahead}
use Rattle.ckpt_step.proofs.cutting_out.in_place.Goals as goal

pub returns-clause-place : goal.returns-clause-place
returns-clause-place c rows are fit = record {
  leaf = c.in-Some.found.now;
  there = sym (c.in-Some.ensures ∙ ap (λ (x : Directory). leaf_named c.args.leaf x.leaves) c.leaves.ensures.are);
  table = ap (λ (x : Leaf). x.table) c.found.view_is;
  low = c.in_ok-low.ensures ∙ ap (λ (x : Leaf). x.entry.key) c.found.view_is;
  are = are;
  fit = fit;
  some = c.requires;
  short = c.may_stand.ensures.short c.if-not-may_stand.false;
  from = c.may_stand.ensures.from c.if-not-may_stand.false rows (subst (λ (l : List Image). AreImages l rows) (sym c.deref.ensures.value) are) fit;
  ahead = subst (λ (l : List Image). IfSome (leaf_behind c.args.leaf c.args.engine.now.hub.dir.leaves) (λ n. AreAhead c.in_ok-low.low l n.entry.key)) c.deref.ensures.value
      (next_ahead c.in_ok-low.low c.deref.result.now (leaf_behind c.args.leaf c.args.engine.now.hub.dir.leaves) (option_map (λ (e : Bor Entry). e.now) c.behind.result)
      (c.behind.ensures ∙ ap (λ (x : Directory). option_map (λ (l : Leaf). l.entry) (leaf_behind c.args.leaf x.leaves)) c.leaves-2.ensures.are) (c.may_stand.ensures.ahead c.if-not-may_stand.false));
}
