use Rattle.std.proofs.Common.{◌∙◌, ap, sym}
use Rattle.tree_dir.specs.declared.leaf.Leaf.{Leaf}
use Rattle.tree_dir.specs.Leaves.{Directory, leaf_named}
use Rattle.ckpt_step.proofs.evicting.low_of.Goals as goal

pub returns-then-stand_from : goal.returns-then-stand_from
returns-then-stand_from c = record {
  leaf = c.in-Some.found.now;
  there = sym (c.in-Some.ensures ∙ ap (λ (x : Directory). leaf_named c.args.leaf x.leaves) c.leaves.ensures.are);
  is = c.in_ok-low.ensures ∙ ap (λ (x : Leaf). x.entry.key) c.found.view_is;
  short = c.may_begin_behind.ensures.short c.if-may_begin_behind.true;
  from = λ rows are fit. c.stand_from.ensures rows are fit c.if-stand_from.true;
}
