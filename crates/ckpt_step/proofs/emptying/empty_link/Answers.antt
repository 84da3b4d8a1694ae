use Rattle.std.proofs.Common.{◌∙◌, ap, sym}
use Rattle.tree_dir.specs.declared.leaf.Leaf.{Leaf}
use Rattle.tree_dir.specs.Leaves.{Directory, leaf_named}
use Rattle.ckpt_step.proofs.emptying.empty_link.Goals as goal

pub returns-then-is_rowless : goal.returns-then-is_rowless
returns-then-is_rowless c = (
  c.in-Some.found.now,
  sym (c.in-Some.ensures ∙ ap (λ (x : Directory). leaf_named c.args.leaf x.leaves) c.leaves.ensures.are),
  ap (λ (x : Leaf). x.entry.link) c.found.view_is,
  record {
    dead = c.is_rowless.ensures.dead c.if-is_rowless.true;
    link = c.is_rowless.ensures.link c.if-is_rowless.true;
    part = c.is_rowless.ensures.part c.if-is_rowless.true;
    placed = c.is_rowless.ensures.placed c.if-is_rowless.true;
  },
)
