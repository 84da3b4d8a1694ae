use Rattle.std.proofs.Common.{◌∙◌, ap}
use Rattle.reconcile.specs.Held.{is_past}
use Rattle.reconcile.specs.Moving.{versions_in}
use Rattle.evict_step.proofs.MovedFit.{moved-fit}
use Rattle.hist_gather.specs.Sources.{sees}
use Rattle.hist_gather.proofs.Leaves.{none_moved}
use Rattle.hist_gather.proofs.leaf.moved_in.Goals as goal

pub returns-then-not-is_changed-clause-are : goal.returns-then-not-is_changed-clause-are
returns-then-not-is_changed-clause-are c = λ key. ap (versions_in key) c.new.ensures.items ∙ none_moved c.args.from c.args.frame.now key (c.if-not-is_changed.ensures key)

pub returns-clause-fit : goal.returns-clause-fit
returns-clause-fit c =
    moved-fit (sees c.args.from.snapshot.now.sight) (is_past c.args.from.horizon.pin c.args.from.horizon.floor) c.args.frame.now.page c.args.frame.now.chains c.in_ok-made.made.moved.items c.page-page.ensures.fit c.requires c.in_ok-made.ensures.moved
