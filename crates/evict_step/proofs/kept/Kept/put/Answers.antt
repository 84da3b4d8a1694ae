use Rattle.std.proofs.Common.{◌∙◌, ap}
use Rattle.std.specs.Prelude.{◌==◌, if◌then◌else◌}
use Rattle.evict_step.specs.Kept.{Lists, list_of, lists_in, with_fresh}
use Rattle.evict_step.proofs.FreshLists.{put_with}
use Rattle.evict_step.proofs.KeptLists.{all_fit, list_put}
use Rattle.evict_step.proofs.kept.Kept.put.Goals as goal

pub returns-in-Ok-clause-kept : goal.returns-in-Ok-clause-kept
returns-in-Ok-clause-kept c =
    let es = c.self.inside.by_leaf.entries in
    let next = c.insert.new.self.entries in
    λ id.
    put_with c.self.inside.fresh.items c.drop_of.new.fresh.items es next c.args.leaf c.args.moved.items c.drop_of.ensures (list_put es next c.args.leaf c.args.moved c.in-Ok.ensures.updates.0) id
    ∙ ap (λ (l : Lists). if id == c.args.leaf then c.args.moved.items else list_of l id) c.self.view_is

pub invariant_of-self : goal.invariant_of-self
invariant_of-self c =
    let fresh = c.self.inside.fresh.items in
    let es = c.self.inside.by_leaf.entries in
    let next = c.insert.new.self.entries in
    all_fit (with_fresh fresh (lists_in es)) (with_fresh c.drop_of.new.fresh.items (lists_in next)) c.args.leaf c.args.moved.items c.self.invariant c.requires.fit
    (put_with fresh c.drop_of.new.fresh.items es next c.args.leaf c.args.moved.items c.drop_of.ensures (list_put es next c.args.leaf c.args.moved c.in-Ok.ensures.updates.0))
