use Rattle.std.proofs.Common.{◌∙◌, [], ap}
use Rattle.std.specs.Prelude.{◌==◌, if◌then◌else◌}
use Rattle.evict_step.specs.Kept.{Lists, list_of, lists_in, with_fresh}
use Rattle.evict_step.proofs.FreshLists.{put_with}
use Rattle.evict_step.proofs.KeptLists.{all_fit, list_gone}
use Rattle.evict_step.proofs.kept.Kept.forget.Goals as goal

pub returns : goal.returns
returns c =
    let es = c.self.inside.by_leaf.entries in
    let next = c.remove.new.self.entries in
    λ id.
    put_with c.self.inside.fresh.items c.drop_of.new.fresh.items es next c.args.leaf [] c.drop_of.ensures (list_gone es next c.args.leaf c.remove.ensures.updates.0) id
    ∙ ap (λ (l : Lists). if id == c.args.leaf then [] else list_of l id) c.self.view_is

pub invariant_of-self : goal.invariant_of-self
invariant_of-self c =
    let fresh = c.self.inside.fresh.items in
    let es = c.self.inside.by_leaf.entries in
    let next = c.remove.new.self.entries in
    all_fit (with_fresh fresh (lists_in es)) (with_fresh c.drop_of.new.fresh.items (lists_in next)) c.args.leaf [] c.self.invariant tt
    (put_with fresh c.drop_of.new.fresh.items es next c.args.leaf [] c.drop_of.ensures (list_gone es next c.args.leaf c.remove.ensures.updates.0))
