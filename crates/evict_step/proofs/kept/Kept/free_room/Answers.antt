use Rattle.std.proofs.Common.{◌≡◌, ◌∙◌, [], List, ap, subst, sym}
use Rattle.evict_step.specs.declared.fresh.Fresh.{Fresh}
use Rattle.evict_step.specs.Kept.{AllListsFit, lists_in, with_fresh}
use Rattle.evict_step.proofs.KeptLists.{is_none}
use Rattle.evict_step.proofs.kept.Kept.free_room.Goals as goal

pub returns : goal.returns
returns c =
    let fresh = c.self.inside.fresh in
    let none : fresh.items ≡ [] = is_none fresh.items fresh.len (sym fresh.ok.0) (sym c.is_empty.ensures ∙ c.if-not-is_empty.false) in
    ap (λ (f : List Fresh). with_fresh f (lists_in c.self.inside.by_leaf.entries)) (c.new.ensures.items ∙ sym none) ∙ c.self.view_is

pub invariant_of-self : goal.invariant_of-self
invariant_of-self c =
    let fresh = c.self.inside.fresh in
    let none : fresh.items ≡ [] = is_none fresh.items fresh.len (sym fresh.ok.0) (sym c.is_empty.ensures ∙ c.if-not-is_empty.false) in
    subst (λ (f : List Fresh). AllListsFit (with_fresh f (lists_in c.self.inside.by_leaf.entries))) (sym (c.new.ensures.items ∙ sym none)) c.self.invariant
