use Rattle.std.proofs.Common.{◌∙◌, ◌++◌, ap, sym, subst, List}
use Rattle.reconcile.specs.declared.image.Moved.{Moved}
use Rattle.evict_step.specs.Backs.{AllFit}
use Rattle.evict_step.specs.declared.fresh.Fresh.{Fresh}
use Rattle.evict_step.specs.Kept.{Lists, fresh_of, list_of, lists_in}
use Rattle.evict_step.proofs.FreshLists.{list_fresh}
use Rattle.evict_step.proofs.kept.Kept.copy_of.Goals as goal

pub returns-clause-is : goal.returns-clause-is
returns-clause-is c =
    let listed = list_of (lists_in c.self.inside.by_leaf.entries) c.args.leaf in
    c.in_ok-copy_fresh.ensures
    ∙ (ap (λ (l : List Moved). l ++ fresh_of c.deref.result.now c.args.leaf) c.in_ok-copies.ensures
    ∙ (ap (λ (f : List Fresh). listed ++ fresh_of f c.args.leaf) c.deref.ensures.value
    ∙ (sym (list_fresh c.self.inside.fresh.items (lists_in c.self.inside.by_leaf.entries) c.args.leaf) ∙ ap (λ (l : Lists). list_of l c.args.leaf) c.self.view_is)))

pub returns-clause-fit : goal.returns-clause-fit
returns-clause-fit c =
    let listed = list_of (lists_in c.self.inside.by_leaf.entries) c.args.leaf in
    subst AllFit (sym (c.in_ok-copy_fresh.ensures
    ∙ (ap (λ (l : List Moved). l ++ fresh_of c.deref.result.now c.args.leaf) c.in_ok-copies.ensures
    ∙ (ap (λ (f : List Fresh). listed ++ fresh_of f c.args.leaf) c.deref.ensures.value
    ∙ sym (list_fresh c.self.inside.fresh.items (lists_in c.self.inside.by_leaf.entries) c.args.leaf))))) (c.self.invariant c.args.leaf)
