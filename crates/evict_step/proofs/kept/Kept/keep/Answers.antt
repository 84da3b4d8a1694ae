use Rattle.std.proofs.Common.{◌≡◌, ◌∙◌, subst, [], List}
use Rattle.reconcile.specs.declared.image.Moved.{Moved}
use Rattle.evict_step.specs.Kept.{KeepsAt}
use Rattle.evict_step.proofs.KeptLists.{is_none}
use Rattle.std.proofs.Common.{sym}
use Rattle.evict_step.proofs.kept.Kept.keep.Goals as goal

pub returns-then-is_empty-clause-kept : goal.returns-then-is_empty-clause-kept
returns-then-is_empty-clause-kept c =
    let none : c.args.moved.items ≡ [] = is_none c.args.moved.items c.args.moved.len (sym c.args.moved.ok.0) (sym c.is_empty.ensures ∙ c.if-is_empty.true) in
    subst (λ (l : List Moved). KeepsAt c.args.self.now c.forget.new.self c.args.leaf l) (sym none) c.forget.ensures

pub returns-in-Ok-clause-kept : goal.returns-in-Ok-clause-kept
returns-in-Ok-clause-kept c = λ id. c.settle.ensures id ∙ c.in-Ok.ensures.kept id
