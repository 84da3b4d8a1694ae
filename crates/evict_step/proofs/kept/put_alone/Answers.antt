use Rattle.std.proofs.Common.{◌∙◌, ◌++◌, ◌∷◌, [], List, ap}
use Rattle.std.specs.Prelude.{◌==◌, if◌then◌else◌}
use Rattle.reconcile.specs.declared.image.Moved.{Moved}
use Rattle.evict_step.specs.Kept.{list_of, lists_in}
use Rattle.evict_step.proofs.KeptLists.{list_put}
use Rattle.evict_step.proofs.kept.put_alone.Goals as goal

pub returns-in-Ok-clause-put : goal.returns-in-Ok-clause-put
returns-in-Ok-clause-put c = λ id.
    let es = c.args.by_leaf.now.entries in
    list_put es c.insert.new.self.entries c.args.leaf c.push_behind.new.moved c.in-Ok.ensures.updates.0 id
    ∙ ap (λ (l : List Moved). if id == c.args.leaf then l else list_of (lists_in es) id) (c.in_ok-push_behind.ensures.pushed ∙ ap (λ (l : List Moved). l ++ c.args.one ∷ []) c.new-moved.ensures.items)
