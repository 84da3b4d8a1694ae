use Rattle.std.proofs.Common.{◌≡◌, ◌∙◌, ap, sym, Some, None}
use Rattle.evict_step.proofs.KeptLists.{found_at, items_in, list_found}
use Rattle.evict_step.proofs.kept.copy_listed.Goals as goal

pub returns-in_ok-copies-in-Some : goal.returns-in_ok-copies-in-Some
returns-in_ok-copies-in-Some c =
    let es = c.args.by_leaf.now.entries in
    let at : found_at es c.args.leaf ≡ Some c.in-Some.moved.now = sym c.in-Some.ensures.value in
    c.in_ok-copies-in-Some.ensures ∙ (c.deref.ensures.value ∙ sym (list_found es c.args.leaf ∙ ap items_in at))

pub returns-in-None : goal.returns-in-None
returns-in-None c =
    let es = c.args.by_leaf.now.entries in
    let at : found_at es c.args.leaf ≡ None = sym c.in-None.ensures.value in
    c.new.ensures.items ∙ sym (list_found es c.args.leaf ∙ ap items_in at)
