use Rattle.std.proofs.Common.{List, sym, subst, IfSome}
use Rattle.stored.specs.TableTree.{Entry, first_key}
use Rattle.tree_write.specs.Drafts.{AreBelow}
use Rattle.tree_write.proofs.LeafKeys.{draft_closed, kept_behind}
use Rattle.tree_write.proofs.draft.TreeDraft.keep.Goals as goal

pub invariant_of-self : goal.invariant_of-self
invariant_of-self c =
    let es = c.self.inside.entries.items in
    draft_closed c.put_behind.result es c.args.part.items c.put_behind.new.entries.items c.put_behind.ensures.put c.put_behind.ensures.same c.self.invariant
    (kept_behind es c.args.part.items c.requires.climbs c.requires.fit (subst (λ (l : List Entry). IfSome (first_key c.args.part.items) (λ key. AreBelow key l)) (sym c.self.view_is) c.requires.above))
