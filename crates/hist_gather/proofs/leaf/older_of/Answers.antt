use Rattle.std.proofs.lemmas.Result.{IfOk-weaker}
use Rattle.hist_gather.proofs.Leaves.{older_kept, older_moved}
use Rattle.hist_gather.proofs.leaf.older_of.Goals as goal

pub returns-in-None-clause-are : goal.returns-in-None-clause-are
returns-in-None-clause-are c = IfOk-weaker c.copy_of.result _ _ (λ older is. older_kept c.args.from c.args.leaf.now older.items c.in-None.ensures.is is) c.copy_of.ensures.is

pub returns-in-Some-clause-are : goal.returns-in-Some-clause-are
returns-in-Some-clause-are c = IfOk-weaker c.moved_in.result _ _ (λ older are. older_moved c.args.from c.args.leaf.now c.in-Some.frame.now older.items c.in-Some.ensures.is are) c.moved_in.ensures.are
