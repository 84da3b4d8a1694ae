use Rattle.std.proofs.Common.{◌≡◌, ◌≤◌, List, [], length, subst}
use Rattle.std.specs.Prelude.{IfOk}
use Rattle.reconcile.specs.declared.image.Moved.{Moved}
use Rattle.reconcile.specs.Moving.{versions_in}
use Rattle.engine_world.specs.Coming.{ComesFrom}
use Rattle.evict_step.specs.Backs.{AreNewestFirst}
use Rattle.evict_step.proofs.back.bring_back.Goals as goal

pub returns-clause-comes : goal.returns-clause-comes
returns-clause-comes c =
    subst (λ (l : List Moved). IfOk c.bring_others.result (λ leaf. AreNewestFirst c.args.read.page l → ComesFrom leaf c.args.read.page (λ key. versions_in key l))) c.drop_again.ensures.is c.bring_others.ensures.comes

pub returns-clause-alone : goal.returns-clause-alone
returns-clause-alone c = subst (λ (l : List Moved). IfOk c.bring_others.result (λ leaf. AreNewestFirst c.args.read.page l → 1 ≤ length leaf.page → l ≡ [])) c.drop_again.ensures.is c.bring_others.ensures.alone
