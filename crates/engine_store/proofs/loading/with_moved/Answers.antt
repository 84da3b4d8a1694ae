use Rattle.std.proofs.Common.{◌≡◌, ◌≤◌, [], List, length, subst}
use Rattle.std.specs.Prelude.{IfOk}
use Rattle.reconcile.specs.declared.image.Moved.{Moved}
use Rattle.reconcile.specs.Moving.{versions_in}
use Rattle.engine_world.specs.Coming.{ComesFrom}
use Rattle.evict_step.specs.Backs.{AreNewestFirst, unlike}
use Rattle.engine_store.proofs.loading.with_moved.Goals as goal

pub returns-clause-comes : goal.returns-clause-comes
returns-clause-comes c =
    let rows = c.args.read.page in
    subst (λ (moved : List Moved). IfOk c.bring_back.result (λ held. AreNewestFirst rows (unlike rows moved) → ComesFrom held rows (λ key. versions_in key (unlike rows moved)))) c.in_ok-moved.ensures.is c.bring_back.ensures.comes

pub returns-clause-alone : goal.returns-clause-alone
returns-clause-alone c =
    let rows = c.args.read.page in
    subst (λ (moved : List Moved). IfOk c.bring_back.result (λ held. AreNewestFirst rows (unlike rows moved) → 1 ≤ length held.page → unlike rows moved ≡ [])) c.in_ok-moved.ensures.is c.bring_back.ensures.alone
