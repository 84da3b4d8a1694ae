use Rattle.std.proofs.Common.{sym, subst}
use Rattle.snapshot.specs.Sight.{Sight}
use Rattle.txn_table.specs.Checkpoints.{EndedIsSeen}
use Rattle.evict_step.proofs.Unended.{told-at}
use Rattle.evict_step.proofs.cut.unended_at.Goals as goal

pub returns : goal.returns
returns c =
    told-at c.args.engine.now c.args.leaf.now c.in_ok-live.live.sight c.unresolved_in.result c.unresolved_in.ensures.none c.unresolved_in.ensures.some
    (λ w st. (subst (λ (s : Sight). EndedIsSeen w.machine s) (sym c.in_ok-live.ensures.sight) (c.ended_are_seen.ensures c.args.engine.now.hub.txns w.machine st.valid st.txns), c.in_ok-live.ensures.unended w st))
