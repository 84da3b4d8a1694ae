use Rattle.std.proofs.Common.{◌<◌, ℕ, arith, subst, sym}
use Rattle.std.proofs.lemmas.Result.{IfOk-weaker}
use Rattle.kv_model.specs.History.{Table}
use Rattle.snapshot.specs.Sight.{Sight}
use Rattle.txn_table.specs.Checkpoints.{EndedIsSeen}
use Rattle.ckpt_content.specs.Finished.{tables_then}
use Rattle.hist_gather.proofs.Known.{has_member}
use Rattle.hist_gather.proofs.Then.{place_then}
use Rattle.hist_gather.proofs.gathering.gather.Goals as goal

pub returns-clause-taken : goal.returns-clause-taken
returns-clause-taken c = IfOk-weaker c.gather_from.result _ _
    (λ slots taken w k stands keeps runs is. taken w k stands keeps runs is.ended is.tables c.in_ok-snapshot.ensures.sight (record {
      ended = subst (λ (s : Sight). EndedIsSeen w.machine s) (sym c.in_ok-snapshot.ensures.sight) (c.ended_are_seen.ensures c.args.engine.now.hub.txns w.machine stands.valid stands.txns);
      past = c.horizon.ensures.past w stands (k, runs, is);
    }))
    c.gather_from.ensures.taken

pub returns-clause-known : goal.returns-clause-known
returns-clause-known c = IfOk-weaker c.gather_from.result _ _
    (λ slots known w k stands runs is. known (tables_then w.machine k) (λ place low t at.
    has_member (tables_then w.machine k) t (place_then w.machine k c.args.engine.now.hub.tables.tables stands.valid runs stands.made place t (omega (arith, low, is.tables)) at)))
    c.gather_from.ensures.known
