use Rattle.disk_model.proofs.Crash.{started, goes_on}
use Rattle.disk_model.specs.Laws.{torn_none}
use Rattle.disk_model.proofs.steps.write_synced.Goals as goal

pub returns-in-Err-clause-leaves : goal.returns-in-Err-clause-leaves
returns-in-Err-clause-leaves g c =
    goes_on g.D.Disk _ _ _ _ (started g.D.Disk c.args.disk.now _ (λ d left. (d, g.met.D.Disk.only_now _ d left, torn_none _ _ d))) c.write_at.ensures.time (λ d left. c.write_at.ensures.crash d left)

pub returns-in-Err-sync-clause-leaves : goal.returns-in-Err-sync-clause-leaves
returns-in-Err-sync-clause-leaves g c =
    goes_on g.D.Disk _ _ _ _ (goes_on g.D.Disk _ _ _ _ (started g.D.Disk c.args.disk.now _ (λ d left. (d, g.met.D.Disk.only_now _ d left, torn_none _ _ d))) c.write_at.ensures.time (λ d left. c.write_at.ensures.crash d left)) c.sync.ensures.time (λ d left. c.write_at.ensures.crash d (c.sync.ensures.crash d left))

pub returns-in-Ok-sync-clause-leaves : goal.returns-in-Ok-sync-clause-leaves
returns-in-Ok-sync-clause-leaves g c =
    goes_on g.D.Disk _ _ _ _ (goes_on g.D.Disk _ _ _ _ (started g.D.Disk c.args.disk.now _ (λ d left. (d, g.met.D.Disk.only_now _ d left, torn_none _ _ d))) c.write_at.ensures.time (λ d left. c.write_at.ensures.crash d left)) c.sync.ensures.time (λ d left. c.write_at.ensures.crash d (c.sync.ensures.crash d left))
