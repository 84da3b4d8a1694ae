use Rattle.verify_dev.proofs.Wholes.{verified}
use Rattle.verify_dev.proofs.verifying.verify.Goals as goal
use Rattle.verify_dev.proofs.verifying.verify.Goals.{in-Some-1, in-None-1}

pub returns-in-Ok-clause-ok : goal.returns-in-Ok-clause-ok
returns-in-Ok-clause-ok g c h = elim c.match-found.branch [
  | in-Some-1 w ↦ verified (g.D.Disk.seen c.args.disk.now) c.in-Ok.found (c.in-Ok.ensures.ok h)
  | in-None-1 w ↦ verified (g.D.Disk.seen c.args.disk.now) c.in-Ok.found (c.in-Ok.ensures.ok h)
]
