use Rattle.ckpt_step.proofs.Staying.{grounds_stay}
use Rattle.ckpt_step.proofs.laws.grounds_stay.Goals as goal

pub returns : goal.returns
returns g c disk = grounds_stay (g.D.Disk.seen disk) (g.D.Disk.may_leave disk)
