use Rattle.ckpt_step.proofs.GivingWay.{grounds_give_way}
use Rattle.ckpt_step.proofs.laws.grounds_give_way.Goals as goal

pub returns : goal.returns
returns g c disk = grounds_give_way c.leaves_give_way.ensures (g.D.Disk.seen disk) (g.D.Disk.may_leave disk)
