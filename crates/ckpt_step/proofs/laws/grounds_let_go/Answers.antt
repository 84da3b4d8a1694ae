use Rattle.ckpt_step.proofs.LettingGo.{grounds_let_go}
use Rattle.ckpt_step.proofs.laws.grounds_let_go.Goals as goal

pub returns : goal.returns
returns g c disk = grounds_let_go (g.D.Disk.seen disk) (g.D.Disk.may_leave disk)
