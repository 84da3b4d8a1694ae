use Rattle.reconcile.proofs.Cutting.{finished}
use Rattle.reconcile.proofs.images.Images.finish.Goals as goal

pub returns : goal.returns
returns c = finished c.args.self c.close.new.done.items c.in_ok-close.ensures
