use Rattle.hist_pages.proofs.Cutting.{closed_all}
use Rattle.hist_pages.proofs.leaves.Leaves.finish.Goals as goal

pub returns : goal.returns
returns c = closed_all c.args.self c.close.new.done.items c.in_ok-close.ensures
