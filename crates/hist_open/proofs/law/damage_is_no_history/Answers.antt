use Rattle.hist_open.proofs.TreeLeaves.{spoilt_no_history}
use Rattle.hist_open.proofs.law.damage_is_no_history.Goals as goal

pub returns : goal.returns
returns c bytes root at want found spoils t has = spoilt_no_history bytes root at want found t spoils has
