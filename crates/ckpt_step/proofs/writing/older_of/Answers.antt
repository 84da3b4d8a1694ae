use Rattle.ckpt_step.proofs.GatheredHistory.{history_then}
use Rattle.ckpt_step.proofs.Putting.{if_ok_map}
use Rattle.ckpt_step.proofs.writing.older_of.Goals as goal

pub returns : goal.returns
returns c = if_ok_map c.leaves_of.result c.leaves_of.ensures (λ leaves is. (
  is.records,
  record { cut = is.cut; ascend = is.are.ascend; once = is.are.once },
  (λ n floor fin keeps. history_then c.args.engine.now c.args.running.now floor n fin c.in_ok-older.older is.records is.are
      (c.in_ok-older.ensures.taken n.world n.checkpoint fin.stands keeps fin.runs fin.is) (c.in_ok-older.ensures.known n.world n.checkpoint fin.stands fin.runs fin.is)),
))

pub leaves_of-requires : goal.leaves_of-requires
leaves_of-requires c = c.in_ok-older.ensures.fit
