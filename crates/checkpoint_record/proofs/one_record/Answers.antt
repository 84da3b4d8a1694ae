use Rattle.checkpoint_record.proofs.Blocks.{one_block}
use Rattle.checkpoint_record.proofs.one_record.Goals as goal

pub returns : goal.returns
returns c = one_block
