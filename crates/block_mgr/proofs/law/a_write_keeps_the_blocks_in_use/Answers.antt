use Rattle.block_mgr.proofs.HasLemmas.{spot_keeps}
use Rattle.block_mgr.proofs.law.a_write_keeps_the_blocks_in_use.Goals as goal

pub returns : goal.returns
returns c = spot_keeps
