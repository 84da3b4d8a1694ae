use Rattle.ckpt_content.proofs.CheckpointsOpen.{checkpoints_open, read_checkpoints_open}
use Rattle.ckpt_content.proofs.laws.checkpoints_open.Goals as goal

pub returns-clause-regular : goal.returns-clause-regular
returns-clause-regular c = checkpoints_open

pub returns-clause-read : goal.returns-clause-read
returns-clause-read c = read_checkpoints_open c.what_is_read_is_regular.ensures
