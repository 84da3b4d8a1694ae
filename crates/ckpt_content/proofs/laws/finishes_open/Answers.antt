use Rattle.ckpt_content.proofs.FinishesOpen.{finishes_open, read_finishes_open}
use Rattle.ckpt_content.proofs.laws.finishes_open.Goals as goal

pub returns-clause-regular : goal.returns-clause-regular
returns-clause-regular c = finishes_open

pub returns-clause-read : goal.returns-clause-read
returns-clause-read c = read_finishes_open c.what_is_read_is_regular.ensures
