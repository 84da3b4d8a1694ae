use Rattle.ckpt_content.proofs.TakenBefore.{taken_before_serves}
use Rattle.ckpt_content.proofs.laws.rows_taken_before_serve.Goals as goal

pub returns : goal.returns
returns c = taken_before_serves
