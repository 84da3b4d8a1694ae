use Rattle.ckpt_content.proofs.EmptyHistories.{empty_histories_serve}
use Rattle.ckpt_content.proofs.laws.empty_histories_serve.Goals as goal

pub returns : goal.returns
returns c = empty_histories_serve
