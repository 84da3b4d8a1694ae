use Rattle.ckpt_content.proofs.WrittenHistories.{written_histories_serve}
use Rattle.ckpt_content.proofs.laws.written_histories_serve.Goals as goal

pub returns : goal.returns
returns c = written_histories_serve
