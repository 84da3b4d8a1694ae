use Rattle.kept_open.proofs.ReadRecords.{read_fit}
use Rattle.kept_open.proofs.laws.read_histories_fit.Goals as goal

pub returns : goal.returns
returns c = read_fit
