use Rattle.stored.proofs.Exact.{record_exact}
use Rattle.stored.proofs.one_record.Goals as goal

pub returns : goal.returns
returns c = record_exact
