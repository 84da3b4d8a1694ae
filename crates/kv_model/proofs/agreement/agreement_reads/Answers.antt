use Rattle.kv_model.proofs.StoreLists.{agreement-reads}
use Rattle.kv_model.proofs.agreement.agreement_reads.Goals as goal

pub returns : goal.returns
returns c = agreement-reads
