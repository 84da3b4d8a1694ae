use Rattle.std.proofs.Common.{refl}
use Rattle.kv_plain.specs.Machine.{machine_in}
use Rattle.kv_plain.specs.Outcome.{decision_in}
use Rattle.kv_plain.proofs.Calling.{evicts}
use Rattle.kv_plain.proofs.calls.evict.Goals as goal

pub returns : goal.returns
returns c around = (evicts (machine_in c.args.m) c.args.table.now c.args.key.now (decision_in c.decide_evict-outcome.result) c.decide_evict-outcome.ensures, refl)
