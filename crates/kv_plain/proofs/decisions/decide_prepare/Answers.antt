use Rattle.std.proofs.Common.{◌∙◌, ap}
use Rattle.kv_model.specs.Decisions.{while_up}
use Rattle.kv_plain.specs.Machine.{machine_in}
use Rattle.kv_plain.proofs.decisions.decide_prepare.Goals as goal

pub returns : goal.returns
returns c = c.while_up.ensures ∙ ap (while_up (machine_in c.args.m.now)) c.judge_prepare.ensures
