use Rattle.std.proofs.Common.{subst, sym}
use Rattle.kv_model.specs.Reads.{ReadAnswer}
use Rattle.kv_plain.specs.Machine.{transaction_in, machine_in}
use Rattle.kv_plain.proofs.Choosing.{read-answers}
use Rattle.kv_plain.proofs.reads.read.Goals as goal

pub returns-clause-answers : goal.returns-clause-answers
returns-clause-answers c =
    subst (ReadAnswer (machine_in c.args.m.now) c.args.session (transaction_in c.args.t.now) c.args.table c.args.key.now) (sym c.chosen_read.ensures)
    (read-answers (machine_in c.args.m.now) c.args.session (transaction_in c.args.t.now) c.args.table c.args.key.now)
