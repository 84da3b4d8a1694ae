use Rattle.std.proofs.Common.{subst, sym}
use Rattle.kv_plain.specs.Machine.{transaction_in, machine_in}
use Rattle.kv_plain.specs.Choices.{MayWriteUnless}
use Rattle.kv_plain.proofs.Choosing.{write-answers}
use Rattle.kv_plain.proofs.reads.write_refusal.Goals as goal

pub returns-clause-answers : goal.returns-clause-answers
returns-clause-answers c =
    subst (MayWriteUnless (machine_in c.args.m.now) c.args.session (transaction_in c.args.t.now) c.args.table c.args.key.now) (sym c.chosen_refusal.ensures)
    (write-answers (machine_in c.args.m.now) c.args.session (transaction_in c.args.t.now) c.args.table c.args.key.now)
