use Rattle.dump_text.proofs.Taking.{no_key_no_end}
use Rattle.dump_text.proofs.reader.DumpReader.rows_form.Goals as goal

pub returns-in_default : goal.returns-in_default
returns-in_default c = no_key_no_end c.args.self.now.next (λ form formats is. c.in_default.not-Key form formats is)
