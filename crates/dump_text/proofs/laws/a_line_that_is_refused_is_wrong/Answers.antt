use Rattle.dump_text.proofs.DumpRuns.{wrong-line}
use Rattle.dump_text.proofs.laws.a_line_that_is_refused_is_wrong.Goals as goal

pub returns : goal.returns
returns c = λ lines more line reader said dump read none is. wrong-line lines more line reader said dump read none is
