use Rattle.dump_text.proofs.DumpRuns.{line-more}
use Rattle.dump_text.proofs.laws.a_line_is_read_behind_others.Goals as goal

pub returns : goal.returns
returns c = λ lines line old new said last read takes. line-more lines line old new said last read takes
