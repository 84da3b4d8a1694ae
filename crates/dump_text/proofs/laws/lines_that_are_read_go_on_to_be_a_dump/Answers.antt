use Rattle.dump_text.proofs.FinishedDumps.{lines-go-on}
use Rattle.dump_text.proofs.laws.lines_that_are_read_go_on_to_be_a_dump.Goals as goal

pub returns : goal.returns
returns c = λ lines reader said read. lines-go-on lines reader said read
