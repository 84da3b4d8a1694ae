use Rattle.dump_text.proofs.WrittenDumps.{row-behind}
use Rattle.dump_text.proofs.laws.rows_are_written_one_behind_the_other.Goals as goal

pub returns : goal.returns
returns c = λ form name formats rows row. row-behind form name formats rows row
