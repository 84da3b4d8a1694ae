use Rattle.dump_text.proofs.WrittenDumps.{text-one-way}
use Rattle.dump_text.proofs.laws.a_text_has_one_list_of_lines.Goals as goal

pub returns : goal.returns
returns c = λ lines others one two e. text-one-way lines others one two e
