use Rattle.script_text.proofs.SpokenLines.{one-line}
use Rattle.script_text.proofs.laws.a_line_asks_for_one_thing.Goals as goal

pub returns : goal.returns
returns c = one-line
