use Rattle.script_text.proofs.JoinedWords.{the-words}
use Rattle.script_text.proofs.laws.words_stand_between_single_spaces.Goals as goal

pub returns : goal.returns
returns c = the-words
