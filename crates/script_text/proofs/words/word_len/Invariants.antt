use Rattle.std.proofs.Common.{◌≡◌, take, drop}
use Rattle.script_text.specs.Words.{words_of}
use Rattle.script_text.proofs.WordLemmas.{on_front}
use Rattle.script_text.proofs.words.word_len.Given as goal

abbrev pub invariant-loop-i : goal.invariant-loop-i
invariant-loop-i l = words_of l.text ≡ on_front (take l.i l.text) (words_of (drop l.i l.text))
