use Rattle.std.proofs.Common.{◌≡◌, length}
use Rattle.script_text.specs.Words.{words_of, all_words}
use Rattle.script_text.proofs.words.is_parted.Given as goal

abbrev pub invariant-loop-behind : goal.invariant-loop-behind
invariant-loop-behind l = all_words (words_of l.rest) ≡ all_words (words_of l.line)

abbrev pub decreases-loop-behind : goal.decreases-loop-behind
decreases-loop-behind l = length l.rest
