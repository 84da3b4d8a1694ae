use Rattle.script_text.proofs.WordLemmas.{no-byte-yet, word-more, word-ends}
use Rattle.script_text.proofs.words.word_len.Goals as goal

pub loop-i-init : goal.loop-i-init
loop-i-init c = no-byte-yet c.args.text.now

pub loop-i-preserved : goal.loop-i-preserved
loop-i-preserved c = word-more c.args.text.now c.loop-i.i c.loop-i-test.true c.if-b-eq32.false c.loop-i.invariant

pub returns-then-b-eq32-clause-words : goal.returns-then-b-eq32-clause-words
returns-then-b-eq32-clause-words c = word-ends c.args.text.now c.loop-i.i c.loop-i-test.true c.if-b-eq32.true c.loop-i.invariant
