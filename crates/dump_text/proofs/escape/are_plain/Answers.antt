use Rattle.dump_text.proofs.PlainLanes.{plain_bytes}
use Rattle.dump_text.proofs.escape.are_plain.Goals as goal

pub returns : goal.returns
returns c = λ none.
    plain_bytes c.args.chunk.now (c.eight_not_below.ensures c.if-not-eight_not_below.false) (c.eight_not_above.ensures c.if-not-eight_not_above.false) (c.eight_are_not.ensures none)
