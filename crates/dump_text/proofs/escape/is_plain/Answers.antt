use Rattle.dump_text.proofs.PlainLanes.{plain_bytes}
use Rattle.dump_text.proofs.escape.is_plain.Goals as goal

pub returns : goal.returns
returns c = λ none.
    plain_bytes c.args.chunk.now (c.none_below.ensures c.if-not-none_below.false) (c.none_above.ensures c.if-not-none_above.false) (c.none_is.ensures none)
