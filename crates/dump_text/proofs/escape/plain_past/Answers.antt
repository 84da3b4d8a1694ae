use Rattle.dump_text.proofs.PlainLanes.{past_plain, past_within}
use Rattle.dump_text.proofs.escape.plain_past.Goals as goal

pub returns-clause-within : goal.returns-clause-within
returns-clause-within c = past_within c.args.bytes.now _ c.args.known c.plain_eights.result c.requires.within c.split_at.ensures.back c.plain_eights.ensures.within

pub returns-clause-plain : goal.returns-clause-plain
returns-clause-plain c = past_plain c.args.bytes.now _ c.args.known c.plain_eights.result c.requires.plain c.split_at.ensures.back c.plain_eights.ensures.plain
