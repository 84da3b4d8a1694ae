use Rattle.std.proofs.Common.{◌∙◌}
use Rattle.byte_order.proofs.Settled.{eight_are}
use Rattle.leaf_chains.proofs.heads.word_at.Goals as goal

pub returns : goal.returns
returns c = c.from_be_bytes.ensures ∙ eight_are c.args.s.now c.args.i c.requires
