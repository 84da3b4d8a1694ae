use Rattle.std.proofs.Common.{length}
use Rattle.config_text.specs.Items.{pairs_of}
use Rattle.config_text.proofs.ReadItems.{HasRead}
use Rattle.config_text.proofs.parse.items_in.Given as goal

abbrev pub invariant-loop-b : goal.invariant-loop-b
invariant-loop-b l = HasRead (pairs_of l.items.items) l.rest l.text

abbrev pub decreases-loop-b : goal.decreases-loop-b
decreases-loop-b l = length l.rest
