use Rattle.reconcile.specs.Shows.{shown_at}
use Rattle.leaf_chains.specs.Slots.{chain_at}
use Rattle.std.proofs.Common.{◌∙◌}
use Rattle.frame_capture.proofs.Keeping.{found_over}
use Rattle.frame_capture.proofs.laws.reconciled_rows_are_captured.Goals as goal

pub returns : goal.returns
returns c = λ live s leaf rows same is. record { fit = is.fit; shows = λ key. is.shows key ∙ found_over s live same (chain_at key leaf.chains) (shown_at key leaf.page) }
