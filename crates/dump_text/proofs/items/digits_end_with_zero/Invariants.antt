use Rattle.std.proofs.Common.{◌≡◌, length, option_map, false}
use Rattle.dump_text.specs.Items.{item_on, pairs_of}
use Rattle.dump_text.specs.Zeros.{zero_behind}
use Rattle.dump_text.specs.declared.form.Form.TheVariants.{Hex}
use Rattle.dump_text.proofs.items.digits_end_with_zero.Given as goal

abbrev pub invariant-pairs : goal.invariant-pairs
invariant-pairs l = option_map (zero_behind false) (item_on Hex l.line) ≡ option_map (zero_behind l.zero) (pairs_of l.rest)

abbrev pub decreases-pairs : goal.decreases-pairs
decreases-pairs l = length l.rest
