use Rattle.std.proofs.Common.{◌≡◌, drop}
use Rattle.std.specs.Option.{option_map}
use Rattle.config_text.specs.Items.{first_there, last_value, pairs_of}
use Rattle.config_text.proofs.config_item.get.Given as goal

abbrev pub invariant-loop-item : goal.invariant-loop-item
invariant-loop-item l =
    last_value l.key (pairs_of l.items) ≡ first_there (last_value l.key (pairs_of (drop l.item-index l.items))) (option_map (λ v. v.now) l.found)
