use Rattle.std.proofs.Common.{◌≡◌, ◌∷◌, take}
use Rattle.std.specs.List.{flat_map}
use Rattle.device_leaf.specs.Damage.{record_found}
use Rattle.recover_open.specs.Damage.{upper_found}
use Rattle.recover_open.proofs.books.found_of.Given as goal

abbrev pub invariant-loop-upper : goal.invariant-loop-upper
invariant-loop-upper l = l.found.items ≡ record_found l.fn.slot ∷ flat_map upper_found (take l.upper-index l.uppers)
