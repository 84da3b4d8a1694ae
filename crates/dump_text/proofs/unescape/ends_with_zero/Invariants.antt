use Rattle.std.proofs.Common.{◌≡◌, length, option_map, false}
use Rattle.item.specs.Escapes.{unescaped}
use Rattle.dump_text.specs.Zeros.{zero_behind}
use Rattle.dump_text.proofs.unescape.ends_with_zero.Given as goal

abbrev pub invariant-runs : goal.invariant-runs
invariant-runs l = option_map (zero_behind false) (unescaped l.text) ≡ option_map (zero_behind l.zero) (unescaped l.rest)

abbrev pub decreases-runs : goal.decreases-runs
decreases-runs l = length l.rest
