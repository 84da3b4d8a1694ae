use Rattle.std.proofs.Common.{◌≡◌, ◌++◌, length, option_map}
use Rattle.item.specs.Escapes.{unescaped}
use Rattle.dump_text.proofs.unescape.item_in.Given as goal

abbrev pub invariant-runs : goal.invariant-runs
invariant-runs l = unescaped l.text ≡ option_map (λ bytes. l.out.items ++ bytes) (unescaped l.rest)

abbrev pub decreases-runs : goal.decreases-runs
decreases-runs l = length l.rest
