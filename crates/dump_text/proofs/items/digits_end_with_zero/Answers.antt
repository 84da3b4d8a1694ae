use Rattle.std.proofs.Common.{◌∙◌, ap, false, option_map, refl, sym}
use Rattle.dump_text.specs.Zeros.{zero_behind}
use Rattle.dump_text.proofs.EscapeRuns.{hex_pairs, pair_looked}
use Rattle.dump_text.proofs.items.digits_end_with_zero.Goals as goal

pub pairs-init : goal.pairs-init
pairs-init c = ap (option_map (zero_behind false)) (hex_pairs c.args.line.now)

pub pairs-preserved : goal.pairs-preserved
pairs-preserved c = pair_looked _ c.pairs.zero c.pairs.rest.now _ c.in-Some.b c.pairs.invariant c.in-len2-up.len_at_least refl (sym c.byte_of.ensures ∙ c.in-Some.is)
