use Rattle.std.proofs.Common.{◌∙◌, ap, length, take}
use Rattle.std.specs.Ordering.{is_eq}
use Rattle.std.proofs.lemmas.Map.Text.{is_eq-slice_cmp}
use Rattle.leaf_chains.proofs.heads.begins.Goals as goal

pub returns : goal.returns
returns c = c.is_eq.ensures ∙ (ap is_eq c.order.ensures ∙ is_eq-slice_cmp (take (length c.args.front.now) c.args.key.now) c.args.front.now)
