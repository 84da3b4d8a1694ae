use Rattle.std.proofs.Common.{rules}
use Rattle.std.proofs.lemmas.Fn.{filter_same}
use Rattle.kept_open.proofs.order.keep_seen.Goals as goal

pub returns : goal.returns
returns c = filter_same _ _ _ (λ f b f' k. search rules) _ _ c.retain.ensures.filtered
