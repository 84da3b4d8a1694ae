use Rattle.std.proofs.Common.{◌∙◌, ℕ, List, ap, sym}
use Rattle.reconcile.specs.Gathered.{slots_at}
use Rattle.leaf_frame.specs.Updates.{least_of, lesser}
use Rattle.leaf_frame.proofs.Leasts.{is_least, lesser_none}
use Rattle.leaf_frame.proofs.updates.least_unseen.Goals as goal

pub returns : goal.returns
returns c =
    let s = c.args.live.now.sight in
    let slots = c.args.chains.now in
    let least = c.loop-slot.least in
    is_least s slots c.walk_above-walk.result least c.walk_above-walk.ensures
    (sym (lesser_none least) ∙ (ap (λ (way : List ℕ). lesser least (least_of s (slots_at slots way))) (sym c.in_default.ensures.ends) ∙ c.loop-slot.invariant))
