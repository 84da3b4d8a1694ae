use Rattle.std.proofs.Common.{◌∙◌, ℕ, List, ap, sym}
use Rattle.leaf_chains.specs.Slots.{chain_at}
use Rattle.leaf_frame.proofs.Leasts.{some_chain}
use Rattle.leaf_frame.proofs.Slots.{own_chain}
use Rattle.reconcile.specs.Gathered.{slots_at}
use Rattle.reconcile.proofs.Gathering.{way_chain}
use Rattle.leaf_frame.proofs.updates.has_updates.Goals as goal

pub returns-then-not-is_empty : goal.returns-then-not-is_empty
returns-then-not-is_empty c =
    let slots = c.args.chains.now in
    let s = c.in-Some-slot.there.now in
    let is = own_chain slots c.in-Some.slot s c.in-Some-slot.ensures.own (sym c.in-Some-slot.ensures.there) in
    (s.key, some_chain s.chain s.key slots is (λ e. let t = c.if-not-is_empty.ensures.1 e in absurd cc))

pub returns : goal.returns
returns c = λ key.
    let slots = c.args.chains.now in
    sym (way_chain slots c.walk_above-walk.result key c.walk_above-walk.ensures) ∙ c.loop-slot.invariant (λ k. ap (λ (way : List ℕ). chain_at k (slots_at slots way)) c.in_default.ensures.ends) key
