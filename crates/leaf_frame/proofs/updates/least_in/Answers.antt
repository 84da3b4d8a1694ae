use Rattle.std.proofs.Common.{◌≡◌, ◌+◌, ◌<◌, ◌≤◌, ◌∙◌, ℕ, drop, Option, Some, ap, subst, sym}
use Rattle.std.specs.Prelude.{option_copied, slice_get}
use Rattle.leaf_frame.specs.Updates.{least_in, lesser, unseen_id}
use Rattle.leaf_frame.proofs.Leasts.{last_update, never_past, next_update}
use Rattle.leaf_frame.proofs.updates.least_in.Goals as goal
use Rattle.leaf_frame.proofs.updates.least_in.Goals.{in-Some, in_default}

pub loop-place-preserved : goal.loop-place-preserved
loop-place-preserved c =
    let s = c.args.live.now.sight in
    let chain = c.args.chain.now in
    let place = c.loop-place.place in
    let least = c.loop-place.least in
    elim c.match-get.branch [
      | in-Some w ↦
          let u = w.in-Some.update.now in
          let got : slice_get chain place ≡ Some u = sym c.get.ensures ∙ ap option_copied w.in-Some.is in
          let is : c.match-get.least ≡ lesser least (unseen_id s u) = w.least-is ∙ (w.lesser-least.ensures ∙ ap (lesser least) w.unseen_id.ensures) in
          ap (λ (o : Option ℕ). lesser o (least_in s (drop (place + 1) chain))) is ∙ next_update s chain place u least (least_in s chain) got c.loop-place.invariant
      | in_default w ↦ absurd (never_past chain place (sym c.get.ensures ∙ ap option_copied w.in_default.is) (subst (λ (n : ℕ). place < n) c.len-place-end.ensures c.loop-place-test.true))
    ]

pub returns : goal.returns
returns c =
    last_update c.args.live.now.sight c.args.chain.now c.loop-place.place c.loop-place.least (least_in c.args.live.now.sight c.args.chain.now) (subst (λ (n : ℕ). n ≤ c.loop-place.place) c.len-place-end.ensures c.loop-place-test.false)
    c.loop-place.invariant
