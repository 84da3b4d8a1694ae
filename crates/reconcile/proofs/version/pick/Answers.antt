use Rattle.std.proofs.Common.{◌≡◌, ◌+◌, ◌∙◌, ℕ, suc, drop, sym, ap, arith}
use Rattle.reconcile.specs.Capture.{captured}
use Rattle.reconcile.proofs.Picking.{captured_at, captured_past}
use Rattle.reconcile.proofs.version.pick.Goals as goal

pub returns-then-sees : goal.returns-then-sees
returns-then-sees c = sym (c.loop-place.invariant
    ∙ captured_at c.args.snapshot.now.sight c.args.chain.now c.loop-place.place c.in_ok-update.update.now (sym c.in_ok-update.ensures) (sym c.sees.ensures ∙ c.if-sees.true))

pub loop-place-preserved : goal.loop-place-preserved
loop-place-preserved c =
    let next : suc c.loop-place.place ≡ c.loop-place.place + 1 = omega arith in
    c.loop-place.invariant
    ∙ (captured_past c.args.snapshot.now.sight c.args.chain.now c.loop-place.place c.in_ok-update.update.now (sym c.in_ok-update.ensures) (sym c.sees.ensures ∙ c.if-sees.false)
    ∙ ap (λ (i : ℕ). captured c.args.snapshot.now.sight (drop i c.args.chain.now)) next)
