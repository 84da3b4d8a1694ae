use Rattle.std.proofs.Common.{refl}
use Rattle.reconcile.specs.declared.live.Live.TheVariants.{Seen}
use Rattle.ckpt_step.proofs.leaves.images_of.Goals as goal

pub returns : goal.returns
returns c =
    let made = c.in_ok-made.ensures.images in
    (made.0, c.reconciled_rows_are_captured.ensures (Seen c.args.snapshot) c.args.snapshot.now.sight c.args.leaf.now made.0 (λ w. refl) made.1, made.2)
