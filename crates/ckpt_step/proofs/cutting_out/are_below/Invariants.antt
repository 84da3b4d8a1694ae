use Rattle.std.proofs.Common.{◌≡◌, take, true}
use Rattle.std.specs.List.{AllByRecursion}
use Rattle.reconcile.specs.declared.image.Image.{Image}
use Rattle.row_page.specs.Rows.{is_below}
use Rattle.ckpt_step.proofs.cutting_out.are_below.Given as goal

abbrev pub invariant-loop-image : goal.invariant-loop-image
invariant-loop-image l = AllByRecursion (λ (i : Image). is_below i.low l.key ≡ true) (take l.image-index l.images)
