use Rattle.std.proofs.Common.{◌∙◌, sym}
use Rattle.std.proofs.lemmas.Bool.{not-true}
use Rattle.ckpt_step.proofs.EntryKeys.{images_stand}
use Rattle.ckpt_step.proofs.leaves.stand_from.Goals as goal

pub returns-in-Some : goal.returns-in-Some
returns-in-Some c = λ rows are fit stands.
    images_stand c.args.images.now c.in-Some.first.now rows c.args.low.now c.in-Some.ensures.value are fit (sym c.is_below.ensures ∙ not-true c.is_below.result stands)
