use Rattle.std.proofs.Common.{◌∙◌, ap, List}
use Rattle.ckpt_step.specs.Holding.{gone_at}
use Rattle.ckpt_step.specs.Lives.{lones_in}
use Rattle.ckpt_step.specs.declared.lives.Lone.{Lone}
use Rattle.ckpt_step.proofs.LonesPut.{lones_gone}
use Rattle.ckpt_step.proofs.lives.Lives.drop_at.Goals as goal

pub returns : goal.returns
returns c = ap lones_in c.remove.ensures.entries ∙ (lones_gone c.self.inside.by_offset.entries c.args.offset ∙ ap (λ (l : List Lone). gone_at l c.args.offset) c.self.view_is)
