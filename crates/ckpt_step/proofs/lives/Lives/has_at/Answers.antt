use Rattle.std.proofs.Common.{◌∙◌, sym, ap, List}
use Rattle.ckpt_step.specs.Lives.{has_at}
use Rattle.ckpt_step.specs.declared.lives.Lone.{Lone}
use Rattle.ckpt_step.proofs.LonesIn.{has_found}
use Rattle.ckpt_step.proofs.lives.Lives.has_at.Goals as goal

pub returns : goal.returns
returns c = c.contains_key.ensures ∙ (sym (has_found c.self.inside.by_offset.entries c.args.offset) ∙ ap (λ (l : List Lone). has_at l c.args.offset) c.self.view_is)
