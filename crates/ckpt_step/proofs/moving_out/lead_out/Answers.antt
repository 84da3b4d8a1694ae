use Rattle.std.proofs.Common.{◌∙◌, List, ap}
use Rattle.ckpt_step.specs.Holding.{gone_at}
use Rattle.ckpt_step.specs.declared.lives.Lone.{Lone}
use Rattle.ckpt_step.proofs.LonesMore.{gone_put}
use Rattle.ckpt_step.proofs.moving_out.lead_out.Goals as goal

pub returns-in-Ok-false-clause-kept : goal.returns-in-Ok-false-clause-kept
returns-in-Ok-false-clause-kept c new =
    c.drop_at.ensures
    ∙ (ap (λ (l : List Lone). gone_at l c.args.link.addr.offset) c.in_ok-hold.ensures.held
    ∙ gone_put (record { leaf = c.args.leaf; addr = c.args.link.addr }) c.args.lives.now new)

pub returns-in-Ok-true-clause-out : goal.returns-in-Ok-true-clause-out
returns-in-Ok-true-clause-out c = c.in-Ok-true.ensures.out c.in-Ok-true.field-0-test
