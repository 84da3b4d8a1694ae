use Rattle.std.proofs.Common.{◌∙◌, sym, ap, List, false}
use Rattle.std.specs.Prelude.{◌==◌, Option}
use Rattle.kv_model.specs.Machine.{of_some}
use Rattle.ckpt_step.specs.Lives.{is_of, lone_at}
use Rattle.ckpt_step.specs.declared.lives.Held.{Held}
use Rattle.ckpt_step.specs.declared.lives.Lone.{Lone}
use Rattle.ckpt_step.proofs.LonesIn.{leaf_found}
use Rattle.ckpt_step.proofs.lives.Lives.has.Goals as goal

pub returns-in-Some : goal.returns-in-Some
returns-in-Some c =
    ap (λ (o : Option Held). of_some false (λ (h : Held). h.leaf == c.args.leaf) o) c.in-Some.ensures.value
    ∙ (sym (leaf_found c.self.inside.by_offset.entries c.args.offset c.args.leaf) ∙ ap (λ (l : List Lone). is_of c.args.leaf (lone_at l c.args.offset)) c.self.view_is)

pub returns-in-None : goal.returns-in-None
returns-in-None c =
    ap (λ (o : Option Held). of_some false (λ (h : Held). h.leaf == c.args.leaf) o) c.in-None.ensures.value
    ∙ (sym (leaf_found c.self.inside.by_offset.entries c.args.offset c.args.leaf) ∙ ap (λ (l : List Lone). is_of c.args.leaf (lone_at l c.args.offset)) c.self.view_is)
