use Rattle.std.proofs.Common.{◌≡◌, ◌∙◌, sym, ap, subst, List}
use Rattle.std.specs.Prelude.{OnOk, Result}
use Rattle.failure.specs.declared.NoMemory.{NoMemory}
use Rattle.ckpt_step.specs.Holding.{put_lone}
use Rattle.ckpt_step.specs.Lives.{lones_in}
use Rattle.ckpt_step.specs.declared.lives.Lone.{Lone}
use Rattle.ckpt_step.proofs.LonesPut.{lones_put}
use Rattle.ckpt_step.proofs.lives.Lives.hold.Goals as goal
use Rattle.ckpt_step.proofs.lives.Lives.hold.Goals.{in-Ok, in-Err}

pub returns-clause-held : goal.returns-clause-held
returns-clause-held c = elim c.match-insert.branch [
  | in-Ok w ↦ subst (λ (r : Result (Unit {0}) NoMemory). OnOk r (lones_in c.insert.new.self.entries ≡ put_lone (record { leaf = c.args.leaf; addr = c.args.addr }) c.args.self.now)) (sym w.result-is)
      (ap lones_in w.in-Ok.ensures.entries ∙ (lones_put c.self.inside.by_offset.entries c.args.addr.offset (record { leaf = c.args.leaf; size = c.args.addr.size; sum = c.args.addr.sum }) ∙ ap (λ (l : List Lone). put_lone (record { leaf = c.args.leaf; addr = c.args.addr }) l) c.self.view_is))
  | in-Err w ↦ subst (λ (r : Result (Unit {0}) NoMemory). OnOk r (lones_in c.insert.new.self.entries ≡ put_lone (record { leaf = c.args.leaf; addr = c.args.addr }) c.args.self.now)) (sym w.result-is) tt
]
