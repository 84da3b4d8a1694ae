use Rattle.std.proofs.Common.{◌∙◌, ap, arith}
use Rattle.stored.specs.TableTree.{Entry}
use Rattle.ckpt_step.proofs.HeldLives.{drop_step}
use Rattle.ckpt_step.proofs.moving_in.drop_all.Goals as goal

pub loop-left-preserved : goal.loop-left-preserved
loop-left-preserved c =
    let now = c.loop-left.invariant in
    record {
      within = omega (arith, now.within);
      held = λ leaf before new is.
          c.drop_at.ensures
          ∙ drop_step leaf before c.loop-left.lives c.args.entries.now c.loop-left.left c.index-entries-left.result c.entry.inside.link.addr.offset (omega (arith, c.loop-left-test.true)) now.within c.index-entries-left.is (ap (λ (e : Entry). e.link.addr.offset) c.entry.view_is) new (now.held leaf before new is);
    }
