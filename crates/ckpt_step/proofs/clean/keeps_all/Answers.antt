use Rattle.std.proofs.Common.{◌≡◌, List, false, subst, sym}
use Rattle.std.specs.List.{Contains}
use Rattle.tree_dir.specs.declared.leaf.Leaf.{Leaf}
use Rattle.ckpt_step.specs.Lives.{is_live}
use Rattle.ckpt_step.specs.Rooms.{known_in}
use Rattle.ckpt_step.specs.Steps.{IsKept}
use Rattle.ckpt_step.proofs.LeafSteps.{each_more}
use Rattle.ckpt_step.proofs.clean.keeps_all.Goals as goal

pub loop-leaf-preserved : goal.loop-leaf-preserved
loop-leaf-preserved c = λ later.
    let kept = λ (x : Leaf). (is_live c.args.was.lives.now x ≡ false) × IsKept c.args.engine.now (known_in c.args.was.parts.now) c.args.was.floor x in
    c.loop-leaf.invariant (subst (λ (ls : List Leaf). (x : Leaf) → Contains ls x → kept x) (sym c.in-Some.ensures.after) (each_more kept c.in-Some.leaf.now c.next_leaf.new.self (sym c.if-is_live.ensures, c.in_default-step_of.ensures.1) later))
