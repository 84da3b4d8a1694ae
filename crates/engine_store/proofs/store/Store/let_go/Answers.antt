use Rattle.std.proofs.Common.{Global, Option, Vec, ap, refl, subst, sym}
use Rattle.std.specs.Prelude.{IfSome}
use Rattle.stored.specs.TableTree.{Entry}
use Rattle.engine_world.specs.Stands.{Engine}
use Rattle.engine.specs.declared.checkpoint.EngineMarks.{EngineMarks}
use Rattle.tree_dir.specs.Leaves.{Directory, IsDirectory}
use Rattle.ckpt_step.specs.Giving.{MayTakeOver}
use Rattle.ckpt_step.specs.Rooms.{known_in}
use Rattle.engine_store.specs.Relieves.{LetsGo}
use Rattle.engine_store.proofs.Relieving.{gave, stays}
use Rattle.engine_store.proofs.store.Store.let_go.Goals as goal

pub returns-then-not-is_framed : goal.returns-then-not-is_framed
returns-then-not-is_framed g c = stays g.D.Disk c.args.self.now

pub returns-in_default : goal.returns-in_default
returns-in_default g c = stays g.D.Disk c.args.self.now

pub returns-in_default-2 : goal.returns-in_default-2
returns-in_default-2 g c = stays g.D.Disk c.args.self.now

pub returns-in-Ok : goal.returns-in-Ok
returns-in-Ok g c =
    let s = c.args.self.now in
    let entries = c.in-Ok-Some.entries.items in
    gave g.D.Disk c.grounds_give_way.ensures s c.give_way.new.self (record s.ground { parts = c.forget.new.self }) c.args.leaf c.marks-oldest.result.oldest entries c.in-Ok.ensures.given
    (subst IsDirectory c.leaves-in-Ok.ensures.are c.leaves-in-Ok.ensures.stand)
    c.in-Ok.ensures.stands (λ w st. ap (λ (m : EngineMarks). m.oldest) (c.marks-oldest.ensures.machine w st))
    (subst (λ (d : Directory). MayTakeOver d (known_in s.ground.parts) c.args.leaf c.marks-oldest.result.oldest entries) c.leaves-3.ensures.are
    (subst (λ (o : Option (Vec Entry Global)). IfSome o (λ es. MayTakeOver c.leaves-3.result.now (known_in s.ground.parts) c.args.leaf c.marks-oldest.result.oldest es.items)) c.in-Ok-Some.field-0-is c.in-Ok-Some.ensures.some))
    (record { same = refl; others = c.forget.ensures.others })

pub returns-in_default-give_way : goal.returns-in_default-give_way
returns-in_default-give_way g c =
    let s = c.args.self.now in
    subst (λ (e : Engine). LetsGo g.D.Disk s (record s { engine = e })) (sym c.in_default-give_way.ensures.kept) (stays g.D.Disk s)
