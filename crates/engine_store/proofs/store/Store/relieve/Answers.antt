use Rattle.std.proofs.Common.{subst, sym}
use Rattle.engine_world.specs.GivingWay.{IsIdle}
use Rattle.engine_store.specs.declared.store.Store.{Store}
use Rattle.engine_store.specs.Relieves.{LetsGo}
use Rattle.engine_store.proofs.Relieving.{goes_then, idle_then, stays}
use Rattle.engine_store.proofs.store.Store.relieve.Goals as goal
use Rattle.engine_store.proofs.store.Store.relieve.Goals.{in-Some, in_default}

pub returns-then-not-is_idle : goal.returns-then-not-is_idle
returns-then-not-is_idle g c = stays g.D.Disk c.args.self.now

pub loop-frame-init : goal.loop-frame-init
loop-frame-init g c = record { goes = stays g.D.Disk c.args.self.now; idle = c.is_idle.ensures.yes c.if-not-is_idle.false }

pub loop-frame-preserved : goal.loop-frame-preserved
loop-frame-preserved g c =
    let begun = c.args.self.now in
    let before = c.loop-frame.self in
    elim c.match-leaf_to_go.branch [
      | in-Some w ↦
          let now = w.let_go.new.self in
          record {
            goes = subst (λ (s : Store). LetsGo g.D.Disk begun s) (sym w.self-is) (goes_then g.D.Disk begun before now c.loop-frame.invariant.goes w.let_go.ensures);
            idle = subst (λ (s : Store). IsIdle s.engine) (sym w.self-is) (idle_then g.D.Disk before now w.let_go.ensures c.loop-frame.invariant.idle);
          }
      | in_default w ↦ record {
        goes = subst (λ (s : Store). LetsGo g.D.Disk begun s) (sym w.self-is) c.loop-frame.invariant.goes;
        idle = subst (λ (s : Store). IsIdle s.engine) (sym w.self-is) c.loop-frame.invariant.idle;
      }
    ]
