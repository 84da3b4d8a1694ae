use Rattle.std.proofs.Common.{◌≡◌, Result, Ok, refl, subst}
use Rattle.failure.specs.Counts.{Rose}
use Rattle.wt_code.specs.declared.refusals.Refusal.{Refusal}
use Rattle.ckpt_step.specs.declared.evicting.Evicted.{Evicted}
use Rattle.ckpt_step.specs.declared.evicting.Evicted.TheVariants.{Stays, Unresolved}
use Rattle.engine_store.specs.Keeping.{with_kept}
use Rattle.engine_store.proofs.EvictingKeys.{fault_told, gone_told, no_fault, outs_of, stays_told, unresolved_told}
use Rattle.engine_store.proofs.MakingRoom.{LeafTold, leaf_alike, leaf_told}
use Rattle.engine_store.proofs.UnderWayStill.{runs_ground, runs_lent}
use Rattle.engine_store.proofs.store.Store.evict_from.Goals as goal

pub returns-in-Ok-Stays-clause-evicts : goal.returns-in-Ok-Stays-clause-evicts
returns-in-Ok-Stays-clause-evicts g c = λ h start w first made held number look leaf.
    let one = c.in-Ok-Stays.is in
    let two = c.in-Ok-Stays.field-0-is in
    let is : c.evict.result ≡ Ok (Stays c.in-Ok-Stays.why) = cc in
    stays_told g.D.Disk start w first made c.args.self.now (record c.args.self.now { engine = c.evict.new.engine; ground = c.evict.new.ground }) c.args.disk.now c.evict.new.disk c.args.leaf number c.args.table.now c.args.key.now look leaf c.in-Ok-Stays.why c.kept_by.result (subst (λ (r : Result Evicted Refusal). LeafTold g.D.Disk start (with_kept c.args.self.now.ground.kept w) first made c.args.self.now (record c.args.self.now { engine = c.evict.new.engine; ground = c.evict.new.ground }) c.args.disk.now c.evict.new.disk c.args.leaf r) is (leaf_told g.D.Disk start c.args.disk.now c.evict.new.disk (λ later d left. g.met.D.Disk.counts_now _ _ d later left) (λ d left. g.met.D.Disk.only_now _ d left) (g.met.D.Disk.reads_an_image c.args.disk.now h)
    c.args.self.now (record c.args.self.now { engine = c.evict.new.engine; ground = c.evict.new.ground }) refl refl (λ m runs. runs_ground c.args.self.now.ground c.evict.new.ground c.args.self.now.running m c.evict.ensures.number c.evict.ensures.floor runs) (with_kept c.args.self.now.ground.kept w) first made held c.evict.ensures.disk c.downs_go.ensures c.args.leaf c.evict.result
    (λ old on follows device. c.evict.ensures.evicts h (with_kept c.args.self.now.ground.kept w) held.stands (runs_lent c.args.self.now.ground c.args.self.now.running _ w.machine c.checkpoint_in-running.ensures held.running) old on follows device) c.evict.ensures.down (c.evict.ensures.keeps (with_kept c.args.self.now.ground.kept w) held.stands held.kept) look.up)) c.kept_by.ensures.told held.stands

pub returns-in-Ok-Unresolved-clause-evicts : goal.returns-in-Ok-Unresolved-clause-evicts
returns-in-Ok-Unresolved-clause-evicts g c = λ h start w first made held number look leaf.
    let one = c.in-Ok-Unresolved.is in
    let two = c.in-Ok-Unresolved.field-0-is in
    let is : c.evict.result ≡ Ok (Unresolved c.in-Ok-Unresolved.by) = cc in
    unresolved_told g.D.Disk start w first made c.args.self.now (record c.args.self.now { engine = c.evict.new.engine; ground = c.evict.new.ground }) c.args.disk.now c.evict.new.disk c.args.leaf number c.args.table.now c.args.key.now look leaf c.in-Ok-Unresolved.by (subst (λ (r : Result Evicted Refusal). LeafTold g.D.Disk start (with_kept c.args.self.now.ground.kept w) first made c.args.self.now (record c.args.self.now { engine = c.evict.new.engine; ground = c.evict.new.ground }) c.args.disk.now c.evict.new.disk c.args.leaf r) is (leaf_told g.D.Disk start c.args.disk.now c.evict.new.disk (λ later d left. g.met.D.Disk.counts_now _ _ d later left) (λ d left. g.met.D.Disk.only_now _ d left) (g.met.D.Disk.reads_an_image c.args.disk.now h)
    c.args.self.now (record c.args.self.now { engine = c.evict.new.engine; ground = c.evict.new.ground }) refl refl (λ m runs. runs_ground c.args.self.now.ground c.evict.new.ground c.args.self.now.running m c.evict.ensures.number c.evict.ensures.floor runs) (with_kept c.args.self.now.ground.kept w) first made held c.evict.ensures.disk c.downs_go.ensures c.args.leaf c.evict.result
    (λ old on follows device. c.evict.ensures.evicts h (with_kept c.args.self.now.ground.kept w) held.stands (runs_lent c.args.self.now.ground c.args.self.now.running _ w.machine c.checkpoint_in-running.ensures held.running) old on follows device) c.evict.ensures.down (c.evict.ensures.keeps (with_kept c.args.self.now.ground.kept w) held.stands held.kept) look.up))

pub returns-in-Ok : goal.returns-in-Ok
returns-in-Ok g c = record {
  evicts = λ h start w first made held number look leaf.
      gone_told g.D.Disk start w first made c.args.self.now (record c.args.self.now { engine = c.evict.new.engine; ground = c.evict.new.ground }) c.args.disk.now c.evict.new.disk c.args.leaf number c.args.table.now c.args.key.now look leaf c.in-Ok.field-0 (subst (λ (r : Result Evicted Refusal). LeafTold g.D.Disk start (with_kept c.args.self.now.ground.kept w) first made c.args.self.now (record c.args.self.now { engine = c.evict.new.engine; ground = c.evict.new.ground }) c.args.disk.now c.evict.new.disk c.args.leaf r) c.in-Ok.is (leaf_told g.D.Disk start c.args.disk.now c.evict.new.disk (λ later d left. g.met.D.Disk.counts_now _ _ d later left) (λ d left. g.met.D.Disk.only_now _ d left) (g.met.D.Disk.reads_an_image c.args.disk.now h)
      c.args.self.now (record c.args.self.now { engine = c.evict.new.engine; ground = c.evict.new.ground }) refl refl (λ m runs. runs_ground c.args.self.now.ground c.evict.new.ground c.args.self.now.running m c.evict.ensures.number c.evict.ensures.floor runs) (with_kept c.args.self.now.ground.kept w) first made held c.evict.ensures.disk c.downs_go.ensures c.args.leaf c.evict.result
      (λ old on follows device. c.evict.ensures.evicts h (with_kept c.args.self.now.ground.kept w) held.stands (runs_lent c.args.self.now.ground c.args.self.now.running _ w.machine c.checkpoint_in-running.ensures held.running) old on follows device) c.evict.ensures.down (c.evict.ensures.keeps (with_kept c.args.self.now.ground.kept w) held.stands held.kept) look.up)) c.told_out.result
      (outs_of c.as_bytes.result.now c.args.table.now c.as_bytes-in-Ok.result.now c.args.key.now c.as_bytes.ensures c.as_bytes-in-Ok.ensures c.evict.new.engine c.told_out.result c.told_out.ensures.out) c.told_out.ensures.short;
  fault = no_fault (Rose (g.D.Disk.faults c.args.disk.now) (g.D.Disk.faults c.evict.new.disk)) c.told_out.result c.told_out.ensures.short;
  alike = leaf_alike g.D.Disk c.args.self.now (record c.args.self.now { engine = c.evict.new.engine; ground = c.evict.new.ground }) c.args.disk.now c.evict.new.disk refl refl c.evict.ensures.number c.evict.ensures.trees c.evict.ensures.disk c.evict.ensures.hub c.args.leaf c.evict.result c.evict.ensures.engine;
}

pub returns-in-Err-clause-evicts : goal.returns-in-Err-clause-evicts
returns-in-Err-clause-evicts g c = λ h start w first made held number look leaf.
    fault_told g.D.Disk start w first made c.args.self.now (record c.args.self.now { engine = c.evict.new.engine; ground = c.evict.new.ground }) c.args.disk.now c.evict.new.disk c.args.leaf number c.args.table.now c.args.key.now look leaf c.in-Err.refusal (subst (λ (r : Result Evicted Refusal). LeafTold g.D.Disk start (with_kept c.args.self.now.ground.kept w) first made c.args.self.now (record c.args.self.now { engine = c.evict.new.engine; ground = c.evict.new.ground }) c.args.disk.now c.evict.new.disk c.args.leaf r) c.in-Err.is (leaf_told g.D.Disk start c.args.disk.now c.evict.new.disk (λ later d left. g.met.D.Disk.counts_now _ _ d later left) (λ d left. g.met.D.Disk.only_now _ d left) (g.met.D.Disk.reads_an_image c.args.disk.now h)
    c.args.self.now (record c.args.self.now { engine = c.evict.new.engine; ground = c.evict.new.ground }) refl refl (λ m runs. runs_ground c.args.self.now.ground c.evict.new.ground c.args.self.now.running m c.evict.ensures.number c.evict.ensures.floor runs) (with_kept c.args.self.now.ground.kept w) first made held c.evict.ensures.disk c.downs_go.ensures c.args.leaf c.evict.result
    (λ old on follows device. c.evict.ensures.evicts h (with_kept c.args.self.now.ground.kept w) held.stands (runs_lent c.args.self.now.ground c.args.self.now.running _ w.machine c.checkpoint_in-running.ensures held.running) old on follows device) c.evict.ensures.down (c.evict.ensures.keeps (with_kept c.args.self.now.ground.kept w) held.stands held.kept) look.up))
