use Rattle.std.proofs.Common.{◌∙◌, refl, subst, List, ℕ, IsTrue}
use Rattle.failure.specs.Counts.{Rose}
use Rattle.disk_model.proofs.Crash.{looked_then}
use Rattle.device_leaf.proofs.Opens.{rose_sooner}
use Rattle.stored.specs.TableTree.{Entry}
use Rattle.tree_open.proofs.Steps.{looked_none, refused_more}
use Rattle.recover_open.specs.Damage.{LeavesSpoil}
use Rattle.recover_open.specs.Tallies.{IsTallied}
use Rattle.verify_dev.specs.Leaves.{SomeSpoil}
use Rattle.verify_dev.proofs.Sums.{none_tallied, tallied_more, tallied_whole}
use Rattle.verify_dev.proofs.leaves.check_all.Goals as goal

pub loop-upper-init : goal.loop-upper-init
loop-upper-init g c = record { looked = looked_none g.D.Disk _; home = refl; are = λ h. none_tallied (g.D.Disk.seen c.args.disk.now) c.args.uppers.now _ refl refl }

pub returns-in-Err-clause-err : goal.returns-in-Err-clause-err
returns-in-Err-clause-err g c =
    let D = g.D.Disk in
    let now = c.loop-upper.invariant in
    let u = c.upper-item.result in
    refused_more (Rose (D.faults c.loop-upper.disk) (D.faults c.check_leaves.new.disk)) (Rose (D.faults c.args.disk.now) (D.faults c.check_leaves.new.disk)) (IsTrue (D.honest c.loop-upper.disk)) (IsTrue (D.honest c.args.disk.now))
    (LeavesSpoil (D.seen c.loop-upper.disk) c.deref.result.now) (SomeSpoil (D.seen c.args.disk.now) c.args.uppers.now) c.in-Err.refusal
    (rose_sooner _ _ _ now.looked.count) (λ h. now.looked.same ∙ h)
    (λ at want found h spoils. record {
      upper = u;
      index = c.loop-upper.upper-index;
      within = c.loop-upper-test.true;
      is = c.upper-item.is;
      spoils = subst (λ (l : List Entry). LeavesSpoil (D.seen c.args.disk.now) l at want found) c.deref.ensures.value (subst (λ (l : List ℕ). LeavesSpoil l c.deref.result.now at want found) now.looked.content spoils);
    })
    c.in-Err.ensures.err

pub loop-upper-preserved : goal.loop-upper-preserved
loop-upper-preserved g c =
    let D = g.D.Disk in
    let now = c.loop-upper.invariant in
    let u = c.upper-item.result in
    record {
      looked = looked_then D _ _ _ now.looked c.check_leaves.ensures.looked;
      home = c.check_leaves.ensures.home ∙ now.home;
      are = λ h.
          let own : IsTallied (D.seen c.args.disk.now) u.entries.items c.in-Ok.own =
          subst (λ (l : List Entry). IsTallied (D.seen c.args.disk.now) l c.in-Ok.own) c.deref.ensures.value (subst (λ (l : List ℕ). IsTallied l c.deref.result.now c.in-Ok.own) now.looked.content (c.in-Ok.ensures.ok (now.looked.same ∙ h))) in
          tallied_more (D.seen c.args.disk.now) c.args.uppers.now c.loop-upper.upper-index u c.loop-upper.tally c.in-Ok.own c.in-Ok-sum_of.more c.loop-upper-test.true c.upper-item.is (now.are h) own c.in-Ok-sum_of.ensures;
    }

pub returns-clause-ok : goal.returns-clause-ok
returns-clause-ok g c h = tallied_whole (g.D.Disk.seen c.args.disk.now) c.args.uppers.now c.loop-upper.upper-index c.loop-upper.tally c.loop-upper-test.false (c.loop-upper.invariant.are h)
