use Rattle.std.proofs.Common.{◌+◌, ◌-◌, length, take, IsTrue, ℕ, List, ap, subst, ◌∙◌, drop, refl}
use Rattle.failure.specs.Counts.{Rose}
use Rattle.disk_model.proofs.Crash.{looked_then}
use Rattle.device_leaf.proofs.Opens.{rose_sooner}
use Rattle.stored.specs.TableTree.{Entry, first_key}
use Rattle.tree_open.specs.Trees.{leaf_addr}
use Rattle.tree_open.proofs.OneLayer.{behind}
use Rattle.tree_open.proofs.Steps.{looked_none, refused_more}
use Rattle.recover_open.specs.Tallies.{HasLeaf}
use Rattle.recover_open.specs.Damage.{EntrySpoils, LeavesSpoil}
use Rattle.recover_open.proofs.TreeLeaves.{none_tallied, tallied_more, tallied_whole, leaves_spoilt}
use Rattle.recover_open.proofs.check.check_leaves.Goals as goal

abbrev rest_at : List Entry → ℕ → List Entry
rest_at own i = take (length own - (i + 1)) (drop (i + 1) own)

pub loop-i-init : goal.loop-i-init
loop-i-init g c = record { looked = looked_none g.D.Disk _; home = refl; are = λ h. none_tallied (g.D.Disk.seen c.args.disk.now) c.args.entries.now }

pub returns-in-Err-clause-err : goal.returns-in-Err-clause-err
returns-in-Err-clause-err g c =
    let D = g.D.Disk in
    let now = c.loop-i.invariant in
    let e = c.index-entries-i.result in
    refused_more (Rose (D.faults c.loop-i.disk) (D.faults c.check_leaf.new.disk)) (Rose (D.faults c.args.disk.now) (D.faults c.check_leaf.new.disk)) (IsTrue (D.honest c.loop-i.disk)) (IsTrue (D.honest c.args.disk.now))
    (EntrySpoils (D.seen c.loop-i.disk) e (first_key (rest_at c.args.entries.now c.loop-i.i))) (LeavesSpoil (D.seen c.args.disk.now) c.args.entries.now) c.in-Err.refusal
    (rose_sooner _ _ _ now.looked.count) (λ h. now.looked.same ∙ h)
    (λ at want found h spoils. leaves_spoilt (D.seen c.args.disk.now) c.args.entries.now c.loop-i.i e (now.are h).leaves at want found c.loop-i-test.true c.index-entries-i.is (now.are h).are
    (subst (λ (l : List Entry). EntrySpoils (D.seen c.args.disk.now) e (first_key l) at want found) (behind c.args.entries.now c.loop-i.i) (subst (λ (l : List ℕ). EntrySpoils l e (first_key (rest_at c.args.entries.now c.loop-i.i)) at want found) now.looked.content spoils)))
    c.in-Err.ensures.err

pub loop-i-preserved : goal.loop-i-preserved
loop-i-preserved g c =
    let D = g.D.Disk in
    let now = c.loop-i.invariant in
    let e = c.index-entries-i.result in
    record {
      looked = looked_then D _ _ _ now.looked c.check_leaf.ensures.looked;
      home = c.check_leaf.ensures.home ∙ now.home;
      are = λ h.
          let leaf : HasLeaf (D.seen c.args.disk.now) e (first_key (drop (c.loop-i.i + 1) c.args.entries.now)) c.in-Ok.rows =
          subst (λ (l : List Entry). HasLeaf (D.seen c.args.disk.now) e (first_key l) c.in-Ok.rows) (behind c.args.entries.now c.loop-i.i)
          (subst (λ (l : List ℕ). HasLeaf l e (first_key (rest_at c.args.entries.now c.loop-i.i)) c.in-Ok.rows) now.looked.content (c.in-Ok.ensures.ok (now.looked.same ∙ h))) in
          tallied_more (D.seen c.args.disk.now) c.args.entries.now c.loop-i.i e leaf.0 c.loop-i-test.true c.index-entries-i.is leaf.1 c.loop-i.tally.leaves c.loop-i.tally.versions c.in-Ok-counted.more.leaves c.in-Ok-counted.more.versions (now.are h)
          (c.in-Ok-counted.ensures.0 ∙ ap (λ (x : Entry). c.loop-i.tally.leaves + length (leaf_addr x.link.addr)) c.entry.view_is) (c.in-Ok-counted.ensures.1 ∙ ap (λ n. c.loop-i.tally.versions + n) leaf.2);
    }

pub returns-clause-ok : goal.returns-clause-ok
returns-clause-ok g c h = tallied_whole (g.D.Disk.seen c.args.disk.now) c.args.entries.now c.loop-i.i c.loop-i.tally c.loop-i-test.false (c.loop-i.invariant.are h)
