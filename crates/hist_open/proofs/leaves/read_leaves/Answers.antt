use Rattle.std.proofs.Common.{◌+◌, ◌-◌, length, take, ◌++◌, ◌∷◌, [], IsTrue, ℕ, List, ap, subst, sym, ◌∙◌, drop}
use Rattle.failure.specs.Counts.{Rose}
use Rattle.disk_model.proofs.Crash.{looked_then}
use Rattle.device_leaf.proofs.Opens.{rose_sooner}
use Rattle.stored.specs.HistoryTree.{HistoryEntry, HistoryRecord, first_mark}
use Rattle.hist_open.specs.Leaves.{IsUnder}
use Rattle.hist_open.specs.Damage.{EntrySpoils, LeavesSpoil}
use Rattle.hist_open.proofs.OneLayer.{behind}
use Rattle.hist_open.proofs.TreeLeaves.{records_push, leaves_more, leaves_spoilt, leaves_whole}
use Rattle.tree_open.proofs.Steps.{refused_more}
use Rattle.hist_open.proofs.leaves.read_leaves.Goals as goal

abbrev rest_at : List HistoryEntry → ℕ → List HistoryEntry
rest_at own i = take (length own - (i + 1)) (drop (i + 1) own)

pub returns-in-Err-clause-err : goal.returns-in-Err-clause-err
returns-in-Err-clause-err g c =
    let D = g.D.Disk in
    let now = c.loop-i.invariant in
    let e = c.index-entries-i.result in
    refused_more (Rose (D.faults c.loop-i.disk) (D.faults c.read_leaf.new.disk)) (Rose (D.faults c.args.disk.now) (D.faults c.read_leaf.new.disk)) (IsTrue (D.honest c.loop-i.disk)) (IsTrue (D.honest c.args.disk.now))
    (EntrySpoils (D.seen c.loop-i.disk) e (first_mark (rest_at c.args.entries.now c.loop-i.i))) (LeavesSpoil (D.seen c.args.disk.now) c.args.entries.now) c.in-Err.refusal
    (rose_sooner _ _ _ now.looked.count) (λ h. now.looked.same ∙ h)
    (λ at want found h spoils. leaves_spoilt (D.seen c.args.disk.now) c.args.entries.now c.loop-i.i e (now.are h).0 at want found c.loop-i-test.true c.index-entries-i.is (now.are h).1
    (subst (λ (l : List HistoryEntry). EntrySpoils (D.seen c.args.disk.now) e (first_mark l) at want found) (behind c.args.entries.now c.loop-i.i) (subst (λ (l : List ℕ). EntrySpoils l e (first_mark (rest_at c.args.entries.now c.loop-i.i)) at want found) now.looked.content spoils)))
    c.in-Err.ensures.err

pub loop-i-preserved : goal.loop-i-preserved
loop-i-preserved g c =
    let D = g.D.Disk in
    let now = c.loop-i.invariant in
    let e = c.index-entries-i.result in
    let next = first_mark (drop (c.loop-i.i + 1) c.args.entries.now) in
    record {
      looked = looked_then D _ _ _ now.looked c.read_leaf.ensures.looked;
      home = c.read_leaf.ensures.home ∙ now.home;
      are = λ h.
          let was = now.are h in
          let page : IsUnder (D.seen c.args.disk.now) e next c.in-Ok.leaf.items =
          subst (λ (l : List HistoryEntry). IsUnder (D.seen c.args.disk.now) e (first_mark l) c.in-Ok.leaf.items) (behind c.args.entries.now c.loop-i.i)
          (subst (λ (l : List ℕ). IsUnder l e (first_mark (rest_at c.args.entries.now c.loop-i.i)) c.in-Ok.leaf.items) now.looked.content (c.in-Ok.ensures.ok (now.looked.same ∙ h))) in (
            was.0 ++ c.in-Ok.leaf.items ∷ [],
            leaves_more (D.seen c.args.disk.now) c.args.entries.now c.loop-i.i e was.0 c.in-Ok.leaf.items c.loop-i-test.true c.index-entries-i.is was.1 page,
            c.in-Ok-append.ensures.ok ∙ ap (λ (l : List HistoryRecord). l ++ c.in-Ok.leaf.items) was.2 ∙ sym (records_push was.0 c.in-Ok.leaf.items),
          );
    }

pub returns-clause-ok : goal.returns-clause-ok
returns-clause-ok g c h =
    let was = c.loop-i.invariant.are h in
    leaves_whole (g.D.Disk.seen c.args.disk.now) c.args.entries.now c.loop-i.i was.0 c.loop-i.records.items c.loop-i-test.false was.1 was.2
