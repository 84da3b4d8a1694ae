use Rattle.std.proofs.Common.{◌+◌, ◌-◌, length, take, ◌++◌, ◌∷◌, [], IsTrue, ℕ, List, ap, subst, sym, ◌∙◌, drop, refl}
use Rattle.failure.specs.Counts.{Rose}
use Rattle.disk_model.proofs.Crash.{looked_then}
use Rattle.device_leaf.proofs.Opens.{rose_sooner}
use Rattle.row_page.specs.Rows.{Row}
use Rattle.stored.specs.TableTree.{Entry, first_key}
use Rattle.tree_open.proofs.OneLayer.{behind}
use Rattle.tree_open.proofs.Steps.{looked_none, refused_more}
use Rattle.recover_open.specs.Leaves.{AreUnder, IsUnder}
use Rattle.recover_open.specs.Damage.{EntrySpoils, LeavesSpoil}
use Rattle.recover_open.proofs.Keys.{none_in_front, front_ascends, front_more}
use Rattle.recover_open.proofs.TreeLeaves.{rows_push, leaves_more, leaves_spoilt, leaves_whole}
use Rattle.recover_open.proofs.leaves.load_each.Goals as goal

abbrev rest_at : List Entry → ℕ → List Entry
rest_at own i = take (length own - (i + 1)) (drop (i + 1) own)

pub loop-i-init : goal.loop-i-init
loop-i-init g c = record {
  looked = looked_none g.D.Disk _;
  home = refl;
  front = none_in_front c.args.entries.now c.new-rows.result c.new-rows.ensures;
  are = λ h. ([], tt, c.new-rows.ensures);
}

pub returns-in-Err-clause-err : goal.returns-in-Err-clause-err
returns-in-Err-clause-err g c =
    let D = g.D.Disk in
    let now = c.loop-i.invariant in
    let e = c.index-entries-i.result in
    refused_more (Rose (D.faults c.loop-i.disk) (D.faults c.load_leaf.new.disk)) (Rose (D.faults c.args.disk.now) (D.faults c.load_leaf.new.disk)) (IsTrue (D.honest c.loop-i.disk)) (IsTrue (D.honest c.args.disk.now))
    (EntrySpoils (D.seen c.loop-i.disk) e (first_key (rest_at c.args.entries.now c.loop-i.i))) (LeavesSpoil (D.seen c.args.disk.now) c.args.entries.now) c.in-Err.refusal
    (rose_sooner _ _ _ now.looked.count) (λ h. now.looked.same ∙ h)
    (λ at want found h spoils. leaves_spoilt (D.seen c.args.disk.now) c.args.entries.now c.loop-i.i e (now.are h).0 at want found c.loop-i-test.true c.index-entries-i.is (now.are h).1
    (subst (λ (l : List Entry). EntrySpoils (D.seen c.args.disk.now) e (first_key l) at want found) (behind c.args.entries.now c.loop-i.i) (subst (λ (l : List ℕ). EntrySpoils l e (first_key (rest_at c.args.entries.now c.loop-i.i)) at want found) now.looked.content spoils)))
    c.in-Err.ensures.err

pub append-requires-clause-ascend : goal.append-requires-clause-ascend
append-requires-clause-ascend g c =
    let e = c.index-entries-i.result in
    front_ascends c.args.entries.now c.loop-i.i e c.loop-i.rows c.in-Ok.leaf.items c.loop-i-test.true c.index-entries-i.is c.requires c.loop-i.invariant.front
    (subst (λ (l : List Entry). AreUnder e (first_key l) c.in-Ok.leaf.items) (behind c.args.entries.now c.loop-i.i) c.in-Ok.ensures.keys) c.in-Ok.ensures.fit.ascend

pub loop-i-preserved : goal.loop-i-preserved
loop-i-preserved g c =
    let D = g.D.Disk in
    let now = c.loop-i.invariant in
    let e = c.index-entries-i.result in
    let more : List Row = c.in-Ok.leaf.items in
    let next = first_key (drop (c.loop-i.i + 1) c.args.entries.now) in
    record {
      looked = looked_then D _ _ _ now.looked c.load_leaf.ensures.looked;
      home = c.load_leaf.ensures.home ∙ now.home;
      front = front_more c.args.entries.now c.loop-i.i e c.loop-i.rows more c.loop-i-test.true c.index-entries-i.is c.requires now.front
          (subst (λ (l : List Entry). AreUnder e (first_key l) more) (behind c.args.entries.now c.loop-i.i) c.in-Ok.ensures.keys) c.append.new.rows c.in-Ok.ensures.fit.ascend c.in-Ok-append.ensures;
      are = λ h.
          let was = now.are h in
          let leaf : IsUnder (D.seen c.args.disk.now) e next more =
          subst (λ (l : List Entry). IsUnder (D.seen c.args.disk.now) e (first_key l) more) (behind c.args.entries.now c.loop-i.i)
          (subst (λ (l : List ℕ). IsUnder l e (first_key (rest_at c.args.entries.now c.loop-i.i)) more) now.looked.content (c.in-Ok.ensures.ok (now.looked.same ∙ h))) in (
            was.0 ++ more ∷ [],
            leaves_more (D.seen c.args.disk.now) c.args.entries.now c.loop-i.i e was.0 more c.loop-i-test.true c.index-entries-i.is was.1 leaf,
            c.in-Ok-append.ensures ∙ ap (λ (l : List Row). l ++ more) was.2 ∙ sym (rows_push was.0 more),
          );
    }

pub returns-clause-ok : goal.returns-clause-ok
returns-clause-ok g c h =
    let was = c.loop-i.invariant.are h in
    leaves_whole (g.D.Disk.seen c.args.disk.now) c.args.entries.now c.loop-i.i was.0 c.loop-i.rows c.loop-i-test.false was.1 was.2
