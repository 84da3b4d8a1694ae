use Rattle.std.proofs.Common.{◌+◌, ◌-◌, length, take, ◌++◌, ◌∷◌, [], IsTrue, ℕ, List, ap, subst, sym, ◌∙◌, drop}
use Rattle.failure.specs.Counts.{Rose}
use Rattle.disk_model.proofs.Crash.{looked_then}
use Rattle.device_leaf.proofs.Opens.{rose_sooner}
use Rattle.stored.specs.HistoryTree.{HistoryEntry, first_mark}
use Rattle.hist_open.specs.Pages.{PageIs}
use Rattle.hist_open.specs.Damage.{PageSpoils, LayerSpoils}
use Rattle.hist_open.proofs.OneLayer.{behind, join_push, layer_more, layer_spoilt, layer_whole}
use Rattle.tree_open.proofs.Steps.{refused_more}
use Rattle.hist_open.proofs.layer.read_layer.Goals as goal

abbrev rest_at : List HistoryEntry → ℕ → List HistoryEntry
rest_at own i = take (length own - (i + 1)) (drop (i + 1) own)

pub returns-in-Err-clause-err : goal.returns-in-Err-clause-err
returns-in-Err-clause-err g c =
    let D = g.D.Disk in
    let now = c.loop-i.invariant in
    let e = c.index-entries-i.result in
    refused_more (Rose (D.faults c.loop-i.disk) (D.faults c.read_page.new.disk)) (Rose (D.faults c.args.disk.now) (D.faults c.read_page.new.disk)) (IsTrue (D.honest c.loop-i.disk)) (IsTrue (D.honest c.args.disk.now))
    (PageSpoils (D.seen c.loop-i.disk) c.args.level e (first_mark (rest_at c.args.entries.now c.loop-i.i))) (LayerSpoils (D.seen c.args.disk.now) c.args.level c.args.entries.now) c.in-Err.refusal
    (rose_sooner _ _ _ now.looked.count) (λ h. now.looked.same ∙ h)
    (λ at want found h spoils. layer_spoilt (D.seen c.args.disk.now) c.args.level c.args.entries.now c.loop-i.i e (now.are h).0 at want found c.loop-i-test.true c.index-entries-i.is (now.are h).1
    (subst (λ (l : List HistoryEntry). PageSpoils (D.seen c.args.disk.now) c.args.level e (first_mark l) at want found) (behind c.args.entries.now c.loop-i.i) (subst (λ (l : List ℕ). PageSpoils l c.args.level e (first_mark (rest_at c.args.entries.now c.loop-i.i)) at want found) now.looked.content spoils)))
    c.in-Err.ensures.err

pub loop-i-preserved : goal.loop-i-preserved
loop-i-preserved g c =
    let D = g.D.Disk in
    let now = c.loop-i.invariant in
    let e = c.index-entries-i.result in
    let next = first_mark (drop (c.loop-i.i + 1) c.args.entries.now) in
    record {
      looked = looked_then D _ _ _ now.looked c.read_page.ensures.looked;
      home = c.read_page.ensures.home ∙ now.home;
      are = λ h.
          let was = now.are h in
          let page : PageIs (D.seen c.args.disk.now) c.args.level e next c.in-Ok.page.items =
          subst (λ (l : List HistoryEntry). PageIs (D.seen c.args.disk.now) c.args.level e (first_mark l) c.in-Ok.page.items) (behind c.args.entries.now c.loop-i.i)
          (subst (λ (l : List ℕ). PageIs l c.args.level e (first_mark (rest_at c.args.entries.now c.loop-i.i)) c.in-Ok.page.items) now.looked.content (c.in-Ok.ensures.ok (now.looked.same ∙ h))) in (
            was.0 ++ c.in-Ok.page.items ∷ [],
            layer_more (D.seen c.args.disk.now) c.args.level c.args.entries.now c.loop-i.i e was.0 c.in-Ok.page.items c.loop-i-test.true c.index-entries-i.is was.1 page,
            c.in-Ok-append.ensures.ok ∙ ap (λ (l : List HistoryEntry). l ++ c.in-Ok.page.items) was.2 ∙ sym (join_push was.0 c.in-Ok.page.items),
          );
    }

pub returns-clause-ok : goal.returns-clause-ok
returns-clause-ok g c h =
    let was = c.loop-i.invariant.are h in
    layer_whole (g.D.Disk.seen c.args.disk.now) c.args.level c.args.entries.now c.loop-i.i was.0 c.loop-i.below.items c.loop-i-test.false was.1 was.2
