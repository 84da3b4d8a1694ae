use Rattle.std.proofs.Common.{IsTrue, ℕ, List, ◌++◌, ap, subst, ◌∙◌, arith}
use Rattle.failure.specs.Counts.{Rose}
use Rattle.disk_model.proofs.Crash.{looked_then}
use Rattle.device_leaf.proofs.Opens.{rose_sooner}
use Rattle.stored.specs.HistoryTree.{HistoryEntry}
use Rattle.hist_open.specs.Pages.{LayerIs}
use Rattle.hist_open.specs.Damage.{LayerSpoils, InnerSpoils}
use Rattle.hist_open.proofs.Descent.{page_addrs, reached_more, inner_reached, inner_spoilt}
use Rattle.tree_open.proofs.Steps.{refused_more}
use Rattle.hist_open.proofs.upper.read_upper.Goals as goal

pub returns-in-Err-read_layer-clause-err : goal.returns-in-Err-read_layer-clause-err
returns-in-Err-read_layer-clause-err g c =
    let D = g.D.Disk in
    let now = c.loop-level.invariant in
    refused_more (Rose (D.faults c.loop-level.disk) (D.faults c.read_layer.new.disk)) (Rose (D.faults c.args.disk.now) (D.faults c.read_layer.new.disk)) (IsTrue (D.honest c.loop-level.disk)) (IsTrue (D.honest c.args.disk.now))
    (LayerSpoils (D.seen c.loop-level.disk) c.loop-level.level c.deref-in-loop-level.result.now) (InnerSpoils (D.seen c.args.disk.now) c.args.root) c.in-Err-read_layer.refusal
    (rose_sooner _ _ _ now.looked.count) (λ h. now.looked.same ∙ h)
    (λ at want found h spoils. inner_spoilt (D.seen c.args.disk.now) c.args.root c.loop-level.level c.loop-level.entries.items c.loop-level.addrs.items at want found (omega arith) (now.reached h)
    (subst (λ (l : List HistoryEntry). LayerSpoils (D.seen c.args.disk.now) c.loop-level.level l at want found) c.deref-in-loop-level.ensures.value (subst (λ (l : List ℕ). LayerSpoils l c.loop-level.level c.deref-in-loop-level.result.now at want found) now.looked.content spoils)))
    c.in-Err-read_layer.ensures.err

pub loop-level-preserved : goal.loop-level-preserved
loop-level-preserved g c =
    let D = g.D.Disk in
    let now = c.loop-level.invariant in
    let es = c.in-Ok-read_layer.below.items in
    record {
      looked = looked_then D _ _ _ now.looked c.read_layer.ensures.looked;
      home = c.read_layer.ensures.home ∙ now.home;
      reached = λ h.
          let layer : LayerIs (D.seen c.args.disk.now) c.loop-level.level c.loop-level.entries.items es = subst (λ (l : List HistoryEntry). LayerIs (D.seen c.args.disk.now) c.loop-level.level l es) c.deref-in-loop-level.ensures.value (subst (λ (l : List ℕ). LayerIs l c.loop-level.level c.deref-in-loop-level.result.now es) now.looked.content (c.in-Ok-read_layer.ensures.ok (now.looked.same ∙ h))) in
          reached_more (D.seen c.args.disk.now) c.args.root c.loop-level.level c.loop-level.entries.items es c.loop-level.addrs.items c.append_pages.new.addrs.items (omega arith) (now.reached h) layer
          (c.in_ok-append_pages.ensures ∙ ap (λ (l : List HistoryEntry). c.loop-level.addrs.items ++ page_addrs l) c.deref.ensures.value);
    }

pub returns-clause-ok : goal.returns-clause-ok
returns-clause-ok g c h = inner_reached (g.D.Disk.seen c.args.disk.now) c.args.root c.loop-level.level c.loop-level.entries.items c.loop-level.addrs.items (omega arith) (c.loop-level.invariant.reached h)
