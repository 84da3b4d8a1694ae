use Rattle.std.proofs.Common.{List, ℕ, IsTrue, inl, inr, refl, sym, ◌∙◌, ap, subst, ◌++◌}
use Rattle.failure.specs.Counts.{Rose}
use Rattle.device_leaf.proofs.Opens.{rose_sooner}
use Rattle.wt_code.specs.declared.refusals.Refusal.TheVariants.{Corrupt}
use Rattle.stored.specs.HistoryTree.{HistoryEntry}
use Rattle.stored.specs.Records.{Root}
use Rattle.inner_page.specs.Names.{names_differ}
use Rattle.tree_open.proofs.Steps.{refused_more}
use Rattle.hist_open.specs.Leaves.{RecordsAre, leaf_addrs}
use Rattle.hist_open.specs.Damage.{LeavesSpoil, HistorySpoils}
use Rattle.hist_open.proofs.Descent.{inner_own}
use Rattle.hist_open.proofs.TreeLeaves.{names_once, names_twice, history_is}
use Rattle.hist_open.proofs.history.read_history.Goals as goal

pub returns-in-Err-read_leaves-clause-err : goal.returns-in-Err-read_leaves-clause-err
returns-in-Err-read_leaves-clause-err g c =
    let D = g.D.Disk in
    let first = c.read_upper.ensures.looked in
    let es = c.in-Ok.upper.entries.items in
    refused_more (Rose (D.faults c.read_upper.new.disk) (D.faults c.read_leaves.new.disk)) _ (IsTrue (D.honest c.read_upper.new.disk)) (IsTrue (D.honest c.args.disk.now))
    (LeavesSpoil (D.seen c.read_upper.new.disk) c.deref.result.now) (HistorySpoils (D.seen c.args.disk.now) c.args.root) c.in-Err-read_leaves.refusal
    (rose_sooner _ _ _ first.count) (λ h. first.same ∙ h)
    (λ at want found h spoils. inr (inl (record {
      es = es;
      addrs = c.in-Ok.upper.addrs.items;
      inner = c.in-Ok.ensures.ok h;
      leaves = subst (λ (l : List HistoryEntry). LeavesSpoil (D.seen c.args.disk.now) l at want found) c.deref.ensures.value (subst (λ (l : List ℕ). LeavesSpoil l c.deref.result.now at want found) first.content spoils);
    })))
    c.in-Err-read_leaves.ensures.err

-- the records are those of the leaves
pub returns-then-not-names_differ-clause-err : goal.returns-then-not-names_differ-clause-err
returns-then-not-names_differ-clause-err g c =
    let D = g.D.Disk in
    let first = c.read_upper.ensures.looked in
    let es = c.in-Ok.upper.entries.items in
    inr (inr (
      c.args.root.link.addr.offset,
      c.args.root.link.addr.sum,
      c.args.root.link.addr.sum,
      c.spoilt.ensures ∙ ap (λ (r : Root). Corrupt r.link.addr.offset r.link.addr.sum r.link.addr.sum) c.root.view_is,
      λ h.
          let records : RecordsAre (D.seen c.args.disk.now) es c.in-Ok-read_leaves.records.items =
          subst (λ (l : List HistoryEntry). RecordsAre (D.seen c.args.disk.now) l c.in-Ok-read_leaves.records.items) c.deref.ensures.value (subst (λ (l : List ℕ). RecordsAre l c.deref.result.now c.in-Ok-read_leaves.records.items) first.content (c.in-Ok-read_leaves.ensures.ok (first.same ∙ h))) in
          inr (inr (names_twice (D.seen c.args.disk.now) c.args.root es c.in-Ok.upper.addrs.items c.in-Ok-read_leaves.records.items (c.in-Ok.ensures.ok h) records
          (ap names_differ (sym c.deref-2.ensures.value) ∙ sym c.names_differ.ensures ∙ c.if-not-names_differ.true))),
    ))

pub returns-clause-ok : goal.returns-clause-ok
returns-clause-ok g c h =
    let D = g.D.Disk in
    let first = c.read_upper.ensures.looked in
    let es = c.in-Ok.upper.entries.items in
    let inner = c.in-Ok.ensures.ok h in
    let records : RecordsAre (D.seen c.args.disk.now) es c.in-Ok-read_leaves.records.items =
    subst (λ (l : List HistoryEntry). RecordsAre (D.seen c.args.disk.now) l c.in-Ok-read_leaves.records.items) c.deref.ensures.value (subst (λ (l : List ℕ). RecordsAre l c.deref.result.now c.in-Ok-read_leaves.records.items) first.content (c.in-Ok-read_leaves.ensures.ok (first.same ∙ h))) in
    history_is (D.seen c.args.disk.now) c.args.root es c.in-Ok.upper.addrs.items c.in-Ok-read_leaves.records.items _ inner records
    (names_once (D.seen c.args.disk.now) es c.in-Ok-read_leaves.records.items (inner_own (D.seen c.args.disk.now) c.args.root es c.in-Ok.upper.addrs.items inner) records (ap names_differ (sym c.deref-2.ensures.value) ∙ sym c.names_differ.ensures ∙ c.if-not-names_differ.false))
    refl (c.in_ok-append_leaves.ensures ∙ ap (λ (l : List HistoryEntry). c.in-Ok.upper.addrs.items ++ leaf_addrs l) c.deref-3.ensures.value)
