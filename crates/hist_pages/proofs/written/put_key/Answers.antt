use Rattle.std.proofs.Common.{◌++◌, ◌∙◌, ℕ, List, [], ◌∷◌, Bor, ap, sym, subst, take}
use Rattle.std.proofs.lemmas.List.{append-nil, append_assoc, take_all}
use Rattle.item.specs.declared.change.Change.{Change}
use Rattle.stamp.specs.declared.Version.{Version}
use Rattle.stored.specs.HistoryTree.{HistoryRecord, RecordFits}
use Rattle.hist_pages.specs.Making.{AreByStamp, HaveRecords, records_of}
use Rattle.hist_pages.specs.Records.{record_of}
use Rattle.hist_pages.proofs.Members.{member_at, member_mapped, of_all}
use Rattle.hist_pages.proofs.Sorting.{all_now, now_of, records_step}
use Rattle.hist_pages.proofs.written.put_key.Goals as goal

pub push-requires : goal.push-requires
push-requires c =
    let h = c.args.of.now in
    let items = c.deref-version-items.result.now in
    let b = c.version-item.result in
    let by = subst (λ (l : List (Bor (Version Change))). AreByStamp h.versions (all_now l)) (sym c.deref-version-items.ensures.value) c.in_ok-sorted.ensures in
    subst (λ (k : List ℕ). RecordFits (record_of h.table k b.now)) (sym c.as_bytes.ensures)
    (of_all (λ (v : Version Change). RecordFits (record_of h.table h.key v)) h.versions b.now c.requires.fit
    (by.only b.now (member_mapped now_of b items (member_at items c.loop-version.version-index b c.loop-version-test.true c.version-item.is))))

pub loop-version-init : goal.loop-version-init
loop-version-init c = λ records has. subst (HaveRecords c.args.leaves.now) (sym (append-nil records)) has

pub loop-version-preserved : goal.loop-version-preserved
loop-version-preserved c = λ records has.
    let h = c.args.of.now in
    let items = c.deref-version-items.result.now in
    let b = c.version-item.result in
    let sofar = records_of h (all_now (take c.loop-version.version-index items)) in
    let one = record_of h.table h.key b.now ∷ [] in
    subst (HaveRecords c.push.new.self)
    (append_assoc records sofar one ∙ sym (ap (λ (l : List HistoryRecord). records ++ l) (records_step h items c.loop-version.version-index b c.loop-version-test.true c.version-item.is)))
    (subst (λ (k : List ℕ). HaveRecords c.push.new.self ((records ++ sofar) ++ record_of h.table k b.now ∷ [])) c.as_bytes.ensures
    (c.in_ok-push.ensures (records ++ sofar) (c.loop-version.invariant records has)))

pub returns : goal.returns
returns c =
    let h = c.args.of.now in
    let items = c.deref-version-items.result.now in (
      all_now items,
      subst (λ (l : List (Bor (Version Change))). AreByStamp h.versions (all_now l)) (sym c.deref-version-items.ensures.value) c.in_ok-sorted.ensures,
      λ records has. subst (λ (l : List (Bor (Version Change))). HaveRecords c.loop-version.leaves (records ++ records_of h (all_now l))) (take_all c.loop-version.version-index items c.loop-version-test.false) (c.loop-version.invariant records has),
    )
