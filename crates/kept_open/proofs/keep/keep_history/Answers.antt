use Rattle.std.proofs.Common.{◌≡◌, ◌∙◌, List, ap, subst, sym, true}
use Rattle.std.specs.Prelude.{IsPermutation}
use Rattle.std.specs.List.{list_all}
use Rattle.std.proofs.lemmas.Result.{IfOk-weaker}
use Rattle.stored.specs.HistoryTree.{HistoryRecord, NamesOnce}
use Rattle.kept_open.specs.Keeping.{AreOrdered, is_kept_record, record_fits}
use Rattle.kept_open.proofs.Fitting.{pass_fit}
use Rattle.kept_open.proofs.KeptRecords.{all_fit, keeps_none, keeps_records}
use Rattle.kept_open.proofs.Sorting.{once_filtered}
use Rattle.kept_open.proofs.keep.keep_history.Goals as goal

pub keep_each-requires : goal.keep_each-requires
keep_each-requires c =
    let sorted = c.sort.new.records.items in
    let pass : c.all_fit.result ≡ true = cc in
    all_fit (is_kept_record c.args.marks.now c.args.ids.now) c.args.records.items sorted (pass_fit c.args.records.items (ap (λ (l : List HistoryRecord). list_all record_fits l) (sym c.deref.ensures.value) ∙ (sym c.all_fit.ensures ∙ pass)))
    (subst (λ (l : List HistoryRecord). IsPermutation l sorted) c.keep_seen.ensures c.sort.ensures.same)

pub returns-clause-kept : goal.returns-clause-kept
returns-clause-kept c = λ fit.
    let sorted = c.sort.new.records.items in
    let once = subst (λ (l : List HistoryRecord). NamesOnce l) (sym c.keep_seen.ensures) (once_filtered (is_kept_record c.args.marks.now c.args.ids.now) c.args.records.items fit.once) in
    let ordered = subst (λ (l : List HistoryRecord). AreOrdered l sorted) c.keep_seen.ensures (c.sort.ensures.ordered once) in
    IfOk-weaker c.keep_each.result _ _ (λ kept lists. keeps_records c.args.leaves.now c.stands.ensures c.args.marks.now c.args.ids.now c.args.records.items sorted ordered kept lists) c.keep_each.ensures

pub returns-clause-none : goal.returns-clause-none
returns-clause-none c = λ fit.
    let sorted = c.sort.new.records.items in
    let once = subst (λ (l : List HistoryRecord). NamesOnce l) (sym c.keep_seen.ensures) (once_filtered (is_kept_record c.args.marks.now c.args.ids.now) c.args.records.items fit.once) in
    let ordered = subst (λ (l : List HistoryRecord). AreOrdered l sorted) c.keep_seen.ensures (c.sort.ensures.ordered once) in
    IfOk-weaker c.keep_each.result _ _ (λ kept lists. keeps_none c.args.leaves.now c.stands.ensures c.args.marks.now c.args.ids.now c.args.records.items sorted ordered kept lists) c.keep_each.ensures
