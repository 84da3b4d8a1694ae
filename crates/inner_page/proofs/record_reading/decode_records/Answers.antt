use Rattle.std.proofs.Common.{◌≡◌, List, [], Some, None, sym, ap, subst, ◌∙◌, arith}
use Rattle.std.specs.Prelude.{IfSome, IfNone}
use Rattle.stored.specs.HistoryTree.{HistoryRecord}
use Rattle.inner_page.specs.RecordReading.{records_at}
use Rattle.inner_page.specs.Names.{names_differ}
use Rattle.inner_page.proofs.HistoryLeaves.{no_leaf_image, no_leaf_head, no_leaf_page, no_leaf_names, history_leaf}
use Rattle.inner_page.proofs.record_reading.decode_records.Goals as goal

pub returns-in_default-clause-none : goal.returns-in_default-clause-none
returns-in_default-clause-none c = no_leaf_image c.args.block.now c.in_default.ensures.none

pub returns-then-not-leaf_fits-clause-none : goal.returns-then-not-leaf_fits-clause-none
returns-then-not-leaf_fits-clause-none c =
    let i = c.in-Some.image in
    no_leaf_head c.args.block.now i.count i.level i.text.now c.in-Some.ensures.found (sym c.leaf_fits.ensures ∙ c.if-not-leaf_fits.true)

pub returns-in_default-2-clause-none : goal.returns-in_default-2-clause-none
returns-in_default-2-clause-none c =
    let i = c.in-Some.image in
    no_leaf_page c.args.block.now i.count i.level i.text.now c.in-Some.ensures.found (subst (λ o. IfNone o ((records : List HistoryRecord) → records_at i.count None i.text.now ≡ Some (records, []) → ⊥)) c.in_default-2.is c.in_ok-records.ensures.none)

pub returns-then-names_differ-clause-found : goal.returns-then-names_differ-clause-found
returns-then-names_differ-clause-found c =
    let i = c.in-Some.image in
    history_leaf c.args.block.now i.count i.level i.text.now c.in-Some-2.records.items (λ k. omega (arith, c.type_inv.block k)) c.in-Some.ensures.found (sym c.leaf_fits.ensures ∙ c.if-not-leaf_fits.false)
    (subst (λ o. IfSome o (λ v. records_at i.count None i.text.now ≡ Some (v.items, []))) c.in-Some-2.is c.in_ok-records.ensures.found)
    (ap names_differ (sym c.deref.ensures.value) ∙ sym c.names_differ.ensures ∙ c.if-names_differ.true)

pub returns-else-names_differ-clause-none : goal.returns-else-names_differ-clause-none
returns-else-names_differ-clause-none c =
    let i = c.in-Some.image in
    no_leaf_names c.args.block.now i.count i.level i.text.now c.in-Some-2.records.items c.in-Some.ensures.found
    (subst (λ o. IfSome o (λ v. records_at i.count None i.text.now ≡ Some (v.items, []))) c.in-Some-2.is c.in_ok-records.ensures.found)
    (ap names_differ (sym c.deref.ensures.value) ∙ sym c.names_differ.ensures ∙ c.if-names_differ.false)
