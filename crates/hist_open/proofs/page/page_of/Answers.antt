use Rattle.std.proofs.Common.{inr, sym, ◌∙◌, ap, subst, List, Option}
use Rattle.std.specs.Prelude.{IfSome}
use Rattle.std.proofs.lemmas.Bool.{both_ways}
use Rattle.wt_code.specs.declared.refusals.Refusal.TheVariants.{Corrupt}
use Rattle.stored.specs.HistoryTree.{HistoryEntry, first_mark}
use Rattle.inner_page.specs.declared.history.HistoryInner.{HistoryInner}
use Rattle.inner_page.specs.Pages.{IsHistoryPage}
use Rattle.hist_open.specs.Pages.{Suits}
use Rattle.hist_open.proofs.OnePage.{only_page}
use Rattle.hist_open.proofs.page.page_of.Goals as goal
use Rattle.hist_open.proofs.page.page_of.Goals.{else-page-level-via-then-page-level+else-suits, else-page-level-via-else-page-level}

pub returns-else-page-level-clause-err : goal.returns-else-page-level-clause-err
returns-else-page-level-clause-err c =
    let e = c.args.entry.now in
    let next = first_mark c.args.others.now in
    let page = c.in-Ok-Some.page in
    let found : IsHistoryPage c.args.block.now page.level page.entries.items = subst (λ (o : Option HistoryInner). IfSome o (λ q. IsHistoryPage c.args.block.now q.level q.entries.items)) c.in-Ok-Some.field-0-is c.in-Ok-Some.ensures.found in
    inr (
      c.spoilt-else-page-level.ensures ∙ ap (λ (x : HistoryEntry). Corrupt x.link.addr.offset x.link.addr.sum x.link.addr.sum) c.entry.view_is,
      λ p of.
          let same = only_page c.args.block.now c.args.level page.level e next p page.entries.items found of in
          elim c.else-page-level.branch [
            | else-page-level-via-then-page-level+else-suits w ↦ both_ways w.suits.result w.if-suits.false (w.suits.ensures.1 (subst (λ (l : List HistoryEntry). Suits e next l) (sym w.deref.ensures.value) same.1))
            | else-page-level-via-else-page-level w ↦ w.if-page-level.false (sym same.0)
          ],
    )
