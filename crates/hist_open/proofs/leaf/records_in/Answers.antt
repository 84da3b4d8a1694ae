use Rattle.std.proofs.Common.{◌∙◌, ap, subst, sym, inr, List}
use Rattle.std.specs.Prelude.{IfSome}
use Rattle.std.proofs.lemmas.Bool.{both_ways}
use Rattle.wt_code.specs.declared.refusals.Refusal.TheVariants.{Corrupt}
use Rattle.stored.specs.HistoryTree.{HistoryEntry, HistoryRecord, first_mark}
use Rattle.inner_page.specs.Pages.{IsHistoryLeaf}
use Rattle.hist_open.specs.Leaves.{IsLeafOf}
use Rattle.hist_open.proofs.OneLeaf.{other_leaf}
use Rattle.hist_open.proofs.leaf.records_in.Goals as goal

pub returns-else-suits-clause-err : goal.returns-else-suits-clause-err
returns-else-suits-clause-err c = inr (
  c.spoilt-else-suits.ensures ∙ ap (λ (x : HistoryEntry). Corrupt x.link.addr.offset x.link.addr.sum x.link.addr.sum) c.entry.view_is,
  λ others spells.
      other_leaf c.args.block.now c.args.entry.now (first_mark c.args.others.now) c.in-Ok-Some.records.items others (subst (λ o. IfSome o (λ v. IsHistoryLeaf c.args.block.now v.items)) c.in-Ok-Some.field-0-is c.in-Ok-Some.ensures.found)
      (λ is. both_ways c.suits.result c.if-suits.false (c.suits.ensures.1 (subst (λ (l : List HistoryRecord). IsLeafOf c.args.entry.now (first_mark c.args.others.now) l) (sym c.deref.ensures.value) is))) spells,
)
