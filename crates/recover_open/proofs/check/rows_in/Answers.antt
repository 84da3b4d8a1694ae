use Rattle.std.proofs.Common.{◌∙◌, ap, subst, inr, List, Option}
use Rattle.std.specs.Prelude.{IfSome}
use Rattle.std.proofs.lemmas.Bool.{both_ways}
use Rattle.wt_code.specs.declared.refusals.Refusal.TheVariants.{Corrupt}
use Rattle.row_page.specs.Rows.{Row, IsPage}
use Rattle.stored.specs.TableTree.{Entry, first_key}
use Rattle.recover_open.proofs.Checks.{other_leaf}
use Rattle.recover_open.proofs.check.rows_in.Goals as goal

pub returns-clause-err : goal.returns-clause-err
returns-clause-err c = inr (
  c.spoilt-else-suits.ensures ∙ ap (λ (x : Entry). Corrupt x.link.addr.offset x.link.addr.sum x.link.addr.sum) c.entry.view_is,
  λ rows page is.
      other_leaf c.args.block.items c.args.entry.now (first_key c.args.others.now) c.in-Ok-Some.leaf rows (subst (λ (o : Option (List Row)). IfSome o (λ found. IsPage c.args.block.items found)) c.in-Ok-Some.field-0-is c.in-Ok-Some.ensures.found)
      (λ other. both_ways c.suits.result c.if-suits.false (c.suits.ensures.1 other)) page is,
)
