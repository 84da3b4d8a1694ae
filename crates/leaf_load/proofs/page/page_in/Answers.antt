use Rattle.std.proofs.Common.{subst, inr, option_map, List, Option, ℕ}
use Rattle.std.specs.Prelude.{IfSome}
use Rattle.std.specs.Borrow.{Bor}
use Rattle.std.proofs.lemmas.Bool.{both_ways}
use Rattle.row_page.specs.Rows.{Row, IsPage}
use Rattle.recover_open.proofs.Checks.{other_leaf}
use Rattle.leaf_load.specs.Loads.{entry_of}
use Rattle.leaf_load.proofs.page.page_in.Goals as goal

pub returns-else-suits-clause-err : goal.returns-else-suits-clause-err
returns-else-suits-clause-err c = inr (
  c.spoilt-else-suits.ensures,
  λ rows page is.
      other_leaf c.args.block.items (entry_of c.args.low.now c.args.link) (option_map (λ (k : Bor (List ℕ)). k.now) c.args.high) c.in-Ok-Some.leaf rows
      (subst (λ (o : Option (List Row)). IfSome o (λ found. IsPage c.args.block.items found)) c.in-Ok-Some.field-0-is c.in-Ok-Some.ensures.found)
      (λ other. both_ways c.suits.result c.if-suits.false (c.suits.ensures.1 other)) page is,
)
