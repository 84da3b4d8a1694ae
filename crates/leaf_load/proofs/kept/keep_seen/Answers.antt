use Rattle.std.proofs.Common.{List, Option, subst, sym}
use Rattle.std.specs.Prelude.{IfSome}
use Rattle.row_page.specs.Rows.{IsPage, Row}
use Rattle.row_page.proofs.Leaves.{one_page}
use Rattle.leaf_rows.specs.Contents.{is_seen_row, seen_rows}
use Rattle.leaf_load.proofs.Seen.{all_kept}
use Rattle.leaf_load.proofs.kept.keep_seen.Goals as goal

pub returns-then-are_seen : goal.returns-then-are_seen
returns-then-are_seen c = sym (all_kept (is_seen_row c.args.marks c.args.ids.now) c.args.page (c.are_seen.ensures.0 c.if-are_seen.true))

pub returns : goal.returns
returns c = one_page c.in_ok-block.block.items c.unwrap.result (seen_rows c.args.marks c.args.ids.now c.args.page) (subst (λ (o : Option (List Row)). IfSome o (λ found. IsPage c.in_ok-block.block.items found)) c.unwrap.ensures c.in_ok-kept.ensures.found) c.in_ok-block.ensures
