use Rattle.std.proofs.Common.{sym, ◌∙◌}
use Rattle.std.specs.Prelude.{option_map}
use Rattle.wt_calls.specs.Calls.{way_in}
use Rattle.call_steps.specs.Tables.{row_sought}
use Rattle.engine.proofs.FoundLeaves.{found-again}
use Rattle.engine.proofs.row_reads.leaf_sought.Goals as goal

pub returns : goal.returns
returns c = c.leaf.ensures ∙ found-again c.args.dir.now c.args.table (row_sought (way_in c.args.way) (option_map (λ k. k.now) c.args.start)) c.in_ok-id.id c.stands.ensures (sym c.leaf_of_row.ensures ∙ c.in_ok-id.was)
