use Rattle.kv_model.proofs.RowRanges.{cuts-part-ranges}
use Rattle.kv_model.proofs.rows.cuts_part_ranges.Goals as goal

pub returns : goal.returns
returns c = cuts-part-ranges
