use Rattle.std.proofs.Common.{[], List, ap, ◌∙◌}
use Rattle.row_page.specs.Rows.{Row}
use Rattle.leaf_rows.specs.Contents.{seen_rows}
use Rattle.leaf_frame.specs.Leaf.{leaf_of}
use Rattle.recover_open.proofs.OneLeaf.{one_leaf}
use Rattle.leaf_load.proofs.laws.one_is_loaded.Goals as goal

pub returns : goal.returns
returns c = λ bytes e next marks ids leaf rows loaded is. loaded.is ∙ ap (λ (l : List Row). leaf_of (seen_rows marks ids l) []) (one_leaf bytes e.link loaded.rows rows loaded.under.leaf is)
