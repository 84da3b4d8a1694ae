use Rattle.std.proofs.Common.{ap}
use Rattle.std.specs.Prelude.{Option}
use Rattle.tree_dir.specs.declared.leaf.Leaf.{Leaf}
use Rattle.engine_start.specs.Entries.{kept_of}
use Rattle.engine_start.proofs.unread.shelves_are.Goals as goal

pub returns : goal.returns
returns c = λ m ids led d is l there. ap (λ (o : Option Leaf). kept_of m ids led o) (c.ids_name.ensures d is l there)
