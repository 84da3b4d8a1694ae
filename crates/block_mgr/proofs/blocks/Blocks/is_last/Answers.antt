use Rattle.std.proofs.Common.{refl}
use Rattle.std.proofs.lemmas.Bool.{false≢true}
use Rattle.block_mgr.specs.Cells.{cell_at}
use Rattle.block_mgr.proofs.blocks.Blocks.is_last.Goals as goal

pub returns-in-None : goal.returns-in-None
returns-in-None c = (λ is. absurd (false≢true is), λ (u, place, size, is). absurd (c.in-None.ensures.none refl u (cell_at c.args.self.now.cells u).units place size))
