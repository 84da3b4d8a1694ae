use Rattle.std.proofs.Common.{refl}
use Rattle.std.proofs.lemmas.Bool.{false≢true}
use Rattle.block_mgr.specs.Cells.{cell_at}
use Rattle.block_mgr.proofs.blocks.Blocks.unname.Goals as goal

pub returns-in_default-clause-found : goal.returns-in_default-clause-found
returns-in_default-clause-found c = (λ is. absurd (false≢true is), λ (u, place, size, is). absurd (c.in_default.ensures.none refl u (cell_at c.args.self.now.cells u).units place size))
