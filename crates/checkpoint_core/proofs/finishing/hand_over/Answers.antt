use Rattle.std.proofs.Common.{List, sym, subst}
use Rattle.block_mgr.specs.declared.cell.Cell.{Cell}
use Rattle.block_mgr.specs.Blocks.{HasLive, unit_of}
use Rattle.checkpoint_core.proofs.Capturing.{live_captured}
use Rattle.checkpoint_core.proofs.finishing.hand_over.Goals as goal

pub free-requires : goal.free-requires
free-requires c = subst (λ (l : List Cell). HasLive l c.args.addr.offset c.args.addr.size) (sym c.capture.ensures.cells) (live_captured c.args.blocks.now.cells (unit_of c.args.addr.offset) c.args.addr.offset c.args.addr.size c.requires.live)
