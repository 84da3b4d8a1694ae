use Rattle.std.proofs.Common.{[]}
use Rattle.device_leaf.proofs.Opens.{err_map}
use Rattle.wt_tool.proofs.Closings.{close_sound, closed_left}
use Rattle.wt_tool.proofs.closing.close.Goals as goal

pub returns-clause-run : goal.returns-clause-run
returns-clause-run g c h start first w holds =
    closed_left g.D.Disk start first w c.args.store c.close-closed.new.self c.args.disk.now c.close-closed.new.disk holds.quiet c.close-closed.result
    (c.close-closed.ensures.shuts h start w first [] holds.held)

pub returns-clause-sound : goal.returns-clause-sound
returns-clause-sound g c = err_map c.close-closed.result c.close-closed.ensures.refusals close_sound
