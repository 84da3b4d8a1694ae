use Rattle.std.proofs.Common.{◌∙◌}
use Rattle.script_run.proofs.Devices.{count_at, count_kept, crash_told}
use Rattle.script_run.proofs.control.reopen_as_it_was.Goals as goal

pub returns-clause-replies : goal.returns-clause-replies
returns-clause-replies g c = λ honest first s at.
    crash_told g.D.Disk first s c.reopen.new.store c.reopen.new.disk c.reopen.new.kept c.count-frames.result c.reopen.result (c.count-frames.ensures ∙ count_at c.args.store.now.frames s.frames at.frames) (c.reopen.ensures.replies honest first s at)

pub returns-clause-frames : goal.returns-clause-frames
returns-clause-frames g c = count_kept c.args.store.now.frames c.reopen.new.store.frames c.count-frames.result c.reopen.result c.count-frames.ensures c.reopen.ensures.frames c.reopen.ensures.kept
