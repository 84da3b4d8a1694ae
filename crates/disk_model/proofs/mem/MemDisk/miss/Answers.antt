use Rattle.std.proofs.Common.{inr}
use Rattle.disk_model.proofs.mem.MemDisk.miss.Goals as goal

pub returns-in-Ok-clause-went : goal.returns-in-Ok-clause-went
returns-in-Ok-clause-went c = inr (c.in-Ok.copy, c.in-Ok.ensures.items, c.note.ensures.went)
