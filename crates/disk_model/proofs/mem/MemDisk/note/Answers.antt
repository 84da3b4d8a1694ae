use Rattle.std.proofs.Common.{◌∙◌, refl}
use Rattle.disk_model.specs.Laws.{quiet_content}
use Rattle.disk_model.proofs.mem.MemDisk.note.Goals as goal

pub invariant_of-self : goal.invariant_of-self
invariant_of-self c = c.self.invariant ∙ quiet_content _ _ _ _ _ (rw (← c.self.view_is) at c.requires) refl c.take_down.ensures.grew
