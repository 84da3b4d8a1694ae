-- Rows that go out of memory while a load puts others.
use Rattle.std.specs.Prelude.{◌≡◌, [], Ok, Err}
use Rattle.std.proofs.Common.{◌∙◌, inl, inr, refl}
use Rattle.failure.specs.Counts.{Rose}
use Rattle.disk_model.specs.declared.disk.Disk.{Ghosts}
use Rattle.wt_code.specs.declared.refusals.Refusal.{Refusal}
use Rattle.wt_code.specs.declared.refusals.Refusal.TheVariants.{DiskFault}
use Rattle.kv_model.specs.Machine.{Completed, GoDown, after as after_event}
use Rattle.engine_world.specs.Worlds.{World}
use Rattle.engine_store.specs.declared.store.Store.{Store}
use Rattle.engine_store.specs.Devices.{device_of}
use Rattle.engine_store.specs.WritesOut.{WritesOut, WroteUp}
use Rattle.wt_tool.specs.Led.{Holds, WentOut}
use Rattle.wt_tool.proofs.Beside.{keeps_same, same_device}

module _ {D : Type 0} (g : Ghosts D) (start_disk : D) (first : Completed) (w : World) (s s' : Store) (before after : D) (holds : Holds g start_disk first s before w) (frames : s'.frames ≡ s.frames) where
  pub room_made : WroteUp g start_disk w first [] s s' before after → WentOut g start_disk first w s' before after (Ok tt)
  room_made x = (
    record w { shelf = x.shelf },
    record { held = x.wrote.held; quiet = record { sessions = holds.quiet.sessions; systems = holds.quiet.systems }; completed = holds.completed; up = holds.up; soft = frames ∙ holds.soft },
    refl,
    x.wrote.later,
    x.keeps,
  )

  -- a call of the disk failed
  pub room_fails : (r : Refusal) → Rose (g.faults before) (g.faults after) → WritesOut g start_disk w first [] s s' before after (Err r) → WentOut g start_disk first w s' before after (Err r)
  room_fails r rose (inl (x, why)) = (w.machine, record { opens = x.wrote.held.last; ever = x.wrote.held.ever; stays = x.wrote.held.stays }, x.wrote.later, rose, inl refl)
  room_fails r rose (inr x) = (after_event w.machine (GoDown x.fault), record { opens = x.wrote.held.last; ever = x.wrote.held.ever; stays = x.wrote.held.stays }, x.wrote.later, rose, inr (x.fault, refl))

  -- none did
  pub room_kept : (r : Refusal) → (r ≡ DiskFault → ⊥) → WritesOut g start_disk w first [] s s' before after (Err r) → WentOut g start_disk first w s' before after (Ok tt)
  room_kept r other (inl (x, why)) = room_made x
  room_kept r other (inr x) = absurd (other x.is)

-- nothing is done
pub room_none : {D : Type 0} (g : Ghosts D) (start_disk : D) (first : Completed) (w : World) (s : Store) (disk : D) → Holds g start_disk first s disk w → WentOut g start_disk first w s disk disk (Ok tt)
room_none g start_disk first w s disk holds = (w, holds, refl, same_device (device_of g disk), keeps_same (device_of g disk))
