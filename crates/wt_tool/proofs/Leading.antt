-- The runs that the calls of a command make.
use Rattle.std.specs.Prelude.{ℕ, List, Result, Ok, Err}
use Rattle.std.proofs.Common.{inl, inr, refl}
use Rattle.disk_model.specs.declared.disk.Disk.{Ghosts}
use Rattle.item.specs.declared.Formats.{Formats}
use Rattle.wt_code.specs.declared.refusals.Refusal.{Refusal}
use Rattle.kv_model.specs.Calls.{Actor, System, Call, Create}
use Rattle.kv_model.specs.Machine.{Completed}
use Rattle.engine_world.specs.Worlds.{World}
use Rattle.engine_store.specs.declared.store.Store.{Store}
use Rattle.engine_store.specs.Devices.{device_of}
use Rattle.wt_tool.specs.Creates.{MakesTable}
use Rattle.wt_tool.specs.Led.{DoneBy, Ended, Holds, LedBy, OpenedBy}
use Rattle.wt_tool.specs.Points.{Calls, Point, Ran, WithSession, point_of}
use Rattle.wt_tool.proofs.Beside.{keeps_same, same_device}

module _ {D : Type 0} (g : Ghosts D) (start_disk : D) (first : Completed) where
  -- a run may end where the command holds its store
  pub ended : (s : Store) (disk : D) (w : World) → Holds g start_disk first s disk w → Ended g start_disk first disk w.machine
  ended s disk w holds = record { opens = holds.held.last; ever = holds.held.ever; stays = holds.held.stays }

  -- calls behind others
  pub led_behind : (Run Mid Rest : Point → Ran → Type 0) (w : World) (m n : Store) (before mid after : D) (result : Result (Unit {0}) Refusal) → LedBy g start_disk first w m before mid Run Mid (Ok tt)
      → ((v : World) → Holds g start_disk first m mid v → LedBy g start_disk first v n mid after Mid Rest result) → LedBy g start_disk first w n before after Run Rest result
  led_behind Run Mid Rest w m n before mid after (Ok done) (v, holds, front) goes = let (u, still, more) = goes v holds in (u, still, λ ran rest. front ran (more ran rest))
  led_behind Run Mid Rest w m n before mid after (Err r) (v, holds, front) goes = let (u, still, more) = goes v holds in (u, still, front _ more)

  -- a call, before what goes on
  pub called_led : (actor : Actor) (c : Call) (Goes : Point → Ran → Type 0) (w : World) (m : Store) (before after : D) (result : Result (Unit {0}) Refusal) → DoneBy g start_disk first w m before after actor c result
      → LedBy g start_disk first w m before after (λ p ran. Calls actor c Goes p ran) Goes result
  called_led actor c Goes w m before after (Ok done) (v, holds, did) = (v, holds, λ ran goes. inr (point_of g v.machine after, did, goes))
  called_led actor c Goes w m before after (Err r) (v, holds, did) = (v.machine, ended m after v holds, inl (r, point_of g v.machine after, did, refl))

  pub made_led : (name : List ℕ) (formats : Formats) (Goes : Point → Ran → Type 0) (w : World) (m : Store) (before after : D) (result : Result (Unit {0}) Refusal) → DoneBy g start_disk first w m before after (System 0) (Create name formats) result
      → LedBy g start_disk first w m before after (MakesTable name formats Goes) Goes result
  made_led name formats Goes w m before after result done = called_led (System 0) (Create name formats) Goes w m before after result done

  -- a session that is opened, before what goes on
  pub opened_led : (Goes : Point → Ran → Type 0) (w : World) (m : Store) (disk : D) (result : Result (Unit {0}) Refusal) → OpenedBy g start_disk first w m disk disk result → LedBy g start_disk first w m disk disk (λ p ran. WithSession Goes p ran) Goes result
  opened_led Goes w m disk (Ok done) (v, holds, opens) = (v, holds, λ ran goes. inr (point_of g v.machine disk, same_device (device_of g disk), keeps_same (device_of g disk), opens, goes))
  opened_led Goes w m disk (Err r) (v, holds, opens) = (v.machine, ended m disk v holds, inl (r, point_of g v.machine disk, same_device (device_of g disk), keeps_same (device_of g disk), opens, refl))
