-- What calls that reach the device leave of a world is what they leave of it with another history.
use Rattle.std.proofs.Common.{ℕ, List, inl, inr}
use Rattle.std.specs.Prelude.{Result, Ok, Err}
use Rattle.disk_model.specs.declared.disk.Disk.{Ghosts}
use Rattle.wt_code.specs.declared.refusals.Refusal.{Refusal}
use Rattle.kv_model.specs.Machine.{Completed, Machine}
use Rattle.row_page.specs.Rows.{Row}
use Rattle.engine_world.specs.Worlds.{Records, World}
use Rattle.engine_store.specs.declared.store.Store.{Store}
use Rattle.engine_store.specs.Devices.{Installed}
use Rattle.engine_store.specs.Held.{Checkpoints, MayReopen, Shuts}
use Rattle.engine_store.specs.Room.{RoomDown, RoomMade, RoomOf, RoomUp}
use Rattle.engine_store.specs.WritesOut.{WritesOut, WroteOn, WroteUp}
use Rattle.engine_store.proofs.OtherRecords.{other_records}

module _ {D : Type 0} (g : Ghosts D) (start_disk : D) (w : World) (r : Records) (first : Completed) (made : List Installed) (s s' : Store) (before after : D) where
  abbrev a : World
  a = other_records r w

  pub checkpoints_as : (result : Result (Unit {0}) Refusal) → Checkpoints g start_disk a first made s s' before after result → Checkpoints g start_disk w first made s s' before after result
  checkpoints_as result (shelf, x) = (shelf, record { next = x.next; now = x.now; behind = x.behind; takes = x.takes; installs = x.installs; held = x.held; none = x.none })

  pub shuts_as : (result : Result (Unit {0}) Refusal) → Shuts g start_disk a first made s s' before after result → Shuts g start_disk w first made s s' before after result
  shuts_as result x = record { next = x.next; now = x.now; behind = x.behind; takes = x.takes; installs = x.installs; held = x.held; none = x.none }

  pub reopens_as : (result : Result (Unit {0}) Refusal) → MayReopen g start_disk a first made s s' before after result → MayReopen g start_disk w first made s s' before after result
  reopens_as (Ok done) x = record { content = x.content; reads = x.reads; one = x.one; later = x.later; seen = x.seen; capacity = x.capacity; shelf = x.shelf; held = x.held; none = x.none }
  reopens_as (Err refusal) x = record { why = x.why; later = x.later; seen = x.seen; capacity = x.capacity; held = x.held; none = x.none }

  -- ---- leaves that are evicted

  made_as : (next : Machine) → RoomMade g start_disk a first made s s' before after next → RoomMade g start_disk w first made s s' before after next
  made_as next x = record { shelf = x.shelf; again = x.again; more = x.more; later = x.later; capacity = x.capacity; held = x.held }

  pub room_up_as : RoomUp g start_disk a first made s s' before after → RoomUp g start_disk w first made s s' before after
  room_up_as x = record { room = made_as w.machine x.room; keeps = x.keeps }

  pub room_down_as : RoomDown g start_disk a first made s s' before after → RoomDown g start_disk w first made s s' before after
  room_down_as x = record { fault = x.fault; rose = x.rose; room = made_as _ x.room }

  pub room_as : RoomOf g start_disk a first made s s' before after → RoomOf g start_disk w first made s s' before after
  room_as (inl x) = inl (room_up_as x)
  room_as (inr x) = inr (room_down_as x)

  -- ---- leaves that are written out

  on_as : (shelf : ℕ → List Row) (next : Machine) → WroteOn g start_disk a first made s s' before after shelf next → WroteOn g start_disk w first made s s' before after shelf next
  on_as shelf next x = record { later = x.later; capacity = x.capacity; held = x.held }

  pub up_as : WroteUp g start_disk a first made s s' before after → WroteUp g start_disk w first made s s' before after
  up_as x = record { shelf = x.shelf; wrote = on_as x.shelf w.machine x.wrote; keeps = x.keeps }

  pub writes_as : (result : Result (Unit {0}) Refusal) → WritesOut g start_disk a first made s s' before after result → WritesOut g start_disk w first made s s' before after result
  writes_as (Ok done) x = up_as x
  writes_as (Err refusal) (inl (x, why)) = inl (up_as x, why)
  writes_as (Err refusal) (inr x) = inr (record { is = x.is; rose = x.rose; fault = x.fault; shelf = x.shelf; wrote = on_as x.shelf _ x.wrote })
