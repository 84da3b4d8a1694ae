-- What one write may leave, of each image before it, and which call of a write and its sync failed.
use Rattle.std.specs.Prelude.{◌≡◌, ℕ, List, length, IsTrue}
use Rattle.failure.specs.declared.Fault.{Fault}
use Rattle.failure.specs.declared.Fault.TheVariants.{Write, Sync}
use Rattle.disk_model.specs.declared.disk.Disk.{Ghosts}
use Rattle.disk_model.specs.Disk.{put, Torn, Follows, NoMore}
use Rattle.disk_model.specs.Crash.{OneCall}

-- an image from before, after a write of n bytes that a crash may have cut short
abbrev pub OneWrite : ℕ → ℕ → (List ℕ → Type 0) → List ℕ → Type 0
OneWrite at n images c = (d : List ℕ) × images d × Torn at n d c

-- the bytes were written, and no more was done: no call has failed, and a crash leaves any part of the write
pub record HasWritten {D : Type 0} (g : Ghosts D) (at : ℕ) (bytes : List ℕ) (old new : D) : Type 0 where
  pub seen : IsTrue (g.honest old) → g.seen new ≡ put (g.seen old) at bytes
  pub images : Follows (Torn at (length bytes)) (g.may_leave old) (g.may_leave new)
  pub faults : g.faults new ≡ g.faults old

-- Which call failed: the write at its offset, and no call was made behind it; or the sync behind a write that was done, of which a crash then leaves no more than before the sync.
abbrev pub FailedAt : {D : Type 0} → Ghosts D → ℕ → List ℕ → D → D → Fault → Type 0
FailedAt g at bytes old new (Write offset) = (offset ≡ at) × OneCall g old new
FailedAt {D} g at bytes old new Sync = (written : D) × HasWritten g at bytes old written × NoMore (g.may_leave written) (g.may_leave new)
