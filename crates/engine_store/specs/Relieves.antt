-- What leaves that have left their frames leave of a store.
use Rattle.std.specs.Prelude.{◌≡◌, ◌≤◌, ◌<◌, ◌||◌, ℕ, nat_le, nat_lt, Bool, List, [], length, None, Some, Option}
use Rattle.disk_model.specs.declared.disk.Disk.{Ghosts}
use Rattle.row_page.specs.Rows.{Row}
use Rattle.stored.specs.Stored.{Stored}
use Rattle.stored.specs.TableTree.{Entry}
use Rattle.engine_world.specs.Stands.{Stands}
use Rattle.engine_world.specs.Worlds.{World}
use Rattle.ckpt_step.specs.Floors.{Follows}
use Rattle.ckpt_step.specs.Giving.{HasNewest}
use Rattle.ckpt_step.specs.Grounds.{StandsOn}
use Rattle.engine_store.specs.declared.store.Store.{Store}

-- of a leaf in this frame, of which the checkpoint has this: it is in a frame behind the first ones, of which there are so many, or there are several entries of it
abbrev pub has_to_go : (frames frame : ℕ) → Option (List Entry) → Bool
has_to_go frames frame None = nat_le frames frame
has_to_go frames frame (Some part) = nat_le frames frame || nat_lt 1 (length part)

-- sessions, tables, transactions and the checkpoint that runs are the same, and of the last completed one what each disk tells alike
pub record StaysAlike (s s' : Store) : Type 0 where
  pub running : s'.running ≡ s.running
  pub frames : s'.frames ≡ s.frames
  pub sessions : s'.engine.sessions ≡ s.engine.sessions
  pub tables : s'.engine.hub.tables ≡ s.engine.hub.tables
  pub txns : s'.engine.hub.txns ≡ s.engine.hub.txns
  pub number : s'.ground.number ≡ s.ground.number
  pub trees : s'.ground.trees ≡ s.ground.trees

-- The store stands for the world, whose shelf has what left the frames, on the checkpoint that the disk has, since which no leaf was written. Those that left have later ids; next: the one that came next before.
pub record IsRelieved (seen : List ℕ) (images : List ℕ → Type 0) (old : Option Stored) (next : ℕ) (w : World) (s : Store) : Type 0 where
  pub shelf : ℕ → List Row
  pub stands : Stands s.engine (record w { shelf = shelf })
  pub on : StandsOn seen images s.engine.hub s.ground old
  pub follows : Follows old s.engine.hub s.ground (record w { shelf = shelf })
  pub none : s.ground.lives ≡ []
  pub ids : next ≤ s.engine.hub.dir.next
  pub same : (id : ℕ) → id < next → shelf id ≡ w.shelf id

-- so it does where it stood for it, no leaf was written since the checkpoint, and that has the newest version of each key
abbrev pub Relieves : List ℕ → (List ℕ → Type 0) → Store → Store → Type 0
Relieves seen images s s' = (old : Option Stored) (w : World) → Stands s.engine w → w.machine.checkpoint ≡ None → StandsOn seen images s.engine.hub s.ground old → Follows old s.engine.hub s.ground w → s.ground.lives ≡ [] → HasNewest old w.machine
    → IsRelieved seen images old s.engine.hub.dir.next w s'

-- whatever the disk
pub record LetsGo {D : Type 0} (g : Ghosts D) (s s' : Store) : Type 0 where
  pub alike : StaysAlike s s'
  pub kept : s'.ground.kept ≡ s.ground.kept
  pub relieves : (disk : D) → Relieves (g.seen disk) (g.may_leave disk) s s'
