-- Leaves that have gone out of their frames, while calls read others.
use Rattle.std.specs.Prelude.{◌≡◌, ℕ, true, List, map, None, Option, Some}
use Rattle.disk_model.specs.declared.disk.Disk.{Ghosts}
use Rattle.stored.specs.Stored.{Stored}
use Rattle.tree_dir.specs.declared.leaf.Leaf.{Leaf}
use Rattle.tree_dir.specs.Leaves.{in_frame, leaf_named}
use Rattle.call_steps.specs.declared.hub.Hub.{Hub}
use Rattle.engine_world.specs.Stands.{Stands}
use Rattle.engine_world.specs.Worlds.{World}
use Rattle.engine.specs.Directories.{HubGoesOn}
use Rattle.ckpt_step.specs.Floors.{AreLivesOn, Follows}
use Rattle.ckpt_step.specs.Grounds.{StandsOn}
use Rattle.ckpt_step.specs.Parts.{has_rows}
use Rattle.ckpt_step.specs.Rooms.{known_in}
use Rattle.engine_store.specs.declared.store.Store.{Store}

-- the hub, as if each of its leaves were in no frame
abbrev pub all_out : Hub → Hub
all_out h = record h { dir = record h.dir { leaves = map (in_frame None) h.dir.leaves } }

-- the leaf of this id is there, and its link leads to rows
abbrev pub LeadsToRows : List Leaf → ℕ → Type 0
LeadsToRows leaves id = (l : Leaf) × (leaf_named id leaves ≡ Some l) × (has_rows l.entry.link ≡ true)

-- So it is, and no checkpoint of this engine wrote it.
pub record IsWhole (s : Store) (id : ℕ) : Type 0 where
  pub leads : LeadsToRows s.engine.hub.dir.leaves id
  pub unwritten : known_in s.ground.parts id ≡ None

-- Nobody sees that leaves went out: whatever the disk, the store stands for the worlds for which it stood, on the checkpoint that the disk has.
pub record GoOut {D : Type 0} (g : Ghosts D) (s s' : Store) : Type 0 where
  pub ground : s'.ground ≡ s.ground
  pub running : s'.running ≡ s.running
  pub frames : s'.frames ≡ s.frames
  pub sessions : s'.engine.sessions ≡ s.engine.sessions
  pub hub : s'.engine.hub ≡ record s.engine.hub { dir = s'.engine.hub.dir }
  pub stands : (w : World) → Stands s.engine w → Stands s'.engine w
  pub on : (disk : D) (old : Option Stored) → StandsOn (g.seen disk) (g.may_leave disk) s.engine.hub s.ground old
      → StandsOn (g.seen disk) (g.may_leave disk) s'.engine.hub s'.ground old
      × ((w : World) → Follows old s.engine.hub s.ground w → Follows old s'.engine.hub s'.ground w)
      × ((w : World) → AreLivesOn (g.seen disk) s.engine.hub s.ground w → AreLivesOn (g.seen disk) s'.engine.hub s'.ground w)
  pub goes : (h : Hub) → HubGoesOn (all_out h) s.engine.hub → HubGoesOn (all_out h) s'.engine.hub
