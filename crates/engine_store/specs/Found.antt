-- What is made of a survey, step by step.
use Rattle.std.specs.Prelude.{◌≡◌, ◌⊎◌, ℕ, ◌≤◌, IsTrue, List, [], None, Option}
use Rattle.failure.specs.Counts.{Rose}
use Rattle.disk_model.specs.declared.disk.Disk.{Ghosts}
use Rattle.wt_code.specs.declared.refusals.Refusal.{Refusal}
use Rattle.wt_code.specs.declared.refusals.Refusal.TheVariants.{NoMemory, Limit as Refusal_Limit}
use Rattle.wt_code.specs.declared.refusals.Limit.TheVariants.{Checkpoints, Tables}
use Rattle.row_page.specs.Greatest.{no_name}
use Rattle.row_page.specs.Rows.{Row}
use Rattle.tree_open.specs.Damage.{Refused}
use Rattle.stored.specs.Stored.{Stored}
use Rattle.device_leaf.specs.Closings.{content_was}
use Rattle.device_leaf.specs.Openings.{Serves, last_number}
use Rattle.recover_open.specs.declared.wholes.Whole.{Whole}
use Rattle.recover_open.specs.Recoveries.{Counts}
use Rattle.call_steps.specs.declared.hub.Hub.{Hub}
use Rattle.engine_world.specs.Stands.{Stands}
use Rattle.ckpt_step.specs.declared.ground.Ground.{Ground}
use Rattle.ckpt_step.specs.Floors.{Follows}
use Rattle.ckpt_step.specs.Grounds.{AreRoots, AreWritten, found_in, history_places, number_of}
use Rattle.ckpt_step.specs.Rooms.{known_in}
use Rattle.engine_store.specs.declared.store.Store.{Store}
use Rattle.engine_store.specs.Keeping.{begun_with}
use Rattle.engine_store.specs.Marked.{AreAway}
use Rattle.engine_store.specs.Loads.{LeafOfSpoils}
use Rattle.engine_store.specs.Opened.{HasNumbers, LacksNumbers}

-- The ground is that of this checkpoint, or of none, on a device that was not synced since; no leaf was written since.
pub record IsGroundOf (bytes : List ℕ) (hub : Hub) (g : Ground) (old : Option Stored) : Type 0 where
  pub serves : Serves bytes g.place old
  pub books : Counts (found_in old) g.place.blocks
  pub number : g.number ≡ number_of old
  pub roots : AreRoots hub.tables.tables [] hub.dir.leaves (known_in g.parts) g.trees.items old
  pub history : g.history.items ≡ history_places old
  pub written : AreWritten hub.tables.tables [] hub.dir (known_in g.parts) g.trees.items
  pub none : g.lives ≡ []
  pub floor : g.floor ≡ no_name

-- The engine begins with what the device holds, with what is kept as the history, and no checkpoint runs. The leaves that are not loaded are as the checkpoint has them; of one that was never made no block has rows.
pub record IsFound (bytes : List ℕ) (s : Store) : Type 0 where
  pub old : Option Stored
  pub numbers : HasNumbers old
  pub on : IsGroundOf bytes s.engine.hub s.ground old
  pub running : s.running ≡ None
  pub shelf : ℕ → List Row
  pub world : Stands s.engine (begun_with (content_was old) shelf s)
  pub bare : (id : ℕ) → s.engine.hub.dir.next ≤ id → shelf id ≡ []
  pub follows : Follows old s.engine.hub s.ground (begun_with (content_was old) shelf s)
  pub away : AreAway s.engine.hub.dir.leaves (known_in s.ground.parts)

-- why no engine begins on what was surveyed
abbrev pub RefusesBegin : {D : Type 0} → Ghosts D → Whole → D → D → Refusal → Type 0
RefusesBegin g a old new r =
    (r ≡ NoMemory)
    ⊎ (((r ≡ Refusal_Limit Checkpoints) × (last_number ≤ a.record.run))
    ⊎ (((r ≡ Refusal_Limit Tables) × LacksNumbers a.record)
    ⊎ Refused (Rose (g.faults old) (g.faults new)) (IsTrue (g.honest old)) (LeafOfSpoils (g.seen old) a.uppers.items) r))
