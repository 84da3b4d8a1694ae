-- What holds between two calls of an engine and its device, and what the calls that reach the device leave.
use Rattle.std.specs.Prelude.{◌≡◌, ◌≤◌, ℕ, List, [], ◌∷◌, Option, None, Result, Ok, Err}
use Rattle.std.specs.List.{AllByRecursion}
use Rattle.disk_model.specs.Crash.{Each, LeavesOnly}
use Rattle.disk_model.specs.declared.disk.Disk.{Ghosts}
use Rattle.wt_code.specs.declared.refusals.Refusal.{Refusal}
use Rattle.kv_model.specs.Calls.{rolled_back}
use Rattle.kv_model.specs.Content.{Content, OpensAs}
use Rattle.kv_model.specs.Holds.{Member}
use Rattle.kv_model.specs.Machine.{Machine, Completed}
use Rattle.stored.specs.Stored.{Stored, Reads}
use Rattle.device_leaf.specs.Closings.{content_was}
use Rattle.engine_world.specs.Stands.{Stands}
use Rattle.engine_world.specs.Systems.{checkpointed}
use Rattle.row_page.specs.Rows.{Row}
use Rattle.engine_world.specs.Worlds.{World}
use Rattle.evict_step.specs.Kept.{KeepsThese}
use Rattle.ckpt_step.specs.Floors.{AreLivesOn, Follows}
use Rattle.ckpt_step.specs.Grounds.{StandsOn}
use Rattle.engine_store.specs.declared.store.Store.{Store}
use Rattle.engine_store.specs.Answers.{CheckpointTakes, CloseTakes, Installs, IsLeft, RefusesReopening, answer_of}
use Rattle.engine_store.specs.Devices.{Installed, IsLater, device_of, may_open_to}
use Rattle.engine_store.specs.Keeping.{begun_with, with_kept}
use Rattle.engine_store.specs.Running.{RunsOver}
use Rattle.engine_store.specs.Images.{OpensToAny, OpensToLast, OpensToOne, Stays}

-- the next checkpoint stands on the one that the device has, of which the leaves that are not loaded, and those that are clean, have the rows that they had; a leaf that was written since has those of its block; it opens as the machine's last one, and is one of those to which the device may open
pub record IsGrounded (seen : List ℕ) (images : List ℕ → Type 0) (s : Store) (w : World) (these : List Completed) : Type 0 where
  pub old : Option Stored
  pub on : StandsOn seen images s.engine.hub s.ground old
  pub follows : Follows old s.engine.hub s.ground w
  pub since : AreLivesOn seen s.engine.hub s.ground w
  pub opens : OpensAs (content_was old) w.machine.completed
  pub one : (k : Completed) × Member k these × OpensAs (content_was old) k

-- start: the disk as the run began; first: the checkpoint that it had then; made: those that the run installed
module _ {D : Type 0} (g : Ghosts D) (start_disk : D) where
  -- of a world in which the history has what the store keeps
  pub record IsHeldIn (s : Store) (disk : D) (w : World) (first : Completed) (made : List Installed) : Type 0 where
    pub stands : Stands s.engine w
    pub running : RunsOver s.ground s.running w.machine
    pub kept : KeepsThese w s.ground.kept
    -- of a leaf that was never made no block has rows
    pub bare : (id : ℕ) → s.engine.hub.dir.next ≤ id → w.shelf id ≡ []
    pub on : w.machine.fault ≡ None → IsGrounded (g.seen disk) (g.may_leave disk) s w (may_open_to (first ∷ []) made)
    pub images : Each (g.may_leave disk) (OpensToAny (may_open_to (first ∷ []) made))
    pub last : OpensToLast (g.may_leave disk) first w.machine.completed made
    pub ever : LeavesOnly g start_disk disk (OpensToOne first made)
    pub stays : Stays (g.left_since disk) made
    pub past : AllByRecursion (λ (i : Installed). i.at ≤ g.moment disk) made

  -- of any world: what its own history has does not matter, since the store keeps that
  abbrev pub IsHeld : Store → D → World → Completed → List Installed → Type 0
  IsHeld s disk w first made = IsHeldIn s disk (with_kept s.ground.kept w) first made

  module _ (w : World) (first : Completed) (made : List Installed) (s s' : Store) (before after : D) where
    -- a checkpoint in one event, behind which this is on the shelf
    pub record CheckpointsOn (shelf : ℕ → List Row) (result : Result (Unit {0}) Refusal) : Type 0 where
      pub next : Machine
      pub now : List Installed
      pub behind : IsLeft (device_of g before) (device_of g after) w.machine next (answer_of result)
      pub takes : CheckpointTakes s.ground.lives (device_of g before) (device_of g after) w.machine (answer_of result) next
      pub installs : Installs (answer_of result) (checkpointed w.machine).completed (device_of g after) next made now
      pub held : IsHeld s' after (record w { machine = next; shelf = shelf }) first now
      pub none : s.ground.lives ≡ [] → s'.ground.lives ≡ []

    -- leaves may have left their frames
    abbrev pub Checkpoints : Result (Unit {0}) Refusal → Type 0
    Checkpoints result = (shelf : ℕ → List Row) × CheckpointsOn shelf result

    -- a close
    pub record Shuts (result : Result (Unit {0}) Refusal) : Type 0 where
      pub next : Machine
      pub now : List Installed
      pub behind : IsLeft (device_of g before) (device_of g after) (rolled_back w.machine) next (answer_of result)
      pub takes : CloseTakes s.ground.lives (device_of g before) (device_of g after) w (answer_of result) next
      pub installs : Installs (answer_of result) (checkpointed (rolled_back w.machine)).completed (device_of g after) next made now
      pub held : IsHeld s' after (record w { machine = next }) first now
      pub none : s.ground.lives ≡ [] → s'.ground.lives ≡ []

    -- the device is opened anew: to one of the checkpoints that it may open to
    pub record Reopens : Type 0 where
      pub content : Content
      pub reads : Reads (g.seen before) content
      pub one : (k : Completed) × Member k (may_open_to (first ∷ []) made) × OpensAs content k
      pub later : IsLater (device_of g before) (device_of g after)
      pub seen : g.seen after ≡ g.seen before
      pub capacity : g.capacity after ≡ g.capacity before
      pub shelf : ℕ → List Row
      pub held : IsHeld s' after (begun_with content shelf s') first made
      pub none : s'.ground.lives ≡ []

    -- it is not
    pub record NotReopened (r : Refusal) : Type 0 where
      pub why : RefusesReopening (device_of g before) (device_of g after) r
      pub later : IsLater (device_of g before) (device_of g after)
      pub seen : g.seen after ≡ g.seen before
      pub capacity : g.capacity after ≡ g.capacity before
      pub held : IsHeld s' after w first made
      pub none : s.ground.lives ≡ [] → s'.ground.lives ≡ []

    abbrev pub MayReopen : Result (Unit {0}) Refusal → Type 0
    MayReopen (Ok done) = Reopens
    MayReopen (Err r) = NotReopened r
