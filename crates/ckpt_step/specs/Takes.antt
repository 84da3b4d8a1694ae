-- What a checkpoint answers, and what it leaves.
use Rattle.std.specs.Prelude.{◌≡◌, ◌⊎◌, ℕ, List, [], Option, Some, Result, Ok, Err, length}
use Rattle.failure.specs.Counts.{Rose}
use Rattle.failure.specs.declared.Fault.{Fault}
use Rattle.disk_model.specs.Crash.{Each, LeavesOnly}
use Rattle.disk_model.specs.declared.disk.Disk.{Ghosts}
use Rattle.wt_code.specs.declared.refusals.Refusal.{Refusal}
use Rattle.wt_code.specs.declared.refusals.Refusal.TheVariants.{NoMemory, NoSpace, DiskFault, Panic, Busy as Refusal_Busy, Limit as Refusal_Limit}
use Rattle.wt_code.specs.declared.refusals.Limit.TheVariants.{Checkpoints}
use Rattle.wt_code.specs.declared.refusals.Busy.TheVariants.{Resolving}
use Rattle.kv_model.specs.AgreementLaws.{head_of}
use Rattle.kv_model.specs.History.{Table, line, tables}
use Rattle.kv_model.specs.Holds.{Member}
use Rattle.kv_model.specs.Machine.{Checkpoint, CheckpointStart, Machine, after, finished}
use Rattle.stored.specs.Stored.{Stored, IsOn}
use Rattle.checkpoint_core.specs.Finishes.{IsOld, IsEither}
use Rattle.engine_world.specs.Stands.{Engine, Stands}
use Rattle.engine_world.specs.Systems.{checkpointed, with_fault}
use Rattle.engine_world.specs.Worlds.{World}
use Rattle.engine.specs.Checkpoints.{MayStart}
use Rattle.engine.specs.declared.running_checkpoint.RunningCheckpoint.{RunningCheckpoint}
use Rattle.ckpt_step.specs.declared.ground.Ground.{Ground}
use Rattle.ckpt_content.specs.Finished.{IsFinishOf, tables_then}
use Rattle.ckpt_step.specs.Floors.{AreLivesOn, Follows}
use Rattle.ckpt_step.specs.Lives.{AreOfOthers}
use Rattle.ckpt_step.specs.Moments.{IsUnderWay, Moment}
use Rattle.ckpt_step.specs.Runs.{LeavesOne}
use Rattle.ckpt_step.specs.declared.lives.Lone.{Lone}
use Rattle.ckpt_step.specs.Rooms.{Written, known_in}
use Rattle.tree_dir.specs.declared.leaf.Leaf.{Leaf}
use Rattle.ckpt_step.specs.Grounds.{StandsOn, number_of}
use Rattle.ckpt_step.specs.Sizes.{IsFullFor, HasRoomFor, KeepsLeaves}

-- ---- one that runs beside other work

-- why it was not finished, with the engine up; fault: the disk's count of faults rose
abbrev pub WhyUnfinished : (fault : Type 0) → List ℕ → ℕ → List Lone → List Leaf → Written → Moment → Refusal → Type 0
WhyUnfinished fault bytes capacity lives leaves written n r = ((told : Fault) × (n.world.machine.fault ≡ Some told) × (r ≡ Panic told)) ⊎ ((r ≡ NoMemory) ⊎ (((r ≡ NoSpace) × IsFullFor bytes capacity lives leaves written n) ⊎ ((r ≡ DiskFault) × fault)))

-- the world once it is finished
abbrev pub finished_world : Moment → World
finished_world n = record n.world { machine = finished n.world.machine n.checkpoint }

module _ {D : Type 0} (g : Ghosts D) (old : Option Stored) (n : Moment) (stand stand' : Ground) (e e' : Engine) (before after : D) where
  -- It is the last completed one now, and nothing changes of the engine. others: the blocks of leaves that were written since, of tables that were made since it started, stay.
  pub record Finished : Type 0 where
    pub new : Stored
    pub is : IsFinishOf n.world.machine n.checkpoint (number_of old) new
    pub leaves : LeavesOnly g before after (IsEither (g.may_leave before) old new)
    pub each : Each (g.may_leave after) (λ c. IsOn c new)
    pub on : StandsOn (g.seen after) (g.may_leave after) e.hub stand' (Some new)
    pub follows : Follows (Some new) e.hub stand' (finished_world n)
    pub since : AreLivesOn (g.seen after) e.hub stand' (finished_world n)
    pub others : AreOfOthers (tables_then n.world.machine n.checkpoint) e.hub.dir.leaves stand.lives stand'.lives
    pub had_room : HasRoomFor (g.seen before) (g.capacity before) stand.lives e.hub.dir.leaves (known_in stand.parts) n
    pub kept : KeepsLeaves (g.seen before) e.hub.tables.tables e.hub.dir.leaves (known_in stand.parts) new stand'.trees.items (known_in stand'.parts)
    pub same : e' ≡ e
    pub stands : Stands e' (finished_world n)

  -- it still runs, the checkpoint before stands, and nothing changes of the engine
  pub record Unfinished (r : Refusal) : Type 0 where
    pub why : WhyUnfinished (Rose (g.faults before) (g.faults after)) (g.seen before) (g.capacity before) stand.lives e.hub.dir.leaves (known_in stand.parts) n r
    pub leaves : LeavesOnly g before after (IsOld (g.may_leave before) old)
    pub on : StandsOn (g.seen after) (g.may_leave after) e.hub stand' old
    pub follows : Follows old e.hub stand' n.world
    pub since : AreLivesOn (g.seen after) e.hub stand' n.world
    pub same : e' ≡ e

  -- a write or sync failed, and the engine is down; the device has the checkpoint before, or at a fault of its gate the new one
  pub record FallenDown (r : Refusal) : Type 0 where
    pub is : r ≡ DiskFault
    pub rose : Rose (g.faults before) (g.faults after)
    pub fault : Fault
    pub down : e' ≡ with_fault e fault
    pub leaves : LeavesOne g old n before after

  abbrev pub Finishes : Result (Unit {0}) Refusal → Type 0
  Finishes (Ok done) = Finished
  Finishes (Err r) = Unfinished r ⊎ FallenDown r

-- ---- one in one event

-- the checkpoint that the machine starts
abbrev pub begun : Machine → Checkpoint
begun m = record { prefix = length m.history; oldest = m.oldest; stable = m.stable }

-- it starts, with nothing changed of the engine
pub record Starts (e : Engine) (g : Ground) (w : World) (running : RunningCheckpoint) : Type 0 where
  pub may : MayStart w.machine g.number (Ok tt)
  pub stands : Stands e (record w { machine = after w.machine CheckpointStart })
  pub under_way : IsUnderWay (after w.machine CheckpointStart) (begun w.machine) running g

-- The moment at which it is finished, with nobody between: the engine has the newest version of each key.
pub record IsWholeAt (m : Machine) (n : Moment) : Type 0 where
  pub machine : n.world.machine ≡ after m CheckpointStart
  pub checkpoint : n.checkpoint ≡ begun m
  pub newest : (t : Table) → Member t (tables m.history) → (key : List ℕ) → n.cells t.number key ≡ head_of (line m.history t.number key)

-- what a device stores that has the checkpoint that the machine takes
abbrev pub IsWholeOf : Machine → ℕ → Stored → Type 0
IsWholeOf m number s = IsFinishOf (after m CheckpointStart) (begun m) number s

-- the device had room for it, or has not
abbrev pub HadRoomFor : List ℕ → ℕ → List Lone → List Leaf → Written → Machine → Type 0
HadRoomFor bytes capacity lives leaves written m = (n : Moment) × IsWholeAt m n × HasRoomFor bytes capacity lives leaves written n

abbrev pub IsTooFullFor : List ℕ → ℕ → List Lone → List Leaf → Written → Machine → Type 0
IsTooFullFor bytes capacity lives leaves written m = (n : Moment) × IsWholeAt m n × IsFullFor bytes capacity lives leaves written n

-- the machine refuses that a checkpoint starts
abbrev pub IsBarred : Machine → ℕ → Refusal → Type 0
IsBarred m number r = MayStart m number (Err r)

-- why none was taken, with the engine up; fault: the disk's count of faults rose
abbrev pub WhyNot : (fault : Type 0) → List ℕ → ℕ → List Lone → List Leaf → Written → Machine → ℕ → Refusal → Type 0
WhyNot fault bytes capacity lives leaves written m number r =
    IsBarred m number r
    ⊎ ((r ≡ NoMemory)
    ⊎ (MayStart m number (Ok tt)
    × (((r ≡ NoSpace) × IsTooFullFor bytes capacity lives leaves written m) ⊎ ((r ≡ DiskFault) × fault))))

module _ {D : Type 0} (g : Ghosts D) (old : Option Stored) (w : World) (stand stand' : Ground) (e e' : Engine) (before after : D) where
  -- the checkpoint is the last completed one now, and nothing changes of the engine
  pub record Taken : Type 0 where
    pub new : Stored
    pub is : IsWholeOf w.machine (number_of old) new
    pub leaves : LeavesOnly g before after (IsEither (g.may_leave before) old new)
    pub each : Each (g.may_leave after) (λ c. IsOn c new)
    pub on : StandsOn (g.seen after) (g.may_leave after) e.hub stand' (Some new)
    pub follows : Follows (Some new) e.hub stand' (record w { machine = checkpointed w.machine })
    pub none : stand'.lives ≡ []
    pub had_room : HadRoomFor (g.seen before) (g.capacity before) stand.lives e.hub.dir.leaves (known_in stand.parts) w.machine
    pub kept : KeepsLeaves (g.seen before) e.hub.tables.tables e.hub.dir.leaves (known_in stand.parts) new stand'.trees.items (known_in stand'.parts)
    pub may : MayStart w.machine (number_of old) (Ok tt)
    pub same : e' ≡ e
    pub stands : Stands e' (record w { machine = checkpointed w.machine })

  -- the checkpoint before stands, and nothing changes of the engine
  pub record NotTaken (r : Refusal) : Type 0 where
    pub why : WhyNot (Rose (g.faults before) (g.faults after)) (g.seen before) (g.capacity before) stand.lives e.hub.dir.leaves (known_in stand.parts) w.machine (number_of old) r
    pub leaves : LeavesOnly g before after (IsOld (g.may_leave before) old)
    pub on : StandsOn (g.seen after) (g.may_leave after) e.hub stand' old
    pub follows : Follows old e.hub stand' w
    pub since : AreLivesOn (g.seen after) e.hub stand' w
    pub same : e' ≡ e

  -- a write or sync failed, and the engine is down; the device has the checkpoint before, or at a fault of its gate the new one
  pub record Fallen (r : Refusal) : Type 0 where
    pub is : r ≡ DiskFault
    pub may : MayStart w.machine (number_of old) (Ok tt)
    pub rose : Rose (g.faults before) (g.faults after)
    pub fault : Fault
    pub down : e' ≡ with_fault e fault
    pub leaves :
        LeavesOnly g before after (IsOld (g.may_leave before) old)
        ⊎ ((new : Stored) × IsWholeOf w.machine (number_of old) new × LeavesOnly g before after (IsEither (g.may_leave before) old new))

  abbrev pub Takes : Result (Unit {0}) Refusal → Type 0
  Takes (Ok done) = Taken
  Takes (Err r) = NotTaken r ⊎ Fallen r

-- one of the refusals of a checkpoint, whatever the disk
abbrev pub IsOfCheckpoint : Refusal → Type 0
IsOfCheckpoint (Panic fault) = Unit {0}
IsOfCheckpoint (Refusal_Busy (Resolving session)) = Unit {0}
IsOfCheckpoint (Refusal_Limit Checkpoints) = Unit {0}
IsOfCheckpoint NoMemory = Unit {0}
IsOfCheckpoint NoSpace = Unit {0}
IsOfCheckpoint DiskFault = Unit {0}
IsOfCheckpoint _ = ⊥
