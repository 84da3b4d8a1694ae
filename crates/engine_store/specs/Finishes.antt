-- What the start, the steps and the finish of a checkpoint that runs beside other work answer, and what they leave.
use Rattle.std.specs.Prelude.{◌≡◌, ◌≢◌, ◌⊎◌, ℕ, false, true, Bool, List, [], Option, None, Some, Result, IfOk, option_map}
use Rattle.failure.specs.Counts.{Rose}
use Rattle.failure.specs.declared.Fault.{Fault}
use Rattle.disk_model.specs.declared.disk.Disk.{Ghosts}
use Rattle.wt_code.specs.declared.answers.Answer.{Answer}
use Rattle.wt_code.specs.declared.answers.Answer.TheVariants.{Done, Refused}
use Rattle.wt_code.specs.declared.refusals.Busy.TheVariants.{Checkpoint as Busy_Checkpoint}
use Rattle.wt_code.specs.declared.refusals.Invalid.TheVariants.{CkptLeft, NoCkpt}
use Rattle.wt_code.specs.declared.refusals.Refusal.{Refusal}
use Rattle.wt_code.specs.declared.refusals.Refusal.TheVariants.{NoMemory, NoSpace, Panic, Busy as Refusal_Busy, Invalid as Refusal_Invalid}
use Rattle.kv_model.specs.Calls.{Around, CkptFinish, CkptStart, CkptStep, SystemAnswers}
use Rattle.kv_model.specs.CallLaws.{any_around}
use Rattle.kv_model.specs.Machine.{Checkpoint, CheckpointFinish, Completed, Machine, after as after_event}
use Rattle.kv_model.specs.Outside.{Storing, Stored, NoPlace, ReadFailed, Damaged, WriteFailed}
use Rattle.stored.specs.Stored.{Stored as OnDevice, IsOn}
use Rattle.checkpoint_core.specs.Stands.{HasStill}
use Rattle.engine_world.specs.Stands.{Engine}
use Rattle.engine_world.specs.Worlds.{World}
use Rattle.ckpt_content.specs.Finished.{IsFinishOf}
use Rattle.ckpt_step.specs.declared.lives.Lone.{Lone}
use Rattle.ckpt_step.specs.Moments.{Moment, cells_of}
use Rattle.ckpt_step.specs.Rooms.{Written}
use Rattle.ckpt_step.specs.Sizes.{HasRoomFor, IsFullFor}
use Rattle.ckpt_step.specs.Takes.{IsOfCheckpoint}
use Rattle.engine_store.specs.declared.progress.Remains.{Remains}
use Rattle.engine_store.specs.declared.progress.Underway.{Underway}
use Rattle.engine_store.specs.declared.store.Store.{Store}
use Rattle.engine_store.specs.Answers.{Installs, answer_of}
use Rattle.engine_store.specs.Devices.{ArePartedOn, Device, Installed, IsLater, IsNumberOf, device_of}
use Rattle.engine_store.specs.Held.{IsHeld}
use Rattle.engine_store.specs.Progress.{TellsLeft, around_step, first_place, left_of, passed, place_in, remains_answer}

-- ---- why none is taken now

-- The engine is down, or one runs.
abbrev pub IsBarredNow : Store → Refusal → Type 0
IsBarredNow s r = ((f : Fault) × (s.engine.hub.fault ≡ Some f) × (r ≡ Panic f)) ⊎ ((s.engine.hub.fault ≡ None) × ((x : Underway) × (s.running ≡ Some x) × (r ≡ Refusal_Busy Busy_Checkpoint)))

-- The engine is down, or none runs.
abbrev pub IsNoneToFinish : Store → Refusal → Type 0
IsNoneToFinish s r = ((f : Fault) × (s.engine.hub.fault ≡ Some f) × (r ≡ Panic f)) ⊎ ((s.engine.hub.fault ≡ None) × ((s.running ≡ None) × (r ≡ Refusal_Invalid NoCkpt)))

-- one of the refusals of a checkpoint in one event or a close
abbrev pub IsOfTaking : Refusal → Type 0
IsOfTaking (Refusal_Busy Busy_Checkpoint) = Unit {0}
IsOfTaking r = IsOfCheckpoint r

-- one of those of a finish
abbrev pub IsOfFinish : Refusal → Type 0
IsOfFinish (Refusal_Invalid NoCkpt) = Unit {0}
IsOfFinish (Refusal_Invalid CkptLeft) = Unit {0}
IsOfFinish r = IsOfCheckpoint r

-- one of those of a step
abbrev pub IsOfStep : Refusal → Type 0
IsOfStep (Panic f) = Unit {0}
IsOfStep (Refusal_Invalid NoCkpt) = Unit {0}
IsOfStep NoMemory = Unit {0}
IsOfStep _ = ⊥

-- a finish that is refused so ends the checkpoint
abbrev pub ends_it : Refusal → Bool
ends_it NoSpace = true
ends_it _ = false

-- ---- what they rest on

-- of the outside the start rests on the number of the last completed checkpoint alone
abbrev pub around_start : Device → Around
around_start d = record (any_around false (record { eviction = None; calls = [] }) 0) { IsNumber = IsNumberOf d.seen }

-- the moment is that of this engine in this world
pub record IsMomentOf (e : Engine) (w : World) (n : Moment) : Type 0 where
  pub machine : n.world.machine ≡ w.machine
  pub runs : w.machine.checkpoint ≡ Some n.checkpoint
  pub cells : n.cells ≡ cells_of e w

-- What the checkpoint that runs finds on a device, beside the blocks of these leaves, which were written since the last one: the engine's leaves part its trees, and each block has a place, or one of them finds none.
pub record FinishesOn (Room : Moment → Written → Type 0) (e : Engine) (w : World) (lives : List Lone) (bytes : List ℕ) : Type 0 where
  pub moment : Moment
  pub is : IsMomentOf e w moment
  pub written : Written
  pub parted : ArePartedOn bytes w.machine lives e.hub.dir.leaves written
  pub room : Room moment written

-- how a device takes its blocks
abbrev pub MayFinishAt : Engine → World → List Lone → Device → Device → Storing → Type 0
MayFinishAt e w lives old new Stored = FinishesOn (λ n written. HasRoomFor old.seen old.capacity lives e.hub.dir.leaves written n) e w lives old.seen
MayFinishAt e w lives old new NoPlace = FinishesOn (λ n written. IsFullFor old.seen old.capacity lives e.hub.dir.leaves written n) e w lives old.seen
MayFinishAt e w lives old new ReadFailed = Rose old.faults new.faults
MayFinishAt e w lives old new (Damaged offset want found) = ⊥
MayFinishAt e w lives old new (WriteFailed fault) = Rose old.faults new.faults

-- it finds so many leaves that are left
abbrev pub around_finish : ℕ → Engine → World → List Lone → Device → Device → Around
around_finish left e w lives old new = record (any_around false (record { eviction = None; calls = [] }) left) { MayTake = λ m storing. MayFinishAt e w lives old new storing }

-- ---- what they leave

-- what the device has behind the finish: the checkpoint where it is done, with the number behind that of the one before; the one before where it is refused and the engine stays up
abbrev pub HasFinished : Device → Device → Machine → Machine → Answer (List ℕ) → Type 0
HasFinished old new m next Done = (s : OnDevice) × (number : ℕ) × IsNumberOf old.seen number × (c : Checkpoint) × (m.checkpoint ≡ Some c) × IsFinishOf m c number s × IsOn new.seen s
HasFinished old new m next (Refused r) = next.fault ≡ None → (s : Option OnDevice) × HasStill s old.seen × HasStill s new.seen
HasFinished old new m next _ = ⊥

pub record IsFinishLeft (old new : Device) (m next : Machine) (answer : Answer (List ℕ)) : Type 0 where
  pub later : IsLater old new
  pub capacity : new.capacity ≡ old.capacity
  pub has : HasFinished old new m next answer

module _ {D : Type 0} (g : Ghosts D) (start_disk : D) (w : World) (first : Completed) (made : List Installed) (s s' : Store) (before after : D) where
  -- A checkpoint starts, or does not. None of its leaves is taken then.
  pub record StartsTo (result : Result (Unit {0}) Refusal) : Type 0 where
    pub next : Machine
    pub begins : IfOk result (λ done. place_in s'.running ≡ Some first_place)
    pub answers : SystemAnswers (around_start (device_of g before)) w.machine CkptStart (answer_of result) next
    pub held : IsHeld g start_disk s' after (record w { machine = next }) first made

  -- Its next leaf is taken, where one is left, and it is told whether another one is. The machine stays as it is.
  pub record StepsTo (result : Result Remains Refusal) : Type 0 where
    pub answers : SystemAnswers (around_step (left_of w.machine s.engine.hub.dir.leaves (place_in s.running))) w.machine CkptStep (remains_answer result) w.machine
    pub passes : IfOk result (λ taking. place_in s'.running ≡ option_map (passed w.machine s.engine.hub.dir.leaves) (place_in s.running))
    pub told : IfOk result (λ taking. TellsLeft (left_of w.machine s.engine.hub.dir.leaves (place_in s'.running)) taking)
    pub held : IsHeld g start_disk s' after w first made

  -- The one that runs is finished, or is not: a leaf of it is left, and nothing is changed. Without room it ends, and after any other refusal it still runs.
  pub record FinishesTo (result : Result (Unit {0}) Refusal) : Type 0 where
    pub next : Machine
    pub now : List Installed
    pub behind : IsFinishLeft (device_of g before) (device_of g after) w.machine next (answer_of result)
    pub answers : SystemAnswers (around_finish (left_of w.machine s.engine.hub.dir.leaves (place_in s.running)) s.engine w s.ground.lives (device_of g before) (device_of g after)) w.machine CkptFinish (answer_of result) next
    pub installs : Installs (answer_of result) (after_event w.machine CheckpointFinish).completed (device_of g after) next made now
    pub stays : next.checkpoint ≢ None → place_in s'.running ≡ place_in s.running
    pub held : IsHeld g start_disk s' after (record w { machine = next }) first now
    pub none : s.ground.lives ≡ [] → s'.ground.lives ≡ []
