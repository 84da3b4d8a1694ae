-- What a checkpoint in one event and a close answer between two lines, by how the device takes the blocks, and why an opening there is refused.
use Rattle.std.specs.Prelude.{◌≡◌, ◌⊎◌, ℕ, List, Option, [], ◌∷◌, ◌++◌, Some, None, Result, Ok, Err, slice_index_or}
use Rattle.failure.specs.Counts.{Rose}
use Rattle.failure.specs.declared.Fault.{Fault}
use Rattle.wt_code.specs.declared.answers.Answer.{Answer}
use Rattle.wt_code.specs.declared.answers.Answer.TheVariants.{Done, Refused}
use Rattle.wt_code.specs.declared.refusals.Refusal.{Refusal}
use Rattle.wt_code.specs.declared.refusals.Refusal.TheVariants.{NoMemory, DiskFault, Limit as Refusal_Limit}
use Rattle.wt_code.specs.declared.refusals.Limit.TheVariants.{Checkpoints, Tables}
use Rattle.kv_model.specs.Machine.{Machine, Completed}
use Rattle.kv_model.specs.Outside.{Storing}
use Rattle.kv_model.specs.Closing.{after_all, last_stored}
use Rattle.kv_model.specs.Calls.{Around, Close, IsCloseShort, IsShort, SystemAnswers}
use Rattle.kv_model.specs.Content.{Content}
use Rattle.kv_model.specs.Decisions.{is_there}
use Rattle.kv_model.specs.Told.{Tells}
use Rattle.stored.specs.Stored.{Stored as OnDevice, IsOn, Reads}
use Rattle.checkpoint_core.specs.Stands.{HasStill}
use Rattle.engine_world.specs.Worlds.{World}
use Rattle.engine.specs.Checkpoints.{MayStart}
use Rattle.engine.specs.Closes.{unfinished_in}
use Rattle.ckpt_step.specs.declared.lives.Lone.{Lone}
use Rattle.ckpt_step.specs.Takes.{IsWholeOf}
use Rattle.engine_store.specs.Devices.{Device, Installed, IsLater, IsNumberOf, IsUsedUp, MayTakeAt, last_number}

-- done, or refused
abbrev pub answer_of : Result (Unit {0}) Refusal → Answer (List ℕ)
answer_of (Ok done) = Done
answer_of (Err r) = Refused r

-- how the device took what was written, beside the blocks of these leaves, and what that leaves
pub record IsStored (lives : List Lone) (old new : Device) (m : Machine) (answer : Answer (List ℕ)) (next : Machine) : Type 0 where
  pub storing : Storing
  pub takes : MayTakeAt lives old new m storing
  pub told : Tells (last_stored storing).0 answer
  pub leaves : next ≡ after_all m (last_stored storing).1

-- the answer where the start of a checkpoint is decided so
abbrev pub StartedAs : List Lone → Device → Device → Machine → Answer (List ℕ) → Machine → Result (Unit {0}) Refusal → Type 0
StartedAs lives old new m answer next (Err r) = (answer ≡ Refused r) × (next ≡ m)
StartedAs lives old new m answer next (Ok done) = IsStored lives old new m answer next

-- a checkpoint in one event, of a machine that has none running; lives: the leaves that were written since the last one
abbrev pub CheckpointTakes : List Lone → Device → Device → Machine → Answer (List ℕ) → Machine → Type 0
CheckpointTakes lives old new m answer next =
    IsShort m answer next
    ⊎ ((number : ℕ) × (start : Result (Unit {0}) Refusal) × IsNumberOf old.seen number × MayStart m number start × StartedAs lives old new m answer next start)

-- what the device has behind a call that takes a checkpoint of this machine: that one where it is done, with the number behind that of the one before; the one before where it is refused and the engine stays up
abbrev pub HasBehind : Device → Device → Machine → Machine → Answer (List ℕ) → Type 0
HasBehind old new m next Done = (s : OnDevice) × (number : ℕ) × IsNumberOf old.seen number × IsWholeOf m number s × IsOn new.seen s
HasBehind old new m next (Refused r) = next.fault ≡ None → (s : Option OnDevice) × HasStill s old.seen × HasStill s new.seen
HasBehind old new m next _ = ⊥

-- how such a call leaves the device
pub record IsLeft (old new : Device) (m next : Machine) (answer : Answer (List ℕ)) : Type 0 where
  pub later : IsLater old new
  pub capacity : new.capacity ≡ old.capacity
  pub has : HasBehind old new m next answer

-- what a close rests on between two lines
abbrev pub around_at : List Lone → World → Device → Device → Around
around_at lives w old new = record {
  in_call = is_there (slice_index_or w.systems 0 None);
  unfinished = unfinished_in w;
  IsNumber = IsNumberOf old.seen;
  uncaptured = 0;
  MayTake = MayTakeAt lives old new;
  MayKeepOut = λ r. ⊥;
}

-- a close, for which memory may be short
abbrev pub CloseTakes : List Lone → Device → Device → World → Answer (List ℕ) → Machine → Type 0
CloseTakes lives old new w answer next = IsCloseShort (around_at lives w old new) w.machine answer next ⊎ SystemAnswers (around_at lives w old new) w.machine Close answer next

-- what a call installed that takes this checkpoint, or was installing at a fault of its gate, behind those before
abbrev pub Installs : Answer (List ℕ) → Completed → Device → Machine → List Installed → List Installed → Type 0
Installs Done checkpoint new next made now = now ≡ made ++ record { checkpoint = checkpoint; refused = None; at = new.moment } ∷ []
Installs (Refused r) checkpoint new next made now =
    (now ≡ made)
    ⊎ ((r ≡ DiskFault) × ((f : Fault) × (next.fault ≡ Some f)) × (now ≡ made ++ record { checkpoint = checkpoint; refused = Some DiskFault; at = new.moment } ∷ []))
Installs _ checkpoint new next made now = ⊥

-- why an opening of a device that reads is refused
abbrev pub RefusesReopening : Device → Device → Refusal → Type 0
RefusesReopening old new r =
    ((r ≡ DiskFault) × Rose old.faults new.faults)
    ⊎ ((r ≡ NoMemory)
    ⊎ (((r ≡ Refusal_Limit Tables) × IsUsedUp old.seen)
    ⊎ ((r ≡ Refusal_Limit Checkpoints) × ((content : Content) → Reads old.seen content → content.run ≡ last_number))))
