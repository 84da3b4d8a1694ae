-- Runs of calls: the points between two calls, what a run gives, and the calls that it makes.
use Rattle.std.specs.Prelude.{◌≡◌, ◌⊎◌, ℕ, false, List, [], ◌∷◌, ◌++◌, Option, Some, None}
use Rattle.failure.specs.Counts.{Rose}
use Rattle.disk_model.specs.declared.disk.Disk.{Ghosts}
use Rattle.wt_code.specs.declared.answers.Answer.{Answer}
use Rattle.wt_code.specs.declared.answers.Answer.TheVariants.{Done, Refused}
use Rattle.wt_code.specs.declared.refusals.Refusal.{Refusal}
use Rattle.wt_code.specs.declared.refusals.Refusal.TheVariants.{DiskFault}
use Rattle.failure.specs.declared.Fault.{Fault}
use Rattle.kv_model.specs.Machine.{Machine, Completed, CheckpointStart, CheckpointFinish}
use Rattle.kv_model.specs.Closing.{after_all}
use Rattle.kv_model.specs.Calls.{Actor, System, Call, Close as CloseCall, Around, Answers, OpensSession, rolled_back}
use Rattle.ckpt_step.specs.declared.lives.Lone.{Lone}
use Rattle.engine_store.specs.Devices.{Device, Installed, IsLater, KeepsCheckpoint, IsNumberOf, MayTakeAt, device_of}
use Rattle.script_run.specs.declared.script.End.{End}
use Rattle.script_run.specs.declared.script.End.TheVariants.{Through, Stopped}

-- a run between two of its calls
pub record Point : Type 0 where
  pub machine : Machine
  pub device : Device

abbrev pub point_of : {D : Type 0} → Ghosts D → Machine → D → Point
point_of g m disk = record { machine = m; device = device_of g disk }

-- ---- what a run gives

-- Input is what was read, text what is printed. Refusals are told on the errors, replies stand in the text.
pub record Ran : Type 0 where
  pub input : List ℕ
  pub text : List ℕ
  pub refusals : List Refusal
  pub replies : List Refusal
  pub made : List Installed
  pub next : Point
  pub end : End

-- a run that ends here, with nothing to tell
abbrev pub ends : End → Point → Ran
ends end p = record { input = []; text = []; refusals = []; replies = []; made = []; next = p; end = end }

-- one that a refusal ends here
abbrev pub stops : Refusal → Point → Ran
stops r p = record (ends (Stopped r) p) { refusals = r ∷ [] }

-- the same run, with a text before its own, or a refusal
abbrev pub prints : List ℕ → Ran → Ran
prints text ran = record ran { text = text ++ ran.text }

abbrev pub tells : Refusal → Ran → Ran
tells r ran = record ran { refusals = r ∷ ran.refusals }

-- ---- what lies outside

-- What a call of a command rests on, from one point to another: no other call is unfinished. A page is kept from it only by a fault of the disk. lives: the leaves that were written since the last checkpoint.
abbrev pub around : List Lone → Device → Device → Around
around lives old new = record {
  in_call = false;
  unfinished = record { eviction = None; calls = [] };
  IsNumber = IsNumberOf old.seen;
  uncaptured = 0;
  MayTake = MayTakeAt lives old new;
  MayKeepOut = λ r. (r ≡ DiskFault) × Rose old.faults new.faults;
}

-- ---- the calls of a run

-- a call leads from one point to the other with this answer
pub record Did (p : Point) (actor : Actor) (call : Call) (answer : Answer (List ℕ)) (q : Point) : Type 0 where
  pub later : IsLater p.device q.device
  pub keeps : KeepsCheckpoint p.device q.device
  pub answers : Answers (around [] p.device q.device) p.machine actor call answer q.machine

-- the same of Close, which takes a checkpoint, beside the blocks of these leaves
pub record DidClose (lives : List Lone) (p : Point) (answer : Answer (List ℕ)) (q : Point) : Type 0 where
  pub later : IsLater p.device q.device
  pub answers : Answers (around lives p.device q.device) p.machine (System 0) CloseCall answer q.machine

-- a call that is done, and what comes after it, or one that is refused and ends the run
abbrev pub Calls : Actor → Call → (Point → Ran → Type 0) → Point → Ran → Type 0
Calls actor call Goes p ran =
    ((r : Refusal) × (q : Point) × Did p actor call (Refused r) q × (ran ≡ stops r q))
    ⊎ ((q : Point) × Did p actor call Done q × Goes q ran)

-- the same of a session that is opened
abbrev pub WithSession : (Point → Ran → Type 0) → Point → Ran → Type 0
WithSession Goes p ran =
    ((r : Refusal) × (q : Point) × IsLater p.device q.device × KeepsCheckpoint p.device q.device × OpensSession p.machine (Refused r) q.machine × (ran ≡ stops r q))
    ⊎ ((q : Point) × IsLater p.device q.device × KeepsCheckpoint p.device q.device × OpensSession p.machine Done q.machine × Goes q ran)

-- the checkpoint that a Close takes of this machine
abbrev pub closed : Machine → Completed
closed m = (after_all (rolled_back m) (CheckpointStart ∷ CheckpointFinish ∷ [])).completed

abbrev pub installed : Option Refusal → Point → Point → Installed
installed refused p q = record { checkpoint = closed p.machine; refused = refused; at = q.device.moment }

-- Close, at the end of a run, where these leaves were written since the last checkpoint. A write or sync may fail at the gate of its checkpoint, which then is one that was being installed.
abbrev pub ClosesBeside : List Lone → Point → Ran → Type 0
ClosesBeside lives p ran =
    ((q : Point) × DidClose lives p Done q × (ran ≡ record (ends Through q) { made = installed None p q ∷ [] }))
    ⊎ ((r : Refusal) × (q : Point) × DidClose lives p (Refused r) q
    × ((ran ≡ stops r q) ⊎ ((r ≡ DiskFault) × ((f : Fault) × (q.machine.fault ≡ Some f)) × (ran ≡ record (stops r q) { made = installed (Some DiskFault) p q ∷ [] }))))

-- where none was
abbrev pub Closes : Point → Ran → Type 0
Closes p ran = ClosesBeside [] p ran
