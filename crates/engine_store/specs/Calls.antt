-- What the calls and steps of actors answer between two calls of the store, and what they leave.
use Rattle.std.specs.Prelude.{◌≡◌, ◌≤◌, ◌⊎◌, ℕ, zero, suc, IsTrue, List, length, Option, None, Some, Result, Ok, Err}
use Rattle.failure.specs.Counts.{Rose}
use Rattle.disk_model.specs.Crash.{Looked}
use Rattle.disk_model.specs.declared.disk.Disk.{Ghosts}
use Rattle.wt_code.specs.declared.answers.Answer.{Answer}
use Rattle.wt_code.specs.declared.answers.Answer.TheVariants as answers
use Rattle.wt_code.specs.declared.refusals.Refusal.TheVariants.{Corrupt, DiskFault, NoSpace}
use Rattle.wt_code.specs.declared.refusals.Refusal.{Refusal}
use Rattle.kv_model.specs.Calls.{Call}
use Rattle.kv_model.specs.Machine.{Completed}
use Rattle.wt_calls.specs.declared.call.Call.{Call as AnyCall}
use Rattle.wt_calls.specs.declared.call.Call.TheVariants as call
use Rattle.wt_calls.specs.Calls.{session_call_in}
use Rattle.tree_dir.specs.Leaves.{IsDirectory}
use Rattle.call_steps.specs.declared.reply.Reply.{Reply}
use Rattle.call_steps.specs.declared.reply.Reply.TheVariants as reply
use Rattle.call_steps.specs.declared.hub.Hub.{Hub}
use Rattle.engine_world.specs.Steps.{MayGo, MayKeepOut}
use Rattle.engine_world.specs.Stands.{Engine}
use Rattle.engine_world.specs.Worlds.{World}
use Rattle.engine.specs.Directories.{HubGoesOn}
use Rattle.engine.specs.Told.{answer_in}
use Rattle.engine.specs.declared.step.Actor.{Actor}
use Rattle.engine.specs.declared.step.Actor.TheVariants as actor
use Rattle.engine.specs.declared.step.Step.{Step}
use Rattle.engine.specs.declared.step.Step.TheVariants as step
use Rattle.engine.specs.Runs.{MayStep, StepsOut}
use Rattle.engine.specs.Whole.{KeptBy, MayAnswer, MayCallKept, with_session_more}
use Rattle.engine_store.specs.declared.store.Store.{Store}
use Rattle.engine_store.specs.Devices.{Installed}
use Rattle.engine_store.specs.Held.{IsHeld}
use Rattle.engine_store.specs.Keeping.{IsSameButKept}
use Rattle.engine_store.specs.Full.{MayBeFull}
use Rattle.engine_store.specs.GoneOut.{all_out}
use Rattle.engine_store.specs.Opened.{IsReady}
use Rattle.engine_store.specs.Loads.{IsCause, IsCaused, LeafSpoils}

-- ---- steps, among which leaves are kept from calls

-- a session's call goes on, or its leaf is kept from it for such a cause, which is one in that world
abbrev pub GoesOrKept : (Caused : World → Refusal → Type 0) → World → ℕ → World → Type 0
GoesOrKept Caused w session next = MayGo w session reply.More next ⊎ ((r : Refusal) × Caused w r × MayKeepOut w session r next)

-- a step of an actor
abbrev pub MayStepOn : (Caused : World → Refusal → Type 0) → World → Step → Reply → World → Type 0
MayStepOn Caused w made told next =
    MayStep w made told next
    ⊎ ((session : ℕ) × (r : Refusal) × (made ≡ step.Go (actor.Session session)) × (told ≡ reply.More) × Caused w r × MayKeepOut w session r next)

-- so many steps of a session's call, and one more, which answers it
abbrev pub EndsIn : (Caused : World → Refusal → Type 0) → ℕ → World → ℕ → Answer (List ℕ) → World → Type 0
EndsIn Caused zero w session answer last = MayGo w session (reply.Answer answer) last
EndsIn Caused (suc n) w session answer last = (next : World) × GoesOrKept Caused w session next × EndsIn Caused n next session answer last

-- all that is left of a call
abbrev pub EndsBy : (Caused : World → Refusal → Type 0) → World → Actor → Answer (List ℕ) → World → Type 0
EndsBy Caused w (actor.Session session) answer last = (n : ℕ) × EndsIn Caused n w session answer last
EndsBy Caused w (actor.System number) answer last = StepsOut 0 w (actor.System number) answer last

-- a whole call: of a session, whose leaf may be kept from it for such a cause, or of the system
abbrev pub MayAnswerOn : (Caused : World → Refusal → Type 0) → World → AnyCall → Answer (List ℕ) → World → Type 0
MayAnswerOn Caused w (call.Session session made) answer later = (kept : KeptBy) × IsCaused Caused w session (session_call_in made) kept × MayCallKept kept w session (session_call_in made) answer later
MayAnswerOn Caused w (call.System number made) answer later = MayAnswer w (call.System number made) answer later

-- ---- of a store whose disk it holds, as a run began; first: the checkpoint that the disk had then; made: those that the run installed.

module _ {D : Type 0} (g : Ghosts D) (start_disk : D) (w : World) (first : Completed) (made : List Installed) (s s' : Store) (before after : D) where
  -- why a leaf is kept from a call here, in a world that the call has reached
  abbrev pub CauseHere : World → Refusal → Type 0
  CauseHere now r = IsCause (Rose (g.faults before) (g.faults after)) (MayBeFull s.frames now) w.machine.fault r

  -- a whole call of a session
  pub record Called (session : ℕ) (asked : Call) (answer : Answer (List ℕ)) : Type 0 where
    pub kept : KeptBy
    pub caused : IsCaused CauseHere w session asked kept
    pub later : World
    pub called : MayCallKept kept w session asked answer later
    pub held : IsHeld g start_disk s' after later first made

  -- one of the system
  pub record Made (asked : AnyCall) (answer : Answer (List ℕ)) : Type 0 where
    pub later : World
    pub answered : MayAnswer w asked answer later
    pub held : IsHeld g start_disk s' after later first made

  -- a step
  pub record Stepped (step_made : Step) (told : Reply) : Type 0 where
    pub later : World
    pub stepped : MayStepOn CauseHere w step_made told later
    pub held : IsHeld g start_disk s' after later first made

  -- what was left of a call
  pub record Finished (who : Actor) (answer : Answer (List ℕ)) : Type 0 where
    pub later : World
    pub ended : EndsBy CauseHere w who answer later
    pub held : IsHeld g start_disk s' after later first made

  -- a session more
  pub record Opens (number : ℕ) : Type 0 where
    pub number_is : number ≡ length s.engine.sessions
    pub held : IsHeld g start_disk s' after (with_session_more w) first made

  -- or none: nothing is changed
  abbrev pub MayOpen : Result ℕ Refusal → Type 0
  MayOpen (Ok number) = Opens number
  MayOpen (Err r) = s' ≡ s

-- ---- which refusals only a device gives, whatever the disk

-- What a read gave, and an engine's hub, at a moment of a run since which no call took a checkpoint.
pub record Basis : Type 0 where
  pub bytes : List ℕ
  pub hub : Hub

-- this moment
abbrev pub basis_of : {D : Type 0} → Ghosts D → Store → D → Basis
basis_of g s disk = record { bytes = g.seen disk; hub = s.engine.hub }

-- a leaf of that engine was at fault
abbrev pub SpoiltOn : Option Basis → (at want found : ℕ) → Type 0
SpoiltOn None at want found = Unit {0}
SpoiltOn (Some b) at want found = (id : ℕ) × LeafSpoils b.bytes b.hub.dir id at want found

-- A refusal that may be told since a run began: a fault of the disk where its count rose, damage of an honest disk where a leaf of the basis is at fault, and want of room by no call of an actor. Without a basis nothing is said of damage.
abbrev pub MayTell : {D : Type 0} → Ghosts D → Option Basis → D → D → Refusal → Type 0
MayTell g basis start_disk disk DiskFault = Rose (g.faults start_disk) (g.faults disk)
MayTell g basis start_disk disk (Corrupt at want found) = IsTrue (g.honest disk) → SpoiltOn basis at want found
MayTell g basis start_disk disk NoSpace = ⊥
MayTell g basis start_disk disk _ = Unit {0}

abbrev pub MayAnswerSo : {D : Type 0} → Ghosts D → Option Basis → D → D → Answer (List ℕ) → Type 0
MayAnswerSo g basis start_disk disk answer = (r : Refusal) → answer ≡ answers.Refused r → MayTell g basis start_disk disk r

abbrev pub MayReplySo : {D : Type 0} → Ghosts D → Option Basis → D → D → Reply → Type 0
MayReplySo g basis start_disk disk told = (answer : Answer (List ℕ)) → told ≡ reply.Answer answer → MayAnswerSo g basis start_disk disk answer

-- each session's call keeps only such an answer
abbrev pub AreToldSo : {D : Type 0} → Ghosts D → Option Basis → D → Engine → D → Type 0
AreToldSo g basis start_disk e disk = (session : ℕ) → MayAnswerSo g basis start_disk disk (answer_in e session)

-- An honest disk reads as then, and the hub went on, whose leaves were a directory. Since then leaves may have left their frames.
abbrev pub IsBasis : {D : Type 0} → Ghosts D → Option Basis → Engine → D → Type 0
IsBasis g None e disk = Unit {0}
IsBasis g (Some b) e disk = IsTrue (g.honest disk) → (g.seen disk ≡ b.bytes) × IsDirectory b.hub.dir × HubGoesOn (all_out b.hub) e.hub

-- ---- what each call of an actor keeps

-- start: the disk as a run began; what holds on an honest disk, of each world, and of what the run installed
abbrev pub Holding : {D : Type 0} → Ghosts D → Store → D → (D → World → Completed → List Installed → Type 0) → Type 0
Holding {D} g s before Goes = IsTrue (g.honest before) → (start : D) (w : World) (first : Completed) (made : List Installed) → IsHeld g start s before w first made → Goes start w first made

-- Whatever the disk, since any earlier moment and on any basis, what is told may be, and the basis stays.
abbrev pub TellsSo : {D : Type 0} → Ghosts D → (s s' : Store) → (before after : D) → (Option Basis → D → Type 0) → Type 0
TellsSo {D} g s s' before after Told =
    (basis : Option Basis) (start : D) → g.faults start ≤ g.faults before → IsBasis g basis s.engine before → AreToldSo g basis start s.engine before
    → Told basis start × AreToldSo g basis start s'.engine after × IsBasis g basis s'.engine after

-- what holds of the store, its ground but for what is kept of leaves, the checkpoint that runs, and how many frames it has; the disk was looked at alone
pub record CallKeeps {D : Type 0} (g : Ghosts D) (s s' : Store) (before after : D) : Type 0 where
  pub ready : IsReady s → IsReady s'
  pub ground : IsSameButKept s.ground s'.ground
  pub running : s'.running ≡ s.running
  pub frames : s'.frames ≡ s.frames
  pub looked : Looked g before after
  pub home : g.home after ≡ g.home before

-- a checkpoint, a close and an opening anew keep of each session's call only what may be told
abbrev pub StaysTold : {D : Type 0} → Ghosts D → (s s' : Store) → (before after : D) → Type 0
StaysTold {D} g s s' before after = (start : D) → g.faults start ≤ g.faults before → AreToldSo g None start s.engine before → AreToldSo g None start s'.engine after
