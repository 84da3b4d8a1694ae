-- What the private functions of the commands leave.
use Rattle.std.specs.Prelude.{◌≡◌, ℕ, Bool, List, [], ◌∷◌, ◌++◌, filter, Option, Result, Ok, Err, ◌⊎◌, IsTrue}
use Rattle.std.specs.Option.{option_to_list}
use Rattle.failure.specs.Counts.{Rose}
use Rattle.disk_model.specs.Crash.{LeavesOnly}
use Rattle.disk_model.specs.declared.disk.Disk.{Ghosts}
use Rattle.wt_code.specs.declared.refusals.Refusal.{Refusal}
use Rattle.wt_code.specs.declared.refusals.Refusal.TheVariants.{Corrupt, DiskFault, NoMemory}
use Rattle.kv_model.specs.Machine.{Machine, Completed}
use Rattle.kv_model.specs.Content.{Content, IsLayered, start}
use Rattle.wt_io.specs.Streams.{AtEnd, Gave}
use Rattle.wt_io.specs.declared.streams.Source.{Ghosts as SourceGhosts}
use Rattle.wt_io.specs.declared.streams.Sink.{Ghosts as SinkGhosts}
use Rattle.script_run.specs.declared.script.End.{End}
use Rattle.script_run.specs.declared.script.End.TheVariants.{Through, Stopped, InputFailed, OutputFailed}
use Rattle.script_run.specs.Scripts.{Outside, outside, counts}
use Rattle.stored.specs.Stored.{Reads}
use Rattle.engine_store.specs.declared.eviction.TheConstants.{FRAMES}
use Rattle.engine_store.specs.declared.frames.Frames.TheVariants.{Soft}
use Rattle.engine_store.specs.declared.store.Store.{Store}
use Rattle.engine_store.specs.Opened.{HasSpoiltLeaf, IsAtFault, IsOpened, IsOutset, SpoilsAreThere}
use Rattle.device_read.specs.Refusals.{LeafIsAtFault}
use Rattle.wt_line.specs.Line.{Asked}
use Rattle.device_read.specs.Spoilt.{IsSpoiltFrom}
use Rattle.wt_tool.specs.Points.{Point, Ran, point_of}
use Rattle.wt_tool.specs.Commands.{IsByReader}
use Rattle.wt_tool.specs.Damaged.{device_on, point_on}
use Rattle.engine_store.specs.Devices.{Device, Installed, device_of}
use Rattle.wt_tool.specs.Loads.{RunsLoad}
use Rattle.wt_tool.specs.Scripts.{RunsScript, told_at}
use Rattle.wt_tool.specs.Top.{Errors, Streams, errors_of, streams_of, Printed, Tells, lines, last_line, status_at, status_by, Went, WentOn}
use Rattle.engine_store.specs.Images.{OpensToLast, OpensToOne, Stays, EachReads}

-- it tells of no damage
abbrev pub NoDamage : Refusal → Type 0
NoDamage (Corrupt at want found) = ⊥
NoDamage _ = Unit {0}

-- damage of an honest disk is told where a leaf to which its checkpoint leads is at fault
abbrev pub TellsSpoilt : (honest : Type 0) → List ℕ → Refusal → Type 0
TellsSpoilt honest bytes (Corrupt at want found) = honest → HasSpoiltLeaf bytes at want found
TellsSpoilt honest bytes _ = Unit {0}

-- a script tells damage of an honest disk where an opening of its own found it
abbrev pub TellsOfScript : (honest : Type 0) → List ℕ → Refusal → Type 0
TellsOfScript honest now (Corrupt at want found) = honest → IsAtFault now at want found
TellsOfScript honest now _ = Unit {0}

-- why a disk is not attached
abbrev pub IsOfAttach : Refusal → Type 0
IsOfAttach r = (r ≡ DiskFault) ⊎ (r ≡ NoMemory)

-- the refusals that a result tells, and how it ends its run
abbrev pub met_of : Result (Unit {0}) Refusal → List Refusal
met_of (Ok done) = []
met_of (Err r) = r ∷ []

abbrev pub end_of : Result (Unit {0}) Refusal → End
end_of (Ok done) = Through
end_of (Err r) = Stopped r

-- a run that reads and prints nothing
abbrev pub silent_run : Result (Unit {0}) Refusal → List Installed → Point → Ran
silent_run result made next = record { input = []; text = []; refusals = met_of result; replies = []; made = made; next = next; end = end_of result }

-- Such a run from this point on that the definitions allow, and the device that it left, at each moment and in each image. start: the disk as the command began; first: the checkpoint that it had.
pub record IsLeft {D : Type 0} (g : Ghosts D) (start_disk : D) (first : Completed) (Allowed : Point → Ran → Type 0) (p : Point) (new : D) (result : Result (Unit {0}) Refusal) : Type 0 where
  pub made : List Installed
  pub next : Machine
  pub run : Allowed p (silent_run result made (point_of g next new))
  pub opens : OpensToLast (g.may_leave new) first next.completed made
  pub ever : LeavesOnly g start_disk new (OpensToOne first made)
  pub stays : Stays (g.left_since new) made

-- the same of a run that began with this machine
abbrev pub LeavesAt : {D : Type 0} (g : Ghosts D) → (Point → Ran → Type 0) → Machine → D → D → Result (Unit {0}) Refusal → Type 0
LeavesAt g Allowed m old new result = IsLeft g old m.completed Allowed (point_of g m old) new result

-- the same of the machine that an opening makes
abbrev pub Leaves : {D : Type 0} (g : Ghosts D) → (Point → Ran → Type 0) → Content → D → D → Result (Unit {0}) Refusal → Type 0
Leaves g Allowed content old new result = LeavesAt g Allowed (start content) old new result

-- from an honest disk each of whose images reads with one content, such a run
abbrev pub LeavesFrom : {D : Type 0} (g : Ghosts D) → (Point → Ran → Type 0) → D → D → Result (Unit {0}) Refusal → Type 0
LeavesFrom g Allowed old new result = IsTrue (g.honest old) → (content : Content) → EachReads (g.may_leave old) content → Leaves g Allowed content old new result

-- from such a disk, a run of a command that the definitions allow
abbrev pub WentFrom : {D S K E : Type 0} (g : Ghosts D) (s : SourceGhosts S) (k : SinkGhosts K) (e : SinkGhosts E) → Asked → S → S → K → K → E → E → D → D → ℕ → Type 0
WentFrom g s k e asked input input_now out out_now err err_now old new status =
    IsTrue (g.honest old) → (content : Content) → EachReads (g.may_leave old) content
    → Went g (outside s k input input_now out out_now) asked content (streams_of s k e input input_now out out_now err err_now) old new status

-- a run that only looks at the disk, and leaves the device so
pub record Reading (Allowed : Point → Ran → Type 0) (p : Point) (now : Device) (out_before out_now : Option (List ℕ)) (e : Errors) (status : ℕ) : Type 0 where
  pub ran : Ran
  pub run : Allowed p ran
  pub printed : Printed out_before out_now ran.end ran.text
  pub told : Tells e (lines ran.refusals ++ last_line ran.end) (status_by ran) status
  pub silent : ran.input ≡ []
  pub none : ran.made ≡ []
  pub there : ran.next.device ≡ now
  pub same : ran.next.machine.completed ≡ p.machine.completed

-- The store is as an opening makes it of an honest disk: where that reads with layers, of what it holds. Calls go on from its hub.
pub record IsOpenedOn {D : Type 0} (g : Ghosts D) (disk : D) (s : Store) : Type 0 where
  pub reads : (content : Content) → Reads (g.seen disk) content → IsLayered content → IsOpened (g.seen disk) (g.may_leave disk) s
  pub spoils : SpoilsAreThere (g.seen disk) s
  pub outset : IsOutset s.engine.hub
  -- a call never finds each frame with a leaf that may not go
  pub soft : s.frames ≡ Soft FRAMES

abbrev pub at : Device → Machine → Point
at d m = record { machine = m; device = d }

-- ---- commands that read

-- From an honest disk whose device has the last checkpoint of one that reads as a content, but that leaves may be at fault, such a run on the whole device: what is allowed where a write of the output fails, or does not.
abbrev pub ReadsFrom : {D K E : Type 0} (g : Ghosts D) (k : SinkGhosts K) (e : SinkGhosts E) → (Type 0 → Point → Ran → Type 0) → D → D → K → K → E → E → ℕ → Type 0
ReadsFrom g k e Allowed old new out out_now err err_now status =
    IsTrue (g.honest old) → (whole : List ℕ) (content : Content) → Reads whole content → IsSpoiltFrom whole (g.seen old)
    → Reading (Allowed (Rose (k.fault_count out) (k.fault_count out_now))) (point_on g whole (start content) old) (device_on g whole new) (k.written out) (k.written out_now) (errors_of e err err_now) status

-- from such a disk, a run of a command on it
abbrev pub WentOnFrom : {D S K E : Type 0} (g : Ghosts D) (s : SourceGhosts S) (k : SinkGhosts K) (e : SinkGhosts E) → Asked → S → S → K → K → E → E → D → D → ℕ → Type 0
WentOnFrom g s k e asked input input_now out out_now err err_now old new status =
    IsTrue (g.honest old) → (whole : List ℕ) (content : Content) → Reads whole content → IsSpoiltFrom whole (g.seen old) → IsByReader asked
    → WentOn g (outside s k input input_now out out_now) asked whole content (streams_of s k e input input_now out out_now err err_now) old new status

-- what a refusal says of the leaves is so
abbrev pub IsSoOfLeaves : (honest : Type 0) → List ℕ → Refusal → Type 0
IsSoOfLeaves honest bytes (Corrupt at want found) = honest → LeafIsAtFault bytes at want found
IsSoOfLeaves honest bytes _ = Unit {0}

-- the statuses of such a run
abbrev pub IsReadStatus : ℕ → Type 0
IsReadStatus status = (status ≡ 0) ⊎ ((status ≡ 1) ⊎ ((status ≡ 4) ⊎ ((status ≡ 6) ⊎ (status ≡ 12))))

-- ---- a load

-- a run of `load` that the definitions allow, what it read and told, and the device that it left, at each moment and in each image
pub record Loading {D : Type 0} (g : Ghosts D) (Allowed : Point → Ran → Type 0) (m : Machine) (in_before in_now : Option (List ℕ)) (e : Errors) (old new : D) (status : ℕ) : Type 0 where
  pub ran : Ran
  pub run : Allowed (point_of g m old) ran
  pub there : ran.next.device ≡ device_of g new
  pub taken : Gave in_before in_now ran.input
  pub silent : ran.text ≡ []
  pub told : Tells e (lines ran.refusals ++ last_line ran.end) (status_by ran) status
  pub opens : OpensToLast (g.may_leave new) m.completed ran.next.machine.completed ran.made
  pub ever : LeavesOnly g old new (OpensToOne m.completed ran.made)
  pub stays : Stays (g.left_since new) ran.made

-- what the streams of a load allow
abbrev pub load_allowed : {S : Type 0} → SourceGhosts S → S → S → Bool → Option (List ℕ) → Point → Ran → Type 0
load_allowed s input input_now overwrite renamed = RunsLoad (Rose (s.fault_count input) (s.fault_count input_now)) (AtEnd (s.left input_now)) overwrite renamed

-- from an honest disk each of whose images reads with one content, such a run
abbrev pub LoadsFrom : {D S E : Type 0} (g : Ghosts D) (s : SourceGhosts S) (e : SinkGhosts E) → Bool → Option (List ℕ) → S → S → E → E → D → D → ℕ → Type 0
LoadsFrom g s e overwrite renamed input input_now err err_now old new status =
    IsTrue (g.honest old) → (content : Content) → EachReads (g.may_leave old) content
    → Loading g (load_allowed s input input_now overwrite renamed) (start content) (s.left input) (s.left input_now) (errors_of e err err_now) old new status

-- how a load ended, before it is told
pub record LoadEnds {D : Type 0} (g : Ghosts D) (Allowed : Point → Ran → Type 0) (m : Machine) (in_before in_now : Option (List ℕ)) (old new : D) (end : End) : Type 0 where
  pub taken : List ℕ
  pub made : List Installed
  pub next : Machine
  pub gave : Gave in_before in_now taken
  pub run : Allowed (point_of g m old) (record { input = taken; text = []; refusals = told_at end; replies = []; made = made; next = point_of g next new; end = end })
  pub opens : OpensToLast (g.may_leave new) m.completed next.completed made
  pub ever : LeavesOnly g old new (OpensToOne m.completed made)
  pub stays : Stays (g.left_since new) made

-- how a load may end: damage of an honest disk is told where a leaf is at fault, a fault of the disk or of the input only where its count rose, and the output is not used
abbrev pub EndsLoad : (honest : Type 0) → List ℕ → (disk_failed input_failed : Type 0) → End → Type 0
EndsLoad honest bytes disk_failed input_failed Through = Unit {0}
EndsLoad honest bytes disk_failed input_failed (Stopped r) = TellsSpoilt honest bytes r × (r ≡ DiskFault → disk_failed)
EndsLoad honest bytes disk_failed input_failed InputFailed = input_failed
EndsLoad honest bytes disk_failed input_failed OutputFailed = ⊥

-- ---- scripts

-- a run of `script` that the definitions allow, and the device that it left, at each moment and in each image
pub record Scripting {D : Type 0} (g : Ghosts D) (o : Outside) (content : Content) (w : Streams) (old new : D) (status : ℕ) : Type 0 where
  pub ran : Ran
  pub run : RunsScript o (point_of g (start content) old) ran
  pub there : ran.next.device ≡ device_of g new
  pub taken : Gave w.in_before w.in_now ran.input
  pub printed : Printed w.out_before w.out_now ran.end ran.text
  pub told : Tells w.errors (lines ran.refusals ++ last_line ran.end) (status_by ran) status
  pub opens : OpensToLast (g.may_leave new) (start content).completed ran.next.machine.completed ran.made
  pub ever : LeavesOnly g old new (OpensToOne (start content).completed ran.made)
  pub stays : Stays (g.left_since new) ran.made

-- from an honest disk each of whose images reads with one content, such a run
abbrev pub ScriptsFrom : {D S K E : Type 0} (g : Ghosts D) (s : SourceGhosts S) (k : SinkGhosts K) (e : SinkGhosts E) → S → S → K → K → E → E → D → D → ℕ → Type 0
ScriptsFrom g s k e input input_now out out_now err err_now old new status =
    IsTrue (g.honest old) → (content : Content) → EachReads (g.may_leave old) content
    → Scripting g (outside s k input input_now out out_now) content (streams_of s k e input input_now out out_now err err_now) old new status

-- how a script ended is told, and its status is that of its end, or else of what its lines met
abbrev pub TellsEnd : Errors → End → Option Refusal → ℕ → Type 0
TellsEnd e end met status = Tells e (lines (told_at end) ++ last_line end) (status_at end (told_at end ++ filter counts (option_to_list met))) status
