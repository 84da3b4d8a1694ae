-- What the top call promises.
use Rattle.std.specs.Prelude.{◌≡◌, ◌⊎◌, ℕ, ◌<◌, List, [], ◌∷◌, ◌++◌, length, take, filter, Option, Some, None, IsTrue, codes}
use Rattle.std.specs.List.{flat_map, AllByRecursion}
use Rattle.failure.specs.Counts.{Rose}
use Rattle.disk_model.specs.Crash.{Looked}
use Rattle.disk_model.specs.declared.disk.Disk.{Ghosts}
use Rattle.wt_io.specs.declared.streams.Source.{Ghosts as SourceGhosts}
use Rattle.wt_io.specs.declared.streams.Sink.{Ghosts as SinkGhosts}
use Rattle.wt_io.specs.Streams.{Gave, Took, TookFront}
use Rattle.wt_code.specs.declared.refusals.Refusal.{Refusal}
use Rattle.wt_code.specs.declared.refusals.Refusal.TheVariants.{NoMemory, DiskFault, Corrupt}
use Rattle.wt_code.specs.Text.{text_of_refusal}
use Rattle.kv_model.specs.Content.{Content, start}
use Rattle.stored.specs.Stored.{Reads}
use Rattle.recover_open.specs.Wholes.{IsWholeDamage}
use Rattle.device_read.specs.Readers.{Held, IsReaderOf}
use Rattle.device_read.specs.Refusals.{LeafIsAtFault}
use Rattle.device_read.specs.Spoilt.{IsSpoiltFrom}
use Rattle.wt_line.specs.Line.{Asked, script, verify, home_in}
use Rattle.script_run.specs.declared.script.End.{End}
use Rattle.script_run.specs.declared.script.End.TheVariants.{Through, Stopped, InputFailed, OutputFailed}
use Rattle.script_run.specs.Scripts.{Outside, outside, counts}
use Rattle.engine_store.specs.Devices.{device_of}
use Rattle.engine_store.specs.Images.{EachReads, OpensToLast, OpensToOne, Stays}
use Rattle.wt_tool.specs.Points.{Ran, point_of}
use Rattle.wt_tool.specs.Commands.{IsByReader, Runs}
use Rattle.wt_tool.specs.Damaged.{RunsOn, device_on, point_on}

-- ---- the disk

-- what `verify` reads of the device is in its grammar: all of it
abbrev pub IsOpenable : List ℕ → Type 0
IsOpenable bytes = (content : Content) × Reads bytes content

-- what any other command reads of it at first is: the record, the inner pages and the history
abbrev pub IsReadable : List ℕ → Type 0
IsReadable bytes = (h : Held) × IsReaderOf bytes h

-- what a run of the command reads of the device before it goes on
abbrev pub IsOpenableFor : Asked → List ℕ → Type 0
IsOpenableFor (verify uri) bytes = IsOpenable bytes
IsOpenableFor _ bytes = IsReadable bytes

-- words that are no command open nothing
abbrev pub IsOpenableBy : Option Asked → List ℕ → Type 0
IsOpenableBy None bytes = ⊥
IsOpenableBy (Some asked) bytes = IsOpenableFor asked bytes

-- ---- the streams

-- the errors before and after: the bytes, where they are told, and the count of faults
pub record Errors : Type 0 where
  pub before : Option (List ℕ)
  pub now : Option (List ℕ)
  pub faults : ℕ
  pub faults_now : ℕ

abbrev pub errors_of : {E : Type 0} → SinkGhosts E → E → E → Errors
errors_of e old new = record { before = e.written old; now = e.written new; faults = e.fault_count old; faults_now = e.fault_count new }

-- what the streams tell, before and after
pub record Streams : Type 0 where
  pub in_before : Option (List ℕ)
  pub in_now : Option (List ℕ)
  pub out_before : Option (List ℕ)
  pub out_now : Option (List ℕ)
  pub errors : Errors

abbrev pub streams_of : {S K E : Type 0} → SourceGhosts S → SinkGhosts K → SinkGhosts E → S → S → K → K → E → E → Streams
streams_of s k e input input_now out out_now err err_now = record { in_before = s.left input; in_now = s.left input_now; out_before = k.written out; out_now = k.written out_now; errors = errors_of e err err_now }

-- ---- lines and statuses

-- the lines for the refusals
abbrev pub lines : List Refusal → List ℕ
lines refusals = flat_map (λ r. text_of_refusal r ++ 10 ∷ []) refusals

-- the line of what ended a run, where that is no refusal
abbrev pub last_line : End → List ℕ
last_line Through = []
last_line (Stopped refusal) = []
last_line InputFailed = codes "input fault" ++ 10 ∷ []
last_line OutputFailed = codes "output fault" ++ 10 ∷ []

abbrev pub usage : List ℕ
usage = codes "usage: wt [-h home] command .." ++ 10 ∷ []

abbrev pub status_of : Refusal → ℕ
status_of DiskFault = 4
status_of NoMemory = 12
status_of _ = 1

-- of the first refusal, or of none
abbrev pub first_status : List Refusal → ℕ
first_status [] = 0
first_status (r ∷ later) = status_of r

-- the status of what ended the run early, else of the first refusal met
abbrev pub status_at : End → List Refusal → ℕ
status_at Through met = first_status met
status_at (Stopped refusal) met = status_of refusal
status_at InputFailed met = 5
status_at OutputFailed met = 6

abbrev pub status_by : Ran → ℕ
status_by ran = status_at ran.end (ran.refusals ++ filter counts ran.replies)

-- the bytes are on the errors, or a write of them failed
abbrev pub IsTold : Errors → List ℕ → Type 0
IsTold e bytes = Took e.before e.now bytes ⊎ Rose e.faults e.faults_now

-- Not all of the bytes are: a strict front of them is there, or a write failed and there was a line to tell. Without a line it never holds.
abbrev pub IsCut : Errors → List ℕ → Type 0
IsCut e bytes = ((n : ℕ) × (n < length bytes) × Took e.before e.now (take n bytes)) ⊎ (Rose e.faults e.faults_now × (0 < length bytes))

-- All is told, and this is the status. Where memory was too short to tell it, the status is 12.
abbrev pub Tells : Errors → List ℕ → ℕ → ℕ → Type 0
Tells e bytes wanted status = (IsTold e bytes × (status ≡ wanted)) ⊎ (IsCut e bytes × (status ≡ 12))

-- the text is on the output, or a front of it where a write of it failed
abbrev pub Printed : Option (List ℕ) → Option (List ℕ) → End → List ℕ → Type 0
Printed before now end text = Took before now text ⊎ (TookFront before now text × (end ≡ OutputFailed))

-- one of the statuses that a run ends with
abbrev pub IsStatus : ℕ → Type 0
IsStatus status = (status ≡ 0) ⊎ ((status ≡ 1) ⊎ ((status ≡ 4) ⊎ ((status ≡ 5) ⊎ ((status ≡ 6) ⊎ (status ≡ 12)))))

-- ---- a run, and its device

-- A run that the definitions allow: what it read and printed, what it told, and what a crash leaves of its device, now and at each moment of it.
pub record Went {D : Type 0} (g : Ghosts D) (o : Outside) (asked : Asked) (content : Content) (w : Streams) (old new : D) (status : ℕ) : Type 0 where
  pub ran : Ran
  pub run : Runs o asked (point_of g (start content) old) ran
  pub there : ran.next.device ≡ device_of g new
  pub taken : Gave w.in_before w.in_now ran.input
  pub printed : Printed w.out_before w.out_now ran.end ran.text
  pub told : Tells w.errors (lines ran.refusals ++ last_line ran.end) (status_by ran) status
  pub opens : OpensToLast (g.may_leave new) (start content).completed ran.next.machine.completed ran.made
  pub ever : (c : List ℕ) → g.left_since new (g.moment old) c → OpensToOne (start content).completed ran.made c
  pub stays : Stays (g.left_since new) ran.made

-- The same of `read`, `dump` and `list` on a device that has the last checkpoint of a whole one, but that leaves may be at fault: the definitions speak of the whole device, and the disk is only looked at.
pub record WentOn {D : Type 0} (g : Ghosts D) (o : Outside) (asked : Asked) (whole : List ℕ) (content : Content) (w : Streams) (old new : D) (status : ℕ) : Type 0 where
  pub ran : Ran
  pub run : RunsOn o (g.seen old) asked (point_on g whole (start content) old) ran
  pub there : ran.next.device ≡ device_on g whole new
  pub taken : Gave w.in_before w.in_now ran.input
  pub printed : Printed w.out_before w.out_now ran.end ran.text
  pub told : Tells w.errors (lines ran.refusals ++ last_line ran.end) (status_by ran) status
  pub none : ran.made ≡ []
  pub kept : ran.next.machine.completed ≡ (start content).completed
  pub looked : Looked g old new

-- of what else a command may tell damage: of a leaf to which the checkpoint of the device leads, as the run began, or of a script also as it ended; `verify`, which reads all, of nothing else
abbrev pub IsToldOf : Asked → List ℕ → List ℕ → (at want found : ℕ) → Type 0
IsToldOf (verify uri) before now at want found = ⊥
IsToldOf script before now at want found = LeafIsAtFault before at want found ⊎ LeafIsAtFault now at want found
IsToldOf _ before now at want found = LeafIsAtFault before at want found

-- What a refusal says of the device is so. Damage is told only where the device had it as the run began, or has it as it ended: a command that reads leaf by leaf tells of one leaf, whatever the others are.
abbrev pub IsSoFor : Asked → (honest : Type 0) → List ℕ → List ℕ → Refusal → Type 0
IsSoFor asked honest before now (Corrupt at want found) = honest → IsWholeDamage before at want found ⊎ (IsWholeDamage now at want found ⊎ IsToldOf asked before now at want found)
IsSoFor asked honest before now _ = Unit {0}

-- the refusals and the end that the status and the errors tell, whatever the disk; this holds of each refusal
pub record Telling (Holds : Refusal → Type 0) (e : Errors) (status : ℕ) : Type 0 where
  pub refusals : List Refusal
  pub each : AllByRecursion Holds refusals
  pub replies : List Refusal
  pub end : End
  pub told : Tells e (lines refusals ++ last_line end) (status_at end (refusals ++ filter counts replies)) status

-- the disk was told this home; or the run ended before that, and what a read gives is what it was
abbrev pub IsAt : {D : Type 0} → Ghosts D → List ℕ → D → D → ℕ → Type 0
IsAt g home old new status = (g.home new ≡ Some home) ⊎ ((g.home new ≡ g.home old) × (g.seen new ≡ g.seen old) × ((status ≡ 4) ⊎ (status ≡ 12)))

-- The contract of the top call. It reads the words by `command_of`, takes a disk and gives one back.
module _ {D S K E : Type 0} (g : Ghosts D) (s : SourceGhosts S) (k : SinkGhosts K) (e : SinkGhosts E) (command_of : List (List ℕ) → Option Asked) where
  pub record Promise (words : List (List ℕ)) (input input_now : S) (out out_now : K) (err err_now : E) (disk disk_now : D) (status : ℕ) : Type 0 where
    -- On an honest disk whose images read with one content, a run of a command is one that the definitions allow. Its text is on the output, its lines on the errors, and its status is that of what it met.
    pub run : IsTrue (g.honest disk) → (content : Content) → EachReads (g.may_leave disk) content → (asked : Asked) → command_of words ≡ Some asked
        → Went g (outside s k input input_now out out_now) asked content (streams_of s k e input input_now out out_now err err_now) disk disk_now status
    -- On an honest disk whose device has the last checkpoint of one that reads, but that leaves may be at fault, a run of `read`, `dump` or `list` is one that the definitions allow of the whole device; but it may end at a leaf that it needs, where that is at fault: of `read` the leaf of the key in hand, of `dump` one of the table. It needs no other.
    pub damaged : IsTrue (g.honest disk) → (whole : List ℕ) (content : Content) → Reads whole content → IsSpoiltFrom whole (g.seen disk) → (asked : Asked) → IsByReader asked → command_of words ≡ Some asked
        → WentOn g (outside s k input input_now out out_now) asked whole content (streams_of s k e input input_now out out_now err err_now) disk disk_now status
    -- Words that are no command give the usage line and status 1, or 12 where memory is too short to read them.
    pub usage_told : command_of words ≡ None → Tells (errors_of e err err_now) usage 1 status × Took (k.written out) (k.written out_now) [] × (input_now ≡ input) × (disk_now ≡ disk)
    -- Whatever the disk, the status is that of refusals whose lines are on the errors. Damage that they tell of an honest disk is there.
    pub told : (asked : Asked) → command_of words ≡ Some asked → Telling (IsSoFor asked (IsTrue (g.honest disk)) (g.seen disk) (g.seen disk_now)) (errors_of e err err_now) status
    -- Status 0 and a printed byte come only from a command whose opening of the device is not refused for what it holds: the record, the inner pages and the history, and of `verify` all of it.
    pub opened : IsTrue (g.honest disk) → status ≡ 0 → IsOpenableBy (command_of words) (g.seen disk)
    pub silent : IsTrue (g.honest disk) → Took (k.written out) (k.written out_now) [] ⊎ IsOpenableBy (command_of words) (g.seen disk)
    -- The disk is at the home that the words name.
    pub home : (asked : Asked) → command_of words ≡ Some asked → IsAt g (home_in words) disk disk_now status
    pub statuses : IsStatus status
    pub disk_fault : status ≡ 4 → Rose (g.faults disk) (g.faults disk_now)
    pub input_fault : status ≡ 5 → Rose (s.fault_count input) (s.fault_count input_now)
    pub output_fault : status ≡ 6 → Rose (k.fault_count out) (k.fault_count out_now)
    pub honest : g.honest disk_now ≡ g.honest disk
