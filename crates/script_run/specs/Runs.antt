-- What the functions that run a line do.
use Rattle.std.specs.Prelude.{◌≡◌, ◌⊎◌, ◌<◌, ◌∷◌, ◌++◌, [], ℕ, Bool, List, Option, Some, Result, Ok, Err, length, filter, IsTrue}
use Rattle.item.specs.declared.formats.Formats.{Formats}
use Rattle.wt_code.specs.declared.refusals.Refusal.{Refusal}
use Rattle.wt_code.specs.declared.answers.Answer.{Answer}
use Rattle.wt_code.specs.declared.refusals.Refusal.TheVariants.{Corrupt, DiskFault, NoMemory, Limit as Refusal_Limit}
use Rattle.wt_code.specs.declared.refusals.Limit.TheVariants.{Sessions}
use Rattle.disk_model.specs.declared.disk.Disk.{Ghosts}
use Rattle.engine_store.specs.declared.frames.Frames.TheVariants.{Firm}
use Rattle.engine_store.specs.declared.store.Store.{Store}
use Rattle.engine_store.specs.Calls.{MayAnswerOn}
use Rattle.engine_store.specs.Devices.{device_of}
use Rattle.engine_store.specs.Held.{IsHeld}
use Rattle.engine_store.specs.Progress.{place_in}
use Rattle.engine_store.specs.declared.progress.Progress.{Progress}
use Rattle.wt_io.specs.Streams.{Gave, Took}
use Rattle.wt_calls.specs.declared.call.Call.{Call}
use Rattle.wt_calls.specs.declared.call.Call.TheVariants as call
use Rattle.script_text.specs.declared.line.Control.{Control}
use Rattle.script_text.specs.declared.line.Control.TheVariants.{Frames}
use Rattle.script_text.specs.declared.line.Line.{Line}
use Rattle.script_text.specs.declared.line.Line.TheVariants.{Whole, Start, Step, Finish, Control as OfAll}
use Rattle.script_text.specs.declared.replies.Reply.{Reply}
use Rattle.script_text.specs.Grammar.{IsLine}
use Rattle.script_text.specs.Replies.{line_of_reply}
use Rattle.engine_world.specs.Stands.{Engine}
use Rattle.engine_world.specs.Worlds.{World}
use Rattle.engine.specs.Runs.{IsBuilt}
use Rattle.engine.specs.declared.step.Actor.{Actor}
use Rattle.engine.specs.declared.step.Actor.TheVariants as by
use Rattle.script_run.specs.declared.one_line.Printed.{Printed}
use Rattle.script_run.specs.declared.one_line.Stop.{Stop}
use Rattle.script_run.specs.declared.one_line.Stop.TheVariants as stop
use Rattle.script_run.specs.declared.checkpointing.CheckpointStage.{CheckpointStage}
use Rattle.script_run.specs.declared.checkpointing.CheckpointTurn.{CheckpointTurn}
use Rattle.script_run.specs.declared.kept.Kept.{Kept}
use Rattle.script_run.specs.declared.told.Told.{Told}
use Rattle.script_run.specs.declared.script.End.TheVariants.{Through, Stopped}
use Rattle.script_run.specs.declared.script.ScriptRun.{ScriptRun}
use Rattle.script_run.specs.Checkpointing.{asked_in}
use Rattle.script_run.specs.Faults.{RepliesFault, TellsFaults}
use Rattle.script_run.specs.Lines.{AreLines}
use Rattle.wt_io.specs.declared.streams.Source.{Ghosts as SourceGhosts}
use Rattle.wt_io.specs.declared.streams.Sink.{Ghosts as SinkGhosts}
use Rattle.script_run.specs.Scripts.{outside, ActorReplies, Answers, Begins, CauseOn, CheckpointCallEnds, CheckpointCallTurns, Ends, Goes, Outside, Ran, Refuses, RunsCheckpoint, RunsLine, RunsLines, Script, IsLater, IsLaterCall, IsUnbuilt, NoSession, StopsBy, actor_in, caller, counts, first_of, fresh, listed, missing, opened_more, plain, refusals_in}

-- one of the four actors of the system, or any session
abbrev pub IsKnown : Actor → Type 0
IsKnown (by.Session session) = Unit {0}
IsKnown (by.System number) = number < 4

abbrev pub IsOfKnown : Line → Type 0
IsOfKnown (Whole made) = IsKnown (caller made)
IsOfKnown (Start made) = IsKnown (caller made)
IsOfKnown (Step who) = IsKnown (actor_in who)
IsOfKnown (Finish who) = IsKnown (actor_in who)
IsOfKnown (OfAll asked) = Unit {0}

-- the actor is there
abbrev pub IsThere : Actor → Engine → Type 0
IsThere (by.Session session) e = session < length e.sessions
IsThere (by.System number) e = number < 4

-- the store takes the whole call
abbrev pub IsTaken : Call → Engine → Type 0
IsTaken (call.Session session made) e = session < length e.sessions
IsTaken (call.System number made) e = (number < 4) × IsBuilt made

-- why no session more is opened
abbrev pub IsNoSession : Refusal → Type 0
IsNoSession r = (r ≡ NoMemory) ⊎ (r ≡ Refusal_Limit Sessions)

-- sessions were opened up to the actor's, or as many as could be
abbrev pub OpensAs : Actor → World → Result (Unit {0}) Refusal → (World → Type 0) → Type 0
OpensAs who w (Ok u) Holds = Holds (opened_more (missing who w) w)
OpensAs who w (Err r) Holds = (n : ℕ) × (n < missing who w) × NoSession r (opened_more n w) × Holds (opened_more n w)

-- a line of an actor
abbrev pub IsOfActor : Line → Type 0
IsOfActor (Whole made) = IsUnbuilt made → ⊥
IsOfActor (Start made) = IsUnbuilt made → ⊥
IsOfActor (Step who) = Unit {0}
IsOfActor (Finish who) = Unit {0}
IsOfActor (OfAll asked) = ⊥

-- a line that is asked of no device, of this stage
abbrev pub IsCallLine : Line → Type 0
IsCallLine (Whole made) = IsLaterCall made → ⊥
IsCallLine (Start made) = IsLaterCall made → ⊥
IsCallLine (Step who) = Unit {0}
IsCallLine (Finish who) = Unit {0}
IsCallLine (OfAll asked) = ⊥

-- ---- on a device

-- The store and its disk stand for s, in a run that began on the first disk.
pub record IsAt {D : Type 0} (g : Ghosts D) (first : D) (store : Store) (disk : D) (s : Script) : Type 0 where
  pub held : IsHeld g first store disk s.world s.first s.made
  pub device : s.device ≡ device_of g disk
  pub frames : store.frames ≡ Firm s.frames
  pub progress : place_in store.running ≡ s.progress

-- ---- of an actor, in a run that began on the first disk

module _ {D : Type 0} (g : Ghosts D) (first : D) (s : Script) (store : Store) (disk : D) where
  -- The store and its disk stand for what a line left, of which this is so.
  pub record IsLeftSo (kept : Kept) (IsSo : Script → Type 0) : Type 0 where
    pub later : Script
    pub is : IsSo later
    pub held : IsHeld g first store disk later.world later.first later.made
    pub device : later.device ≡ device_of g disk
    pub frames : store.frames ≡ Firm later.frames
    pub progress : place_in store.running ≡ later.progress
    pub start : later.first ≡ s.first
    pub kept_is : later.kept ≡ kept

  -- a reply was told so
  abbrev pub IsReplied : Line → Kept → Told → Type 0
  IsReplied asked kept told = IsLeftSo kept (λ later. ActorReplies asked s told.formats told.reply later)

  -- a whole call was answered so
  pub record IsAnswerTo (made : Call) (w : World) (answer : Answer (List ℕ)) : Type 0 where
    pub next : World
    pub answered : MayAnswerOn (CauseOn s (device_of g disk) w) w made answer next
    pub held : IsHeld g first store disk next s.first s.made

  -- where the actor is there: the call was made, started, stepped or finished, and told so
  abbrev pub IsAnswered : Call → World → Told → Type 0
  IsAnswered made w told = IsLeftSo s.kept (λ later. Answers made s told.formats told.reply later w ⊎ Refuses NoMemory s w told.reply later)

  abbrev pub IsBegun : Call → World → Kept → Told → Type 0
  IsBegun made w kept told = IsLeftSo kept (λ later. Begins made s told.formats told.reply later w ⊎ Refuses NoMemory s w told.reply later)

  abbrev pub IsGone : Actor → World → Told → Type 0
  IsGone who w told = IsLeftSo s.kept (λ later. Goes who s told.formats told.reply later w)

  abbrev pub IsEnded : Actor → World → Told → Type 0
  IsEnded who w told = IsLeftSo s.kept (λ later. Ends who s told.formats told.reply later w)

-- the store and its disk, which is that of s, stand for a world
pub record StandsAt {D : Type 0} (g : Ghosts D) (first : D) (store : Store) (disk : D) (s : Script) (w : World) : Type 0 where
  pub held : IsHeld g first store disk w s.first s.made
  pub device : s.device ≡ device_of g disk
  pub frames : store.frames ≡ Firm s.frames
  pub progress : place_in store.running ≡ s.progress

-- on an honest disk, of each script and world for which they stand, and of each script
abbrev pub StandingIn : {D : Type 0} → Ghosts D → Store → D → (D → Script → World → Type 0) → Type 0
StandingIn {D} g store disk Goes = IsTrue (g.honest disk) → (first : D) (s : Script) (w : World) → StandsAt g first store disk s w → Goes first s w

abbrev pub Standing : {D : Type 0} → Ghosts D → Store → D → (D → Script → Type 0) → Type 0
Standing {D} g store disk Goes = IsTrue (g.honest disk) → (first : D) (s : Script) → StandsAt g first store disk s s.world → Goes first s

-- whatever the disk, a fault that is replied rose since any earlier moment
abbrev pub RepliesSo : {D : Type 0} → Ghosts D → (store store' : Store) → (disk disk' : D) → Told → Type 0
RepliesSo {D} g store store' disk disk' told = TellsFaults g store store' disk disk' (λ rose. RepliesFault (Ok told) → rose)

-- how many frames there are behind a line that is asked of the device
abbrev pub frames_after : Control → Result Told Refusal → ℕ → ℕ
frames_after (Frames count) (Ok told) before = count
frames_after _ result before = before

-- what is printed of a line
pub record IsPrintedOf (formats : Formats) (reply : Reply) (printed : Printed) : Type 0 where
  pub line : printed.line.items ≡ line_of_reply formats reply ++ 10 ∷ []
  pub refusal : listed printed.refusal ≡ refusals_in reply

module _ {D : Type 0} (g : Ghosts D) (first : D) where
  -- a line was replied to, and left the store and its disk so
  pub record IsTold (asked : Line) (s : Script) (store : Store) (disk : D) (kept : Kept) (told : Told) : Type 0 where
    pub later : Script
    pub replies : RunsLine asked s told.formats told.reply later
    pub at : IsAt g first store disk later
    pub start : later.first ≡ s.first
    pub kept_is : later.kept ≡ kept

  -- what was asked of a checkpoint was made so
  pub record IsMadeSo (turn : CheckpointTurn) (s : Script) (store : Store) (disk : D) (told : Told) : Type 0 where
    pub later : Script
    pub runs : RunsCheckpoint (asked_in turn) s told.reply later
    pub formats : told.formats ≡ plain
    pub at : IsAt g first store disk later
    pub start : later.first ≡ s.first
    pub kept_is : later.kept ≡ s.kept

  -- the steps that are left of such a call were made so
  pub record EndsSo (number : ℕ) (stage : CheckpointStage) (s : Script) (store : Store) (disk : D) (kept : Kept) (told : Told) : Type 0 where
    pub later : Script
    pub ends : CheckpointCallEnds number stage s told.reply later
    pub at : IsAt g first store disk later
    pub start : later.first ≡ s.first
    pub kept_is : later.kept ≡ kept

  -- and one step
  pub record TurnsSo (number : ℕ) (stage : CheckpointStage) (s : Script) (store : Store) (disk : D) (kept : Kept) (told : Told) : Type 0 where
    pub later : Script
    pub turns : CheckpointCallTurns number stage s told.reply later
    pub at : IsAt g first store disk later
    pub start : later.first ≡ s.first
    pub kept_is : later.kept ≡ kept

  -- the device was not opened
  pub record IsStopped (asked : Line) (s : Script) (store : Store) (disk : D) (r : Refusal) : Type 0 where
    pub later : Script
    pub stops : StopsBy asked s r later
    pub at : IsAt g first store disk later
    pub start : later.first ≡ s.first

  abbrev pub RepliedAs : Line → Script → Store → D → Kept → Result Told Refusal → Type 0
  RepliedAs asked s store disk kept (Ok told) = IsTold asked s store disk kept told
  RepliedAs asked s store disk kept (Err r) = IsStopped asked s store disk r

  -- a line was run, and told so
  pub record IsLineRun (text : List ℕ) (s : Script) (store : Store) (disk : D) (kept : Kept) (asked : Line) (formats : Formats) (reply : Reply) : Type 0 where
    pub line : IsLine text asked
    pub now : IsLater asked → ⊥
    pub later : Script
    pub replies : RunsLine asked s formats reply later
    pub at : IsAt g first store disk later
    pub start : later.first ≡ s.first
    pub kept_is : later.kept ≡ kept

  -- what was made of a line: this is printed of it; or it is none; or for want of memory nothing was made of it, or its reply is not printed; or the device was not opened
  abbrev pub LineMade : List ℕ → Script → Store → D → Kept → Result Printed Stop → Type 0
  LineMade text s store disk kept (Ok printed) =
      (asked : Line) × (formats : Formats) × (reply : Reply) × IsLineRun text s store disk kept asked formats reply × IsPrintedOf formats reply printed
  LineMade text s store disk kept (Err stop.NoLine) = ((asked : Line) → IsLine text asked → IsLater asked) × IsAt g first store disk s
  LineMade text s store disk kept (Err stop.NoMemory) =
      IsAt g first store disk s ⊎ ((asked : Line) × (formats : Formats) × (reply : Reply) × IsLineRun text s store disk kept asked formats reply)
  LineMade text s store disk kept (Err (stop.Opening r)) = (asked : Line) × IsLine text asked × (IsLater asked → ⊥) × IsStopped asked s store disk r

-- a fault of the disk is printed, or stopped the run
abbrev pub PrintsFault : Result Printed Stop → Type 0
PrintsFault (Ok printed) = printed.refusal ≡ Some DiskFault
PrintsFault (Err (stop.Opening r)) = r ≡ DiskFault
PrintsFault (Err _) = ⊥

-- an opening met damage
abbrev pub StopsDamaged : ℕ → ℕ → ℕ → Result Printed Stop → Type 0
StopsDamaged at want found (Err (stop.Opening r)) = r ≡ Corrupt at want found
StopsDamaged at want found _ = ⊥

-- ---- whole scripts

-- A run of a script on an engine with so many frames and its device that stand for this world: what the input gave, the lines of that, and what they make.
pub record IsRun {D : Type 0} (g : Ghosts D) (o : Outside) (left left' written written' : Option (List ℕ)) (w : World) (before after : D) (frames : ℕ) (progress : Option Progress) (s : Store) (told : ScriptRun) : Type 0 where
  pub given : List ℕ
  pub gave : Gave left left' given
  pub texts : List (List ℕ)
  -- what was read behind the last line that was taken
  pub behind : List ℕ
  pub ended : Bool
  pub at_end : IsTrue ended → o.input_ended
  pub lines : AreLines ended given texts behind
  pub ran : Ran
  pub runs : RunsLines o 1 0 texts (fresh w (device_of g before) frames progress) ran
  pub took : Took written written' ran.text
  pub end_is : told.end ≡ ran.end
  -- the first fault of the disk or want of memory that a line replied
  pub met : told.met ≡ first_of (filter counts ran.replies)
  -- at the end of its input there is no byte behind the last line
  pub whole : ran.end ≡ Through → behind ≡ []
  pub device : ran.last.device ≡ device_of g after
  -- what the engine and its device are held to, over the checkpoints that lines installed
  pub held : IsHeld g before s after ran.last.world w.machine.completed ran.last.made

-- the same of a disk and of streams, before and after
abbrev pub IsRunOver : {D S K : Type 0} → Ghosts D → SourceGhosts S → SinkGhosts K → S → S → K → K → World → D → D → (frames : ℕ) → Option Progress → Store → ScriptRun → Type 0
IsRunOver g s k input input_now out out_now w before after frames progress store told =
    IsRun g (outside s k input input_now out out_now) (s.left input) (s.left input_now) (k.written out) (k.written out_now) w before after frames progress store told

-- the run met a fault of the disk
abbrev pub MetFault : ScriptRun → Type 0
MetFault told = (told.end ≡ Stopped DiskFault) ⊎ (told.met ≡ Some DiskFault)
