-- What a turn of a script does: a line more is run and printed, or the run ends.
use Rattle.std.specs.Prelude.{◌≡◌, ◌⊎◌, ◌<◌, ◌≤◌, ◌+◌, ◌++◌, ◌∷◌, [], ℕ, Bool, List, Option, None, Some, length, filter, IsTrue}
use Rattle.failure.specs.Counts.{Rose}
use Rattle.item.specs.declared.formats.Formats.{Formats}
use Rattle.wt_code.specs.declared.refusals.Refusal.{Refusal}
use Rattle.wt_code.specs.declared.refusals.Refusal.TheVariants.{DiskFault}
use Rattle.wt_io.specs.Streams.{AtEnd, Took, TookPart}
use Rattle.wt_io.specs.declared.streams.Source.{Ghosts as SourceGhosts}
use Rattle.wt_io.specs.declared.streams.Sink.{Ghosts as SinkGhosts}
use Rattle.script_text.specs.declared.line.Line.{Line}
use Rattle.script_text.specs.declared.replies.Reply.{Reply}
use Rattle.script_text.specs.Grammar.{IsLine}
use Rattle.script_text.specs.Replies.{line_of_reply}
use Rattle.disk_model.specs.declared.disk.Disk.{Ghosts}
use Rattle.engine_store.specs.declared.store.Store.{Store}
use Rattle.script_run.specs.declared.one_line.Printed.{Printed}
use Rattle.script_run.specs.declared.script.End.{End}
use Rattle.script_run.specs.declared.script.End.TheVariants.{Through, Stopped, OutputFailed}
use Rattle.script_run.specs.declared.script.Place.{Place}
use Rattle.script_run.specs.declared.script.TheConstants.{INPUT_MAX}
use Rattle.script_run.specs.Lines.{AreLines, GaveMore, Held, IsCut}
use Rattle.script_run.specs.Runs.{IsAt}
use Rattle.script_run.specs.Scripts.{IsLater, Outside, Ran, RunsLine, RunsLines, Script, counts, first_of, listed, outside, refusals_in}

-- the first fault of the disk or want of memory, with one reply more
abbrev pub met_with : Option Refusal → Option Refusal → Option Refusal
met_with (Some earlier) refusal = Some earlier
met_with None refusal = first_of (filter counts (listed refusal))

-- the place behind a line of so many bytes
pub record IsBehind (size : ℕ) (refusal : Option Refusal) (place next : Place) : Type 0 where
  pub line : next.line ≡ place.line + 1
  pub used : next.used ≡ place.used + (size + 1)
  pub met : next.met ≡ met_with place.met refusal

-- a line that is run and printed whole: what is printed, the refusal in it, and what it leaves
pub record LineDone (text : List ℕ) (used : ℕ) (s : Script) (printed : List ℕ) (refusal : Option Refusal) (later : Script) : Type 0 where
  pub room : used + length text ≤ INPUT_MAX
  pub asked : Line
  pub formats : Formats
  pub reply : Reply
  pub line : IsLine text asked
  pub now : IsLater asked → ⊥
  pub replies : RunsLine asked s formats reply later
  pub printed_is : printed ≡ line_of_reply formats reply ++ 10 ∷ []
  pub refusal_is : listed refusal ≡ refusals_in reply

-- of the output alone
abbrev pub of_output : {K : Type 0} → SinkGhosts K → K → K → Outside
of_output sink out out' = record { input_failed = ⊥; input_ended = ⊥; output_failed = Rose (sink.fault_count out) (sink.fault_count out') }

-- a line of so many bytes was printed whole, or the output failed
pub record IsPrinted {K : Type 0} (sink : SinkGhosts K) (out out' : K) (printed : Printed) (size : ℕ) (place next : Place) : Type 0 where
  pub took : Took (sink.written out) (sink.written out') printed.line.items
  pub kept : next.kept ≡ place.kept
  pub behind : IsBehind size printed.refusal place next

pub record IsCutOff {K : Type 0} (sink : SinkGhosts K) (out out' : K) (printed : Printed) (place next : Place) (end : End) : Type 0 where
  pub end_is : end ≡ OutputFailed
  pub took : TookPart (sink.written out) (sink.written out') printed.line.items
  pub rose : Rose (sink.fault_count out) (sink.fault_count out')
  pub same : next ≡ place

abbrev pub PrintTurn : {K : Type 0} → SinkGhosts K → K → K → Printed → ℕ → Place → Place → Option End → Type 0
PrintTurn sink out out' printed size place next None = IsPrinted sink out out' printed size place next
PrintTurn sink out out' printed size place next (Some end) = IsCutOff sink out out' printed place next end

-- disk: the device as the run began; store and now: what the turn leaves
module _ {D : Type 0} (g : Ghosts D) (disk : D) (store : Store) (now : D) where
  -- the run goes on behind the line
  pub record LineGoesOn {K : Type 0} (sink : SinkGhosts K) (out out' : K) (text : List ℕ) (s : Script) (place next : Place) : Type 0 where
    pub printed : List ℕ
    pub refusal : Option Refusal
    pub later : Script
    pub done : LineDone text place.used s printed refusal later
    pub took : Took (sink.written out) (sink.written out') printed
    pub at : IsAt g disk store now later
    pub start : later.first ≡ s.first
    pub kept : later.kept ≡ next.kept
    pub line : next.line ≡ place.line + 1
    pub used : next.used ≡ place.used + (length text + 1)
    pub met : next.met ≡ met_with place.met refusal

  -- the run ends, with these lines or none
  pub record RunEnds {K : Type 0} (o : Outside) (sink : SinkGhosts K) (out out' : K) (texts : List (List ℕ)) (s : Script) (place next : Place) (end : End) : Type 0 where
    pub ran : Ran
    pub runs : RunsLines o place.line place.used texts s ran
    pub end_is : end ≡ ran.end
    pub no_reply : ran.replies ≡ []
    pub took : Took (sink.written out) (sink.written out') ran.text
    pub at : IsAt g disk store now ran.last
    pub start : ran.last.first ≡ s.first
    pub met : next.met ≡ place.met

  abbrev pub LineTurn : {K : Type 0} → SinkGhosts K → K → K → List ℕ → Script → Place → Place → Option End → Type 0
  LineTurn sink out out' text s place next None = LineGoesOn sink out out' text s place next
  LineTurn sink out out' text s place next (Some end) = RunEnds (of_output sink out out') sink out out' (text ∷ []) s place next end

  -- the next line was read, run and printed
  pub record TurnGoesOn {S K : Type 0} (source : SourceGhosts S) (sink : SinkGhosts K) (input input' : S) (out out' : K) (held held' : Held) (place next : Place) (s : Script) : Type 0 where
    pub given : List ℕ
    pub gave : GaveMore held.ended (source.left input) (source.left input') given
    pub cut : IsCut held'.ended (held.behind ++ given) held'.line held'.behind
    pub line : LineGoesOn sink out out' held'.line s place next

  -- the run has ended
  pub record TurnEnds {S K : Type 0} (source : SourceGhosts S) (sink : SinkGhosts K) (input input' : S) (out out' : K) (held : Held) (place next : Place) (s : Script) (end : End) : Type 0 where
    pub given : List ℕ
    pub gave : GaveMore held.ended (source.left input) (source.left input') given
    pub texts : List (List ℕ)
    pub behind : List ℕ
    pub ended : Bool
    pub at_end : IsTrue ended → AtEnd (source.left input')
    pub stays : IsTrue held.ended → IsTrue ended
    pub lines : AreLines ended (held.behind ++ given) texts behind
    pub run : RunEnds (outside source sink input input' out out') sink out out' texts s place next end
    pub whole : end ≡ Through → behind ≡ []

  abbrev pub TurnMade : {S K : Type 0} → SourceGhosts S → SinkGhosts K → S → S → K → K → Held → Held → Place → Place → Script → Option End → Type 0
  TurnMade source sink input input' out out' held held' place next s None = TurnGoesOn source sink input input' out out' held held' place next s
  TurnMade source sink input input' out out' held held' place next s (Some end) = TurnEnds source sink input input' out out' held place next s end

-- a line was taken, which has a byte at least with its newline
pub record HasMoved (place next : Place) : Type 0 where
  pub line : next.line ≡ place.line + 1
  pub more : place.used < next.used
  pub within : next.used ≤ INPUT_MAX + 1

-- a fault of the disk that a turn met rose
abbrev pub MeetsFault : Place → Place → Type 0 → Option End → Type 0
MeetsFault place next rose None = next.met ≡ Some DiskFault → (place.met ≡ Some DiskFault) ⊎ rose
MeetsFault place next rose (Some end) = (next.met ≡ place.met) × (end ≡ Stopped DiskFault → rose)
