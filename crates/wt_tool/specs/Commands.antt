-- The run of each command. A further command adds its case here, and its relation in a file of its own.
use Rattle.std.specs.Prelude.{not}
use Rattle.script_run.specs.Scripts.{Outside}
use Rattle.wt_line.specs.Line.{Asked, create, write, read, list, verify, script, dump, load}
use Rattle.wt_tool.specs.Points.{Point, Ran}
use Rattle.wt_tool.specs.Openings.{Opened}
use Rattle.wt_tool.specs.Creates.{RunsCreate}
use Rattle.wt_tool.specs.Writes.{RunsWrite}
use Rattle.wt_tool.specs.Reads.{RunsRead}
use Rattle.wt_tool.specs.Lists.{RunsList}
use Rattle.wt_tool.specs.Verifies.{RunsVerify}
use Rattle.wt_tool.specs.Scripts.{RunsScript}
use Rattle.wt_tool.specs.Dumps.{RunsDump}
use Rattle.wt_tool.specs.Loads.{RunsLoad}

-- what a run of a command may give, from the point at which its device was handed in: on the machine that the device opens to, or, of `verify`, on the device itself
abbrev pub Runs : Outside → Asked → Point → Ran → Type 0
Runs o (create config uri) p ran = Opened (RunsCreate config uri) p ran
Runs o (write overwrite uri pairs) p ran = Opened (RunsWrite overwrite uri pairs) p ran
Runs o (read uri keys) p ran = Opened (RunsRead o.output_failed uri keys) p ran
Runs o list p ran = Opened (RunsList o.output_failed) p ran
Runs o (verify uri) p ran = RunsVerify uri p ran
Runs o script p ran = Opened (RunsScript o) p ran
Runs o (dump hex reverse uri) p ran = Opened (RunsDump o.output_failed hex reverse uri) p ran
Runs o (load no_overwrite name) p ran = Opened (RunsLoad o.input_failed o.input_ended (not no_overwrite) name) p ran

-- the command runs on an engine; else it answers from the device itself
abbrev pub IsOnEngine : Asked → Type 0
IsOnEngine (verify uri) = ⊥
IsOnEngine (read uri keys) = ⊥
IsOnEngine list = ⊥
IsOnEngine (dump hex reverse uri) = ⊥
IsOnEngine _ = Unit {0}

-- it answers from the tables that it names
abbrev pub IsByReader : Asked → Type 0
IsByReader (read uri keys) = Unit {0}
IsByReader list = Unit {0}
IsByReader (dump hex reverse uri) = Unit {0}
IsByReader _ = ⊥
