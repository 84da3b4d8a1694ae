-- Which faults of the disk are told, whatever the disk.
use Rattle.std.specs.Prelude.{◌≡◌, ◌≤◌, None, Result, Ok, Err}
use Rattle.failure.specs.Counts.{Rose}
use Rattle.wt_code.specs.declared.answers.Answer.TheVariants.{Refused}
use Rattle.wt_code.specs.declared.refusals.Refusal.{Refusal}
use Rattle.wt_code.specs.declared.refusals.Refusal.TheVariants.{DiskFault}
use Rattle.script_text.specs.declared.replies.Reply.TheVariants.{Answered}
use Rattle.disk_model.specs.declared.disk.Disk.{Ghosts}
use Rattle.engine_store.specs.declared.store.Store.{Store}
use Rattle.engine_store.specs.Calls.{AreToldSo}
use Rattle.script_run.specs.declared.told.Told.{Told}

-- a line replied a fault of the disk, or its opening met one
abbrev pub RepliesFault : Result Told Refusal → Type 0
RepliesFault (Ok told) = told.reply ≡ Answered (Refused DiskFault)
RepliesFault (Err r) = r ≡ DiskFault

-- Since any moment at which no session's call kept another answer than may be told, this is told of how a fault of the disk rose, and none keeps another now.
abbrev pub TellsFaults : {D : Type 0} → Ghosts D → (s s' : Store) → (before after : D) → (Type 0 → Type 0) → Type 0
TellsFaults {D} g s s' before after Says = (start : D) → g.faults start ≤ g.faults before → AreToldSo g None start s.engine before → Says (Rose (g.faults start) (g.faults after)) × AreToldSo g None start s'.engine after
