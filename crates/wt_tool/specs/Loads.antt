-- The run of `load`: a dump is read from the input, its table is made, its rows are put, and then Close.
use Rattle.std.specs.Prelude.{◌≡◌, ◌⊎◌, ◌≤◌, ◌+◌, ℕ, Bool, true, false, List, [], ◌∷◌, ◌++◌, length, Option, Some, None}
use Rattle.failure.specs.Counts.{Rose}
use Rattle.failure.specs.declared.Fault.{Fault}
use Rattle.item.specs.declared.formats.Formats.{Formats}
use Rattle.wt_code.specs.declared.refusals.Refusal.TheVariants.{DiskFault, NoMemory, Invalid as Refusal_Invalid}
use Rattle.wt_code.specs.declared.refusals.Invalid.TheVariants.{Text}
use Rattle.kv_model.specs.Decisions.{Demand}
use Rattle.kv_model.specs.Calls.{Session, Begin, PutKey, Commit}
use Rattle.kv_model.specs.Machine.{Machine, GoDown, after}
use Rattle.ckpt_step.specs.declared.lives.Lone.{Lone}
use Rattle.engine_store.specs.Devices.{IsLater}
use Rattle.dump_text.specs.Cuts.{lines_in}
use Rattle.dump_text.specs.Grammar.{Dump, IsDump, Row}
use Rattle.dump_text.specs.Texts.{IsRefusedAt}
use Rattle.script_run.specs.declared.script.End.TheVariants.{InputFailed}
use Rattle.script_run.specs.declared.script.TheConstants.{INPUT_MAX}
use Rattle.wt_tool.specs.Points.{Point, Ran, ends, stops, Calls, WithSession, ClosesBeside}
use Rattle.wt_tool.specs.Words.{after_scheme}
use Rattle.wt_tool.specs.Creates.{MakesTable}
use Rattle.wt_tool.specs.Writes.{demand_of}

-- the machine stays as it is, or a write or a sync failed and it goes down
abbrev pub MayGoDown : Machine → Machine → Type 0
MayGoDown m next = (next ≡ m) ⊎ ((f : Fault) × (next ≡ after m (GoDown f)))

-- A call of the disk failed as rows that were put went out of memory between two others: the run ends.
abbrev pub FailsOut : Point → Ran → Type 0
FailsOut p ran = (q : Point) × IsLater p.device q.device × Rose p.device.faults q.device.faults × MayGoDown p.machine q.machine × (ran ≡ stops DiskFault q)

-- one row, in a transaction
abbrev pub PutsRow : List ℕ → Demand → Row → (Point → Ran → Type 0) → Point → Ran → Type 0
PutsRow name demand row Goes p ran = Calls (Session 0) (Begin None) (λ begun. Calls (Session 0) (PutKey name row.0 row.1 demand) (λ put. Calls (Session 0) (Commit None None) Goes put) begun) p ran

-- Close, behind rows of which some went out of memory: the blocks of their leaves have places.
abbrev pub ClosesLoad : Point → Ran → Type 0
ClosesLoad p ran = (lives : List Lone) × ClosesBeside lives p ran

-- One transaction for each row, and then Close. The first refusal ends the run, which then has taken no checkpoint; so does want of memory for a row, and a failed call of the disk between two rows.
abbrev pub PutsRows : List ℕ → Demand → List Row → Point → Ran → Type 0
PutsRows name demand [] p ran = ClosesLoad p ran
PutsRows name demand (row ∷ rows) p ran =
    (ran ≡ stops NoMemory p)
    ⊎ (FailsOut p ran
    ⊎ PutsRow name demand row (λ done. PutsRows name demand rows done) p ran)

-- by a session of its own, which makes the table first
abbrev pub LoadsRows : List ℕ → Formats → Demand → List Row → Point → Ran → Type 0
LoadsRows name formats demand rows p ran = WithSession (MakesTable name formats (PutsRows name demand rows)) p ran

-- the name that the dump tells, or another one; which of them a table may have is judged as it is made
abbrev pub loaded_name : Option (List ℕ) → List ℕ → List ℕ
loaded_name None told = told
loaded_name (Some uri) told = after_scheme uri

-- A text is refused at its first wrong line, and nothing is made; or it is that of a dump, which is loaded.
abbrev pub LoadsText : (overwrite : Bool) → Option (List ℕ) → (ended : Bool) → List ℕ → Point → Ran → Type 0
LoadsText overwrite renamed ended text p ran =
    (ran ≡ stops NoMemory p)
    ⊎ (((number : ℕ) × IsRefusedAt ended text number × (ran ≡ stops (Refusal_Invalid (Text number)) p))
    ⊎ ((ended ≡ true) × ((dump : Dump) × IsDump dump (lines_in text) × LoadsRows (loaded_name renamed dump.name) dump.formats (demand_of overwrite) dump.rows p ran)))

-- the same run, with these bytes of the input read before its own
abbrev pub takes : List ℕ → Ran → Ran
takes bytes ran = record ran { input = bytes ++ ran.input }

-- the input was read to its end, or up to one byte more than the greatest length
abbrev pub IsWhole : (input_ended : Type 0) → (ended : Bool) → List ℕ → Type 0
IsWhole input_ended true text = input_ended × (length text ≤ INPUT_MAX)
IsWhole input_ended false text = length text ≡ INPUT_MAX + 1

-- before that nothing of it is refused or made
abbrev pub RunsLoad : (input_failed input_ended : Type 0) → (overwrite : Bool) → Option (List ℕ) → Point → Ran → Type 0
RunsLoad input_failed input_ended overwrite renamed p ran =
    (taken : List ℕ)
    × ((input_failed × (ran ≡ takes taken (ends InputFailed p)))
    ⊎ ((ran ≡ takes taken (stops NoMemory p))
    ⊎ ((ended : Bool) × IsWhole input_ended ended taken × ((rest : Ran) × (ran ≡ takes taken rest) × LoadsText overwrite renamed ended taken p rest))))
