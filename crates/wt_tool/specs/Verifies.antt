-- The run of `verify`: the whole device is read, and the table is there. No engine is made of it.
use Rattle.std.specs.Prelude.{◌≡◌, ◌⊎◌, ◌↔◌, ℕ, List, [], Option, Some, None}
use Rattle.failure.specs.Counts.{Rose}
use Rattle.wt_code.specs.declared.refusals.Refusal.{Refusal}
use Rattle.wt_code.specs.declared.refusals.Refusal.TheVariants.{NoTable, DiskFault, NoMemory}
use Rattle.kv_model.specs.Holds.{Member}
use Rattle.kv_model.specs.History.{Table, tables, named}
use Rattle.kv_model.specs.Machine.{Machine}
use Rattle.stored.specs.Records.{Record}
use Rattle.stored.specs.Stored.{tables_of}
use Rattle.engine_store.specs.Devices.{Device}
use Rattle.verify_dev.specs.declared.report.Report.{Report}
use Rattle.verify_dev.specs.Reports.{ReportsOr}
use Rattle.script_run.specs.declared.script.End.TheVariants.{Through}
use Rattle.wt_tool.specs.Points.{Point, Ran, ends, stops}
use Rattle.wt_tool.specs.Openings.{Named, Opens}

-- why a device that reads is refused: that it has a history, that no run may follow, or that few numbers are left for tables, is no reason
abbrev pub RefusesVerify : Point → Device → Refusal → Type 0
RefusesVerify p now r = ((r ≡ DiskFault) × Rose p.device.faults now.faults) ⊎ (r ≡ NoMemory)

-- The whole device was read: it has no checkpoint, or this record of one, and so many tables, leaves and versions.
pub record IsCounted (bytes : List ℕ) : Type 0 where
  pub kept : Option Record
  pub report : Report
  pub counts : ReportsOr bytes kept report

-- a table of this name is there, or the run tells that there is none
abbrev pub IsThere : List ℕ → Point → Ran → Type 0
IsThere name p ran =
    ((named name (tables p.machine.history) ≡ None) × (ran ≡ stops NoTable p))
    ⊎ ((t : Table) × (named name (tables p.machine.history) ≡ Some t) × (ran ≡ ends Through p))

-- the table is looked for, where the words name one
abbrev pub LooksFor : Option (List ℕ) → Point → Ran → Type 0
LooksFor None p ran = ran ≡ ends Through p
LooksFor (Some uri) p ran = Named uri IsThere p ran

-- The device is read, which changes nothing: it is refused, or all of it is there and the table is looked for.
abbrev pub RunsVerify : Option (List ℕ) → Point → Ran → Type 0
RunsVerify uri p ran =
    ((r : Refusal) × (q : Point) × Opens p q × RefusesVerify p q.device r × (ran ≡ stops r q))
    ⊎ ((q : Point) × Opens p q × IsCounted p.device.seen × LooksFor uri q ran)

-- ---- what the steps leave

-- the tables of a record, or none
abbrev pub tables_in : Option Record → List Table
tables_in None = []
tables_in (Some r) = tables_of r.tables

-- these are the machine's tables, in any order
abbrev pub AreTablesOf : Machine → List Table → Type 0
AreTablesOf m known = (t : Table) → Member t known ↔ Member t (tables m.history)
