-- The run of `dump`: the text of a table's rows is printed.
use Rattle.std.specs.Prelude.{◌≡◌, ◌⊎◌, ◌↔◌, ◌++◌, ℕ, Bool, true, false, List, [], ◌∷◌, length, Some, None}
use Rattle.failure.specs.Counts.{Rose}
use Rattle.wt_code.specs.declared.refusals.Refusal.TheVariants.{NoMemory, DiskFault, NoTable}
use Rattle.kv_model.specs.Holds.{Member}
use Rattle.kv_model.specs.History.{Table, tables, named, value}
use Rattle.kv_model.specs.Machine.{Machine}
use Rattle.kv_model.specs.Rows.{Way, Up, Down, comes_after}
use Rattle.dump_text.specs.declared.form.Form.{Form}
use Rattle.dump_text.specs.declared.form.Form.TheVariants.{Print, Hex}
use Rattle.dump_text.specs.Grammar.{Row}
use Rattle.dump_text.specs.Written.{dump_lines, text_of}
use Rattle.engine_store.specs.Devices.{IsLater, KeepsCheckpoint}
use Rattle.script_run.specs.declared.script.End.TheVariants.{Through, OutputFailed}
use Rattle.wt_tool.specs.Points.{Point, Ran, ends, stops, prints}
use Rattle.wt_tool.specs.Openings.{Named}

-- how items are written
abbrev pub form_of : (hex : Bool) → Form
form_of false = Print
form_of true = Hex

-- from the least key upwards, or from the greatest one downwards
abbrev pub way_of : (reverse : Bool) → Way
way_of false = Up
way_of true = Down

-- each key comes before those behind it, on this way
abbrev pub InOrder : Way → List Row → Type 0
InOrder way [] = Unit {0}
InOrder way (row ∷ rows) = ((later : Row) → Member later rows → comes_after way row.0 later.0 ≡ true) × InOrder way rows

-- the rows of a table: each key that is not absent with its value, in order
pub record AreRows (way : Way) (m : Machine) (t : Table) (rows : List Row) : Type 0 where
  pub all : (key v : List ℕ) → Member (key, v) rows ↔ (value m.history (length m.history) 0 t.number key ≡ Some v)
  pub in_order : InOrder way rows

-- The text is printed. Want of memory, a fault of the disk or a write of the output that fails ends the run, with a front of it printed. The machine is the one that it was, and no checkpoint is taken.
abbrev pub PrintsWhole : (output_failed : Type 0) → List ℕ → Point → Ran → Type 0
PrintsWhole output_failed text p ran =
    (q : Point) × IsLater p.device q.device × KeepsCheckpoint p.device q.device × (q.machine ≡ p.machine)
    × ((ran ≡ prints text (ends Through q))
    ⊎ (((ran ≡ prints text (ends OutputFailed q)) × output_failed)
    ⊎ ((front rest : List ℕ) × (text ≡ front ++ rest)
    × ((ran ≡ prints front (stops NoMemory q)) ⊎ ((ran ≡ prints front (stops DiskFault q)) × Rose p.device.faults q.device.faults)))))

-- of the table of this name, where there is one
abbrev pub DumpsTable : (output_failed : Type 0) → Form → Way → List ℕ → Point → Ran → Type 0
DumpsTable output_failed form way name p ran =
    ((named name (tables p.machine.history) ≡ None) × (ran ≡ stops NoTable p))
    ⊎ ((t : Table) × (rows : List Row) × (named name (tables p.machine.history) ≡ Some t) × AreRows way p.machine t rows
    × PrintsWhole output_failed (text_of (dump_lines form name t.formats rows)) p ran)

abbrev pub RunsDump : (output_failed : Type 0) → (hex reverse : Bool) → List ℕ → Point → Ran → Type 0
RunsDump output_failed hex reverse uri p ran = Named uri (DumpsTable output_failed (form_of hex) (way_of reverse)) p ran
