-- The run of `create`: Create, and then Close.
use Rattle.std.specs.Prelude.{ℕ, List, Option}
use Rattle.item.specs.declared.formats.Formats.{Formats}
use Rattle.kv_model.specs.Calls.{System, Create}
use Rattle.wt_tool.specs.Points.{Point, Ran, Calls, Closes}
use Rattle.wt_tool.specs.Openings.{Named, Configured}

abbrev pub MakesTable : List ℕ → Formats → (Point → Ran → Type 0) → Point → Ran → Type 0
MakesTable name formats Goes p ran = Calls (System 0) (Create name formats) Goes p ran

abbrev pub RunsCreate : Option (List ℕ) → List ℕ → Point → Ran → Type 0
RunsCreate config uri p ran = Named uri (λ name. Configured config (λ formats. MakesTable name formats Closes)) p ran
