-- What is true of lines of versions.
use Rattle.std.specs.Prelude.{ℕ, List}
use Rattle.kv_model.specs.Holds.{Descends}
use Rattle.kv_model.specs.Ordered.{IsOrderly, Older}
use Rattle.kv_model.specs.History.{Entry, line}

-- a line is sorted by name, newest first
abbrev pub LinesDescend : Type 0
LinesDescend = (history : List Entry) → IsOrderly history → (table : ℕ) (key : List ℕ) → Descends Older (line history table key)
