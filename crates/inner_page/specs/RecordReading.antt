-- Reading the records of a leaf of the history from left to right.
use Rattle.std.specs.Prelude.{ℕ, List, Option, Some, None, if◌then◌else◌}
use Rattle.le_codec.specs.Combine.{try_at, chain_at}
use Rattle.row_page.specs.Views.{row_seen}
use Rattle.stored.specs.HistoryTree.{Mark, mark_of, comes_behind, HistoryRecord}
use Rattle.stored.specs.Reading.{placed_at}
use Rattle.inner_page.specs.declared.record_reading.LentRecord.{LentRecord}

-- a record whose key and value are lent
abbrev pub record_seen : LentRecord → HistoryRecord
record_seen r = record { table = r.table; key = (row_seen r.cell).0; version = (row_seen r.cell).1 }

abbrev pub record_behind : Option Mark → HistoryRecord → Option HistoryRecord
record_behind before r = if comes_behind before (mark_of r) then Some r else None

unfoldable pub record_behind_at : Option Mark → List ℕ → Option (HistoryRecord × List ℕ)
record_behind_at before = try_at (record_behind before) placed_at

abbrev pub mark_in : HistoryRecord → Option Mark
mark_in r = Some (mark_of r)

-- so many records, behind one before
abbrev pub records_at : ℕ → Option Mark → List ℕ → Option (List HistoryRecord × List ℕ)
records_at count before bytes = chain_at record_behind_at mark_in count before bytes
