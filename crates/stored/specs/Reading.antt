-- Reading the fields of inner pages and of the record from left to right: what a text spells, before the rules.
use Rattle.std.specs.Prelude.{ℕ, ◌==◌, List, [], Option, Some, None, if◌then◌else◌}
use Rattle.std.specs.Int.{w8, w16, w32, w64}
use Rattle.item.specs.declared.formats.Format.{Format}
use Rattle.item.specs.declared.formats.Format.TheVariants.{S, U}
use Rattle.le_codec.specs.Fields.{number_at, slice_at}
use Rattle.le_codec.specs.Combine.{then_at, many_at, as_at, try_at}
use Rattle.kv_model.specs.Content.{Snapshot}
use Rattle.row_page.specs.Rows.{Row, key_most}
use Rattle.row_page.specs.Reading.{cell_at}
use Rattle.device_layout.specs.declared.link.Link.{Link}
use Rattle.stored.specs.TableTree.{Entry}
use Rattle.stored.specs.HistoryTree.{HistoryEntry, HistoryRecord}
use Rattle.stored.specs.Records.{TableRoot, Record}

-- ---- a link

abbrev pub LinkParts : Type 0
LinkParts = ℕ × (ℕ × (ℕ × (ℕ × (ℕ × ℕ))))

abbrev pub link_of : LinkParts → Link
link_of p = record { addr = record { offset = p.0; size = p.1.0; sum = p.1.1.0 }; greatest = record { run = p.1.1.1.0; id = p.1.1.1.1.0 }; durable = p.1.1.1.1.1 }

unfoldable pub link_at : List ℕ → Option (Link × List ℕ)
link_at = as_at link_of (then_at (number_at w64) (λ offset. then_at (number_at w32) (λ size. then_at (number_at w32) (λ sum. then_at (number_at w64) (λ run. then_at (number_at w64) (λ id. number_at w64))))))

-- ---- an entry of a table's inner page

abbrev pub EntryParts : Type 0
EntryParts = ℕ × (Link × List ℕ)

abbrev pub entry_of : EntryParts → Entry
entry_of p = record { key = p.1.1; link = p.1.0 }

unfoldable pub entry_at : List ℕ → Option (Entry × List ℕ)
entry_at = as_at entry_of (then_at (number_at w16) (λ len. then_at link_at (λ link. slice_at len)))

-- ---- an entry of a history's inner page

abbrev pub HistoryEntryParts : Type 0
HistoryEntryParts = ℕ × (ℕ × (ℕ × (ℕ × (ℕ × (Link × List ℕ)))))

abbrev pub history_entry_of : HistoryEntryParts → HistoryEntry
history_entry_of p = record { least = record { table = p.0; key = p.1.1.1.1.1.1; commit = p.1.1.0; name = record { run = p.1.1.1.0; id = p.1.1.1.1.0 } }; link = p.1.1.1.1.1.0 }

unfoldable pub history_entry_at : List ℕ → Option (HistoryEntry × List ℕ)
history_entry_at = as_at history_entry_of (then_at (number_at w32) (λ table. then_at (number_at w16) (λ len. then_at (number_at w64) (λ commit. then_at (number_at w64) (λ run. then_at (number_at w64) (λ id. then_at link_at (λ link. slice_at len)))))))

-- ---- a record of the history

abbrev pub PlacedParts : Type 0
PlacedParts = ℕ × Row

abbrev pub placed_of : PlacedParts → HistoryRecord
placed_of p = record { table = p.0; key = p.1.0; version = p.1.1 }

unfoldable pub placed_at : List ℕ → Option (HistoryRecord × List ℕ)
placed_at = as_at placed_of (then_at (number_at w32) (λ table. cell_at [] key_most))

-- ---- the record of a checkpoint

-- the format of a letter
abbrev pub format_of : ℕ → Option Format
format_of n = if n == 83 then Some S else if n == 117 then Some U else None

unfoldable pub format_at : List ℕ → Option (Format × List ℕ)
format_at = try_at format_of (number_at w8)

abbrev pub TableParts : Type 0
TableParts = ℕ × (Format × (Format × (ℕ × (ℕ × (Link × List ℕ)))))

abbrev pub table_of : TableParts → TableRoot
table_of p = record { table = record { number = p.0; name = p.1.1.1.1.1.1; formats = record { key = p.1.0; value = p.1.1.0 } }; root = record { level = p.1.1.1.0; link = p.1.1.1.1.1.0 } }

unfoldable pub table_at : List ℕ → Option (TableRoot × List ℕ)
table_at = as_at table_of (then_at (number_at w32) (λ number. then_at format_at (λ key. then_at format_at (λ value. then_at (number_at w8) (λ level. then_at (number_at w8) (λ len. then_at link_at (λ link. slice_at len)))))))

abbrev pub SnapshotParts : Type 0
SnapshotParts = ℕ × (ℕ × (ℕ × List ℕ))

abbrev pub snapshot_of : SnapshotParts → Snapshot
snapshot_of p = record { min = p.0; max = p.1.0; ids = p.1.1.1 }

unfoldable pub snapshot_at : List ℕ → Option (Snapshot × List ℕ)
snapshot_at = as_at snapshot_of (then_at (number_at w64) (λ min. then_at (number_at w64) (λ max. then_at (number_at w16) (λ count. many_at (number_at w64) count))))

abbrev pub RecordParts : Type 0
RecordParts = ℕ × (ℕ × (ℕ × (ℕ × (Snapshot × (ℕ × (ℕ × (Link × List TableRoot)))))))

abbrev pub record_of : RecordParts → Record
record_of p = record { sequence = p.0; run = p.1.0; oldest = p.1.1.0; stable = p.1.1.1.0; snapshot = p.1.1.1.1.0; next_table = p.1.1.1.1.1.0; history = record { level = p.1.1.1.1.1.1.0; link = p.1.1.1.1.1.1.1.0 }; tables = p.1.1.1.1.1.1.1.1 }

-- the body of a record with so many tables
unfoldable pub record_at : ℕ → List ℕ → Option (Record × List ℕ)
record_at count = as_at record_of (then_at (number_at w64) (λ sequence. then_at (number_at w64) (λ run. then_at (number_at w64) (λ oldest. then_at (number_at w64) (λ stable. then_at snapshot_at (λ snapshot. then_at (number_at w32) (λ next. then_at (number_at w8) (λ level. then_at link_at (λ link. many_at table_at count)))))))))
