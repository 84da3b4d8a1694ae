-- The body of a record in four parts: its marks, the snapshot, what leads to the history, the tables.
use Rattle.std.specs.Prelude.{ℕ, List, ◌++◌, length, Option, Some}
use Rattle.std.specs.Int.{w8, w32, w64}
use Rattle.le_codec.specs.Fields.{◌>>=◌, le, number_at}
use Rattle.le_codec.specs.Combine.{then_at, many_at, as_at}
use Rattle.device_layout.specs.declared.link.Link.{Link}
use Rattle.stored.specs.Links.{link_text}
use Rattle.stored.specs.Records.{TableRoot, Record, letter}
use Rattle.stored.specs.Reading.{link_at, snapshot_at, table_at}
use Rattle.checkpoint_record.specs.declared.reading.Marks.{Marks}
use Rattle.checkpoint_record.specs.declared.reading.History.{History}
use Rattle.checkpoint_record.specs.declared.reading.LentTable.{LentTable}

abbrev pub MarksParts : Type 0
MarksParts = ℕ × (ℕ × (ℕ × ℕ))

abbrev pub marks_of : MarksParts → Marks
marks_of p = record { sequence = p.0; run = p.1.0; oldest = p.1.1.0; stable = p.1.1.1 }

unfoldable pub marks_at : List ℕ → Option (Marks × List ℕ)
marks_at = as_at marks_of (then_at (number_at w64) (λ sequence. then_at (number_at w64) (λ run. then_at (number_at w64) (λ oldest. number_at w64))))

abbrev pub HistoryParts : Type 0
HistoryParts = ℕ × (ℕ × Link)

abbrev pub history_of : HistoryParts → History
history_of p = record { next_table = p.0; level = p.1.0; link = p.1.1 }

unfoldable pub history_at : List ℕ → Option (History × List ℕ)
history_at = as_at history_of (then_at (number_at w32) (λ next. then_at (number_at w8) (λ level. link_at)))

-- the body of a record with so many tables
abbrev pub body_at : ℕ → List ℕ → Option (Record × List ℕ)
body_at count bytes = do
  marks ← marks_at bytes
  snapshot ← snapshot_at marks.1
  history ← history_at snapshot.1
  tables ← many_at table_at count history.1
  Some (
    record {
      sequence = marks.0.sequence;
      run = marks.0.run;
      oldest = marks.0.oldest;
      stable = marks.0.stable;
      snapshot = snapshot.0;
      next_table = history.0.next_table;
      history = record { level = history.0.level; link = history.0.link };
      tables = tables.0;
    },
    tables.1,
  )

-- a table whose name is lent
abbrev pub table_seen : LentTable → TableRoot
table_seen t = record { table = record { number = t.number; name = t.name.now; formats = t.formats }; root = record { level = t.level; link = t.link } }

-- ---- the spelling

abbrev pub marks_text : Record → List ℕ
marks_text r = le w64 r.sequence ++ le w64 r.run ++ le w64 r.oldest ++ le w64 r.stable

abbrev pub history_text : Record → List ℕ
history_text r = le w32 r.next_table ++ le w8 r.history.level ++ link_text r.history.link

-- what stands before the link of a table
abbrev pub numbers_text : TableRoot → List ℕ
numbers_text t = le w32 t.table.number ++ le w8 (letter t.table.formats.key) ++ le w8 (letter t.table.formats.value) ++ le w8 t.root.level ++ le w8 (length t.table.name)
