-- Reading the entries of an inner page of the history from left to right.
use Rattle.std.specs.Prelude.{ℕ, Bool, ◌&&◌, nat_le, List, ◌++◌, length, Option, Some, None, if◌then◌else◌}
use Rattle.std.specs.Int.{w16, w32, w64}
use Rattle.le_codec.specs.Fields.{le}
use Rattle.le_codec.specs.Combine.{try_at, chain_at}
use Rattle.row_page.specs.Rows.{key_most}
use Rattle.stored.specs.HistoryTree.{Mark, comes_behind, HistoryEntry}
use Rattle.stored.specs.Reading.{history_entry_at}
use Rattle.inner_page.specs.Marks.{mark_seen, name_fits}
use Rattle.inner_page.specs.declared.history_reading.LentEntry.{LentEntry}

-- an entry whose key is lent
abbrev pub history_entry_seen : LentEntry → HistoryEntry
history_entry_seen e = record { least = mark_seen e.least; link = e.link }

-- its key is not too long, and a version may bear its name
abbrev pub mark_fits : Mark → Bool
mark_fits m = nat_le (length m.key) key_most && name_fits m.name

-- its record fits, and comes behind the one before
abbrev pub history_entry_fits : Option Mark → HistoryEntry → Bool
history_entry_fits before e = mark_fits e.least && comes_behind before e.least

abbrev pub history_entry_behind : Option Mark → HistoryEntry → Option HistoryEntry
history_entry_behind before e = if history_entry_fits before e then Some e else None

unfoldable pub history_entry_behind_at : Option Mark → List ℕ → Option (HistoryEntry × List ℕ)
history_entry_behind_at before = try_at (history_entry_behind before) history_entry_at

abbrev pub mark_in : HistoryEntry → Option Mark
mark_in e = Some e.least

-- so many entries, behind one before
abbrev pub history_entries_at : ℕ → Option Mark → List ℕ → Option (List HistoryEntry × List ℕ)
history_entries_at count before bytes = chain_at history_entry_behind_at mark_in count before bytes

-- what stands before the link of an entry
abbrev pub mark_numbers_text : Mark → List ℕ
mark_numbers_text m = le w32 m.table ++ le w16 (length m.key) ++ le w64 m.commit ++ le w64 m.name.run ++ le w64 m.name.id
