-- Reading the entries of a table's inner page from left to right.
use Rattle.std.specs.Prelude.{ℕ, Bool, ◌&&◌, nat_le, List, length, Option, Some, None, if◌then◌else◌}
use Rattle.le_codec.specs.Combine.{try_at, chain_at}
use Rattle.row_page.specs.Rows.{key_most, comes_after}
use Rattle.stored.specs.TableTree.{Entry}
use Rattle.stored.specs.Reading.{entry_at}
use Rattle.inner_page.specs.declared.table_reading.LentEntry.{LentEntry}

-- an entry whose key is lent
abbrev pub entry_seen : LentEntry → Entry
entry_seen e = record { key = e.key.now; link = e.link }

-- its key is not too long, and comes after the one before
abbrev pub entry_fits : Option (List ℕ) → Entry → Bool
entry_fits before e = nat_le (length e.key) key_most && comes_after before e.key

abbrev pub entry_behind : Option (List ℕ) → Entry → Option Entry
entry_behind before e = if entry_fits before e then Some e else None

unfoldable pub entry_behind_at : Option (List ℕ) → List ℕ → Option (Entry × List ℕ)
entry_behind_at before = try_at (entry_behind before) entry_at

abbrev pub key_in : Entry → Option (List ℕ)
key_in e = Some e.key

-- so many entries, behind one before
abbrev pub entries_at : ℕ → Option (List ℕ) → List ℕ → Option (List Entry × List ℕ)
entries_at count before bytes = chain_at entry_behind_at key_in count before bytes
