-- What the plain data stand for.
use Rattle.std.specs.Prelude.{ℕ, Bool, true, not, ◌&&◌, List, [], map, filter, find, Option, Some, None, option_map, min, if◌then◌else◌}
use Rattle.item.specs.declared.Change.{Change}
use Rattle.stamp.specs.declared.Name.{Name}
use Rattle.stamp.specs.declared.Version.{Version}
use Rattle.kv_model.specs.History.{Table, Write, Placed, Entry, Create, Commit, Prepare, Resolve, Undo, Rts, version_of, placed_of, standing, is_by, line, released, reads_at, writes_at}
use Rattle.kv_plain.specs.declared.history.Table.{Table as PlainTable}
use Rattle.kv_plain.specs.declared.history.Write.{Write as PlainWrite}
use Rattle.kv_plain.specs.declared.history.Entry.{Entry as PlainEntry}
use Rattle.kv_plain.specs.declared.history.Entry.TheVariants as plain
use Rattle.kv_plain.specs.declared.history.Placed.{Placed as PlainPlaced}
use Rattle.kv_plain.specs.declared.history.Found.{Found}

abbrev pub table_in : PlainTable → Table
table_in t = record { number = t.number; name = t.name; formats = t.formats }

abbrev pub write_in : PlainWrite → Write
write_in w = record { table = w.table; key = w.key; change = w.change; commit = w.commit; durable = w.durable }

abbrev pub entry_in : PlainEntry → Entry
entry_in (plain.Create t) = Create (table_in t)
entry_in (plain.Commit name writes) = Commit name (map write_in writes.items)
entry_in (plain.Prepare name stamp) = Prepare name stamp
entry_in (plain.Resolve name writes) = Resolve name (map write_in writes.items)
entry_in (plain.Undo name) = Undo name
entry_in (plain.Rts stable) = Rts stable

-- newest first, as the definitions
abbrev pub history_in : List PlainEntry → List Entry
history_in entries = map entry_in entries

abbrev pub version_in : Found → Version Change
version_in f = version_of f.name (write_in f.write.now)

-- durable at the bound, which the later rollbacks to stable left
abbrev pub is_within : Option ℕ → Version Change → Bool
is_within None v = true
is_within (Some stamp) v = is_by stamp v

-- the lower of two bounds
abbrev pub lower : Option ℕ → ℕ → ℕ
lower None stamp = stamp
lower (Some bound) stamp = min bound stamp

-- by whoever sees the first n entries; by all where there is no n
abbrev pub is_seen : List Entry → Option ℕ → Name → Bool
is_seen all None name = true
is_seen all (Some n) name = released all n name

-- the name is seen, later rollbacks to stable left the version, and the read stamp admits it
abbrev pub passes : List Entry → Option ℕ → ℕ → Option ℕ → Version Change → Bool
passes all n read bound v = is_seen all n v.window.name && (is_within bound v && reads_at read v.window.commit)

-- the newest version of a key in these entries that passes
abbrev pub newest_in : List Entry → List Entry → Option ℕ → ℕ → ℕ → List ℕ → Option ℕ → Option (Version Change)
newest_in all history n read table key bound = find (passes all n read bound) (line history table key)

-- the same among the writes of one transaction that is seen
abbrev pub write_passes : Name → ℕ → ℕ → List ℕ → Option ℕ → Write → Bool
write_passes name read table key bound w = writes_at table key w && (is_within bound (version_of name w) && reads_at read w.commit)

abbrev pub newest_write : Name → List Write → ℕ → ℕ → List ℕ → Option ℕ → Option (Version Change)
newest_write name writes read table key bound = option_map (version_of name) (find (write_passes name read table key bound) writes)

-- the newest one in one entry
abbrev pub newest_of : List Entry → Entry → Option ℕ → ℕ → ℕ → List ℕ → Option ℕ → Option (Version Change)
newest_of all (Commit name writes) n read table key bound = if is_seen all n name then newest_write name writes read table key bound else None
newest_of all (Resolve name writes) n read table key bound = if is_seen all n name then newest_write name writes read table key bound else None
newest_of all _ n read table key bound = None

-- the bound for older entries
abbrev pub bound_under : Entry → Option ℕ → Option ℕ
bound_under (Rts stable) bound = Some (lower bound stable)
bound_under _ bound = bound

abbrev pub placed_in : PlainPlaced → Placed
placed_in p = record { table = p.table; key = p.key; version = p.version }

-- those that are durable at the bound
abbrev pub within : Option ℕ → List Placed → List Placed
within bound placed = filter (λ p. is_within bound p.version) placed

-- the versions that stand and are durable at the bound
abbrev pub standing_by : List Entry → Option ℕ → List Placed
standing_by history bound = within bound (standing history)

-- those of one entry
abbrev pub standing_of : Entry → Option ℕ → List Placed
standing_of (Commit name writes) bound = within bound (map (placed_of name) writes)
standing_of (Resolve name writes) bound = within bound (map (placed_of name) writes)
standing_of _ bound = []

-- the writes of other keys
abbrev pub writes_beside : ℕ → List ℕ → List Write → List Write
writes_beside table key writes = filter (λ o. not (writes_at table key o)) writes
