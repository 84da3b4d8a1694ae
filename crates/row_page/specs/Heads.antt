-- A cell in two steps: the head, which has its numbers, and then its key and value.
use Rattle.std.specs.Prelude.{ℕ, ◌+◌, Bool, ◌&&◌, nat_le, List, [], length, take, drop, max, Option, Some, None, if◌then◌else◌}
use Rattle.std.specs.Int.{w8, w16, w32, w64, from_le_bytes}
use Rattle.stamp.specs.declared.version.Window.{Window}
use Rattle.le_codec.specs.Fields.{◌>>=◌, slice_at}
use Rattle.row_page.specs.declared.head.Head.{Head}
use Rattle.row_page.specs.declared.greatest.Greatest.{Greatest}
use Rattle.row_page.specs.Rows.{Row, Raw, key_most}
use Rattle.row_page.specs.Reading.{window_fits, row_under}
use Rattle.stamp.specs.Order.{later}

-- the numbers at the front
abbrev pub head_of : List ℕ → Head
head_of bytes = record {
  key_len = from_le_bytes w16 (take 2 bytes);
  code = from_le_bytes w8 (take 1 (drop 2 bytes));
  value_len = from_le_bytes w32 (take 4 (drop 3 bytes));
  window = record {
    name = record { run = from_le_bytes w64 (take 8 (drop 7 bytes)); id = from_le_bytes w64 (take 8 (drop 15 bytes)) };
    commit = from_le_bytes w64 (take 8 (drop 23 bytes));
    durable = from_le_bytes w64 (take 8 (drop 31 bytes));
  };
}

-- a head whose window fits
abbrev pub head_at : List ℕ → Option (Head × List ℕ)
head_at bytes = do
  s ← slice_at 39 bytes
  if window_fits (head_of bytes).window then Some (head_of bytes, s.1) else None

-- what stands in the cell with this head, key and value
abbrev pub raw_headed : Head → List ℕ → List ℕ → Raw
raw_headed h key value = record { key = key; code = h.code; window = h.window; value = value }

-- what stands in the cell whose key and value are this text
abbrev pub raw_with : Head → List ℕ → Raw
raw_with h text = raw_headed h (take h.key_len text) (drop h.key_len text)

-- its key and its value are not too long, and its window fits
abbrev pub raw_fits : Raw → Bool
raw_fits x = nat_le (length x.key) key_most && nat_le (length x.value) 16384 && window_fits x.window

-- the row whose key and value are at the front
abbrev pub behind_at : Head → List ℕ → Option (Row × List ℕ)
behind_at h bytes = do
  t ← slice_at (h.key_len + h.value_len) bytes
  row ← row_under [] key_most (raw_with h t.0)
  Some (row, t.1)

-- the greatest, with one window more
abbrev pub greatest_with : Greatest → Window → Greatest
greatest_with g w = record { name = later g.name w.name; durable = max g.durable w.durable }
