-- What an opening keeps of the rows of a leaf.
use Rattle.std.specs.Prelude.{ℕ, Bool, ◌&&◌, ◌||◌, ◌==◌, nat_le, List, [], filter}
use Rattle.stamp.specs.declared.version.Window.{Window}
use Rattle.kv_model.specs.Content.{sees_name}
use Rattle.row_page.specs.Rows.{Row}
use Rattle.leaf_rows.specs.declared.marks.Marks.{Marks}

-- an opening keeps the version: the recorded snapshot sees its name, and it is durable at the recorded stable stamp
abbrev pub is_kept_window : Marks → Window → Bool
is_kept_window m w = sees_name m.run (record { min = m.min; max = m.max; ids = [] }) w.name && ((m.stable == 0) || nat_le w.durable m.stable)

abbrev pub is_kept_row : Marks → Row → Bool
is_kept_row m r = is_kept_window m r.1.window

abbrev pub kept_rows : Marks → List Row → List Row
kept_rows m rows = filter (is_kept_row m) rows

-- the same, where these ids had not ended when the checkpoint started
abbrev pub is_seen_window : Marks → List ℕ → Window → Bool
is_seen_window m ids w = sees_name m.run (record { min = m.min; max = m.max; ids = ids }) w.name && ((m.stable == 0) || nat_le w.durable m.stable)

abbrev pub is_seen_row : Marks → List ℕ → Row → Bool
is_seen_row m ids r = is_seen_window m ids r.1.window

abbrev pub seen_rows : Marks → List ℕ → List Row → List Row
seen_rows m ids rows = filter (is_seen_row m ids) rows
