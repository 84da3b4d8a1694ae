-- Which versions of a key are still needed: those that no newer one covers.
use Rattle.std.specs.Prelude.{ℕ, Bool, true, ◌&&◌, ◌==◌, nat_le, min, List, fold, Option, Some, None, if◌then◌else◌, option_and_then}
use Rattle.std.specs.List.{list_all, filter_map}
use Rattle.item.specs.declared.Change.{Change}
use Rattle.stamp.specs.declared.Name.{Name}
use Rattle.stamp.specs.declared.Version.{Version}
use Rattle.kv_model.specs.Holds.{Covered}
use Rattle.kv_model.specs.Ordered.{Older}
use Rattle.kv_model.specs.History.{released, committed, line}
use Rattle.kv_model.specs.Machine.{Machine, Transaction, of_some}

-- the read stamps of the transactions that have one
abbrev pub read_stamps : Machine → List ℕ
read_stamps m = filter_map (λ s. option_and_then (λ t. if t.read == 0 then None else Some t.read) s) m.sessions

-- the least of oldest, the read stamps and the oldest that the running checkpoint recorded; unset counts as 0
abbrev pub pin : Machine → ℕ
pin m = fold min (of_some m.oldest (λ c. min m.oldest c.oldest) m.checkpoint) (read_stamps m)

abbrev pub seen_by : Machine → Name → Option Transaction → Bool
seen_by m x None = true
seen_by m x (Some t) = released m.history t.start x

-- what is older than this version of its key is out of reach: each snapshot and the running checkpoint see it, at each stamp that may still be read
abbrev pub covers : Machine → Version Change → Bool
covers m v = nat_le v.window.durable (pin m)
    && (list_all (seen_by m v.window.name) m.sessions
    && of_some true (λ c. committed m.history c.prefix v.window.name) m.checkpoint)

-- a later version of the key's line covers it
abbrev pub IsDroppable : Machine → ℕ → List ℕ → Version Change → Type 0
IsDroppable m table key v = Covered Older (covers m) (line m.history table key) v
