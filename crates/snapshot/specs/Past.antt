-- Names below a floor, and what is past: no look-up can want what is older.
use Rattle.std.specs.Prelude.{◌≡◌, ◌≤◌, ℕ, Bool, true, false, List}
use Rattle.item.specs.declared.Change.{Change}
use Rattle.stamp.specs.declared.Name.{Name}
use Rattle.stamp.specs.declared.Version.{Version}
use Rattle.stamp.specs.Order.{is_before}
use Rattle.kv_model.specs.Holds.{Member}
use Rattle.kv_model.specs.History.{line}
use Rattle.kv_model.specs.Machine.{Machine}
use Rattle.kv_model.specs.Droppable.{covers}
use Rattle.snapshot.specs.Matters.{IsLive}

-- before the floor
abbrev pub is_below : Name → Name → Bool
is_below x floor = is_before x floor

-- what is durable at the pin and below the floor is past: it covers, and no transaction that has not ended is below the floor, nor one that comes
pub record IsPast (m : Machine) (table : ℕ) (key : List ℕ) (pin : ℕ) (floor : Name) : Type 0 where
  pub cover : (v : Version Change) → Member v (line m.history table key) → v.window.durable ≤ pin → is_below v.window.name floor ≡ true → covers m v ≡ true
  pub living : (x : Name) → IsLive m x → is_below x floor ≡ false
  pub coming : (floor.run ≡ m.run) × (floor.id ≤ m.next)
