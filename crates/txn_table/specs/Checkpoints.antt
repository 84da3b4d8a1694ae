-- What the snapshot of a checkpoint sees.
use Rattle.std.specs.Prelude.{◌≡◌, ℕ, true, List, length, Some}
use Rattle.item.specs.declared.Change.{Change}
use Rattle.stamp.specs.declared.Name.{Name}
use Rattle.stamp.specs.declared.Version.{Version}
use Rattle.kv_model.specs.Holds.{Member}
use Rattle.kv_model.specs.History.{line, committed}
use Rattle.kv_model.specs.Captures.{is_in}
use Rattle.kv_model.specs.Machine.{Machine, Checkpoint, CheckpointStart, after}
use Rattle.kv_model.specs.Allowed.{Allowed}
use Rattle.kv_model.specs.Valid.{Valid}
use Rattle.snapshot.specs.Sight.{Sight, is_seen, sight_at}
use Rattle.snapshot.specs.Matters.{IsUnended, SeesCommitted, SeesNoneLiving}
use Rattle.txn_table.specs.Tabled.{Table, unended}
use Rattle.txn_table.specs.Stands.{TableStands}

pub record CheckpointSees (m : Machine) (c : Checkpoint) (s : Sight) : Type 0 where
  -- it sees what is committed in the checkpoint's entries
  pub sees : SeesCommitted m c.prefix s
  -- of the versions that stand, those that the checkpoint captures
  pub versions : (table : ℕ) (key : List ℕ) (v : Version Change) → Member v (line m.history table key) → is_seen s v.window.name ≡ is_in m.history c.prefix v

-- the snapshot that a table takes for a checkpoint, at its start
abbrev pub CheckpointsSee : Type 0
CheckpointsSee = (t : Table) (m : Machine) (c : Checkpoint) → Valid m → TableStands t m → Allowed m CheckpointStart → (after m CheckpointStart).checkpoint ≡ Some c
    → CheckpointSees (after m CheckpointStart) c (sight_at t.run t.next (unended t))

pub record EndedIsSeen (m : Machine) (s : Sight) : Type 0 where
  -- nothing of a transaction that has not ended is seen, of a prepared or a resolving one neither; so it stays (`living_stay_unseen` of `snapshot`)
  pub living : SeesNoneLiving m s
  -- all else that was committed is
  pub ended : (x : Name) → committed m.history (length m.history) x ≡ true → (x.run ≡ m.run → IsUnended m x.id → ⊥) → is_seen s x ≡ true

-- the same snapshot, taken at any moment
abbrev pub EndedAreSeen : Type 0
EndedAreSeen = (t : Table) (m : Machine) → Valid m → TableStands t m → EndedIsSeen m (sight_at t.run t.next (unended t))
