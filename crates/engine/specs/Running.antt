-- A checkpoint that runs, as the layer above keeps it.
use Rattle.std.specs.Prelude.{◌≡◌, ℕ, Option, None, Some, length, option_map}
use Rattle.kv_model.specs.History.{first, tables}
use Rattle.kv_model.specs.Machine.{Checkpoint, Machine}
use Rattle.kv_model.specs.Reconciling.{PrefixHasEnded}
use Rattle.snapshot.specs.Matters.{SeesCommitted}
use Rattle.snapshot.specs.Sight.{Sight}
use Rattle.engine.specs.declared.running_checkpoint.RunningCheckpoint.{RunningCheckpoint}

-- it is this checkpoint: it sees what that captures, all of which had ended as it started, and has its stamps and the number of its tables
pub record IsRunning (m : Machine) (c : Checkpoint) (r : RunningCheckpoint) : Type 0 where
  pub sees : SeesCommitted m c.prefix r.snapshot.sight
  pub oldest : r.oldest ≡ c.oldest
  pub ended : PrefixHasEnded m c
  pub stable : r.stable ≡ c.stable
  pub tables : r.tables ≡ length (tables (first c.prefix m.history))

-- the machine runs none, or this one
abbrev pub RunsAs : Machine → Option RunningCheckpoint → Type 0
RunsAs m None = m.checkpoint ≡ None
RunsAs m (Some r) = (c : Checkpoint) × (m.checkpoint ≡ Some c) × IsRunning m c r

-- the oldest stamp that it recorded
abbrev pub recorded : Option RunningCheckpoint → Option ℕ
recorded r = option_map (λ (x : RunningCheckpoint). x.oldest) r

-- what it sees
abbrev pub sight_of_running : Option RunningCheckpoint → Option Sight
sight_of_running r = option_map (λ (x : RunningCheckpoint). x.snapshot.sight) r
