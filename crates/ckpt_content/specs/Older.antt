-- What a checkpoint keeps of the older versions of keys.
use Rattle.std.specs.Prelude.{ℕ, List, length}
use Rattle.item.specs.declared.Change.{Change}
use Rattle.stamp.specs.declared.Version.{Version}
use Rattle.kv_model.specs.AgreementLaws.{head_of}
use Rattle.kv_model.specs.Captures.{CapturedIn}
use Rattle.kv_model.specs.History.{Table, line, tables}
use Rattle.kv_model.specs.Holds.{Member}
use Rattle.kv_model.specs.Machine.{Checkpoint, Machine}
use Rattle.kv_model.specs.StoreLaws.{Held}

-- the checkpoint that starts now
abbrev pub checkpoint_now : Machine → Checkpoint
checkpoint_now m = record { prefix = length m.history; oldest = m.oldest; stable = m.stable }

-- Of each key of each table these versions, with the newest one, are all that a read can want from the recorded oldest stamp on; each of them stands.
abbrev pub HaveOlder : Machine → (ℕ → List ℕ → List (Version Change)) → Type 0
HaveOlder m versions = (t : Table) → Member t (tables m.history) → (key : List ℕ) → CapturedIn m (checkpoint_now m) t.number key (head_of (line m.history t.number key)) (Held (versions t.number key))
