-- As what a device opens that has a checkpoint of a machine, which records serve as its history, and what an opening makes of a key.
use Rattle.std.specs.Prelude.{◌≡◌, ℕ, true, List, [], Option, Some}
use Rattle.kv_model.specs.AgreementLaws.{head_of}
use Rattle.kv_model.specs.Captures.{CapturedIn, UpTo, is_in}
use Rattle.kv_model.specs.Content.{Content, OpensAs, IsLayered, base, start}
use Rattle.kv_model.specs.Holds.{Member}
use Rattle.kv_model.specs.History.{Table, has_table, line, tables}
use Rattle.kv_model.specs.Machine.{Machine, Checkpoint, CheckpointStart, CheckpointFinish, after, finished}
use Rattle.kv_model.specs.Marks.{recorded_mark}
use Rattle.kv_model.specs.OpeningLaws.{cell_of}
use Rattle.kv_model.specs.Ordered.{Older}
use Rattle.kv_model.specs.Pending.{KeyStands}
use Rattle.kv_model.specs.Regular.{IsRegular}
use Rattle.kv_model.specs.StoreLaws.{Held}
use Rattle.kv_model.specs.Valid.{Valid}
use Rattle.item.specs.declared.Change.{Change}
use Rattle.stamp.specs.declared.Version.{Version}
use Rattle.reconcile.specs.CutLaws.{NewestSuffices}
use Rattle.stored.specs.HistoryTree.{HistoryRecord}
use Rattle.stored.specs.Stored.{Stored, IsOn, content_of}
use Rattle.hist_store.specs.declared.key_history.KeyHistory.{KeyHistory}
use Rattle.hist_store.specs.Versions.{versions_of}
use Rattle.hist_pages.specs.Records.{AreRecordsOf}
use Rattle.ckpt_content.specs.Checkpoints.{IsCheckpointOf, IsHistoryOf}
use Rattle.ckpt_content.specs.Finished.{IsFinishOf}
use Rattle.ckpt_content.specs.Older.{HaveOlder}
use Rattle.ckpt_content.specs.Opened.{AreBelow, AreKeptRecords, IsLineOf, with_cell}

-- the machine with a checkpoint taken, with nothing in between
abbrev pub checkpointed : Machine → Machine
checkpointed m = after (after m CheckpointStart) CheckpointFinish

-- It opens as the checkpoint that the machine takes.
abbrev pub CheckpointsOpen : Type 0
CheckpointsOpen = (m : Machine) (number : ℕ) (s : Stored) → Valid m → IsRegular (content_of s) → IsCheckpointOf m number s
    → OpensAs (content_of s) (checkpointed m).completed

-- so does what a device has, which is regular
abbrev pub ReadCheckpointsOpen : Type 0
ReadCheckpointsOpen = (bytes : List ℕ) (m : Machine) (number : ℕ) (s : Stored) → Valid m → IsOn bytes s → IsCheckpointOf m number s
    → OpensAs (content_of s) (checkpointed m).completed

-- So with one that ran beside other work: what a device has that was written of it opens as what the machine completes with it,
abbrev pub FinishesOpen : Type 0
FinishesOpen = (m : Machine) (c : Checkpoint) (number : ℕ) (s : Stored) → Valid m → m.checkpoint ≡ Some c → IsRegular (content_of s) → IsFinishOf m c number s
    → OpensAs (content_of s) (finished m c).completed

-- as a device has it.
abbrev pub ReadFinishesOpen : Type 0
ReadFinishesOpen = (bytes : List ℕ) (m : Machine) (c : Checkpoint) (number : ℕ) (s : Stored) → Valid m → m.checkpoint ≡ Some c → IsOn bytes s → IsFinishOf m c number s
    → OpensAs (content_of s) (finished m c).completed

-- A row that was taken before serves too: it stands, at or above each version that the checkpoint sees, and at or below the one that would be taken now.
abbrev pub TakenBeforeServes : Type 0
TakenBeforeServes = (m : Machine) (c : Checkpoint) (table : ℕ) (key : List ℕ) (cell before : Option (Version Change)) (versions : List (Version Change)) → CapturedIn m c table key cell (Held versions)
    → ((v : Version Change) → before ≡ Some v → Member v (line m.history table key))
    → ((v : Version Change) → Member v (line m.history table key) → is_in m.history c.prefix v ≡ true → (y : Version Change) × (before ≡ Some y) × UpTo Older v y)
    → ((v w : Version Change) → before ≡ Some v → cell ≡ Some w → UpTo Older v w)
    → CapturedIn m c table key before (Held versions)

-- The records that are written of a history in memory serve where that has the older versions of each key.
abbrev pub WrittenHistoriesServe : Type 0
WrittenHistoriesServe = (m : Machine) (slots : List KeyHistory) (records : List HistoryRecord) → AreRecordsOf slots records → HaveOlder m (λ table key. versions_of table key slots)
    → ((h : KeyHistory) → Member h slots → has_table (tables m.history) h.table ≡ true) → IsHistoryOf m records

-- No records serve too, where the newest version of each key suffices.
abbrev pub EmptyHistoriesServe : Type 0
EmptyHistoriesServe = (m : Machine) → Valid m → ((t : Table) → Member t (tables m.history) → (key : List ℕ) → NewestSuffices m t.number key) → IsHistoryOf m []

-- The line that an opening makes of a key is what is kept of the key.
abbrev pub OpenedLines : Type 0
OpenedLines = (c : Content) (table : ℕ) (key : List ℕ) → IsRegular c → IsLayered c → has_table c.tables table ≡ true → IsLineOf c table key (line (base c) table key)

-- It is the cell, where that is kept, above the records that are kept.
abbrev pub OpenedLists : Type 0
OpenedLists = (c : Content) (table : ℕ) (key : List ℕ) (versions : List (Version Change)) → IsRegular c → IsLayered c → has_table c.tables table ≡ true → AreKeptRecords c table key versions
    → line (base c) table key ≡ with_cell (recorded_mark c) (cell_of c table key) versions

-- The records that are kept have all of it but its newest version.
abbrev pub KeptAreBelow : Type 0
KeptAreBelow = (c : Content) (table : ℕ) (key : List ℕ) (versions : List (Version Change)) → IsRegular c → IsLayered c → has_table c.tables table ≡ true → AreKeptRecords c table key versions
    → AreBelow (line (base c) table key) versions

-- With the newest version as its cell, and these as its history, the key stands in a leaf that nobody wrote.
abbrev pub OpenedKeysStand : Type 0
OpenedKeysStand = (c : Content) (table : ℕ) (key : List ℕ) (versions : List (Version Change)) → IsRegular c → AreBelow (line (base c) table key) versions
    → KeyStands (start c) table key [] (head_of (line (base c) table key)) (Held versions)
