-- What a device keeps that has a checkpoint which ran beside other work.
use Rattle.std.specs.Prelude.{◌≡◌, ℕ, ◌+◌, true, List, [], ◌∷◌, reverse}
use Rattle.kv_model.specs.Captures.{CapturedIn}
use Rattle.kv_model.specs.History.{Table, first, has_table, tables}
use Rattle.kv_model.specs.Holds.{Member}
use Rattle.kv_model.specs.Machine.{Checkpoint, Machine}
use Rattle.kv_model.specs.StoreLaws.{Held}
use Rattle.row_page.specs.Rows.{Row}
use Rattle.leaf_rows.specs.Rows.{AreFit}
use Rattle.reconcile.specs.Shows.{shown_at}
use Rattle.snapshot.specs.Matters.{SeesCommitted}
use Rattle.stored.specs.HistoryTree.{HistoryRecord}
use Rattle.stored.specs.Records.{Record}
use Rattle.stored.specs.Stored.{Stored, tables_of}
use Rattle.stored.specs.TableTree.{TableTree}
use Rattle.stored.specs.Tree.{join}
use Rattle.catalog.specs.Known.{by_name}
use Rattle.ckpt_content.specs.Checkpoints.{records_at}

-- the tables that stood as it started
abbrev pub tables_then : Machine → Checkpoint → List Table
tables_then m c = tables (first c.prefix m.history)

-- Of each key of the table the rows have a version that stands, a removal too, at or above each one that the checkpoint sees, and with it the records have what a read can want from the recorded oldest stamp on. The row may be too new.
pub record AreTakenRows (m : Machine) (c : Checkpoint) (records : List HistoryRecord) (t : Table) (rows : List Row) : Type 0 where
  pub fit : AreFit rows
  pub captured : (key : List ℕ) → CapturedIn m c t.number key (shown_at key rows) (Held (records_at t.number key records))

-- so it is with those of each table's tree
abbrev pub AreTakenOf : Machine → Checkpoint → List HistoryRecord → List Table → List TableTree → Type 0
AreTakenOf m c records [] [] = Unit {0}
AreTakenOf m c records [] (tree ∷ trees) = ⊥
AreTakenOf m c records (t ∷ tables) [] = ⊥
AreTakenOf m c records (t ∷ tables) (tree ∷ trees) = AreTakenRows m c records t (join tree.leaves) × AreTakenOf m c records tables trees

-- number: that of the checkpoint before, 0 where there is none. Where the trees stand is left open.
pub record IsRecordThen (m : Machine) (c : Checkpoint) (number : ℕ) (r : Record) : Type 0 where
  pub sequence : r.sequence ≡ number + 1
  pub run : r.run ≡ m.run
  pub oldest : r.oldest ≡ c.oldest
  pub stable : r.stable ≡ c.stable
  pub sees : SeesCommitted m c.prefix (record { run = r.run; min = r.snapshot.min; max = r.snapshot.max; list = r.snapshot.ids })
  pub tables_are : tables_of r.tables ≡ by_name (reverse (tables_then m c))

-- What a device stores that has the checkpoint which the machine runs, as it is finished now: a tree for each table that stood as it started, and the history of these tables.
pub record IsFinishOf (m : Machine) (c : Checkpoint) (number : ℕ) (s : Stored) : Type 0 where
  pub names : IsRecordThen m c number s.kept
  pub rows : AreTakenOf m c (join s.history.leaves) (tables_of s.kept.tables) s.trees
  pub known : (r : HistoryRecord) → Member r (join s.history.leaves) → has_table (tables_then m c) r.table ≡ true
