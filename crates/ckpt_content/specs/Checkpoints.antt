-- What a device keeps that has a checkpoint of a machine.
use Rattle.std.specs.Prelude.{◌≡◌, ℕ, ◌+◌, true, List, [], ◌∷◌, length, map, reverse}
use Rattle.item.specs.declared.Change.{Change}
use Rattle.stamp.specs.declared.Version.{Version}
use Rattle.kv_model.specs.AgreementLaws.{head_of}
use Rattle.kv_model.specs.Holds.{Member}
use Rattle.kv_model.specs.History.{Table, has_table, line, of_key, tables}
use Rattle.kv_model.specs.Machine.{Machine}
use Rattle.row_page.specs.Rows.{Row}
use Rattle.leaf_rows.specs.Rows.{AreFit}
use Rattle.reconcile.specs.Shows.{shown_at}
use Rattle.snapshot.specs.Matters.{AreUnended, SeesCommitted}
use Rattle.stored.specs.HistoryTree.{HistoryRecord, record_in}
use Rattle.stored.specs.Records.{Record}
use Rattle.stored.specs.Stored.{Stored, tables_of}
use Rattle.stored.specs.TableTree.{TableTree}
use Rattle.stored.specs.Tree.{join}
use Rattle.catalog.specs.Known.{by_name}
use Rattle.ckpt_content.specs.Older.{HaveOlder}

-- ---- the tables

-- the rows have the newest version of each key of the table, a removal too
pub record IsRowsOf (m : Machine) (t : Table) (rows : List Row) : Type 0 where
  pub fit : AreFit rows
  pub newest : (key : List ℕ) → head_of (line m.history t.number key) ≡ shown_at key rows

-- so have those of each table's tree
abbrev pub AreRowsOf : Machine → List Table → List TableTree → Type 0
AreRowsOf m [] [] = Unit {0}
AreRowsOf m [] (tree ∷ trees) = ⊥
AreRowsOf m (t ∷ tables) [] = ⊥
AreRowsOf m (t ∷ tables) (tree ∷ trees) = IsRowsOf m t (join tree.leaves) × AreRowsOf m tables trees

-- ---- the history

-- the versions of a key among the records
abbrev pub records_at : ℕ → List ℕ → List HistoryRecord → List (Version Change)
records_at table key records = of_key table key (map {A = HistoryRecord} record_in records)

-- the records have the older versions of each key that a read can want, and are of tables that are there
pub record IsHistoryOf (m : Machine) (records : List HistoryRecord) : Type 0 where
  pub older : HaveOlder m (λ table key. records_at table key records)
  pub known : (r : HistoryRecord) → Member r records → has_table (tables m.history) r.table ≡ true

-- ---- the record

-- number: that of the checkpoint before, 0 where there is none. Where the trees stand is left open.
pub record IsRecordOf (m : Machine) (number : ℕ) (r : Record) : Type 0 where
  pub sequence : r.sequence ≡ number + 1
  pub run : r.run ≡ m.run
  pub oldest : r.oldest ≡ m.oldest
  pub stable : r.stable ≡ m.stable
  pub max : r.snapshot.max ≡ m.next
  pub unended : AreUnended m r.snapshot.ids
  pub sees : SeesCommitted m (length m.history) (record { run = r.run; min = r.snapshot.min; max = r.snapshot.max; list = r.snapshot.ids })
  pub tables_are : tables_of r.tables ≡ by_name (reverse (tables m.history))

-- what a device stores that has the checkpoint that the machine takes: a tree for each table, and the history
pub record IsCheckpointOf (m : Machine) (number : ℕ) (s : Stored) : Type 0 where
  pub names : IsRecordOf m number s.kept
  pub rows : AreRowsOf m (tables_of s.kept.tables) s.trees
  pub history : IsHistoryOf m (join s.history.leaves)
