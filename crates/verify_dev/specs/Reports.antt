-- What is told of a device that reads.
use Rattle.std.specs.Prelude.{◌≡◌, ◌⊎◌, ℕ, ◌+◌, List, [], ◌∷◌, length, Option, Some, None}
use Rattle.device_layout.specs.declared.slot.Slot.{Slot}
use Rattle.stored.specs.Tree.{bottom, join, leaf_blocks}
use Rattle.stored.specs.HistoryTree.{HistoryTree}
use Rattle.stored.specs.TableTree.{TableTree, table_kind}
use Rattle.stored.specs.Records.{TableRoot, Record}
use Rattle.stored.specs.Stored.{IsOn, IsBlank}
use Rattle.device_leaf.specs.declared.place.Place.{Place}
use Rattle.tree_open.specs.Trees.{root_own}
use Rattle.recover_open.specs.declared.wholes.Whole.{Whole}
use Rattle.recover_open.specs.Bare.{stored_with, tree_rows}
use Rattle.recover_open.specs.Wholes.{SurveysWhole}
use Rattle.verify_dev.specs.declared.report.Report.{Report}
use Rattle.verify_dev.specs.declared.verifying.Examined.{Examined}

-- the blocks of leaves that the trees of these tables have
abbrev pub leaves_of : List TableRoot → List TableTree → ℕ
leaves_of [] trees = 0
leaves_of (t ∷ tables) [] = 0
leaves_of (t ∷ tables) (tree ∷ trees) = length (leaf_blocks table_kind (bottom (root_own t.root) tree.layers) tree.leaves) + leaves_of tables trees

-- the rows of the trees
abbrev pub versions_of : List TableTree → ℕ
versions_of [] = 0
versions_of (tree ∷ trees) = length (tree_rows tree) + versions_of trees

abbrev pub IsZero : Report → Type 0
IsZero o = (o.tables ≡ 0) × (o.leaves ≡ 0) × (o.versions ≡ 0)

-- The device holds this record, the trees of its tables, and a history: these are their counts. A record of the history is a version too.
pub record Reports (bytes : List ℕ) (r : Record) (o : Report) : Type 0 where
  pub slot : Slot
  pub trees : List TableTree
  pub history : HistoryTree
  pub on : IsOn bytes (stored_with slot r trees history)
  pub tables : o.tables ≡ length r.tables
  pub leaves : o.leaves ≡ leaves_of r.tables trees
  pub versions : o.versions ≡ versions_of trees + length (join history.leaves)

-- the device has no checkpoint, or it holds this record
abbrev pub ReportsOr : List ℕ → Option Record → Report → Type 0
ReportsOr bytes None o = IsBlank bytes × IsZero o
ReportsOr bytes (Some r) o = Reports bytes r o

abbrev pub IsExamined : List ℕ → Examined → Type 0
IsExamined bytes x = ReportsOr bytes x.record x.report

abbrev pub IsVerified : List ℕ → Report → Type 0
IsVerified bytes o = (IsBlank bytes × IsZero o) ⊎ ((r : Record) × Reports bytes r o)

-- this was surveyed of the device, which stands at some place
abbrev pub IsSurveyOf : List ℕ → Whole → Type 0
IsSurveyOf bytes w = (place : Place) × SurveysWhole bytes place w
