-- The cells of a device that has a checkpoint: the rows of its tables.
use Rattle.std.proofs.Common.{◌≡◌, ◌∙◌, ℕ, true, false, List, [], ◌∷◌, ◌++◌, Option, Some, None, refl, sym, ap, subst, inl, inr}
use Rattle.std.specs.Prelude.{◌==◌, find, option_map}
use Rattle.std.specs.Option.{option_to_list}
use Rattle.std.proofs.lemmas.Bool.{cases_Bool, both_ways, eqb-true, or_left}
use Rattle.std.proofs.lemmas.List.{append-nil}
use Rattle.item.specs.declared.Change.{Change}
use Rattle.stamp.specs.declared.Version.{Version}
use Rattle.kv_model.specs.AgreementLaws.{head_of}
use Rattle.kv_model.specs.Holds.{Member}
use Rattle.kv_model.specs.History.{Placed, Table, has_table, is_at, of_key}
use Rattle.kv_model.specs.Machine.{Checkpoint, Machine}
use Rattle.kv_model.specs.Regular.{AllApart, SameNumber}
use Rattle.row_page.specs.Rows.{Row}
use Rattle.reconcile.specs.Shows.{shown_at}
use Rattle.stored.specs.HistoryTree.{HistoryRecord}
use Rattle.stored.specs.Records.{TableRoot}
use Rattle.stored.specs.Stored.{cells_in, placed_in, tables_of}
use Rattle.stored.specs.TableTree.{TableTree}
use Rattle.stored.specs.Tree.{join}
use Rattle.reconcile.proofs.Keyed.{of_key_elsewhere, of_key_rows}
use Rattle.ckpt_content.specs.Finished.{AreTakenOf, AreTakenRows}
use Rattle.ckpt_content.proofs.Tables.{table_there}

-- ---- the versions of a key

both_keys : (table : ℕ) (key : List ℕ) (xs ys : List Placed) → of_key table key (xs ++ ys) ≡ of_key table key xs ++ of_key table key ys
both_keys table key [] ys = refl
both_keys table key (x ∷ xs) ys = elim (cases_Bool (is_at table key x)) [
  | inl here ↦ rw here (ap (λ (l : List (Version Change)). x.version ∷ l) (both_keys table key xs ys))
  | inr away ↦ rw away (both_keys table key xs ys)
]

-- the first of them is the cell
pub first_of_key : (table : ℕ) (key : List ℕ) (l : List Placed) → option_map (λ (p : Placed). p.version) (find (is_at table key) l) ≡ head_of (of_key table key l)
first_of_key table key [] = refl
first_of_key table key (p ∷ l) = elim (cases_Bool (is_at table key p)) [ inl here ↦ rw here refl | inr away ↦ rw away (first_of_key table key l) ]

pub head_of_one : (o : Option (Version Change)) → head_of (option_to_list o) ≡ o
head_of_one None = refl
head_of_one (Some v) = refl

pub one_member : (v : Version Change) (o : Option (Version Change)) → Member v (option_to_list o) → o ≡ Some v
one_member v None there = absurd there
one_member v (Some w) (inl same) = ap (λ (x : Version Change). Some x) (sym same)
one_member v (Some w) (inr none) = absurd none

-- ---- the rows of the tables

-- a table's rows, and behind them those of the others
cells_parts : (table : ℕ) (key : List ℕ) (r : TableRoot) (roots : List TableRoot) (tree : TableTree) (trees : List TableTree)
    → of_key table key (cells_in (r ∷ roots) (tree ∷ trees)) ≡ of_key table key (placed_in r.table.number (join tree.leaves)) ++ of_key table key (cells_in roots trees)
cells_parts table key r roots tree trees = both_keys table key (placed_in r.table.number (join tree.leaves)) (cells_in roots trees)

-- of a number that no table has there is none
pub cells_away : (table : ℕ) (key : List ℕ) (roots : List TableRoot) (trees : List TableTree) → has_table (tables_of roots) table ≡ false → of_key table key (cells_in roots trees) ≡ []
cells_away table key [] trees away = refl
cells_away table key (r ∷ roots) [] away = refl
cells_away table key (r ∷ roots) (tree ∷ trees) away = elim (cases_Bool (r.table.number == table)) [
  | inl here ↦ absurd (both_ways (has_table (tables_of (r ∷ roots)) table) away (or_left (r.table.number == table) (has_table (tables_of roots) table) here))
  | inr other ↦
      cells_parts table key r roots tree trees
      ∙ (ap (λ (l : List (Version Change)). l ++ of_key table key (cells_in roots trees)) (of_key_elsewhere r.table.number table key (join tree.leaves) other)
      ∙ cells_away table key roots trees (rw other at away))
]

-- no other table has the first one's number
apart_away : (t : Table) (known : List Table) → AllApart SameNumber (t ∷ known) → has_table known t.number ≡ false
apart_away t known apart = elim (cases_Bool (has_table known t.number)) [
  | inl has ↦ (let u = table_there known t.number has in absurd (apart.0 u.0 u.1 (sym u.2)))
  | inr away ↦ away
]

-- the rows of a table, as they were taken, which are its cells
pub record TakenTable (m : Machine) (c : Checkpoint) (records : List HistoryRecord) (cells : List Placed) (table : ℕ) : Type 0 where
  pub t : Table
  pub number : t.number ≡ table
  pub rows : List Row
  pub are : AreTakenRows m c records t rows
  pub cells_are : (key : List ℕ) → of_key table key cells ≡ option_to_list (shown_at key rows)

-- each table that is there has some
pub taken_here : (m : Machine) (c : Checkpoint) (records : List HistoryRecord) (table : ℕ) (roots : List TableRoot) (trees : List TableTree) → AllApart SameNumber (tables_of roots) → AreTakenOf m c records (tables_of roots) trees → has_table (tables_of roots) table ≡ true
    → TakenTable m c records (cells_in roots trees) table
taken_here m c records table [] trees apart are there = absurd cc
taken_here m c records table (r ∷ roots) [] apart are there = absurd are
taken_here m c records table (r ∷ roots) (tree ∷ trees) apart are there = elim (cases_Bool (r.table.number == table)) [
  | inl here ↦ record {
    t = r.table;
    number = eqb-true r.table.number table here;
    rows = join tree.leaves;
    are = are.0;
    cells_are = λ key. subst (λ (n : ℕ). of_key n key (cells_in (r ∷ roots) (tree ∷ trees)) ≡ option_to_list (shown_at key (join tree.leaves))) (eqb-true r.table.number table here) (mine key);
  }
  | inr other ↦ (let rest = taken_here m c records table roots trees apart.1 are.1 (rw other at there) in record {
    t = rest.t;
    number = rest.number;
    rows = rest.rows;
    are = rest.are;
    cells_are = λ key. cells_parts table key r roots tree trees
        ∙ (ap (λ (l : List (Version Change)). l ++ of_key table key (cells_in roots trees)) (of_key_elsewhere r.table.number table key (join tree.leaves) other) ∙ rest.cells_are key);
  })
] where
  mine : (key : List ℕ) → of_key r.table.number key (cells_in (r ∷ roots) (tree ∷ trees)) ≡ option_to_list (shown_at key (join tree.leaves))
  mine key =
      cells_parts r.table.number key r roots tree trees
      ∙ (ap (λ (l : List (Version Change)). of_key r.table.number key (placed_in r.table.number (join tree.leaves)) ++ l) (cells_away r.table.number key roots trees (apart_away r.table (tables_of roots) apart))
      ∙ (append-nil (of_key r.table.number key (placed_in r.table.number (join tree.leaves)))
      ∙ of_key_rows r.table.number key None (join tree.leaves) are.0.fit.ascend))
