-- Tables and a history without rows, which are stored nowhere: they have no blocks.
use Rattle.std.proofs.Common.{◌≡◌, List, [], ◌∷◌, refl, ap, ◌∙◌, arith, inl}
use Rattle.std.specs.List.{AllByRecursion}
use Rattle.stored.specs.Links.{nowhere, SaysOf}
use Rattle.stored.specs.Tree.{IsTree}
use Rattle.stored.specs.TableTree.{table_kind, TableTree, root_entry}
use Rattle.stored.specs.HistoryTree.{HistoryTree, history_kind, history_root_entry}
use Rattle.stored.specs.Records.{Root, TableRoot}
use Rattle.stored.specs.Stored.{Stored, AreTrees, tables_blocks, history_blocks, stored_blocks, record_block, cells_in}

-- the root of an empty tree
abbrev pub no_root : Root
no_root = record { level = 0; link = nowhere }

abbrev pub no_rows : TableTree
no_rows = record { layers = []; leaves = [] ∷ [] }

abbrev pub no_records : HistoryTree
no_records = record { layers = []; leaves = [] ∷ [] }

-- an empty tree for each table
abbrev pub empty_trees : List TableRoot → List TableTree
empty_trees [] = []
empty_trees (t ∷ tables) = no_rows ∷ empty_trees tables

abbrev pub AreEmpty : List TableRoot → Type 0
AreEmpty tables = AllByRecursion (λ (t : TableRoot). t.root ≡ no_root) tables

says_nothing : SaysOf nowhere [] []
says_nothing = record { greatest = refl; durable = refl }

pub table_empty : IsTree table_kind 0 (root_entry nowhere) no_rows
table_empty = record {
  levels = refl;
  lead = tt;
  bear = (record { leaf = record { fit = tt; ascend = tt; size = omega arith }; empty = λ _. (refl, refl); says = says_nothing }, tt);
  parts = (tt, (tt, tt));
}

pub history_empty : IsTree history_kind 0 (history_root_entry nowhere) no_records
history_empty = record {
  levels = refl;
  lead = tt;
  bear = (record { leaf = inl (refl, refl); begins = inl refl; says = says_nothing }, tt);
  parts = record { climbs = tt; stays = (tt, tt); once = tt };
}

pub trees_empty : (tables : List TableRoot) → AreEmpty tables → AreTrees tables (empty_trees tables)
trees_empty [] empty = tt
trees_empty (t ∷ tables) empty = (rw empty.0 table_empty, trees_empty tables empty.1)

pub tables_blocks_empty : (tables : List TableRoot) → AreEmpty tables → tables_blocks tables (empty_trees tables) ≡ []
tables_blocks_empty [] empty = refl
tables_blocks_empty (t ∷ tables) empty = rw (empty.0, tables_blocks_empty tables empty.1) refl

pub cells_empty : (tables : List TableRoot) → cells_in tables (empty_trees tables) ≡ []
cells_empty [] = refl
cells_empty (t ∷ tables) = cells_empty tables

-- of a device without rows and history only the record's block is stored
pub blocks_empty : (s : Stored) → AreEmpty s.kept.tables → s.kept.history ≡ no_root → s.trees ≡ empty_trees s.kept.tables → s.history ≡ no_records → stored_blocks s ≡ record_block s ∷ []
blocks_empty s empty root trees history =
    let tables : tables_blocks s.kept.tables s.trees ≡ [] = ap (tables_blocks s.kept.tables) trees ∙ tables_blocks_empty s.kept.tables empty in
    let records : history_blocks s.kept s.history ≡ [] = rw (root, history) refl in
    rw (tables, records) refl
