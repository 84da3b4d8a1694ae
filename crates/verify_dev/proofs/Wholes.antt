-- What was surveyed, with its leaves, is what the device holds.
use Rattle.std.specs.Prelude.{◌≡◌, ℕ, zero, suc, ◌+◌, ◌<◌, List, [], ◌∷◌, length, slice_index_or, Option, Some, None, refl}
use Rattle.std.proofs.Common.{inl, inr, sym, ◌∙◌, ap, subst, arith}
use Rattle.std.proofs.lemmas.List.{length-map}
use Rattle.block_mgr.specs.declared.found.Found.{Found}
use Rattle.block_mgr.specs.Open.{AreStored}
use Rattle.row_page.specs.Rows.{Row}
use Rattle.stored.specs.Blocks.{Block}
use Rattle.stored.specs.Tree.{bottom, leaf_blocks}
use Rattle.stored.specs.TableTree.{Entry, TableTree, table_kind}
use Rattle.stored.specs.HistoryTree.{HistoryRecord}
use Rattle.stored.specs.Records.{Root, TableRoot, Record}
use Rattle.wt_code.specs.declared.refusals.Refusal.{Refusal}
use Rattle.device_layout.specs.declared.addr.Addr.{Addr}
use Rattle.device_leaf.specs.declared.place.Place.{Place}
use Rattle.tree_open.specs.declared.place.Upper.{Upper}
use Rattle.tree_open.specs.Trees.{InnerIs, leaf_addrs, root_own}
use Rattle.tree_open.specs.Damage.{Refused}
use Rattle.tree_open.proofs.Steps.{refused_more}
use Rattle.recover_open.specs.declared.wholes.Whole.{Whole}
use Rattle.recover_open.specs.declared.check.Tally.{Tally}
use Rattle.recover_open.specs.Bare.{HaveTrees, HaveUppers, tree_rows}
use Rattle.recover_open.specs.Leaves.{AreLeaves}
use Rattle.recover_open.specs.Damage.{IsAmong}
use Rattle.recover_open.specs.Wholes.{IsWholeDamage, whole_found}
use Rattle.recover_open.proofs.TreeLeaves.{whole_tree, leaf_places}
use Rattle.recover_open.proofs.Places.{all_found}
use Rattle.recover_open.proofs.UpperPlaces.{wholes_are}
use Rattle.recover_open.proofs.Devices.{whole_on}
use Rattle.verify_dev.specs.declared.report.Report.{Report}
use Rattle.verify_dev.specs.Leaves.{HaveLeaves, AreAllTallied, SomeSpoil, stored_below, rows_below}
use Rattle.verify_dev.specs.declared.verifying.Examined.{Examined}
use Rattle.recover_open.specs.Recoveries.{KeepsNone}
use Rattle.verify_dev.specs.Reports.{Reports, ReportsOr, IsExamined, IsVerified, IsZero, IsSurveyOf, leaves_of, versions_of}

-- ---- the trees

-- the trees of these leaves, and what they have
record Grown (bytes : List ℕ) (tables : List TableRoot) (uppers : List Upper) (all : List (List (List Row))) : Type 0 where
  trees : List TableTree
  have : HaveTrees bytes tables trees
  stored : stored_below uppers ≡ leaves_of tables trees
  rows : rows_below all ≡ versions_of trees

leaves_same : (bytes : List ℕ) (root : Root) (u : Upper) (leaves : List (List Row)) → (inner : InnerIs bytes root u.entries.items u.addrs.items) → AreLeaves bytes u.entries.items None leaves → length (leaf_addrs u.entries.items) ≡ length (leaf_blocks table_kind (bottom (root_own root) inner.layers) leaves)
leaves_same bytes root u leaves inner are =
    ap (λ (l : List Addr). length l) (sym (leaf_places bytes u.entries.items None leaves are))
    ∙ length-map (leaf_blocks table_kind u.entries.items leaves) (λ (b : Block). b.place)
    ∙ ap (λ (es : List Entry). length (leaf_blocks table_kind es leaves)) inner.entries

grown : (bytes : List ℕ) (tables : List TableRoot) (uppers : List Upper) (all : List (List (List Row))) → HaveUppers bytes tables uppers → HaveLeaves bytes uppers all → Grown bytes tables uppers all
grown bytes [] [] [] have leaves = record { trees = []; have = tt; stored = refl; rows = refl }
grown bytes [] [] (here ∷ all) have leaves = absurd leaves
grown bytes [] (u ∷ uppers) all have leaves = absurd have
grown bytes (t ∷ tables) [] all have leaves = absurd have
grown bytes (t ∷ tables) (u ∷ uppers) [] have leaves = absurd leaves
grown bytes (t ∷ tables) (u ∷ uppers) (here ∷ all) have leaves =
    let rest = grown bytes tables uppers all have.1 leaves.1 in
    let tree : TableTree = record { layers = have.0.layers; leaves = here } in
    record {
      trees = tree ∷ rest.trees;
      have = (whole_tree bytes t.root u.entries.items u.addrs.items have.0 here leaves.0, rest.have);
      stored = omega (arith, leaves_same bytes t.root u here have.0 leaves.0, rest.stored);
      rows = ap (λ n. length (tree_rows tree) + n) rest.rows;
    }

-- ---- the report

pub reported : (bytes : List ℕ) (w : Whole) (t counted : Tally) (o : Report) → IsSurveyOf bytes w → AreAllTallied bytes w.uppers.items t → counted.leaves ≡ t.leaves → counted.versions ≡ t.versions + length w.history.records.items
    → o.tables ≡ length w.record.tables → o.leaves ≡ counted.leaves → o.versions ≡ counted.versions → Reports bytes w.record o
reported bytes w t counted o (place, surveyed) tallied same more tables leaves versions =
    let slot = surveyed.slot in
    let there = grown bytes w.record.tables w.uppers.items tallied.all surveyed.have tallied.have in
    let read = surveyed.history in
    let found : whole_found slot w.uppers.items w.history.addrs.items ≡ all_found slot w.record there.trees read.tree = wholes_are bytes slot w.record w.uppers.items w.history there.trees read.tree surveyed.have there.have read read.has in
    record {
      slot = slot;
      trees = there.trees;
      history = read.tree;
      on = whole_on bytes slot w.record there.trees read.tree surveyed.names there.have read.has (subst (λ (l : List Found). AreStored l (length bytes)) found surveyed.stored);
      tables = tables;
      leaves = leaves ∙ same ∙ tallied.stored ∙ there.stored;
      versions = omega (arith, versions, more, tallied.versions, there.rows, ap (λ (l : List HistoryRecord). length l) read.all);
    }

-- ---- a leaf at fault

-- the table whose tree has this above its leaves
table_at : (bytes : List ℕ) (tables : List TableRoot) (uppers : List Upper) (u : Upper) (i : ℕ) → HaveUppers bytes tables uppers → i < length uppers → u ≡ slice_index_or uppers i u → (t : TableRoot) × IsAmong tables t × InnerIs bytes t.root u.entries.items u.addrs.items
table_at bytes tables [] u i have lt is = absurd (omega (arith, lt))
table_at bytes [] (x ∷ uppers) u i have lt is = absurd have
table_at bytes (t ∷ tables) (x ∷ uppers) u zero have lt is = (t, (0, omega arith, refl), subst (λ (y : Upper). InnerIs bytes t.root y.entries.items y.addrs.items) (sym is) have.0)
table_at bytes (t ∷ tables) (x ∷ uppers) u (suc i) have lt is =
    let there = table_at bytes tables uppers u i have.1 (omega (arith, lt)) is in
    (there.0, (suc there.1.0, omega (arith, there.1.1), there.1.2), there.2)

pub leaf_damage : (bytes : List ℕ) (a : Whole) (at want found : ℕ) → IsSurveyOf bytes a → SomeSpoil bytes a.uppers.items at want found → IsWholeDamage bytes at want found
leaf_damage bytes a at want found (place, surveyed) spoils =
    let there = table_at bytes a.record.tables a.uppers.items spoils.upper spoils.index surveyed.have spoils.within spoils.is in
    inr (inr (inl (record {
      slot = surveyed.slot;
      names = a.record;
      there = surveyed.names;
      table = there.0;
      among = there.1;
      tree = inr (record { es = spoils.upper.entries.items; addrs = spoils.upper.addrs.items; inner = there.2; leaves = spoils.spoils });
    })))

pub leaves_refused : (fault known : Type 0) (bytes : List ℕ) (a : Whole) (uppers : List Upper) (r : Refusal) → uppers ≡ a.uppers.items → Refused fault known (SomeSpoil bytes uppers) r → Refused fault (known × IsSurveyOf bytes a) (IsWholeDamage bytes) r
leaves_refused fault known bytes a uppers r same refused =
    refused_more fault fault known (known × IsSurveyOf bytes a) (SomeSpoil bytes uppers) (IsWholeDamage bytes) r (λ h. h) (λ h. h.0)
    (λ at want found h spoils. leaf_damage bytes a at want found h.1 (subst (λ (l : List Upper). SomeSpoil bytes l at want found) same spoils)) refused

-- ---- what is told in the end

pub blank_told : (bytes : List ℕ) (place : Place) (o : Report) → KeepsNone bytes place → IsZero o → ReportsOr bytes None o
blank_told bytes place o none counts = (none.serves.still, counts)

pub verified : (bytes : List ℕ) (x : Examined) → IsExamined bytes x → IsVerified bytes x.report
verified bytes x is = verified_by bytes x.record x.report is
  where
    verified_by : (bytes : List ℕ) (r : Option Record) (o : Report) → ReportsOr bytes r o → IsVerified bytes o
    verified_by bytes None o is = inl is
    verified_by bytes (Some r) o is = inr (r, is)
