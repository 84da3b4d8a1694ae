-- Why no device is opened.
use Rattle.std.proofs.Common.{ℕ, List, [], ◌∷◌, ◌++◌, Option, None, sym, subst, ◌∙◌, inl, inr, arith}
use Rattle.std.specs.Prelude.{IsTrue}
use Rattle.failure.specs.Counts.{Rose}
use Rattle.disk_model.specs.Crash.{Looked}
use Rattle.disk_model.specs.declared.disk.Disk.{Ghosts}
use Rattle.kv_model.specs.Content.{Content}
use Rattle.kv_model.specs.Holds.{Member}
use Rattle.kv_model.specs.Regular.{AllApart, SameNumber}
use Rattle.row_page.specs.Rows.{Row}
use Rattle.wt_code.specs.declared.refusals.Refusal.{Refusal}
use Rattle.stored.specs.Records.{Root, TableRoot}
use Rattle.stored.specs.Stored.{Reads}
use Rattle.stored.specs.TableTree.{Entry, TableTree, first_key}
use Rattle.device_leaf.specs.declared.place.Place.{Place}
use Rattle.device_leaf.proofs.Opens.{no_blank, rose_sooner}
use Rattle.tree_open.specs.declared.place.Upper.{Upper}
use Rattle.tree_open.specs.Trees.{HasTree}
use Rattle.tree_open.proofs.OneLayer.{key_none}
use Rattle.tree_dir.specs.Leaves.{Directory, IsDirectory, no_leaves}
use Rattle.tree_open.specs.Damage.{Refused}
use Rattle.recover_open.specs.declared.wholes.Whole.{Whole}
use Rattle.recover_open.specs.Bare.{HaveTrees}
use Rattle.recover_open.specs.Leaves.{AreLeaves, IsUnder}
use Rattle.recover_open.specs.Wholes.{IsWholeDamage, SurveysWhole}
use Rattle.recover_open.proofs.Devices.{kept_is, run_read}
use Rattle.recover_open.proofs.TreeLeaves.{tree_leaves}
use Rattle.engine_start.specs.declared.table_entries.TableEntries.{TableEntries}
use Rattle.engine_start.specs.Entries.{AreAdded, tables_of}
use Rattle.engine_store.specs.Found.{RefusesBegin}
use Rattle.engine_store.specs.Loads.{LeafOfSpoils, RefusesSome}
use Rattle.engine_store.specs.Opened.{HasSpoiltLeaf, LacksNumbers, RefusesOpen}
use Rattle.engine_store.specs.Tables.{AreWithEntries}
use Rattle.engine_store.proofs.KeptLeaves.{spoils_of}
use Rattle.engine_store.proofs.SurveyedTrees.{AreUppersOf, IsSurveyedOf, IsUpperOf, surveyed_of}

-- ---- a leaf at fault

-- no leaf is at fault that was surveyed of a device which reads
leaf_at : (bytes : List ℕ) (front : List Entry) (e : Entry) (others : List Entry) (leaves : List (List Row)) → AreLeaves bytes (front ++ e ∷ others) None leaves → (rows : List Row) × IsUnder bytes e (first_key others) rows
leaf_at bytes [] e others [] are = absurd are
leaf_at bytes [] e others (rows ∷ leaves) are = (rows, subst (λ (k : Option (List ℕ)). IsUnder bytes e k rows) (key_none others) are.0)
leaf_at bytes (x ∷ front) e others [] are = absurd are
leaf_at bytes (x ∷ front) e others (rows ∷ leaves) are = leaf_at bytes front e others leaves are.1

tree_of : (bytes : List ℕ) (tables : List TableRoot) (uppers : List Upper) (trees : List TableTree) (u : Upper) → HaveTrees bytes tables trees → AreUppersOf tables uppers trees → Member u uppers → (root : Root) × (tree : TableTree) × HasTree bytes root tree × IsUpperOf root u tree
tree_of bytes tables [] trees u have are there = absurd there
tree_of bytes [] (x ∷ uppers) trees u have are there = absurd are
tree_of bytes (t ∷ tables) (x ∷ uppers) [] u have are there = absurd are
tree_of bytes (t ∷ tables) (x ∷ uppers) (tree ∷ trees) u have are (inl same) = (t.root, tree, have.0, subst (λ (y : Upper). IsUpperOf t.root y tree) (sym same) are.0)
tree_of bytes (t ∷ tables) (x ∷ uppers) (tree ∷ trees) u have are (inr later) = tree_of bytes tables uppers trees u have.1 are.1 later

no_spoils : (bytes : List ℕ) (place : Place) (a : Whole) (at want found : ℕ) → IsSurveyedOf bytes place a → LeafOfSpoils bytes a.uppers.items at want found → ⊥
no_spoils bytes place a at want found of spoils =
    let there = tree_of bytes a.record.tables a.uppers.items of.trees spoils.upper of.have of.uppers spoils.among in
    let are : AreLeaves bytes (spoils.front ++ spoils.entry ∷ spoils.others) None there.1.leaves = subst (λ (es : List Entry). AreLeaves bytes es None there.1.leaves) (sym there.3.entries ∙ spoils.is) (tree_leaves bytes there.0 there.1 there.2) in
    let leaf = leaf_at bytes spoils.front spoils.entry spoils.others there.1.leaves are in
    spoils.spoils.none leaf.0 leaf.1

pub spoilt_no_content : (bytes : List ℕ) (at want found : ℕ) (content : Content) → HasSpoiltLeaf bytes at want found → Reads bytes content → ⊥
spoilt_no_content bytes at want found content spoilt reads = no_spoils bytes spoilt.place spoilt.whole at want found (surveyed_of bytes spoilt.place spoilt.whole content spoilt.surveyed reads) spoilt.leaf

-- ---- while an engine begins on it

-- one of the leaves is not read
pub refused_begin : {D : Type 0} (g : Ghosts D) (old new : D) (a : Whole) (both : List TableEntries) (d : Directory) (r : Refusal) → IsDirectory d → AllApart SameNumber (tables_of both) → AreAdded no_leaves both d → AreWithEntries both a.record.tables a.uppers.items → RefusesSome g d old new r → RefusesBegin g a old new r
refused_begin g old new a both d r is_dir apart added with (inl none) = inl none
refused_begin g old new a both d r is_dir apart added with (inr (id, inl failed)) = inr (inr (inr (inl failed)))
refused_begin g old new a both d r is_dir apart added with (inr (id, inr (inl none))) = inl none
refused_begin g old new a both d r is_dir apart added with (inr (id, inr (inr (at, want, found, is, spoils)))) =
    inr (inr (inr (inr (inr (at, want, found, is, λ known. spoils_of both d is_dir apart added (g.seen old) a.record.tables a.uppers.items with id at want found (spoils known))))))

-- ---- an opening

module _ {D : Type 0} (g : Ghosts D) (first : D) where
  -- a survey
  pub refused_survey : (new : D) (r : Refusal) → Refused (Rose (g.faults first) (g.faults new)) (IsTrue (g.honest first)) (IsWholeDamage (g.seen first)) r → RefusesOpen g (IsTrue (g.honest first)) first new r
  refused_survey new r (inl failed) = inl (inl failed)
  refused_survey new r (inr (inl none)) = inl (inr (inl none))
  refused_survey new r (inr (inr (at, want, found, is, damage))) = inl (inr (inr (at, want, found, is, λ known. inl (damage known))))

  -- an engine on what was surveyed
  module _ (mid new : D) (looked : Looked g first mid) (place : Place) (a : Whole) (surveyed : IsTrue (g.honest first) → SurveysWhole (g.seen first) place a) where
    pub refused_above : (r : Refusal) → RefusesBegin g a mid new r → RefusesOpen g (IsTrue (g.honest first)) first new r
    refused_above r (inl none) = inl (inr (inl none))
    refused_above r (inr (inl (is, last))) = inr (inl (
      is,
      λ known content reads.
          let s = surveyed known in
          let run = run_read (g.seen first) s.slot a.record s.names.chosen s.names.is_record s.names.is content reads in
          omega (arith, run, last, s.names.is_record.run.1, s.names.is_record.sequence),
    ))
    refused_above r (inr (inr (inl (is, lack)))) = inr (inr (
      is,
      (λ known s on. let n = (surveyed known).names in subst LacksNumbers (sym (kept_is (g.seen first) (surveyed known).slot s a.record n.chosen n.is_record n.is on)) lack),
      λ known blank. no_blank (g.seen first) (surveyed known).slot (surveyed known).names.chosen blank,
    ))
    refused_above r (inr (inr (inr (inl failed)))) = inl (inl (failed.0, rose_sooner (g.faults first) (g.faults mid) (g.faults new) looked.count failed.1))
    refused_above r (inr (inr (inr (inr (inl none))))) = inl (inr (inl none))
    refused_above r (inr (inr (inr (inr (inr (at, want, found, is, spoils)))))) = inl (inr (inr (
      at,
      want,
      found,
      is,
      λ known. inr (record {
        place = place;
        whole = a;
        surveyed = surveyed known;
        leaf = subst (λ (bytes : List ℕ). LeafOfSpoils bytes a.uppers.items at want found) looked.content (spoils (looked.same ∙ known));
      }),
    )))
