-- The tree of a table of a device is the parts of the table's leaves, as the directory's entries lead to them: no checkpoint has written a leaf since.
use Rattle.std.proofs.Common.{◌≡◌, ◌≤◌, ℕ, suc, List, [], ◌∷◌, ◌++◌, length, filter, Option, Some, None, refl, sym, ap, subst, ◌∙◌, inl, inr, arith}
use Rattle.std.specs.Prelude.{true, false, IsTrue, option_map}
use Rattle.std.specs.List.{Contains}
use Rattle.std.proofs.lemmas.Bool.{cases_Bool, false≢true}
use Rattle.std.proofs.lemmas.List.{append-nil}
use Rattle.device_layout.specs.declared.link.Link.{Link}
use Rattle.kv_model.specs.Holds.{Member}
use Rattle.row_page.specs.Rows.{Row}
use Rattle.leaf_rows.specs.Rows.{AreFit}
use Rattle.stored.specs.Blocks.{Block, IsAddressed, IsAt}
use Rattle.stored.specs.Links.{LinkFits}
use Rattle.stored.specs.Tree.{AllBear, bottom, inner_blocks, join, leaf_blocks}
use Rattle.stored.specs.TableTree.{Entry, EntryFits, TableTree, ends_below, root_entry, table_kind}
use Rattle.device_leaf.specs.Leaves.{LeafIs}
use Rattle.tree_dir.specs.declared.leaf.Leaf.{Leaf}
use Rattle.tree_dir.specs.Leaves.{Directory, IsDirectory, leaf_behind, leaves_of}
use Rattle.tree_dir.specs.Ranges.{low_key}
use Rattle.tree_dir.proofs.Parting.{has-under}
use Rattle.tree_open.specs.declared.place.TreePlace.{TreePlace}
use Rattle.tree_open.specs.Trees.{HasTree, IsPlaceOf, root_own}
use Rattle.tree_write.specs.Steps.{links_in}
use Rattle.tree_write.specs.Writes.{LeadApart}
use Rattle.engine_store.proofs.TwoLists.{all_back}
use Rattle.recover_open.specs.Leaves.{AreLeaves, AreUnder, IsUnder}
use Rattle.recover_open.proofs.OneLeaf.{one_leaf}
use Rattle.recover_open.proofs.TreeLeaves.{tree_leaves}
use Rattle.engine_start.specs.Entries.{led_in}
use Rattle.engine_start.proofs.LedRows.{in_order}
use Rattle.ckpt_step.specs.Parts.{IsPart, IsParted, LieIn, has_rows, part_leaves, part_of, rows_behind}
use Rattle.ckpt_step.proofs.Behind.{leaf_behind as rows_there, parted_whole}
use Rattle.ckpt_step.proofs.Links.{no_rows, some_rows}
use Rattle.ckpt_step.proofs.Members.{all_of, map_member, none_some}
use Rattle.ckpt_step.proofs.TableLeaves.{member_of, table_in}
use Rattle.engine_store.specs.Loads.{low_behind}
use Rattle.engine_store.proofs.LeafBehind.{entries_in, under_in}
use Rattle.engine_store.proofs.EntryParts.{links_joined, none_written, part_none, part_one, tree_fits}

-- ---- its leaves

module _ (bytes : List ℕ) (d : Directory) (is_dir : IsDirectory d) (n : ℕ) (place : TreePlace) (tree : TableTree) (has : HasTree bytes place.root tree) (is : IsPlaceOf place tree) (lead : LeadApart place.leaves.items)
    (own : entries_in (leaves_of n d.leaves) ≡ bottom (root_own place.root) tree.layers) (fits : LinkFits place.root.link) where
  abbrev es : List Entry
  es = bottom (root_own place.root) tree.layers

  among : (l : Leaf) → Contains d.leaves l → l.table ≡ n → Member l.entry es
  among l there its = subst (λ (m : List Entry). Member l.entry m) own (map_member {A = Leaf} {B = Entry} (λ x. x.entry) l (leaves_of n d.leaves) (table_in n d.leaves l (member_of d.leaves l there) its))

  -- a link that leads to rows leads to its own
  pub behind_is : (l : Leaf) → Contains d.leaves l → l.table ≡ n → has_rows l.entry.link ≡ true → LeafIs bytes l.entry.link (rows_behind place.leaves.items tree.leaves l.entry.link)
  behind_is l there its some =
      subst (λ (links : List Link). LeafIs bytes l.entry.link (rows_behind links tree.leaves l.entry.link)) (sym is.leaves)
      (rows_there bytes es tree.leaves l.entry.link has.is.bear (subst LeadApart is.leaves lead)
      (all_back (λ (b : Block). IsAddressed b) (inner_blocks table_kind (root_own place.root) tree.layers) (leaf_blocks table_kind es tree.leaves) has.addressed)
      (all_back (λ (b : Block). IsAt bytes b) (inner_blocks table_kind (root_own place.root) tree.layers) (leaf_blocks table_kind es tree.leaves) has.holds)
      (map_member {A = Entry} {B = Link} (λ e. e.link) l.entry es (among l there its)) some)

  -- the rows to which an entry leads, which the device has of its leaf
  abbrev pub rows_of : Entry → List Row
  rows_of e = led_in es tree.leaves e

  many : (own : List Entry) (leaves : List (List Row)) → AllBear table_kind own leaves → length leaves ≡ length own
  many [] [] bear = refl
  many [] (rows ∷ leaves) bear = absurd bear
  many (e ∷ own) [] bear = absurd bear
  many (e ∷ own) (rows ∷ leaves) bear = ap suc (many own leaves bear.1)

  pub under : (l : Leaf) → Contains d.leaves l → l.table ≡ n → IsUnder bytes l.entry (low_behind l.id d.leaves) (rows_of l.entry)
  under l there its = under_in d is_dir bytes rows_of n es own (subst (AreLeaves bytes es None) (sym (in_order es tree.leaves has.is.parts.0 (many es tree.leaves has.is.bear))) (tree_leaves bytes place.root tree has)) l there its

  -- they are the rows that the device has of the leaf
  pub rows_are : (l : Leaf) (there : Contains d.leaves l) (its : l.table ≡ n) → join (part_leaves place tree (part_of none_written l)) ≡ (rows_of l.entry)
  rows_are l there its = elim (cases_Bool (has_rows l.entry.link)) [
    | inl some ↦
        ap (λ (part : List Entry). join (part_leaves place tree part)) (part_one l some)
        ∙ (append-nil (rows_behind place.leaves.items tree.leaves l.entry.link)
        ∙ one_leaf bytes l.entry.link (rows_behind place.leaves.items tree.leaves l.entry.link) (rows_of l.entry) (behind_is l there its some) (under l there its).leaf)
    | inr none ↦
        ap (λ (part : List Entry). join (part_leaves place tree part)) (part_none l none)
        ∙ sym (no_row (rows_of l.entry) (under l there its).leaf none)
  ]
    where
      no_row : (rows : List Row) → LeafIs bytes l.entry.link rows → has_rows l.entry.link ≡ false → rows ≡ []
      no_row [] leaf none = refl
      no_row (r ∷ rows) leaf none = absurd (false≢true (sym none ∙ some_rows (root_entry l.entry.link) (r ∷ rows) leaf.bears (omega arith)))

  -- ---- and their keys

  lies : (l : Leaf) (low : Option (List ℕ)) (rows : List Row) → Contains d.leaves l → l.table ≡ n → low_behind l.id d.leaves ≡ low → AreUnder l.entry low rows → LieIn d.leaves n l rows
  lies l low [] there its same keys = tt
  lies l low (r ∷ rows) there its same keys = (
    has-under d is_dir n r.0 l (record { there = there; table = its; from = keys.0.0; to = subst (λ (k : Option (List ℕ)). IsTrue (ends_below k r.0)) (sym (low_is (leaf_behind l.id d.leaves) ∙ same)) keys.0.1 }),
    lies l low rows there its same keys.1,
  )
    where
      low_is : (o : Option Leaf) → low_key o ≡ option_map (λ (x : Leaf). x.entry.key) o
      low_is None = refl
      low_is (Some x) = refl

  leaf_lies : (l : Leaf) (there : Contains d.leaves l) (its : l.table ≡ n) → LieIn d.leaves n l (rows_of l.entry)
  leaf_lies l there its = lies l (low_behind l.id d.leaves) (rows_of l.entry) there its refl (under l there its).keys

  -- ---- a part

  fits_in : (l : Leaf) → Contains d.leaves l → l.table ≡ n → EntryFits l.entry
  fits_in l there its = all_of EntryFits es l.entry (tree_fits bytes place tree has fits) (among l there its)

  part_is : (l : Leaf) → Contains d.leaves l → l.table ≡ n → IsPart d.leaves n l (part_of none_written l) (part_leaves place tree (part_of none_written l))
  part_is l there its = elim (cases_Bool (has_rows l.entry.link)) [
    | inl some ↦ subst (λ (part : List Entry). IsPart d.leaves n l part (part_leaves place tree part)) (sym (part_one l some)) (full some)
    | inr none ↦ subst (λ (part : List Entry). IsPart d.leaves n l part (part_leaves place tree part)) (sym (part_none l none)) empty
  ]
    where
      empty : IsPart d.leaves n l [] []
      empty = record { fit = tt; climbs = tt; begins = tt; stay = tt; full = tt; some = tt; rows_fit = record { fit = tt; ascend = tt }; lie = tt }

      full : has_rows l.entry.link ≡ true → IsPart d.leaves n l (l.entry ∷ []) (rows_behind place.leaves.items tree.leaves l.entry.link ∷ [])
      full some =
          let own_rows = rows_behind place.leaves.items tree.leaves l.entry.link in
          let leaf = behind_is l there its some in
          let u = under l there its in
          let same : own_rows ≡ (rows_of l.entry) = one_leaf bytes l.entry.link own_rows (rows_of l.entry) leaf u.leaf in
          let all : own_rows ++ [] ≡ own_rows = append-nil own_rows in
          record {
            fit = (fits_in l there its, tt);
            climbs = tt;
            begins = refl;
            stay = (subst (λ (rows : List Row). AreUnder l.entry None rows) (sym same) (open_end l.entry (low_behind l.id d.leaves) (rows_of l.entry) u.keys), tt);
            full = ((λ row first. absurd (none_some first)), tt);
            some = (row_there own_rows leaf some, tt);
            rows_fit = subst AreFit (sym all) (record { fit = leaf.bears.leaf.fit; ascend = leaf.bears.leaf.ascend });
            lie = subst (LieIn d.leaves n l) (sym (all ∙ same)) (leaf_lies l there its);
          }
        where
          row_there : (rows : List Row) → LeafIs bytes l.entry.link rows → has_rows l.entry.link ≡ true → 1 ≤ length rows
          row_there [] leaf some = absurd (false≢true (sym (no_rows (root_entry l.entry.link) leaf.bears) ∙ some))
          row_there (r ∷ rows) leaf some = omega arith

          open_end : (e : Entry) (low : Option (List ℕ)) (rows : List Row) → AreUnder e low rows → AreUnder e None rows
          open_end e low [] keys = tt
          open_end e low (r ∷ rows) keys = ((keys.0.0, refl), open_end e low rows keys.1)

  pub parted : IsParted [] d.leaves n none_written place tree
  parted = parted_whole d.leaves n none_written place tree (ap (filter has_rows) (is.leaves ∙ ap links_in (sym own)) ∙ links_joined (leaves_of n d.leaves)) part_is
