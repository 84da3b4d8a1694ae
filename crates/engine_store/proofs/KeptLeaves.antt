-- The leaves of an engine that has read none: what the device has of each, and what an opening keeps of it.
use Rattle.std.proofs.Common.{◌≡◌, ℕ, List, [], ◌∷◌, length, Option, Some, None, refl, sym, ap, subst, ◌∙◌, inl, inr, arith}
use Rattle.std.specs.Prelude.{◌==◌}
use Rattle.std.specs.List.{AllByRecursion, Contains}
use Rattle.std.proofs.lemmas.Bool.{cases_Bool, eqb-true}
use Rattle.kv_model.specs.Holds.{Descends, Member}
use Rattle.kv_model.specs.Regular.{AllApart, SameNumber}
use Rattle.row_page.specs.Rows.{Row}
use Rattle.kv_model.specs.Ordered.{Older}
use Rattle.leaf_rows.specs.Contents.{seen_rows}
use Rattle.leaf_rows.specs.declared.marks.Marks.{Marks}
use Rattle.evict_step.specs.Kept.{Lists, list_of, records_in}
use Rattle.kept_open.specs.Opening.{opened_rows}
use Rattle.stored.specs.Records.{TableRoot}
use Rattle.stored.specs.TableTree.{Entry}
use Rattle.tree_open.specs.declared.place.Upper.{Upper}
use Rattle.tree_dir.specs.declared.leaf.Leaf.{Leaf}
use Rattle.tree_dir.specs.Leaves.{Directory, IsDirectory, leaf_named, leaves_of, leaves_with, no_leaves}
use Rattle.recover_open.specs.Damage.{EntrySpoils}
use Rattle.recover_open.specs.Leaves.{AreLeaves, IsUnder}
use Rattle.engine_start.specs.declared.table_entries.TableEntries.{TableEntries}
use Rattle.engine_start.specs.Entries.{AreAdded, Led, entries_of, leaves_led, tables_of}
use Rattle.engine_start.proofs.TablesAdded.{leaf_added, own_added}
use Rattle.ckpt_step.proofs.Members.{all_of, none_some, some_same}
use Rattle.ckpt_step.proofs.TableLeaves.{contains_of}
use Rattle.engine_store.specs.Loads.{LeafOfSpoils, LeafSpoils, low_behind}
use Rattle.engine_store.specs.Marked.{IsLeafKept}
use Rattle.engine_store.specs.Tables.{AreWithEntries}
use Rattle.engine_store.proofs.BorneTables.{entries_with}
use Rattle.engine_store.proofs.LeafBehind.{entries_in, split_in, under_in}

-- ---- a leaf by its id

pub named_there : (id : ℕ) (leaves : List Leaf) (l : Leaf) → leaf_named id leaves ≡ Some l → Contains leaves l × (l.id ≡ id)
named_there id leaves l is = let one = by leaves is in (contains_of leaves l one.0, one.1)
  where
    by : (leaves : List Leaf) → leaf_named id leaves ≡ Some l → Member l leaves × (l.id ≡ id)
    by [] is = absurd (none_some is)
    by (x ∷ leaves) is = elim (cases_Bool (x.id == id)) [
      | inl here ↦ let same : x ≡ l = some_same (rw here at is) in (inl (sym same), ap (λ (y : Leaf). y.id) (sym same) ∙ eqb-true x.id id here)
      | inr other ↦ let rest = by leaves (rw other at is) in (inr rest.0, rest.1)
    ]

-- ---- of tables that were added

entries_led : (n : ℕ) (ids : List ℕ) (es : List Entry) → length ids ≡ length es → entries_in (leaves_with n ids es) ≡ es
entries_led n [] [] many = refl
entries_led n [] (e ∷ es) many = absurd (omega (arith, many))
entries_led n (id ∷ ids) [] many = absurd (omega (arith, many))
entries_led n (id ∷ ids) (e ∷ es) many = ap (λ (l : List Entry). e ∷ l) (entries_led n ids es (omega (arith, many)))

module _ (both : List TableEntries) (d : Directory) (is : IsDirectory d) (apart : AllApart SameNumber (tables_of both)) (added : AreAdded no_leaves both d) where
  -- the leaves of a table are those of its entries
  pub own_entries : (t : TableEntries) → Member t both → entries_in (leaves_of t.table.number d.leaves) ≡ entries_of t
  own_entries t there =
      let own = own_added no_leaves d both t added apart there in
      ap entries_in own.are ∙ entries_led t.table.number own.ids (entries_of t) own.many

  -- a leaf at fault is that of an entry of a table
  pub spoils_of : (bytes : List ℕ) (tables : List TableRoot) (uppers : List Upper) → AreWithEntries both tables uppers → (id at want found : ℕ) → LeafSpoils bytes d id at want found → LeafOfSpoils bytes uppers at want found
  spoils_of bytes tables uppers with id at want found spoils =
      let there = named_there id d.leaves spoils.leaf spoils.there in
      let its = leaf_added d both spoils.leaf added there.0 in
      let above = upper_of its.0 both tables uppers with its.1 in
      let s = split_in d is its.0.table.number spoils.leaf there.0 its.2 in
      record {
        upper = above.0;
        among = above.1;
        front = s.0.front;
        entry = spoils.leaf.entry;
        others = s.0.others;
        is = sym above.2 ∙ (sym (own_entries its.0 its.1) ∙ s.0.is);
        spoils = subst (λ (k : Option (List ℕ)). EntrySpoils bytes spoils.leaf.entry k at want found) (ap (λ (i : ℕ). low_behind i d.leaves) (sym there.1) ∙ s.1) spoils.spoils;
      }
    where
      upper_of : (t : TableEntries) (both : List TableEntries) (tables : List TableRoot) (uppers : List Upper) → AreWithEntries both tables uppers → Member t both → (u : Upper) × Member u uppers × (entries_of t ≡ u.entries.items)
      upper_of t [] tables uppers with there = absurd there
      upper_of t (x ∷ both) [] uppers with there = absurd with
      upper_of t (x ∷ both) (r ∷ tables) [] with there = absurd with
      upper_of t (x ∷ both) (r ∷ tables) (u ∷ uppers) with (inl same) = (u, inl refl, ap entries_of same ∙ entries_with x r u with.0)
      upper_of t (x ∷ both) (r ∷ tables) (u ∷ uppers) with (inr there) = let later = upper_of t both tables uppers with.1 there in (later.0, inr later.1, later.2)

  module _ (bytes : List ℕ) (led : Led) (leaves : AllByRecursion (λ (t : TableEntries). AreLeaves bytes (entries_of t) None (leaves_led led t)) both) where
    -- the device has it
    pub leaf_under : (l : Leaf) → Contains d.leaves l → IsUnder bytes l.entry (low_behind l.id d.leaves) (led l.table l.entry)
    leaf_under l there =
        let its = leaf_added d both l added there in
        let n = its.0.table.number in
        subst (λ (k : ℕ). IsUnder bytes l.entry (low_behind l.id d.leaves) (led k l.entry)) (sym its.2)
        (under_in d is bytes (led n) n (entries_of its.0) (own_entries its.0 its.1) (all_of (λ (t : TableEntries). AreLeaves bytes (entries_of t) None (leaves_led led t)) both its.0 leaves its.1) l there its.2)

    abbrev pub leaf_kept : (marks : Marks) (ids : List ℕ) (lists : Lists) (shelf : ℕ → List Row) → ((l : Leaf) → Contains d.leaves l → shelf l.id ≡ opened_rows (seen_rows marks ids (led l.table l.entry)) (list_of lists l.id)) → ((l : Leaf) → Contains d.leaves l → (key : List ℕ) → Descends Older (records_in lists l.id key))
        → (l : Leaf) → Contains d.leaves l → IsLeafKept bytes d marks ids lists shelf l
    leaf_kept marks ids lists shelf shelved falls l there = record { rows = led l.table l.entry; under = leaf_under l there; opened = shelved l there; falls = falls l there }
