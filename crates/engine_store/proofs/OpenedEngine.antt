-- The engine that begins on what was surveyed of a device that reads, and the world for which it stands.
use Rattle.std.proofs.Common.{◌≡◌, ℕ, suc, List, [], ◌∷◌, length, map, Option, Some, None, refl, sym, ap, subst, ◌∙◌, inr}
use Rattle.std.specs.Prelude.{option_map, slice_get}
use Rattle.std.specs.List.{AllByRecursion}
use Rattle.kv_model.specs.Content.{Content, descending, table_lt}
use Rattle.kv_model.specs.History.{Table}
use Rattle.kv_model.specs.Holds.{Member}
use Rattle.kv_model.specs.Regular.{AllApart, IsRegular, SameNumber}
use Rattle.catalog.specs.Opens.{AreRecorded}
use Rattle.kv_model.proofs.Sorting.{descending-member}
use Rattle.row_page.specs.Rows.{Row}
use Rattle.leaf_rows.specs.declared.marks.Marks.{Marks}
use Rattle.stored.specs.Stored.{Reads, content_of, tables_of as record_tables}
use Rattle.stored.specs.HistoryTree.{HistoryRecord, record_in}
use Rattle.stored.specs.Tree.{AllBear, join}
use Rattle.stored.specs.TableTree.{Entry, table_kind}
use Rattle.device_leaf.specs.declared.place.Place.{Place}
use Rattle.tree_dir.specs.declared.leaf.Leaf.{Leaf}
use Rattle.tree_dir.specs.Leaves.{leaves_of}
use Rattle.recover_open.specs.declared.wholes.Whole.{Whole}
use Rattle.recover_open.specs.Bare.{marks_of}
use Rattle.recover_open.specs.Leaves.{AreLeaves}
use Rattle.wt_calls.specs.declared.system_call.SystemCall.{SystemCall}
use Rattle.wt_calls.specs.Calls.{system_call_in}
use Rattle.kv_model.specs.Calls.{Call}
use Rattle.engine_world.specs.Stands.{Engine, Stands}
use Rattle.engine_world.specs.Systems.{first_world}
use Rattle.engine_world.specs.Worlds.{Records}
use Rattle.engine.specs.Directories.{HubGoesOn, LeavesGoOn}
use Rattle.engine_start.specs.declared.table_entries.TableEntries.{TableEntries}
use Rattle.engine_start.specs.Contents.{TableLeaf, content_with}
use Rattle.engine_start.specs.Entries.{AllBorne, HaveLeaves, IsContentOf, IsParted, IsUnread, Led, entries_of, led_by, leaves_led, tables_of, whole_tables}
use Rattle.engine_start.proofs.LedRows.{are_led, borne_part}
use Rattle.engine_start.proofs.Placing.{member_turned}
use Rattle.engine_start.proofs.TablesAdded.{member_table}
use Rattle.kept_open.specs.Keeping.{HasMarks}
use Rattle.ckpt_step.proofs.Members.{member_at}
use Rattle.engine_store.specs.Tables.{AreWithEntries}
use Rattle.engine_store.proofs.BorneTables.{all_borne, all_leaves, content_joined, have_many, leaves_by, leaves_in, tables_with}
use Rattle.engine_store.proofs.KeptLeaves.{own_entries}
use Rattle.engine_store.proofs.LeafBehind.{entries_in}
use Rattle.engine_store.proofs.SurveyedTrees.{IsSurveyedOf, old_of}

-- what is read of a device is regular
abbrev pub ReadsAreRegular : Type 0
ReadsAreRegular = (bytes : List ℕ) (c : Content) → Reads bytes c → IsRegular c

-- ---- of an engine that has read no leaf

leaves_many : (es : List Entry) (leaves : List (List Row)) → AllBear table_kind es leaves → length leaves ≡ length es
leaves_many [] [] bear = refl
leaves_many [] (rows ∷ leaves) bear = absurd bear
leaves_many (e ∷ es) [] bear = absurd bear
leaves_many (e ∷ es) (rows ∷ leaves) bear = ap suc (leaves_many es leaves bear.1)

have_borne : (both : List TableEntries) (all : List (List (List Row))) → AllBorne both all → HaveLeaves both all
have_borne [] [] borne = tt
have_borne [] (leaves ∷ all) borne = absurd borne
have_borne (t ∷ both) [] borne = absurd borne
have_borne (t ∷ both) (leaves ∷ all) borne = (borne.0.table.climbs, leaves_many (entries_of t) leaves borne.0.bear, have_borne both all borne.1)

module _ (bytes : List ℕ) (place : Place) (a : Whole) (of : IsSurveyedOf bytes place a) (both : List TableEntries) (with : AreWithEntries both a.record.tables a.uppers.items) (recorded : AreRecorded (record_tables a.record.tables) a.record.next_table) where
  abbrev all : List (List (List Row))
  all = leaves_in of.trees

  -- the rows to which the entries lead
  abbrev pub led : Led
  led = led_by both all

  pub apart : AllApart SameNumber (tables_of both)
  apart = subst (λ (ts : List Table). AllApart SameNumber ts) (sym (tables_with both a.record.tables a.uppers.items with)) recorded.once

  borne : AllBorne both all
  borne = all_borne bytes both a.record.tables a.uppers.items of.trees with of.have of.uppers

  pub led_parted : AllByRecursion (IsParted led) both
  led_parted = (borne_part both all apart borne).0

  pub led_leaves : AllByRecursion (λ (t : TableEntries). AreLeaves bytes (entries_of t) None (leaves_led led t)) both
  led_leaves = leaves_by bytes led both all (are_led both all apart (have_borne both all borne)) (all_leaves bytes both a.record.tables a.uppers.items of.trees with of.have of.uppers)

  -- the content of the device
  abbrev pub content : Content
  content = content_of (old_of bytes place a of)

  pub led_content : content_with (marks_of a.record) a.record.snapshot.ids (whole_tables led both) (map {A = HistoryRecord} record_in (join of.history.leaves)) ≡ content
  led_content =
      ap (λ (ls : List TableLeaf). content_with (marks_of a.record) a.record.snapshot.ids ls (map {A = HistoryRecord} record_in (join of.history.leaves))) (borne_part both all apart borne).1
      ∙ content_joined of.slot a.record both a.uppers.items of.trees of.history with (have_many bytes a.record.tables of.trees of.have)

  pub is_content : IsContentOf (marks_of a.record) both content
  is_content = record { run = refl; oldest = refl; stable = refl; tables_are = sym (tables_with both a.record.tables a.uppers.items with) }

  pub has_marks : HasMarks content (marks_of a.record) a.record.snapshot.ids
  has_marks = record { run = refl; stable = refl; snapshot = refl }

  pub records_are : content.records ≡ map {A = HistoryRecord} record_in a.history.records.items
  records_are = ap (λ (l : List HistoryRecord). map {A = HistoryRecord} record_in l) (sym of.read)

  pub regular : ReadsAreRegular → IsRegular content
  regular law = law bytes content (inr (old_of bytes place a of, of.serves.still, refl))

  module _ (e : Engine) (unread : IsUnread (marks_of a.record) both e) where
    pub begun_own : (t : TableEntries) → Member t both → entries_in (leaves_of t.table.number e.hub.dir.leaves) ≡ entries_of t
    begun_own t there = own_entries both e.hub.dir unread.dir apart unread.added t there

-- ---- once leaves have come into frames

entries_go : (leaves next : List Leaf) → LeavesGoOn leaves next → entries_in next ≡ entries_in leaves
entries_go [] [] goes = refl
entries_go [] (n ∷ next) goes = absurd goes
entries_go (l ∷ leaves) [] goes = absurd goes
entries_go (l ∷ leaves) (n ∷ next) goes = ap (λ (e : Entry). e ∷ entries_in next) goes.0.entry ∙ ap (λ (es : List Entry). l.entry ∷ es) (entries_go leaves next goes.1)

-- a table of those that were handed over has a place
pub known_at : (m : Marks) (both : List TableEntries) (e : Engine) → IsUnread m both e → (t : TableEntries) → Member t both → (i : ℕ) × (slice_get e.hub.tables.tables i ≡ Some t.table)
known_at m both e unread t there =
    let sorted : Member t.table (descending table_lt (tables_of both)) = descending-member table_lt (tables_of both) t.table (member_table t both there) in
    member_at t.table e.hub.tables.tables (member_turned t.table e.hub.tables.tables (subst (λ (ts : List Table). Member t.table ts) (sym unread.tables_are) sorted))

pub own_went : (m : Marks) (both : List TableEntries) (e next : Engine) → IsUnread m both e → HubGoesOn e.hub next.hub → ((t : TableEntries) → Member t both → entries_in (leaves_of t.table.number e.hub.dir.leaves) ≡ entries_of t)
    → (t : TableEntries) → Member t both → entries_in (leaves_of t.table.number next.hub.dir.leaves) ≡ entries_of t
own_went m both e next unread goes own t there =
    let at = known_at m both e unread t there in
    entries_go (leaves_of t.table.number e.hub.dir.leaves) (leaves_of t.table.number next.hub.dir.leaves) (goes.dir.kept at.0 t.table at.1) ∙ own t there

-- no call of the system has started in either
none_started : (now was : List (Option SystemCall)) → map (option_map system_call_in) now ≡ map {A = Option SystemCall} {B = Option Call} (λ x. None) was → map {A = Option SystemCall} {B = Option Call} (λ x. None) was ≡ map {A = Option SystemCall} {B = Option Call} (λ x. None) now
none_started [] [] same = refl
none_started [] (x ∷ was) same = absurd (let clash : [] ≡ None ∷ map {A = Option SystemCall} {B = Option Call} (λ x. None) was = same in cc)
none_started (x ∷ now) [] same = absurd (let clash : option_map system_call_in x ∷ map (option_map system_call_in) now ≡ [] = same in cc)
none_started (x ∷ now) (y ∷ was) same =
    let rest : map (option_map system_call_in) now ≡ map {A = Option SystemCall} {B = Option Call} (λ x. None) was = cc in
    ap (λ (l : List (Option Call)). None ∷ l) (none_started now was rest)

-- so it stands for the world with which another one would begin
pub still_first : (c : Content) (shelf : ℕ → List Row) (records : Records) (e next : Engine) → Stands next (first_world c shelf records e) → Stands next (first_world c shelf records next)
still_first c shelf records e next st = subst (λ (l : List (Option Call)). Stands next (record (first_world c shelf records e) { systems = l })) (none_started next.systems e.systems st.systems) st
