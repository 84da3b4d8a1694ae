-- What is kept of each leaf: of each key its records that are kept, newest first.
use Rattle.std.proofs.Common.{◌≡◌, ◌∙◌, ℕ, true, Bool, List, [], ◌∷◌, map, Option, Some, None, refl, sym, ap, subst, inl, inr}
use Rattle.std.specs.Prelude.{◌==◌, ◌&&◌, bytes_eq, filter, IsPermutation}
use Rattle.std.specs.List.{AllByRecursion, Contains}
use Rattle.std.proofs.lemmas.Bool.{and_from, and_parts, eq-eqb}
use Rattle.std.proofs.lemmas.List.Sorted.{IsPermutation-sym}
use Rattle.std.proofs.lemmas.Slice.Eq.{bytes_eq-Decides}
use Rattle.item.specs.declared.Change.{Change}
use Rattle.stamp.specs.declared.Version.{Version}
use Rattle.stamp.specs.declared.version.Window.{Window}
use Rattle.kv_model.specs.Content.{Content, Snapshot, is_kept_version, sees_name}
use Rattle.kv_model.specs.Holds.{Member}
use Rattle.kv_model.specs.History.{Placed, has_table, is_at, is_stable}
use Rattle.kv_model.specs.OpeningLaws.{kept_records_of}
use Rattle.kv_model.proofs.Capturing.{member-into, member-out}
use Rattle.kv_model.proofs.ContentKeys.{of-key-into}
use Rattle.kv_model.proofs.Opening.{at-placed, of-key-from}
use Rattle.row_page.specs.Changes.{version_in}
use Rattle.stored.specs.HistoryTree.{HistoryRecord, RecordFits, record_in}
use Rattle.leaf_rows.specs.declared.marks.Marks.{Marks}
use Rattle.leaf_rows.specs.Contents.{is_seen_window}
use Rattle.reconcile.specs.declared.image.Moved.{Moved}
use Rattle.reconcile.specs.Moving.{versions_in}
use Rattle.tree_dir.specs.declared.leaf.Leaf.{Leaf}
use Rattle.tree_dir.specs.Leaves.{Directory, IsDirectory, leaf_named, leaf_under}
use Rattle.hist_pages.proofs.Members.{all_of, of_all, mapped_member, member_mapped, members_kept}
use Rattle.ckpt_content.specs.Opened.{AreKeptRecords}
use Rattle.evict_step.specs.Kept.{Lists, list_of, records_in}
use Rattle.kept_open.specs.Keeping.{AreOrdered, HasMarks, KeepsNoOthers, KeepsRecords, is_in_leaf, is_kept_record, moved_in, moved_of}
use Rattle.kept_open.proofs.ByLeaf.{from_in, into_in, key_falls, lies_under, own_table, under_id, under_lies}

-- those that are kept and sorted fit
pub all_fit : (test : HistoryRecord → Bool) (records sorted : List HistoryRecord) → AllByRecursion (λ (r : HistoryRecord). RecordFits r) records → IsPermutation (filter test records) sorted → AllByRecursion (λ (r : HistoryRecord). RecordFits r) sorted
all_fit test records sorted fit same =
    all_of (λ (r : HistoryRecord). RecordFits r) sorted
    (λ r there. of_all (λ (x : HistoryRecord). RecordFits x) records r fit (member-out test records r (members_kept r sorted (filter test records) (IsPermutation-sym (filter test records) sorted same) there)).0)

no_member : {A : Type 0} (l : List A) → ((x : A) → Member x l → ⊥) → l ≡ []
no_member [] none = refl
no_member (x ∷ l) none = absurd (none x (inl refl))

-- the content says of a version what the marks say of its window
pub marks_say : (c : Content) (m : Marks) (ids : List ℕ) → HasMarks c m ids → (v : Version Change) → (sees_name c.run c.snapshot v.window.name && is_stable c.stable v) ≡ is_seen_window m ids v.window
marks_say c m ids has v =
    ap (λ (n : ℕ). sees_name n c.snapshot v.window.name && is_stable c.stable v) has.run
    ∙ (ap (λ (s : Snapshot). sees_name m.run s v.window.name && is_stable c.stable v) has.snapshot
    ∙ ap (λ (n : ℕ). sees_name m.run (record { min = m.min; max = m.max; ids = ids }) v.window.name && is_stable n v) has.stable)

module _ (d : Directory) (is : IsDirectory d) (m : Marks) (ids : List ℕ) (records sorted : List HistoryRecord) (ordered : AreOrdered (filter (is_kept_record m ids) records) sorted) (kept : Lists) (lists : (id : ℕ) → list_of kept id ≡ moved_in d.leaves sorted id) where
  -- a record that is sorted is one of those that are kept
  sorted_from : (r : HistoryRecord) → Member r sorted → Member r records × (is_kept_record m ids r ≡ true)
  sorted_from r there = member-out (is_kept_record m ids) records r (members_kept r sorted (filter (is_kept_record m ids) records) (IsPermutation-sym (filter (is_kept_record m ids) records) sorted ordered.same) there)

  sorted_into : (r : HistoryRecord) → Member r records → is_kept_record m ids r ≡ true → Member r sorted
  sorted_into r there keeps = members_kept r (filter (is_kept_record m ids) records) sorted ordered.same (member-into (is_kept_record m ids) records r there keeps)

  module _ (c : Content) (has : HasMarks c m ids) (all : c.records ≡ map {A = HistoryRecord} record_in records) (l : Leaf) (there : Contains d.leaves l) (known : has_table c.tables l.table ≡ true) (key : List ℕ) (under : leaf_under l.table key d.leaves ≡ Some l) where
    from : (v : Version Change) → Member v (versions_in key (moved_in d.leaves sorted l.id)) → Member v (kept_records_of c l.table key)
    from v at =
        let f = from_in d.leaves sorted l.id key v at in
        let s = sorted_from f.found f.there in
        let p : Placed = record_in f.found in
        let table : f.found.table ≡ l.table = own_table d is l there f.found f.lies in
        let keeps : is_kept_version c p ≡ true = and_from (has_table c.tables p.table) (sees_name c.run c.snapshot p.version.window.name && is_stable c.stable p.version)
        (subst (λ (n : ℕ). has_table c.tables n ≡ true) (sym table) known)
        (marks_say c m ids has p.version ∙ s.1) in
        let placed : Member p c.records = subst (λ (ps : List Placed). Member p ps) (sym all) (member_mapped {A = HistoryRecord} record_in f.found records s.0) in
        subst (λ (w : Version Change). Member w (kept_records_of c l.table key)) (sym f.is)
        (of-key-into l.table key (filter (is_kept_version c) c.records) p (member-into (is_kept_version c) c.records p placed keeps)
        (and_from (p.table == l.table) (bytes_eq p.key key) (eq-eqb p.table l.table table) ((bytes_eq-Decides p.key key).1 f.own)))

    into : (v : Version Change) → Member v (kept_records_of c l.table key) → Member v (versions_in key (moved_in d.leaves sorted l.id))
    into v at =
        let p = of-key-from l.table key (filter (is_kept_version c) c.records) v at in
        let o = member-out (is_kept_version c) c.records p.0 p.1 in
        let r = mapped_member {A = HistoryRecord} record_in p.0 records (subst (λ (ps : List Placed). Member p.0 ps) all o.0) in
        let place = at-placed l.table key p.0 p.2 in
        let table : r.0.table ≡ l.table = ap (λ (x : Placed). x.table) (sym r.2) ∙ place.0 in
        let own : r.0.key ≡ key = ap (λ (x : Placed). x.key) (sym r.2) ∙ place.1 in
        let keeps : is_kept_version c (record_in r.0) ≡ true = subst (λ (x : Placed). is_kept_version c x ≡ true) r.2 o.1 in
        let sees = (and_parts (has_table c.tables r.0.table) (sees_name c.run c.snapshot r.0.version.window.name && is_stable c.stable (version_in r.0.version)) keeps).1 in
        let lies : is_in_leaf d.leaves l.id r.0 ≡ true = under_lies d is l there r.0 (ap (λ (n : ℕ). leaf_under n r.0.key d.leaves) table ∙ (ap (λ (k : List ℕ). leaf_under l.table k d.leaves) own ∙ under)) in
        subst (λ (w : Version Change). Member w (versions_in key (moved_in d.leaves sorted l.id))) (sym (p.3 ∙ ap (λ (x : Placed). x.version) r.2))
        (into_in d.leaves sorted l.id key r.0 (sorted_into r.0 r.1 (sym (marks_say c m ids has (version_in r.0.version)) ∙ sees)) lies own)

    are_kept : AreKeptRecords c l.table key (records_in kept l.id key)
    are_kept = subst (λ (list : List Moved). AreKeptRecords c l.table key (versions_in key list)) (sym (lists l.id)) (record {
      from = from;
      into = into;
      descends = key_falls d is l there key sorted ordered.falls;
    })

  pub keeps_records : KeepsRecords m ids records d.leaves kept
  keeps_records c has all l there known key under = are_kept c has all l there known key under

  pub keeps_none : KeepsNoOthers d.leaves kept
  keeps_none = record {
    keys = λ l there key away. ap (λ (list : List Moved). versions_in key list) (lists l.id) ∙ no_member (versions_in key (moved_in d.leaves sorted l.id)) (λ v at.
        let f = from_in d.leaves sorted l.id key v at in
        away (ap (λ (n : ℕ). leaf_under n key d.leaves) (sym (own_table d is l there f.found f.lies)) ∙ (ap (λ (k : List ℕ). leaf_under f.found.table k d.leaves) (sym f.own) ∙ lies_under d is l there f.found f.lies)));
    ids = λ id none. lists id ∙ no_member (moved_in d.leaves sorted id) (λ x at.
        let r = mapped_member {A = HistoryRecord} moved_of x (filter (is_in_leaf d.leaves id) sorted) at in
        let o = member-out (is_in_leaf d.leaves id) sorted r.0 r.1 in
        let u = under_id d is id r.0 o.1 in
        let some : Some u.0 ≡ None = sym u.3 ∙ none in absurd cc);
  }
