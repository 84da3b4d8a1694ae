-- The leaves of an engine that has read none, with what an opening keeps of the history: the rows of their blocks show the newest version of each key, and the history has the older ones.
use Rattle.std.proofs.Common.{◌≡◌, ◌≤◌, ◌<◌, ℕ, true, false, List, [], ◌∷◌, map, Option, Some, None, refl, sym, ap, subst, ◌∙◌, inl, inr, arith}
use Rattle.std.specs.Prelude.{◌≢◌, Bool, filter, is_some, not}
use Rattle.std.specs.List.{AllByRecursion, Contains}
use Rattle.std.proofs.lemmas.Bool.{cases_Bool, false≢true, false_from_ne_true}
use Rattle.item.specs.declared.Change.{Change}
use Rattle.stamp.specs.declared.Name.{Name}
use Rattle.stamp.specs.declared.Version.{Version}
use Rattle.kv_model.specs.AgreementLaws.{head_of}
use Rattle.kv_model.specs.Content.{Content, IsLayered, base, is_kept_version}
use Rattle.kv_model.specs.History.{has_table, line, name_eq}
use Rattle.kv_model.specs.Holds.{Descends, Member}
use Rattle.kv_model.specs.Machine.{of_some}
use Rattle.kv_model.specs.OpeningLaws.{cell_of, kept_records_of}
use Rattle.kv_model.specs.Ordered.{NameBelow, Older}
use Rattle.kv_model.specs.Regular.{IsRegular}
use Rattle.kv_model.proofs.Capturing.{member-out}
use Rattle.kv_model.proofs.ContentKeys.{at-there, placed-cell}
use Rattle.kv_model.proofs.Opening.{at-placed, of-key-from}
use Rattle.kv_model.proofs.Releases.{name_eq-same}
use Rattle.row_page.specs.Rows.{Row}
use Rattle.reconcile.specs.Shows.{shown_at}
use Rattle.leaf_rows.specs.Contents.{seen_rows}
use Rattle.leaf_rows.specs.declared.marks.Marks.{Marks}
use Rattle.stored.specs.HistoryTree.{HistoryRecord, record_in}
use Rattle.stored.specs.Stored.{tables_of as record_tables}
use Rattle.stored.specs.Tree.{join}
use Rattle.catalog.specs.Opens.{AreRecorded}
use Rattle.device_leaf.specs.declared.place.Place.{Place}
use Rattle.reconcile.specs.declared.image.Moved.{Moved}
use Rattle.reconcile.specs.Moving.{versions_in}
use Rattle.tree_dir.specs.declared.leaf.Leaf.{Leaf}
use Rattle.tree_dir.specs.Leaves.{leaf_named, leaf_under}
use Rattle.tree_dir.proofs.Parting.{ids-name}
use Rattle.recover_open.specs.declared.wholes.Whole.{Whole}
use Rattle.recover_open.specs.Bare.{marks_of}
use Rattle.ckpt_content.specs.Opened.{IsLineOf}
use Rattle.ckpt_content.proofs.OpenedKeys.{opened_lines}
use Rattle.engine_world.specs.Stands.{Engine}
use Rattle.engine_world.specs.Systems.{AreNewest, StartsOnDevice}
use Rattle.engine_world.proofs.Homes.{lies-or-not}
use Rattle.engine_start.specs.declared.table_entries.TableEntries.{TableEntries}
use Rattle.engine_start.specs.EntryLaws.{BareLeavesStart, IsLeafOfCells, LeavesHaveCells}
use Rattle.engine_start.specs.Entries.{IsUnread, StartsOn, kept_of, shelf_of}
use Rattle.evict_step.specs.Backs.{is_again, unlike}
use Rattle.evict_step.specs.Kept.{Lists, but_rows, is_row, list_of, older_in, records_in, version_eq}
use Rattle.evict_step.proofs.Again.{filtered_none, row_again, shown_row, version_there}
use Rattle.kept_open.specs.Keeping.{KeepsNoOthers, KeepsRecords}
use Rattle.kept_open.specs.Laws.{AreOf, NoOthersOpen, RowsOpen}
use Rattle.kept_open.specs.Opening.{opened_rows, shows}
use Rattle.engine_store.specs.Marked.{IsLeafKept}
use Rattle.engine_store.specs.Tables.{AreWithEntries}
use Rattle.engine_store.proofs.KeptLeaves.{leaf_kept, named_there}
use Rattle.engine_store.proofs.OpenedEngine.{apart, content, has_marks, led, led_content, led_leaves, led_parted, records_are}
use Rattle.engine_store.proofs.SurveyedTrees.{IsSurveyedOf}

all_from : {A : Type 0} (P : A → Type 0) (xs : List A) → ((x : A) → Member x xs → P x) → AllByRecursion P xs
all_from P [] each = tt
all_from P (x ∷ xs) each = (each x (inl refl), all_from P xs (λ y there. each y (inr there)))

filtered_alike : (one two : Moved → Bool) (moved : List Moved) → ((m : Moved) → Member m moved → one m ≡ two m) → filter one moved ≡ filter two moved
filtered_alike one two [] same = refl
filtered_alike one two (m ∷ moved) same =
    let first = same m (inl refl) in
    let rest = filtered_alike one two moved (λ x there. same x (inr there)) in
    elim (cases_Bool (two m)) [
      | inl stays ↦ (let also = first ∙ stays in rw (stays, also) (ap (λ (l : List Moved). m ∷ l) rest))
      | inr goes ↦ (let also = first ∙ goes in rw (goes, also) rest)
    ]

name_whole : (x y : Name) → name_eq x y ≡ true → x ≡ y
name_whole x y is =
    let e = name_eq-same x y is in
    ap (λ (r : ℕ). let n : Name = record { run = r; id = x.id } in n) e.0 ∙ ap (λ (i : ℕ). let n : Name = record { run = y.run; id = i } in n) e.1

not_below : (x : Name) → NameBelow x x → ⊥
not_below x (inl runs) = omega (arith, runs)
not_below x (inr ids) = let l = ids.1 in omega (arith, l)

-- of versions newest first one has a name
one_named : (l : List (Version Change)) (v w : Version Change) → Descends Older l → Member v l → Member w l → v.window.name ≡ w.window.name → v ≡ w
one_named [] v w down at also same = absurd at
one_named (x ∷ l) v w down (inl one) (inl two) same = one ∙ sym two
one_named (x ∷ l) v w down (inl one) (inr two) same =
    absurd (not_below x.window.name (subst (λ (n : Name). NameBelow n x.window.name) (sym same ∙ ap (λ (y : Version Change). y.window.name) one) (down.0 w two)))
one_named (x ∷ l) v w down (inr one) (inl two) same =
    absurd (not_below x.window.name (subst (λ (n : Name). NameBelow n x.window.name) (same ∙ ap (λ (y : Version Change). y.window.name) two) (down.0 v one)))
one_named (x ∷ l) v w down (inr one) (inr two) same = one_named l v w down.1 one two same

head_there : (l : List (Version Change)) (v : Version Change) → head_of l ≡ Some v → Member v l
head_there [] v is = let clash : None ≡ Some v = is in absurd cc
head_there (x ∷ l) v is = let same : x ≡ v = cc in inl (sym same)

-- ---- of a device that was surveyed

module _ (bytes : List ℕ) (place : Place) (a : Whole) (of : IsSurveyedOf bytes place a) (both : List TableEntries) (with : AreWithEntries both a.record.tables a.uppers.items) (recorded : AreRecorded (record_tables a.record.tables) a.record.next_table)
    (e : Engine) (unread : IsUnread (marks_of a.record) both e) (kept : Lists) (keeps : KeepsRecords (marks_of a.record) a.record.snapshot.ids a.history.records.items e.hub.dir.leaves kept) (others : KeepsNoOthers e.hub.dir.leaves kept) where
  abbrev pub m : Marks
  m = marks_of a.record

  abbrev pub ids : List ℕ
  ids = a.record.snapshot.ids

  abbrev pub c : Content
  c = content bytes place a of both with recorded

  abbrev pub rows_of : Leaf → List Row
  rows_of l = led bytes place a of both with recorded l.table l.entry

  abbrev pub list : Leaf → List Moved
  list l = list_of kept l.id

  abbrev pub opened_leaf : Option Leaf → List Row
  opened_leaf None = []
  opened_leaf (Some l) = opened_rows (seen_rows m ids (rows_of l)) (list l)

  -- the shelf has what an opening keeps, with the first versions of other keys
  abbrev pub shelf : ℕ → List Row
  shelf id = opened_leaf (leaf_named id e.hub.dir.leaves)

  pub shelved : (l : Leaf) → Contains e.hub.dir.leaves l → shelf l.id ≡ opened_rows (seen_rows m ids (rows_of l)) (list l)
  shelved l there = ap opened_leaf (ids-name e.hub.dir unread.dir l there)

  none_named : (id : ℕ) → e.hub.dir.next ≤ id → leaf_named id e.hub.dir.leaves ≡ None
  none_named id late = by (leaf_named id e.hub.dir.leaves) refl
    where
      by : (o : Option Leaf) → leaf_named id e.hub.dir.leaves ≡ o → o ≡ None
      by None is = refl
      by (Some l) is =
          let at = named_there id e.hub.dir.leaves l is in
          let below : l.id < e.hub.dir.next = subst (λ (x : Leaf). x.id < e.hub.dir.next) at.0.2 (unread.dir.below at.0.0 l at.0.1) in
          absurd (let same = at.1 in omega (arith, late, below, same))

  pub bare : (id : ℕ) → e.hub.dir.next ≤ id → shelf id ≡ []
  bare id late = ap opened_leaf (none_named id late)

  pub falls : (l : Leaf) → Contains e.hub.dir.leaves l → has_table c.tables l.table ≡ true → (key : List ℕ) → Descends Older (records_in kept l.id key)
  falls l there known key = elim (lies-or-not e.hub.dir l key unread.dir there) [
    | inl under ↦ (keeps c (has_marks bytes place a of both with recorded) (records_are bytes place a of both with recorded) l there known key under).descends
    | inr away ↦ subst (λ (vs : List (Version Change)). Descends Older vs) (sym (others.keys l there key away)) tt
  ]

  -- the cells of its keys are its rows
  pub has_cells : LeavesHaveCells → (l : Leaf) → Contains e.hub.dir.leaves l → IsLeafOfCells (led bytes place a of both with recorded) c e.hub.dir.leaves l
  has_cells cells l there = subst (λ (x : Content). IsLeafOfCells (led bytes place a of both with recorded) x e.hub.dir.leaves l) (led_content bytes place a of both with recorded)
      (cells m ids (led bytes place a of both with recorded) (map {A = HistoryRecord} record_in (join of.history.leaves)) both e (apart bytes place a of both with recorded) (led_parted bytes place a of both with recorded) unread l there)

  abbrev pub begun_kept : LeavesHaveCells → (l : Leaf) → Contains e.hub.dir.leaves l → IsLeafKept bytes e.hub.dir m ids kept shelf l
  begun_kept cells l there =
      leaf_kept both e.hub.dir unread.dir (apart bytes place a of both with recorded) unread.added bytes (led bytes place a of both with recorded) (led_leaves bytes place a of both with recorded) m ids kept shelf shelved
      (λ x at. falls x at (has_cells cells x at).known) l there

  -- ---- a leaf

  module _ (cells : LeavesHaveCells) (is_regular : IsRegular c) (layered : IsLayered c) (l : Leaf) (there : Contains e.hub.dir.leaves l) where
    own : IsLeafOfCells (led bytes place a of both with recorded) c e.hub.dir.leaves l
    own = has_cells cells l there

    are_of : (key : List ℕ) → leaf_under l.table key e.hub.dir.leaves ≡ Some l → AreOf c m ids l.table key (rows_of l) (list l)
    are_of key under = record {
      regular = is_regular;
      layered = layered;
      marks = has_marks bytes place a of both with recorded;
      there = own.known;
      fit = own.fit;
      cell = sym (own.cells key under);
      kept = keeps c (has_marks bytes place a of both with recorded) (records_are bytes place a of both with recorded) l there own.known key under;
    }

    -- a version that is kept of the leaf is of a key that lies in it
    lies : (v : Moved) → Member v (list l) → leaf_under l.table v.key e.hub.dir.leaves ≡ Some l
    lies v at = elim (lies-or-not e.hub.dir l v.key unread.dir there) [
      | inl under ↦ under
      | inr away ↦ absurd (subst (λ (vs : List (Version Change)). Member v.version vs) (others.keys l there v.key away) (version_there (list l) v at))
    ]

    kept_of_key : (v : Moved) → Member v (list l) → Member v.version (kept_records_of c l.table v.key)
    kept_of_key v at = (are_of v.key (lies v at)).kept.from v.version (version_there (list l) v at)

    -- and its key has a row in the block
    rowed : AllByRecursion (λ (v : Moved). shows (rows_of l) v.key ≡ true) (list l)
    rowed = all_from (λ (v : Moved). shows (rows_of l) v.key ≡ true) (list l) (λ v at.
        let p = of-key-from l.table v.key (filter (is_kept_version c) c.records) v.version (kept_of_key v at) in
        let o = member-out (is_kept_version c) c.records p.0 p.1 in
        let q = layered p.0 o.0 o.1 in
        let place_of = at-placed l.table v.key p.0 p.2 in
        let here = at-placed p.0.table p.0.key q.0 q.2 in
        let cell : cell_of c l.table v.key ≡ Some q.0.version = placed-cell c is_regular l.table v.key q.0 q.1 (at-there l.table v.key q.0 (here.0 ∙ place_of.0) (here.1 ∙ place_of.1)) in
        ap (λ (o : Option (Version Change)). is_some o) (sym (own.cells v.key (lies v at)) ∙ cell))

    module _ (rows_law : RowsOpen) (nothing : NoOthersOpen) where
      opens : (key : List ℕ) → leaf_under l.table key e.hub.dir.leaves ≡ Some l → AreNewest (line (base c) l.table key) (shown_at key (shelf l.id)) (versions_in key (unlike (shelf l.id) (list l)))
      opens key under = subst (λ (rows : List Row). AreNewest (line (base c) l.table key) (shown_at key rows) (versions_in key (unlike rows (list l)))) (sym (shelved l there)) (rows_law c m ids l.table key (rows_of l) (list l) (are_of key under))

      -- one that has the name of its key's row is that row
      again_row : (v : Moved) → Member v (list l) → is_again (shelf l.id) v ≡ is_row (shelf l.id) v
      again_row v at = by (shown_at v.key (shelf l.id)) refl
        where
          under : leaf_under l.table v.key e.hub.dir.leaves ≡ Some l
          under = lies v at

          lined : IsLineOf c l.table v.key (line (base c) l.table v.key)
          lined = opened_lines c l.table v.key is_regular layered own.known

          by : (o : Option (Version Change)) → shown_at v.key (shelf l.id) ≡ o → is_again (shelf l.id) v ≡ is_row (shelf l.id) v
          by None none = ap (λ (o : Option (Version Change)). of_some false (λ (x : Version Change). name_eq x.window.name v.version.window.name) o) none ∙ sym (ap (λ (o : Option (Version Change)). of_some false (λ (x : Version Change). version_eq x v.version) o) none)
          by (Some x) some = elim (cases_Bool (name_eq x.window.name v.version.window.name)) [
            | inl same ↦
                let top : Member x (line (base c) l.table v.key) = head_there (line (base c) l.table v.key) x (sym (opens v.key under).newest ∙ some) in
                let also : Member v.version (line (base c) l.table v.key) = lined.into v.version (inr (kept_of_key v at)) in
                let one : x ≡ v.version = one_named (line (base c) l.table v.key) x v.version lined.descends top also (name_whole x.window.name v.version.window.name same) in
                let row : is_row (shelf l.id) v ≡ true = shown_row (shelf l.id) v (some ∙ ap (λ (y : Version Change). Some y) one) in
                row_again (shelf l.id) v row ∙ sym row
            | inr differ ↦
                let not_name : is_again (shelf l.id) v ≡ false = ap (λ (o : Option (Version Change)). of_some false (λ (y : Version Change). name_eq y.window.name v.version.window.name) o) some ∙ differ in
                let not_row : is_row (shelf l.id) v ≡ false = false_from_ne_true (is_row (shelf l.id) v) (λ row. false≢true (sym not_name ∙ row_again (shelf l.id) v row)) in
                not_name ∙ sym not_row
          ]

      same : unlike (shelf l.id) (list l) ≡ but_rows (shelf l.id) (list l)
      same = filtered_alike (λ v. not (is_again (shelf l.id) v)) (λ v. not (is_row (shelf l.id) v)) (list l) (λ v at. ap not (again_row v at))

      -- so the leaf starts on the device
      starts : l.frame ≡ None → StartsOnDevice c shelf (older_in shelf kept) e.hub.dir.leaves l
      starts free = record {
        none = free;
        keys = λ key under. subst (λ (moved : List Moved). AreNewest (line (base c) l.table key) (shown_at key (shelf l.id)) (versions_in key moved)) same (opens key under);
        bare = λ key away.
            let none_kept : versions_in key (list l) ≡ [] = others.keys l there key away in (
              subst (λ (rows : List Row). shown_at key rows ≡ None) (sym (shelved l there)) (nothing m ids key (rows_of l) (list l) (own.bare key away) none_kept).shown,
              filtered_none (λ v. not (is_row (shelf l.id) v)) key (list l) none_kept,
            );
      }

  -- ---- all leaves

  -- none is in a frame
  free : BareLeavesStart → (l : Leaf) → Contains e.hub.dir.leaves l → l.frame ≡ None
  free law l there = ((law m ids (led bytes place a of both with recorded) (shelf_of m ids (led bytes place a of both with recorded) e.hub.dir.leaves) both e (apart bytes place a of both with recorded) (led_parted bytes place a of both with recorded) unread
      (λ x at. ap (λ (o : Option Leaf). kept_of m ids (led bytes place a of both with recorded) o) (ids-name e.hub.dir unread.dir x at))).leaves l there).none

  pub starts_on : LeavesHaveCells → BareLeavesStart → RowsOpen → NoOthersOpen → IsRegular c → IsLayered c → StartsOn c shelf (older_in shelf kept) e
  starts_on cells law rows_law nothing is_regular layered = record {
    leaves = λ l there. starts cells is_regular layered l there rows_law nothing (free law l there);
    unused = λ id late key. ap (λ (moved : List Moved). versions_in key (but_rows (shelf id) moved)) (others.ids id (none_named id late));
  }

  pub all_rowed : LeavesHaveCells → IsRegular c → IsLayered c → (l : Leaf) → Contains e.hub.dir.leaves l → AllByRecursion (λ (v : Moved). shows (rows_of l) v.key ≡ true) (list l)
  all_rowed cells is_regular layered l there = rowed cells is_regular layered l there
