-- An engine on tables of which no leaf was read begins on what the device has.
use Rattle.std.proofs.Common.{◌≡◌, ◌+◌, ℕ, zero, suc, List, [], ◌∷◌, ◌++◌, length, None, Some, refl, sym, ap, subst, ◌∙◌, inl, inr, arith}
use Rattle.std.specs.Prelude.{Bool, Option, drop, filter, find, map, option_map, reverse, slice_get, true}
use Rattle.std.proofs.lemmas.Bool.{cases_Bool}
use Rattle.std.specs.List.{AllByRecursion, Contains}
use Rattle.std.specs.Option.{option_to_list}
use Rattle.item.specs.declared.change.Change.{Change}
use Rattle.stamp.specs.declared.version.Version.{Version}
use Rattle.kv_model.specs.AgreementLaws.{head_of}
use Rattle.kv_model.specs.Content.{Content, base, descending, table_lt}
use Rattle.kv_model.specs.History.{Entry as Placing, Placed, Table, has_table, is_at, line, of_key}
use Rattle.kv_model.specs.Holds.{Member}
use Rattle.kv_model.specs.Regular.{AllApart, SameNumber}
use Rattle.kv_model.proofs.Sorting.{member-descending}
use Rattle.row_page.specs.Rows.{Row}
use Rattle.leaf_rows.specs.declared.marks.Marks.{Marks}
use Rattle.leaf_rows.specs.Contents.{is_seen_row, seen_rows}
use Rattle.leaf_rows.specs.Rows.{AreFit}
use Rattle.leaf_rows.proofs.Filters.{filter_fit}
use Rattle.reconcile.specs.Shows.{shown_at}
use Rattle.stored.specs.Tree.{join}
use Rattle.stored.specs.TableTree.{Entry, first_key}
use Rattle.tree_dir.specs.declared.leaf.Leaf.{Leaf}
use Rattle.tree_dir.specs.Leaves.{leaf_under, leaves_with, no_leaves}
use Rattle.tree_dir.proofs.Members.{head-in, split}
use Rattle.engine_world.specs.Leaves.{TablesBegun}
use Rattle.engine_world.specs.Stands.{Engine}
use Rattle.txn_table.specs.Tabled.{fresh}
use Rattle.engine_world.specs.Systems.{AreNewest, Begins, StartsOnDevice}
use Rattle.engine_world.specs.Worlds.{Records}
use Rattle.engine_start.specs.declared.table_entries.TableEntries.{TableEntries}
use Rattle.engine_start.specs.ContentLaws.{SeenStay}
use Rattle.engine_start.specs.Contents.{TableLeaf, cells_in, content_with, leaves_content_with, seen_leaf, seen_leaves, tables_in}
use Rattle.engine_start.specs.Entries.{IsContentOf, IsParted, IsShelf, IsUnread, Led, StartsOn, entries_of, leaves_led, tables_of, whole_table, whole_tables}
use Rattle.engine_start.specs.EntryLaws.{BareLeavesStart, IsLeafOfCells, LeavesHaveCells, UnreadBegin}
use Rattle.engine_start.proofs.EntryLeaves.{none_elsewhere, shown_under}
use Rattle.engine_start.proofs.Inserting.{turned}
use Rattle.engine_start.proofs.KeyedRows.{joined_fit}
use Rattle.engine_start.proofs.LeafCells.{AllFit, has, leaf_line, of_key_leaf, same_base, tables_seen}
use Rattle.engine_start.proofs.Placing.{leaves_owned}
use Rattle.engine_start.proofs.TablesAdded.{OwnIs, contains_own, leaf_added, none_framed, own_added, own_contains, under_own}

-- ---- members

member_left : {A : Type 0} (x : A) (l others : List A) → Member x l → Member x (l ++ others)
member_left x [] others there = absurd there
member_left x (y ∷ ys) others (inl same) = inl same
member_left x (y ∷ ys) others (inr there) = inr (member_left x ys others there)

member_last : {A : Type 0} (x : A) (l : List A) → Member x (l ++ x ∷ [])
member_last x [] = inl refl
member_last x (y ∷ ys) = inr (member_last x ys)

member_reversed : {A : Type 0} (x : A) (l : List A) → Member x l → Member x (reverse l)
member_reversed x [] there = there
member_reversed {A} x (y ∷ ys) (inl same) = subst (λ (l : List A). Member x l) (sym (turned y ys)) (subst (λ (z : A). Member x (reverse ys ++ z ∷ [])) same (member_last x (reverse ys)))
member_reversed {A} x (y ∷ ys) (inr there) = subst (λ (l : List A). Member x l) (sym (turned y ys)) (member_left x (reverse ys) (y ∷ []) (member_reversed x ys there))

member_at : {A : Type 0} (l : List A) (place : ℕ) (x : A) → slice_get l place ≡ Some x → Member x l
member_at [] place x is = cc
member_at (y ∷ ys) zero x is = let same : y ≡ x = cc in inl (sym same)
member_at (y ∷ ys) (suc place) x is = inr (member_at ys place x is)

-- ---- what an opening keeps of each key

member_seen : (m : Marks) (ids : List ℕ) (l : TableLeaf) (all : List TableLeaf) → Member l all → Member (seen_leaf m ids l) (seen_leaves m ids all)
member_seen m ids l [] there = absurd there
member_seen m ids l (x ∷ all) (inl same) = inl (ap (seen_leaf m ids) same)
member_seen m ids l (x ∷ all) (inr there) = inr (member_seen m ids l all there)

fit_seen : (m : Marks) (ids : List ℕ) (all : List TableLeaf) → AllFit all → AllFit (seen_leaves m ids all)
fit_seen m ids [] fit = tt
fit_seen m ids (l ∷ all) fit = (filter_fit (is_seen_row m ids) l.rows fit.0, fit_seen m ids all fit.1)

seen_line : SeenStay → (m : Marks) (ids : List ℕ) (all : List TableLeaf) (l : TableLeaf) (key : List ℕ) → AllApart SameNumber (tables_in all) → AllFit all → Member l all
    → line (base (leaves_content_with m ids all)) l.table.number key ≡ option_to_list (shown_at key (seen_rows m ids l.rows))
seen_line stay m ids all l key apart fit there =
    ap (λ (h : List Placing). line h l.table.number key) (sym (same_base m ids all (seen_leaves m ids all) refl (stay m ids all)))
    ∙ leaf_line m (seen_leaves m ids all) (seen_leaf m ids l) key (stay m ids all) (subst (λ (ts : List Table). AllApart SameNumber ts) (sym (tables_seen m ids all)) apart) (fit_seen m ids all fit) (member_seen m ids l all there)

-- ---- the tables with all their rows

pub whole_are : (led : Led) (tables : List TableEntries) → tables_in (whole_tables led tables) ≡ tables_of tables
whole_are led [] = refl
whole_are led (t ∷ tables) = ap (λ (ts : List Table). t.table ∷ ts) (whole_are led tables)

pub whole_fit : (led : Led) (tables : List TableEntries) → AllByRecursion (IsParted led) tables → AllFit (whole_tables led tables)
whole_fit led [] parted = tt
whole_fit led (t ∷ tables) parted = (joined_fit (led t.table.number) (entries_of t) parted.0.entries.climbs parted.0.stay parted.0.fit, whole_fit led tables parted.1)

member_whole : (led : Led) (t : TableEntries) (tables : List TableEntries) → Member t tables → Member (whole_table led t) (whole_tables led tables)
member_whole led t [] there = absurd there
member_whole led t (x ∷ tables) (inl same) = inl (ap (whole_table led) same)
member_whole led t (x ∷ tables) (inr there) = inr (member_whole led t tables there)

parted_at : (led : Led) (t : TableEntries) (tables : List TableEntries) → AllByRecursion (IsParted led) tables → Member t tables → IsParted led t
parted_at led t [] parted there = absurd there
parted_at led t (x ∷ tables) parted (inl same) = subst (λ (y : TableEntries). IsParted led y) (sym same) parted.0
parted_at led t (x ∷ tables) parted (inr there) = parted_at led t tables parted.1 there

named_table : (tables : List TableEntries) (t : Table) → Member t (tables_of tables) → (x : TableEntries) × Member x tables × (t ≡ x.table)
named_table [] t there = absurd there
named_table (x ∷ tables) t (inl same) = (x, inl refl, same)
named_table (x ∷ tables) t (inr there) = let later = named_table tables t there in (later.0, inr later.1, later.2)

-- ---- the newest of a list

newest_alone : (versions : List (Version Change)) (row : Option (Version Change)) → versions ≡ option_to_list row → AreNewest versions row []
newest_alone versions None is = record { newest = ap head_of (sym is); others = ap (drop 1) (sym is) }
newest_alone versions (Some v) is = record { newest = ap head_of (sym is); others = ap (drop 1) (sym is) }

first_of : (o : Option (Version Change)) → head_of (option_to_list o) ≡ o
first_of None = refl
first_of (Some v) = refl

found_first : (p : Placed → Bool) (l : List Placed) → option_map (λ (x : Placed). x.version) (find p l) ≡ head_of (map {A = Placed} (λ x. x.version) (filter p l))
found_first p [] = refl
found_first p (x ∷ l) = elim (cases_Bool (p x)) [ inl is ↦ rw is refl | inr isnt ↦ rw isnt (found_first p l) ]

filter_all : (rows : List Row) → filter (λ r. true) rows ≡ rows
filter_all [] = refl
filter_all (r ∷ rows) = ap (λ (l : List Row). r ∷ l) (filter_all rows)

-- ---- the leaf of an entry

led_fit : (led : Entry → List Row) (es : List Entry) (e : Entry) → AllByRecursion (λ (rows : List Row). AreFit rows) (map led es) → Member e es → AreFit (led e)
led_fit led [] e fit there = absurd there
led_fit led (x ∷ es) e fit (inl same) = subst (λ (y : Entry). AreFit (led y)) (sym same) fit.0
led_fit led (x ∷ es) e fit (inr there) = led_fit led es e fit.1 there

member_entry : (number : ℕ) (ids : List ℕ) (es : List Entry) (l : Leaf) → Contains (leaves_with number ids es) l → Member l.entry es
member_entry number [] es l there = absurd (omega (arith, there.1))
member_entry number (id ∷ ids) [] l there = absurd (omega (arith, there.1))
member_entry number (id ∷ ids) (x ∷ es) l there = elim (split (record { id = id; table = number; entry = x; frame = None }) l (leaves_with number ids es) there) [
  | inl same ↦ inl (ap (λ (y : Leaf). y.entry) (sym same))
  | inr later ↦ inr (member_entry number ids es l later)
]

member_its : (t : TableEntries) (tables : List TableEntries) → Member t tables → Member t.table (tables_of tables)
member_its t [] there = absurd there
member_its t (x ∷ tables) (inl same) = inl (ap (λ (y : TableEntries). y.table) same)
member_its t (x ∷ tables) (inr there) = inr (member_its t tables there)

-- ---- the engine

module _ (m : Marks) (led : Led) (tables : List TableEntries) (e : Engine) (apart : AllApart SameNumber (tables_of tables)) (parted : AllByRecursion (IsParted led) tables) (unread : IsUnread m tables e) where
  abbrev leaves : List Leaf
  leaves = e.hub.dir.leaves

  own_of : (t : TableEntries) → Member t tables → OwnIs leaves t
  own_of t there = own_added no_leaves e.hub.dir tables t unread.added apart there

  -- ---- each leaf

  module _ (l : Leaf) (there : Contains leaves l) where
    table_of : (t : TableEntries) × Member t tables × (l.table ≡ t.table.number)
    table_of = leaf_added e.hub.dir tables l unread.added there

    abbrev its_table : TableEntries
    its_table = table_of.0

    its_own : OwnIs leaves its_table
    its_own = own_of its_table table_of.1

    abbrev its_leaves : List Leaf
    its_leaves = leaves_with its_table.table.number its_own.ids (entries_of its_table)

    its_parts : IsParted led its_table
    its_parts = parted_at led its_table tables parted table_of.1

    among_its : Contains its_leaves l
    among_its = subst (λ (ls : List Leaf). Contains ls l) its_own.are (contains_own its_table.table.number leaves l there table_of.2)

    under_its : (key : List ℕ) → leaf_under l.table key leaves ≡ leaf_under its_table.table.number key its_leaves
    under_its key = ap (λ n. leaf_under n key leaves) table_of.2 ∙ (under_own its_table.table.number key leaves ∙ ap (leaf_under its_table.table.number key) its_own.are)

    -- what a test leaves of the rows of its table shows of a key that lies in it what it leaves of its own
    shown_is : (p : Row → Bool) (key : List ℕ) → leaf_under l.table key leaves ≡ Some l → shown_at key (filter p (join (leaves_led led its_table))) ≡ shown_at key (filter p (led its_table.table.number l.entry))
    shown_is p key is = shown_under its_table.table.number key p (led its_table.table.number) its_own.ids (entries_of its_table) l its_own.many its_parts.entries.climbs its_parts.stay (sym (under_its key) ∙ is)

    -- and of any other none
    none_is : (p : Row → Bool) (key : List ℕ) → (leaf_under l.table key leaves ≡ Some l → ⊥) → shown_at key (filter p (led its_table.table.number l.entry)) ≡ None
    none_is p key other = none_elsewhere its_table.table.number key p (led its_table.table.number) its_own.ids (entries_of its_table) l its_own.many its_parts.entries.climbs its_parts.stay among_its (λ is. other (under_its key ∙ is))

    abbrev all_tables : List TableLeaf
    all_tables = whole_tables led tables

    all_apart : AllApart SameNumber (tables_in all_tables)
    all_apart = subst (λ (ts : List Table). AllApart SameNumber ts) (sym (whole_are led tables)) apart

    -- ---- where there is no history

    module _ (stay : SeenStay) (ids : List ℕ) (shelf : ℕ → List Row) (shelved : IsShelf m ids led shelf leaves) where
      shelf_is : shelf l.id ≡ seen_rows m ids (led its_table.table.number l.entry)
      shelf_is = shelved l there ∙ ap (λ n. seen_rows m ids (led n l.entry)) table_of.2

      its_line : (key : List ℕ) → leaf_under l.table key leaves ≡ Some l → line (base (leaves_content_with m ids all_tables)) l.table key ≡ option_to_list (shown_at key (shelf l.id))
      its_line key is =
          ap (λ n. line (base (leaves_content_with m ids all_tables)) n key) table_of.2
          ∙ (seen_line stay m ids all_tables (whole_table led its_table) key all_apart (whole_fit led tables parted) (member_whole led its_table tables table_of.1)
          ∙ ap option_to_list (shown_is (is_seen_row m ids) key is ∙ ap (shown_at key) (sym shelf_is)))

      bare_starts : StartsOnDevice (leaves_content_with m ids all_tables) shelf (λ id key. []) leaves l
      bare_starts = record {
        none = none_framed its_table.table.number its_own.ids (entries_of its_table) l among_its;
        keys = λ key is. newest_alone (line (base (leaves_content_with m ids all_tables)) l.table key) (shown_at key (shelf l.id)) (its_line key is);
        bare = λ key other. (ap (shown_at key) shelf_is ∙ none_is (is_seen_row m ids) key other, refl);
      }

    -- ---- with a history

    has_cells : (ids : List ℕ) (history : List Placed) → IsLeafOfCells led (content_with m ids all_tables history) leaves l
    has_cells ids history = record {
      cells = λ key is.
          found_first (is_at l.table key) (cells_in all_tables)
          ∙ (ap (λ n. head_of (of_key n key (cells_in all_tables))) table_of.2
          ∙ (ap head_of (of_key_leaf key all_tables (whole_table led its_table) all_apart (whole_fit led tables parted) (member_whole led its_table tables table_of.1))
          ∙ (first_of (shown_at key (join (leaves_led led its_table)))
          ∙ (ap (shown_at key) (sym (filter_all (join (leaves_led led its_table))))
          ∙ (shown_is (λ r. true) key is
          ∙ (ap (shown_at key) (filter_all (led its_table.table.number l.entry))
          ∙ ap (λ n. shown_at key (led n l.entry)) (sym table_of.2)))))));
      bare = λ key other.
          ap (λ n. shown_at key (led n l.entry)) table_of.2
          ∙ (ap (shown_at key) (sym (filter_all (led its_table.table.number l.entry)))
          ∙ none_is (λ r. true) key other);
      fit = subst (λ n. AreFit (led n l.entry)) (sym table_of.2) (led_fit (led its_table.table.number) (entries_of its_table) l.entry its_parts.fit (member_entry its_table.table.number its_own.ids (entries_of its_table) l among_its));
      known = subst (λ n. has_table (tables_in all_tables) n ≡ true) (sym table_of.2) (has (tables_in all_tables) its_table.table (subst (λ (ts : List Table). Member its_table.table ts) (sym (whole_are led tables)) (member_its its_table tables table_of.1)));
    }

  -- ---- the tables and their leaves

  first_leaf : (number : ℕ) (own_ids : List ℕ) (es : List Entry) → length own_ids ≡ length es → first_key es ≡ Some [] → (l : Leaf) × Contains (leaves_with number own_ids es) l × (l.table ≡ number)
  first_leaf number own_ids [] many first = cc
  first_leaf number [] (x ∷ es) many first = absurd (omega (arith, many))
  first_leaf number (id ∷ own_ids) (x ∷ es) many first =
      let l : Leaf = record { id = id; table = number; entry = x; frame = None } in
      (l, head-in l (leaves_with number own_ids es), refl)

  begun : TablesBegun e.hub.tables.tables leaves
  begun place t at =
      let known : Member t (reverse e.hub.tables.tables) = member_reversed t e.hub.tables.tables (member_at e.hub.tables.tables place t at) in
      let named = named_table tables t (member-descending table_lt (tables_of tables) t (subst (λ (ts : List Table). Member t ts) unread.tables_are known)) in
      let its = own_of named.0 named.1 in
      let first = first_leaf named.0.table.number its.ids (entries_of named.0) its.many (parted_at led named.0 tables parted named.1).entries.begins in (
        first.0,
        own_contains named.0.table.number leaves first.0 (subst (λ (ls : List Leaf). Contains ls first.0) (sym its.are) first.1),
        first.2 ∙ ap (λ (x : Table). x.number) (sym named.2),
      )

  pub begins_unread : (c : Content) (shelf : ℕ → List Row) (records : Records) → IsContentOf m tables c → StartsOn c shelf records e → Begins c shelf records e
  begins_unread c shelf records is starts = record {
    fault = unread.fault;
    stamps = unread.stamps ∙ (ap (λ n. record { oldest = n; stable = m.stable }) (sym is.oldest) ∙ ap (λ n. record { oldest = c.oldest; stable = n }) (sym is.stable));
    txns = unread.txns ∙ ap (λ n. fresh (n + 1) 0) (sym is.run);
    catalog = unread.catalog;
    tables = unread.tables_are ∙ ap (descending table_lt) (sym is.tables_are);
    dir = unread.dir;
    begun = begun;
    owned = leaves_owned tables e.hub.tables.tables e.hub.dir unread.tables_are unread.added;
    leaves = λ l there. inr (starts.leaves l there);
    unused = starts.unused;
    frames = unread.frames;
    sessions = unread.sessions;
    systems = unread.systems;
  }

pub unread_begin : UnreadBegin
unread_begin m led c shelf records tables e apart parted unread is starts = begins_unread m led tables e apart parted unread c shelf records is starts

pub bare_leaves_start : SeenStay → BareLeavesStart
bare_leaves_start stay m ids led shelf tables e apart parted unread shelved = record {
  leaves = λ l there. bare_starts m led tables e apart parted unread l there stay ids shelf shelved;
  unused = λ id past key. refl;
}

pub leaves_have_cells : LeavesHaveCells
leaves_have_cells m ids led history tables e apart parted unread l there = has_cells m led tables e apart parted unread l there ids history
