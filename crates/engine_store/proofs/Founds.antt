-- What is made of a survey: an engine and its ground.
use Rattle.std.proofs.Common.{◌≡◌, ◌≤◌, ◌<◌, ℕ, ◌+◌, ◌^◌, List, [], length, reverse, Option, Some, None, refl, sym, ap, subst, ◌∙◌, arith}
use Rattle.std.specs.Prelude.{slice_get}
use Rattle.std.specs.List.{Contains}
use Rattle.std.proofs.lemmas.Bool.{false≢true}
use Rattle.limits.specs.declared.TheConstants.{TABLES_MAX}
use Rattle.kv_model.specs.Content.{IsLayered, descending, kept as all_kept, nothing, placed_lt, table_lt}
use Rattle.kv_model.proofs.Finishing.{tables-base}
use Rattle.kv_model.specs.Holds.{Member}
use Rattle.kv_model.specs.History.{Table}
use Rattle.kv_model.specs.Regular.{IsRegular}
use Rattle.stamp.specs.declared.Name.{Name}
use Rattle.catalog.specs.Opens.{AreRecorded}
use Rattle.row_page.specs.Greatest.{no_name}
use Rattle.row_page.specs.Rows.{Row}
use Rattle.stored.specs.Records.{IsRecord}
use Rattle.stored.specs.Stored.{Stored, content_of, tables_of as record_tables}
use Rattle.stored.specs.TableTree.{Entry, TableTree}
use Rattle.stored.specs.Tree.{join}
use Rattle.checkpoint_core.specs.Stands.{HasStill}
use Rattle.device_leaf.specs.declared.place.Place.{Place}
use Rattle.device_leaf.specs.Openings.{Serves, last_number}
use Rattle.tree_open.specs.declared.place.TreePlace.{TreePlace}
use Rattle.tree_dir.specs.declared.leaf.Leaf.{Leaf}
use Rattle.tree_dir.specs.Leaves.{Directory, leaves_of}
use Rattle.recover_open.specs.declared.wholes.Whole.{Whole}
use Rattle.recover_open.specs.Bare.{ArePlaces, marks_of}
use Rattle.recover_open.specs.Recoveries.{Counts, KeepsNone}
use Rattle.engine_world.specs.Stands.{Engine, Stands}
use Rattle.engine_world.specs.Systems.{first_world}
use Rattle.engine_world.specs.Worlds.{World}
use Rattle.engine.specs.Directories.{HubGoesOn}
use Rattle.engine_start.specs.declared.table_entries.TableEntries.{TableEntries}
use Rattle.engine_start.specs.EntryLaws.{LeavesHaveCells}
use Rattle.engine_start.specs.Entries.{IsUnread, entries_of}
use Rattle.evict_step.specs.Kept.{Lists, older_in}
use Rattle.kept_open.specs.Keeping.{KeepsNoOthers, KeepsRecords}
use Rattle.kept_open.specs.Laws.{WholeRowsOpen}
use Rattle.ckpt_step.specs.Floors.{Follows, FollowsFrom, IsAsItLies}
use Rattle.ckpt_step.specs.declared.lives.Lone.{Lone}
use Rattle.ckpt_step.specs.Grounds.{AreLedTo, AreRoots, AreSince, AreWritten, found_in, start_cell}
use Rattle.ckpt_step.specs.Parts.{part_leaves, part_of}
use Rattle.ckpt_step.specs.Rooms.{Rooms, Written, known_in}
use Rattle.ckpt_step.specs.Trees.{HasTreeAt, table_root}
use Rattle.ckpt_step.proofs.Lones.{no_led, no_since}
use Rattle.ckpt_step.proofs.Members.{none_some}
use Rattle.ckpt_step.proofs.TableLeaves.{contains_of, in_table, member_of, table_in}
use Rattle.engine_store.specs.declared.store.Store.{Store}
use Rattle.engine_store.specs.ByPlace.{places_in}
use Rattle.engine_store.specs.Found.{IsFound}
use Rattle.engine_store.specs.Keeping.{begun_with, with_kept}
use Rattle.engine_store.specs.Marked.{IsUnmarked, KeepMarked}
use Rattle.engine_store.specs.Opened.{IsOpened}
use Rattle.engine_store.specs.Places.{AreOver}
use Rattle.engine_store.specs.Tables.{AreWithEntries}
use Rattle.engine_store.proofs.LeafBehind.{entries_in}
use Rattle.engine_store.proofs.LeavesGo.{leaf_went}
use Rattle.engine_store.proofs.MarkedParts.{away_kept, part_own, part_same, roots_kept, whole_or_bare, written_kept}
use Rattle.engine_store.proofs.Nothing.{no_records, no_shelf}
use Rattle.engine_store.proofs.OpenedEngine.{begun_own, known_at, own_went, still_first}
use Rattle.engine_store.proofs.OpenedFollows.{follows_from, shelf_same, starts_below}
use Rattle.engine_store.proofs.OpenedParts.{rows_are, rows_of, under}
use Rattle.engine_store.proofs.OpenedShelf.{all_rowed, bare, begun_kept, shelf}
use Rattle.engine_store.proofs.OpenedRoots.{own_tree, pair_entries, root_fits, roots_are, tree_leads, tree_there, written_are}
use Rattle.engine_store.proofs.SurveyedTrees.{IsSurveyedOf, old_of, places_over}
use Rattle.engine_store.proofs.ReadyAbove.{many}

-- ---- with a checkpoint

module _ (a : Whole) (is_record : IsRecord a.record) (both : List TableEntries) (with : AreWithEntries both a.record.tables a.uppers.items) (e : Engine) (unread : IsUnread (marks_of a.record) both e) (s : Store) (goes : HubGoesOn e.hub s.engine.hub)
    (ps : List TreePlace) (over : AreOver ps a.record.tables a.uppers.items) (trees_are : s.ground.trees.items ≡ places_in a.record.tables ps) (number : s.ground.number ≡ a.record.sequence) where
  -- ---- on a device that reads; kept: what is kept of its history before leaves come in

  module _ (bytes : List ℕ) (place : Place) (of : IsSurveyedOf bytes place a) (recorded : AreRecorded (record_tables a.record.tables) a.record.next_table)
      (kept : Lists) (keeps : KeepsRecords (marks_of a.record) a.record.snapshot.ids a.history.records.items e.hub.dir.leaves kept) (others : KeepsNoOthers e.hub.dir.leaves kept) (cells : LeavesHaveCells) (whole_rows : WholeRowsOpen)
      (is_regular : IsRegular (content_of (old_of bytes place a of))) (layered : IsLayered (content_of (old_of bytes place a of)))
      (now : Stands s.engine (with_kept s.ground.kept (first_world (content_of (old_of bytes place a of)) (shelf bytes place a of both with recorded e unread kept keeps others) (λ leaf key. []) e)))
      (unmarked : (l : Leaf) → Contains s.engine.hub.dir.leaves l → l.frame ≡ None → IsUnmarked (marks_of a.record) l)
      (keep : KeepMarked s.engine.hub.tables.tables s.engine.hub.dir.leaves (marks_of a.record) (known_in s.ground.parts)) where
    abbrev d : Directory
    d = s.engine.hub.dir

    abbrev written_now : Written
    written_now = known_in s.ground.parts

    abbrev old : Stored
    old = old_of bytes place a of

    abbrev on_shelf : ℕ → List Row
    on_shelf = shelf bytes place a of both with recorded e unread kept keeps others

    -- the engine's tables are those of the record
    known_now : reverse s.engine.hub.tables.tables ≡ descending table_lt (record_tables a.record.tables)
    known_now = now.made ∙ tables-base (descending table_lt (record_tables a.record.tables)) (descending placed_lt (all_kept (content_of old)))

    own : (t : TableEntries) → Member t both → entries_in (leaves_of t.table.number d.leaves) ≡ entries_of t
    own = own_went (marks_of a.record) both e s.engine unread goes (begun_own bytes place a of both with recorded e unread)

    are : ArePlaces ps a.record.tables of.trees
    are = places_over bytes a.record.tables a.uppers.items of.trees ps of.have of.uppers over

    roots : AreRoots s.engine.hub.tables.tables [] d.leaves (known_in []) (places_in a.record.tables ps) (Some old)
    roots = roots_are bytes place a is_record of both with d now.dir own ps (many a is_record both with e unread s goes ps over trees_are number) are s.engine.hub.tables.tables known_now

    written : AreWritten s.engine.hub.tables.tables [] d (known_in []) (places_in a.record.tables ps)
    written = written_are bytes place a is_record of both with d now.dir own ps (many a is_record both with e unread s goes ps over trees_are number) are s.engine.hub.tables.tables known_now

    -- a leaf that is in no frame, or of which nothing is kept, has on the shelf what the device has
    same : (t : Table) (p : TreePlace) (tree : TableTree) (l : Leaf) → HasTreeAt (Some old) t p tree → Contains d.leaves l → l.table ≡ t.number → IsAsItLies written_now l → join (part_leaves p tree (part_of written_now l)) ≡ on_shelf l.id
    same t p tree l at there its as_it_lies =
        let has = tree_there bytes place a is_record of t p tree at in
        let leads = tree_leads bytes place a is_record of t p tree at in
        let entries = own_tree bytes place a is_record of both with d now.dir own t p tree at in
        let fits = root_fits bytes place a is_record of t p tree at in
        let pair = pair_entries both a.record.tables a.uppers.items of.trees (table_root t p.root) tree with of.uppers at.0 in
        let place_of = known_at (marks_of a.record) both e unread pair.its pair.among in
        let number_is : l.table ≡ pair.its.table.number = its ∙ sym (ap (λ (x : Table). x.number) pair.table) in
        let was = leaf_went (leaves_of pair.its.table.number e.hub.dir.leaves) (leaves_of pair.its.table.number d.leaves) l (goes.dir.kept place_of.0 pair.its.table place_of.1) (table_in pair.its.table.number d.leaves l (member_of d.leaves l there) number_is) in
        let before : Contains e.hub.dir.leaves was.0 = contains_of e.hub.dir.leaves was.0 (in_table pair.its.table.number e.hub.dir.leaves was.0 was.1).0 in
        ap (λ (part : List Entry). join (part_leaves p tree part)) (part_same s.engine.hub.tables.tables d now.dir (marks_of a.record) written_now keep l there)
        ∙ (rows_are bytes d now.dir t.number p tree has at.1 leads entries fits l there its
        ∙ shelf_same whole_rows bytes e.hub.dir (marks_of a.record) a.record.snapshot.ids kept on_shelf was.0 l (rows_of bytes d now.dir t.number p tree has at.1 leads entries fits l.entry)
        (begun_kept bytes place a of both with recorded e unread kept keeps others cells was.0 before) (all_rowed bytes place a of both with recorded e unread kept keeps others cells is_regular layered was.0 before) was.2.id was.2.entry
        (whole_or_bare s.engine.hub.tables.tables d now.dir (marks_of a.record) written_now keep now.owned unmarked l there as_it_lies) (under bytes d now.dir t.number p tree has at.1 leads entries fits l there its).leaf)

    abbrev w : World
    w = begun_with (content_of old) on_shelf s

    follows : FollowsFrom (Some old) s.engine.hub.tables.tables [] d.leaves written_now (places_in a.record.tables ps) no_name w
    follows = follows_from (Some old) s.engine.hub.tables.tables d.leaves written_now (places_in a.record.tables ps) w (starts_below (content_of old)) (part_own s.engine.hub.tables.tables d now.dir (marks_of a.record) written_now keep) same

    pub found_above : s.ground.place ≡ place → s.running ≡ None → s.ground.floor ≡ no_name → s.ground.lives ≡ [] → s.ground.history.items ≡ a.history.addrs.items → a.record.run < last_number → a.record.next_table + TABLES_MAX < 2 ^ 32 + length a.record.tables → IsFound bytes s
    found_above place_is idle floor none stand run numbers = record {
      old = Some old;
      numbers = (run, numbers);
      on = record {
        serves = subst (λ (x : Place). Serves bytes x (Some old)) (sym place_is) of.serves;
        books = subst (λ (x : Place). Counts (found_in (Some old)) x.blocks) (sym place_is) of.books;
        number = number;
        roots = subst (λ (l : List TreePlace). AreRoots s.engine.hub.tables.tables [] d.leaves written_now l (Some old)) (sym trees_are) (roots_kept s.engine.hub.tables.tables d now.dir (marks_of a.record) written_now keep (places_in a.record.tables ps) old roots);
        history = stand ∙ of.stand;
        written = subst (λ (l : List TreePlace). AreWritten s.engine.hub.tables.tables [] d written_now l) (sym trees_are) (written_kept s.engine.hub.tables.tables d now.dir (marks_of a.record) written_now keep (places_in a.record.tables ps) written);
        none = none;
        floor = floor;
      };
      running = idle;
      shelf = on_shelf;
      world = still_first (content_of old) on_shelf (older_in on_shelf s.ground.kept) e s.engine now;
      bare = λ id late. bare bytes place a of both with recorded e unread kept keeps others id (let ids = goes.dir.ids in omega (arith, late, ids));
      follows = following floor;
      away = λ l there none. (away_kept s.engine.hub.tables.tables d now.dir (marks_of a.record) written_now keep l there none, (unmarked l there none).leads);
    }
      where
        following : s.ground.floor ≡ no_name → Follows (Some old) s.engine.hub s.ground w
        following floor =
            subst (λ (x : List Lone). FollowsFrom (Some old) s.engine.hub.tables.tables x d.leaves written_now s.ground.trees.items s.ground.floor w) (sym none)
            (subst (λ (f : Name). FollowsFrom (Some old) s.engine.hub.tables.tables [] d.leaves written_now s.ground.trees.items f w) (sym floor)
            (subst (λ (l : List TreePlace). FollowsFrom (Some old) s.engine.hub.tables.tables [] d.leaves written_now l no_name w) (sym trees_are) follows))

-- ---- without one

pub found_none : (bytes : List ℕ) (s : Store) → KeepsNone bytes s.ground.place → s.running ≡ None → s.ground.number ≡ 0 → s.ground.trees.items ≡ [] → s.ground.parts ≡ [] → s.ground.floor ≡ no_name → s.ground.lives ≡ [] → s.ground.history.items ≡ [] → s.ground.kept ≡ [] → s.engine.hub.tables.tables ≡ [] → s.engine.hub.dir.leaves ≡ [] → Stands s.engine (first_world nothing no_shelf no_records s.engine) → IsFound bytes s
found_none bytes s keeps idle number none parts floor unwritten stand kept known bare st = record {
  old = None;
  numbers = tt;
  on = record {
    serves = keeps.serves;
    books = keeps.books;
    number = number;
    roots = none;
    written = subst (λ (r : Rooms). AreWritten s.engine.hub.tables.tables [] s.engine.hub.dir (known_in r) s.ground.trees.items) (sym parts) (record {
      later = λ id le. refl;
      made_since = λ i t l there at among its dead. absurd (none_some (ap (λ (ts : List Table). slice_get ts i) (sym known) ∙ there));
    });
    history = stand;
    none = unwritten;
    floor = floor;
  };
  running = idle;
  shelf = no_shelf;
  world = st_kept;
  bare = λ id late. refl;
  follows = subst (λ (x : List Lone). FollowsFrom None s.engine.hub.tables.tables x s.engine.hub.dir.leaves (known_in s.ground.parts) s.ground.trees.items s.ground.floor (begun_with nothing no_shelf s)) (sym unwritten)
      (subst (λ (f : Name). FollowsFrom None s.engine.hub.tables.tables [] s.engine.hub.dir.leaves (known_in s.ground.parts) s.ground.trees.items f (begun_with nothing no_shelf s)) (sym floor)
      (record { respects = starts_below nothing; leaf = λ i t p tree l there stands at among its dead. absurd at; since = λ l there live. absurd (false≢true live) }));
  away = λ l there free. let nothing_there : Contains [] l = subst (λ (ls : List Leaf). Contains ls l) bare there in absurd (omega (arith, nothing_there.1));
}
  where
    -- the history has nothing, and nothing is kept
    st_kept : Stands s.engine (begun_with nothing no_shelf s)
    st_kept = subst (λ (lists : Lists). Stands s.engine (first_world nothing no_shelf (older_in no_shelf lists) s.engine)) (sym kept) st

-- ---- whatever it was

long_of : (bytes : List ℕ) (old : Option Stored) → HasStill old bytes → 8192 ≤ length bytes
long_of bytes None still = still.long
long_of bytes (Some s) still = still.long

pub opened_of : (bytes : List ℕ) (images : List ℕ → Type 0) (s : Store) → IsFound bytes s → IsOpened bytes images s
opened_of bytes images s found = record {
  old = found.old;
  numbers = found.numbers;
  on = record {
    stands = record {
      seen_has = found.on.serves.still;
      images_have = λ synced. absurd (false≢true (sym found.on.serves.unsynced ∙ synced));
      in_use = found.on.serves.in_use;
    };
    number = found.on.number;
    slot = found.on.serves.slot;
    cells = λ u. found.on.books.has.cells u ∙ ap (λ (x : List Lone). start_cell found.old x u) (sym none);
    units = found.on.books.has.units;
    idle = found.on.books.idle;
    long = long_of bytes found.old found.on.serves.still;
    within = found.on.serves.within;
    history = found.on.history;
    roots = subst (λ (x : List Lone). AreRoots s.engine.hub.tables.tables x s.engine.hub.dir.leaves (known_in s.ground.parts) s.ground.trees.items found.old) (sym none) found.on.roots;
    written = subst (λ (x : List Lone). AreWritten s.engine.hub.tables.tables x s.engine.hub.dir (known_in s.ground.parts) s.ground.trees.items) (sym none) found.on.written;
    since = subst (λ (x : List Lone). AreSince found.old x s.engine.hub.dir (known_in s.ground.parts)) (sym none) (no_since found.old s.engine.hub.dir (known_in s.ground.parts));
    led = subst (λ (x : List Lone). AreLedTo s.engine.hub.tables.tables x s.engine.hub.dir.leaves) (sym none) (no_led s.engine.hub.tables.tables s.engine.hub.dir.leaves);
  };
  floor = found.on.floor;
  none = none;
  running = found.running;
  shelf = found.shelf;
  world = found.world;
  bare = found.bare;
  follows = found.follows;
  away = found.away;
}
  where
    none : s.ground.lives ≡ []
    none = found.on.none
