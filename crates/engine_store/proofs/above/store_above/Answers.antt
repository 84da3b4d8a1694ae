use Rattle.std.proofs.Common.{◌≡◌, ◌∙◌, ◌<◌, List, [], ℕ, None, true, length, ap, inr, refl, subst, sym, arith}
use Rattle.std.specs.List.{Contains}
use Rattle.kv_model.specs.Content.{Content, IsLayered}
use Rattle.kv_model.specs.History.{Table}
use Rattle.kv_model.specs.Regular.{AllApart, IsRegular, SameNumber}
use Rattle.catalog.specs.Opens.{AreRecorded}
use Rattle.row_page.specs.Greatest.{no_name}
use Rattle.leaf_rows.specs.declared.marks.Marks.{Marks}
use Rattle.stored.specs.Records.{TableRoot}
use Rattle.stored.specs.Stored.{content_of, tables_of as record_tables}
use Rattle.stored.proofs.Device.{one_content}
use Rattle.device_leaf.specs.Openings.{last_number}
use Rattle.tree_dir.specs.declared.leaf.Leaf.{Leaf}
use Rattle.tree_dir.specs.Leaves.{Directory, IsDirectory}
use Rattle.tree_open.specs.declared.place.Upper.{Upper}
use Rattle.recover_open.specs.Bare.{marks_of}
use Rattle.engine_world.specs.Stands.{Stands}
use Rattle.engine_world.specs.Systems.{first_world}
use Rattle.engine_start.specs.declared.table_entries.TableEntries.{TableEntries}
use Rattle.engine_start.specs.Entries.{IsContentOf, IsUnread, tables_of}
use Rattle.engine_start.proofs.Placing.{leaves_owned}
use Rattle.engine_store.specs.declared.store.Store.{Store}
use Rattle.engine_store.specs.ByPlace.{places_in}
use Rattle.engine_store.specs.Marked.{IsLeafKept, IsUnmarked, KeepMarked}
use Rattle.engine_store.specs.Places.{AreOver}
use Rattle.engine_store.specs.Tables.{AreWithEntries}
use Rattle.evict_step.specs.Kept.{Lists, older_in}
use Rattle.kept_open.specs.Keeping.{KeepsNoOthers, KeepsRecords}
use Rattle.kept_open.specs.Laws.{IsFit}
use Rattle.ckpt_step.specs.Rooms.{known_in}
use Rattle.engine_store.proofs.AllOut.{hub_out}
use Rattle.engine_store.proofs.BorneTables.{climb_with, many_with, tables_with}
use Rattle.engine_store.proofs.Founds.{found_above}
use Rattle.engine_store.proofs.HubsGo.{goes_same, owned_then, spoils_back}
use Rattle.engine_store.proofs.KeptLeaves.{spoils_of}
use Rattle.engine_store.proofs.ReadyAbove.{over_many, ready_above}
use Rattle.engine_store.proofs.OpenedEngine.{is_content, led, led_parted, regular}
use Rattle.engine_store.proofs.OpenedShelf.{begun_kept, shelf, starts_on}
use Rattle.engine_store.proofs.Refusing.{refused_begin}
use Rattle.engine_store.proofs.SurveyedTrees.{old_of, surveyed_of}
use Rattle.engine_store.proofs.above.store_above.Goals as goal

pub trees_by_place-requires : goal.trees_by_place-requires
trees_by_place-requires g c =
    let over : AreOver c.in_ok-trees.trees.items c.args.whole.record.tables c.args.whole.uppers.items = subst (λ (l : List TableRoot). AreOver c.in_ok-trees.trees.items l c.args.whole.uppers.items) c.tables_of.ensures (subst (λ (l : List Upper). AreOver c.in_ok-trees.trees.items c.tables_of.result.now l) c.deref.ensures.value c.in_ok-trees.ensures) in
    over_many c.in_ok-trees.trees.items c.args.whole.record.tables c.args.whole.uppers.items over ∙ ap (λ (l : List TableRoot). length l) (sym c.tables_of-2.ensures)

-- the tables, each with its entries
withs : (both : List TableEntries) (parts tables : List TableRoot) (uppers : List Upper) → AreWithEntries both parts uppers → parts ≡ tables → AreWithEntries both tables uppers
withs both parts tables uppers with same = subst (λ (l : List TableRoot). AreWithEntries both l uppers) same with

-- no two of them have one number
apart_with : (both : List TableEntries) (tables : List TableRoot) (uppers : List Upper) (next : ℕ) → AreWithEntries both tables uppers → AreRecorded (record_tables tables) next → AllApart SameNumber (tables_of both)
apart_with both tables uppers next with recorded = subst (λ (l : List Table). AllApart SameNumber l) (sym (tables_with both tables uppers with)) recorded.once

pub start-requires-clause-recorded : goal.start-requires-clause-recorded
start-requires-clause-recorded g c =
    let a = c.args.whole in
    let with = withs c.in_ok-tables.tables.items c.into_parts-tables.result.0.items a.record.tables a.uppers.items c.in_ok-tables.ensures c.into_parts-tables.ensures.tables in
    subst (λ (l : List Table). AreRecorded l c.next_table_of-next_table.result) (sym (tables_with c.in_ok-tables.tables.items a.record.tables a.uppers.items with))
    (subst (λ (n : ℕ). AreRecorded (record_tables a.record.tables) n) (sym c.next_table_of-next_table.ensures) (c.records_are_recorded.ensures a.record c.requires.is_record))

pub start-requires-clause-numbers : goal.start-requires-clause-numbers
start-requires-clause-numbers g c =
    let a = c.args.whole in
    let with = withs c.in_ok-tables.tables.items c.into_parts-tables.result.0.items a.record.tables a.uppers.items c.in_ok-tables.ensures c.into_parts-tables.ensures.tables in
    let yes : c.has_numbers.result ≡ true = cc in
    omega (arith, c.has_numbers.ensures.yes yes, c.next_table_of-next_table.ensures, many_with c.in_ok-tables.tables.items a.record.tables a.uppers.items with)

pub start-requires-clause-climb : goal.start-requires-clause-climb
start-requires-clause-climb g c =
    let a = c.args.whole in
    let with = withs c.in_ok-tables.tables.items c.into_parts-tables.result.0.items a.record.tables a.uppers.items c.in_ok-tables.ensures c.into_parts-tables.ensures.tables in
    climb_with c.in_ok-tables.tables.items a.record.tables a.uppers.items with c.requires.climb

pub bring_marked-requires : goal.bring_marked-requires
bring_marked-requires g c =
    let e = c.in_ok-engine.engine in
    record { owned = leaves_owned c.in_ok-tables.tables.items e.hub.tables.tables e.hub.dir c.in_ok-engine.ensures.unread.tables_are c.in_ok-engine.ensures.unread.added }

pub returns-in_ok-parts-in-Ok-clause-found : goal.returns-in_ok-parts-in-Ok-clause-found
returns-in_ok-parts-in-Ok-clause-found g c = λ honest surveyed content reads layered.
    let a = c.args.whole in
    let bytes = g.D.Disk.seen c.args.disk.now in
    let m = marks_of a.record in
    let ids = a.record.snapshot.ids in
    let ps = c.in_ok-trees.trees.items in
    let both = c.in_ok-tables.tables.items in
    let with = withs both c.into_parts-tables.result.0.items a.record.tables a.uppers.items c.in_ok-tables.ensures c.into_parts-tables.ensures.tables in
    let over : AreOver ps a.record.tables a.uppers.items = subst (λ (l : List TableRoot). AreOver ps l a.uppers.items) c.tables_of.ensures (subst (λ (l : List Upper). AreOver ps c.tables_of.result.now l) c.deref.ensures.value c.in_ok-trees.ensures) in
    let recorded = c.records_are_recorded.ensures a.record c.requires.is_record in
    let e = c.in_ok-engine.engine in
    let unread : IsUnread m both e = subst (λ (n : Marks). IsUnread n both e) c.marks_of-marks.ensures c.in_ok-engine.ensures.unread in
    let of = surveyed_of bytes c.args.place a content surveyed reads in
    let own : Content = content_of (old_of bytes c.args.place a of) in
    let is_layered : IsLayered own = subst IsLayered (one_content bytes content own reads (inr (old_of bytes c.args.place a of, of.serves.still, refl))) layered in
    let is_regular : IsRegular own = regular bytes c.args.place a of both with recorded c.what_is_read_is_regular.ensures in
    let fit : IsFit a.history.records.items = c.read_histories_fit.ensures bytes a.record.history a.history surveyed.history in
    let lists : Lists = c.in_ok-kept.kept in
    let names : c.deref-2.result.now ≡ ids = c.deref-2.ensures.value ∙ c.into_parts-tables.ensures.ids in
    let keeps : KeepsRecords m ids a.history.records.items e.hub.dir.leaves lists =
    subst (λ (n : Marks). KeepsRecords n ids a.history.records.items e.hub.dir.leaves lists) c.marks_of-marks.ensures
    (subst (λ (xs : List ℕ). KeepsRecords c.marks_of-marks.result xs a.history.records.items e.hub.dir.leaves lists) names
    (subst (λ (d : Directory). KeepsRecords c.marks_of-marks.result c.deref-2.result.now a.history.records.items d.leaves lists) c.leaves.ensures.are (c.in_ok-kept.ensures.kept fit))) in
    let others : KeepsNoOthers e.hub.dir.leaves lists = subst (λ (d : Directory). KeepsNoOthers d.leaves lists) c.leaves.ensures.are (c.in_ok-kept.ensures.none fit) in
    let rows = led bytes c.args.place a of both with recorded in
    let on_shelf = shelf bytes c.args.place a of both with recorded e unread lists keeps others in
    let starts = starts_on bytes c.args.place a of both with recorded e unread lists keeps others c.leaves_have_cells.ensures c.bare_leaves_start.ensures c.rows_open.ensures.open c.rows_open.ensures.none is_regular is_layered in
    let first : Stands e (first_world own on_shelf (older_in on_shelf lists) e) =
    c.in_ok-engine.ensures.stands rows own on_shelf (older_in on_shelf lists) (led_parted bytes c.args.place a of both with recorded)
    (subst (λ (n : Marks). IsContentOf n both own) (sym c.marks_of-marks.ensures) (is_content bytes c.args.place a of both with recorded)) is_regular starts in
    let same_ids : c.deref-3.result.now ≡ ids = c.deref-3.ensures.value ∙ c.into_parts-tables.ensures.ids in
    let kept = λ (l : Leaf) (there : Contains e.hub.dir.leaves l). subst (λ (n : Marks). IsLeafKept bytes e.hub.dir n c.deref-3.result.now lists on_shelf l) (sym c.marks_of-marks.ensures)
    (subst (λ (xs : List ℕ). IsLeafKept bytes e.hub.dir m xs lists on_shelf l) (sym same_ids) (begun_kept bytes c.args.place a of both with recorded e unread lists keeps others c.leaves_have_cells.ensures l there)) in
    let now = c.in-Ok.ensures.stands honest (first_world own on_shelf (λ leaf key. []) e) first kept in
    let unmarked = λ (l : Leaf) (there : Contains c.bring_marked.new.engine.hub.dir.leaves l) (none : l.frame ≡ None). subst (λ (n : Marks). IsUnmarked n l) c.marks_of-marks.ensures (c.in-Ok.ensures.unmarked l there none) in
    let keep = subst (λ (n : Marks). KeepMarked c.bring_marked.new.engine.hub.tables.tables c.bring_marked.new.engine.hub.dir.leaves n (known_in c.in_ok-parts-in-Ok.parts)) c.marks_of-marks.ensures c.in_ok-parts-in-Ok.ensures in
    let s : Store = record { engine = c.bring_marked.new.engine; ground = record { place = c.args.place; number = c.number_of-number.result; trees = c.in_ok-trees-2.trees; parts = c.in_ok-parts-in-Ok.parts; lives = c.new.result; history = a.history.addrs; kept = c.bring_marked.new.kept; floor = no_name }; running = None; frames = c.args.frames; clock = c.new-in-Ok.result } in
    let trees_are : s.ground.trees.items ≡ places_in a.record.tables ps = c.in_ok-trees-2.ensures ∙ ap (λ (l : List TableRoot). places_in l ps) c.tables_of-2.ensures in
    let yes : c.has_numbers.result ≡ true = cc in
    let run : a.record.run < last_number = omega (arith, c.run_of.ensures, c.if-run_of-ge-NUMBER_MAX.false) in
    found_above a c.requires.is_record both with e unread s c.bring_marked.ensures.goes ps over trees_are c.number_of-number.ensures bytes c.args.place of recorded lists keeps others c.leaves_have_cells.ensures c.rows_open.ensures.whole is_regular is_layered now unmarked keep
    refl refl refl c.new.ensures refl run (c.has_numbers.ensures.yes yes)

pub returns-in_ok-parts-in-Ok-clause-spoils : goal.returns-in_ok-parts-in-Ok-clause-spoils
returns-in_ok-parts-in-Ok-clause-spoils g c = λ honest surveyed id at want found spoils.
    let a = c.args.whole in
    let bytes = g.D.Disk.seen c.args.disk.now in
    let both = c.in_ok-tables.tables.items in
    let with = withs both c.into_parts-tables.result.0.items a.record.tables a.uppers.items c.in_ok-tables.ensures c.into_parts-tables.ensures.tables in
    let unread = c.in_ok-engine.ensures.unread in
    let d = c.in_ok-engine.engine.hub.dir in
    let apart = apart_with both a.record.tables a.uppers.items a.record.next_table with (c.records_are_recorded.ensures a.record c.requires.is_record) in
    let before = spoils_back bytes d c.bring_marked.new.engine.hub.dir id at want found c.in-Ok.ensures.leaves spoils in
    record {
      place = c.args.place;
      whole = a;
      surveyed = surveyed;
      leaf = spoils_of both d unread.dir apart unread.added bytes a.record.tables a.uppers.items with id at want found before;
    }

pub returns-in_ok-parts-in-Ok-clause-outset : goal.returns-in_ok-parts-in-Ok-clause-outset
returns-in_ok-parts-in-Ok-clause-outset g c =
    let e = c.in_ok-engine.engine.hub in
    let now = c.bring_marked.new.engine.hub in
    let owned = leaves_owned c.in_ok-tables.tables.items e.tables.tables e.dir c.in_ok-engine.ensures.unread.tables_are c.in_ok-engine.ensures.unread.added in
    (subst IsDirectory c.leaves-in-Ok.ensures.are c.leaves-in-Ok.ensures.stand, hub_out now now (goes_same now (owned_then e now owned c.in-Ok.ensures.leaves c.bring_marked.ensures.goes)))

pub returns-in_ok-parts-in-Ok-clause-ready : goal.returns-in_ok-parts-in-Ok-clause-ready
returns-in_ok-parts-in-Ok-clause-ready g c =
    let a = c.args.whole in
    let ps = c.in_ok-trees.trees.items in
    let both = c.in_ok-tables.tables.items in
    let with = withs both c.into_parts-tables.result.0.items a.record.tables a.uppers.items c.in_ok-tables.ensures c.into_parts-tables.ensures.tables in
    let over : AreOver ps a.record.tables a.uppers.items = subst (λ (l : List TableRoot). AreOver ps l a.uppers.items) c.tables_of.ensures (subst (λ (l : List Upper). AreOver ps c.tables_of.result.now l) c.deref.ensures.value c.in_ok-trees.ensures) in
    let e = c.in_ok-engine.engine in
    let unread : IsUnread (marks_of a.record) both e = subst (λ (n : Marks). IsUnread n both e) c.marks_of-marks.ensures c.in_ok-engine.ensures.unread in
    let s : Store = record { engine = c.bring_marked.new.engine; ground = record { place = c.args.place; number = c.number_of-number.result; trees = c.in_ok-trees-2.trees; parts = c.in_ok-parts-in-Ok.parts; lives = c.new.result; history = a.history.addrs; kept = c.bring_marked.new.kept; floor = no_name }; running = None; frames = c.args.frames; clock = c.new-in-Ok.result } in
    let trees_are : s.ground.trees.items ≡ places_in a.record.tables ps = c.in_ok-trees-2.ensures ∙ ap (λ (l : List TableRoot). places_in l ps) c.tables_of-2.ensures in
    ready_above a c.requires.is_record both with e unread s c.bring_marked.ensures.goes ps over trees_are c.number_of-number.ensures

pub returns-in-Err-clause-err : goal.returns-in-Err-clause-err
returns-in-Err-clause-err g c =
    let a = c.args.whole in
    let both = c.in_ok-tables.tables.items in
    let with = withs both c.into_parts-tables.result.0.items a.record.tables a.uppers.items c.in_ok-tables.ensures c.into_parts-tables.ensures.tables in
    let unread = c.in_ok-engine.ensures.unread in
    let apart = apart_with both a.record.tables a.uppers.items a.record.next_table with (c.records_are_recorded.ensures a.record c.requires.is_record) in
    refused_begin g.D.Disk c.args.disk.now c.bring_marked.new.disk a both c.in_ok-engine.engine.hub.dir c.in-Err.refusal unread.dir apart unread.added with c.in-Err.ensures.err
