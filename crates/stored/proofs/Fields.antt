-- Links, entries, tables and records have one spelling.
use Rattle.std.proofs.Common.{◌≡◌, ℕ, ◌^◌, ◌<◌, Bool, true, false, cond, [], length, Some, None, refl, sym, ap, subst, append_assoc, arith}
use Rattle.std.specs.Prelude.{◌==◌}
use Rattle.std.specs.Int.{w8}
use Rattle.std.specs.List.{AllByRecursion}
use Rattle.std.proofs.lemmas.Bool.{eqb-true}
use Rattle.item.specs.declared.formats.Format.{Format}
use Rattle.item.specs.declared.formats.Format.TheVariants.{S, U}
use Rattle.le_codec.specs.Fields.{le, IsField}
use Rattle.le_codec.proofs.Laws.{byte_field, field16, field32, field64, slice_field, some_is}
use Rattle.le_codec.proofs.Combined.{then_field, as_field, again_field, seen_field, try_field, many_field}
use Rattle.kv_model.specs.Content.{Snapshot}
use Rattle.row_page.specs.Rows.{key_most}
use Rattle.row_page.proofs.Fields.{row_field}
use Rattle.device_layout.specs.declared.link.Link.{Link}
use Rattle.stored.specs.Links.{link_text, LinkFits}
use Rattle.stored.specs.TableTree.{Entry, entry_text}
use Rattle.stored.specs.HistoryTree.{HistoryEntry, HistoryRecord, history_entry_text, record_text, RecordFits}
use Rattle.stored.specs.Records.{TableRoot, Record, letter, table_text, snapshot_text, record_body}
use Rattle.stored.specs.Reading.{LinkParts, link_of, link_at, EntryParts, entry_of, entry_at, HistoryEntryParts, history_entry_of, history_entry_at, PlacedParts, placed_of, placed_at, format_of, format_at, TableParts, table_of, table_at, SnapshotParts, snapshot_of, snapshot_at, RecordParts, record_of, record_at}

-- ---- a link

abbrev link_parts : Link → LinkParts
link_parts l = (l.addr.offset, (l.addr.size, (l.addr.sum, (l.greatest.run, (l.greatest.id, l.durable)))))

pub link_field : IsField link_text link_at LinkFits
unfolding link_at
link_field =
    again_field link_text LinkFits (λ l. simp append_assoc refl) (λ l h. record { offset = h.0; size = h.1.0; sum = h.1.1.0; run = h.1.1.1.0; id = h.1.1.1.1.0; durable = h.1.1.1.1.1 }) (λ l h. (h.offset, (h.size, (h.sum, (h.run, (h.id, h.durable))))))
    (as_field link_of link_parts (λ p. refl) (λ l. refl) (then_field field64 (λ offset. then_field field32 (λ size. then_field field32 (λ sum. then_field field64 (λ run. then_field field64 (λ id. field64)))))))

-- ---- an entry of a table's inner page

pub record EntrySpelled (e : Entry) : Type 0 where
  pub key : length e.key < 2 ^ 16
  pub link : LinkFits e.link

abbrev entry_parts : Entry → EntryParts
entry_parts e = (length e.key, (e.link, e.key))

abbrev EntryPartsFit : EntryParts → Type 0
EntryPartsFit p = (p.0 < 2 ^ 16) × (LinkFits p.1.0 × (length p.1.1 ≡ p.0))

entry_there : (p : EntryParts) → EntryPartsFit p → (entry_parts (entry_of p) ≡ p) × EntrySpelled (entry_of p)
entry_there p h = (ap (λ (n : ℕ). (n, (p.1.0, p.1.1))) h.1.1, record { key = omega (arith, h.1.1, h.0); link = h.1.0 })

pub entry_field : IsField entry_text entry_at EntrySpelled
unfolding entry_at
entry_field =
    again_field entry_text EntrySpelled (λ e. simp append_assoc refl) (λ e h. h) (λ e h. h)
    (seen_field entry_of entry_parts EntrySpelled entry_there (λ e h. (refl, (h.key, (h.link, refl)))) (then_field field16 (λ len. then_field link_field (λ link. slice_field len))))

-- ---- an entry of a history's inner page

pub record HistoryEntrySpelled (e : HistoryEntry) : Type 0 where
  pub table : e.least.table < 2 ^ 32
  pub key : length e.least.key < 2 ^ 16
  pub commit : e.least.commit < 2 ^ 64
  pub run : e.least.name.run < 2 ^ 64
  pub id : e.least.name.id < 2 ^ 64
  pub link : LinkFits e.link

abbrev history_entry_parts : HistoryEntry → HistoryEntryParts
history_entry_parts e = (e.least.table, (length e.least.key, (e.least.commit, (e.least.name.run, (e.least.name.id, (e.link, e.least.key))))))

abbrev HistoryEntryPartsFit : HistoryEntryParts → Type 0
HistoryEntryPartsFit p = (p.0 < 2 ^ 32) × ((p.1.0 < 2 ^ 16) × ((p.1.1.0 < 2 ^ 64) × ((p.1.1.1.0 < 2 ^ 64) × ((p.1.1.1.1.0 < 2 ^ 64) × (LinkFits p.1.1.1.1.1.0 × (length p.1.1.1.1.1.1 ≡ p.1.0))))))

history_entry_there : (p : HistoryEntryParts) → HistoryEntryPartsFit p → (history_entry_parts (history_entry_of p) ≡ p) × HistoryEntrySpelled (history_entry_of p)
history_entry_there p h =
    let len = h.1.1.1.1.1.1 in
    (ap (λ (n : ℕ). (p.0, (n, p.1.1))) len, record { table = h.0; key = omega (arith, len, h.1.0); commit = h.1.1.0; run = h.1.1.1.0; id = h.1.1.1.1.0; link = h.1.1.1.1.1.0 })

pub history_entry_field : IsField history_entry_text history_entry_at HistoryEntrySpelled
unfolding history_entry_at
history_entry_field =
    again_field history_entry_text HistoryEntrySpelled (λ e. simp append_assoc refl) (λ e h. h) (λ e h. h)
    (seen_field history_entry_of history_entry_parts HistoryEntrySpelled history_entry_there (λ e h. (refl, (h.table, (h.key, (h.commit, (h.run, (h.id, (h.link, refl))))))))
    (then_field field32 (λ table. then_field field16 (λ len. then_field field64 (λ commit. then_field field64 (λ run. then_field field64 (λ id. then_field link_field (λ link. slice_field len))))))))

-- ---- a record of the history

abbrev placed_parts : HistoryRecord → PlacedParts
placed_parts r = (r.table, (r.key, r.version))

pub placed_field : IsField record_text placed_at RecordFits
unfolding placed_at
placed_field =
    again_field record_text RecordFits (λ r. refl) (λ r h. record { table = h.0; row = h.1 }) (λ r h. (h.table, h.row))
    (as_field placed_of placed_parts (λ p. refl) (λ r. refl) (then_field field32 (λ table. row_field [] key_most (omega arith))))

-- ---- a format

abbrev Any : Format → Type 0
Any f = Unit {0}

format_cases : (x y : Bool) (a : ℕ) (b : Format) → (a == 83) ≡ x → (a == 117) ≡ y → cond x (Some S) (cond y (Some U) None) ≡ Some b → letter b ≡ a
format_cases true y a b hx hy e = subst (λ (z : Format). letter z ≡ a) (some_is S b e) (sym (eqb-true _ _ hx))
format_cases false true a b hx hy e = subst (λ (z : Format). letter z ≡ a) (some_is U b e) (sym (eqb-true _ _ hy))
format_cases false false a b hx hy e = absurd cc

format_there : (a : ℕ) (b : Format) → a < 2 ^ 8 → format_of a ≡ Some b → (letter b ≡ a) × Any b
format_there a b h e = (format_cases (a == 83) (a == 117) a b refl refl e, tt)

format_here : (b : Format) → Any b → (format_of (letter b) ≡ Some b) × (letter b < 2 ^ 8)
format_here S h = (refl, omega arith)
format_here U h = (refl, omega arith)

pub format_field : IsField (λ (b : Format). le w8 (letter b)) format_at Any
unfolding format_at
format_field = try_field format_of letter Any format_there format_here byte_field

-- ---- a table

pub record TableSpelled (t : TableRoot) : Type 0 where
  pub number : t.table.number < 2 ^ 32
  pub level : t.root.level < 2 ^ 8
  pub name : length t.table.name < 2 ^ 8
  pub link : LinkFits t.root.link

abbrev table_parts : TableRoot → TableParts
table_parts t = (t.table.number, (t.table.formats.key, (t.table.formats.value, (t.root.level, (length t.table.name, (t.root.link, t.table.name))))))

abbrev TablePartsFit : TableParts → Type 0
TablePartsFit p = (p.0 < 2 ^ 32) × (Any p.1.0 × (Any p.1.1.0 × ((p.1.1.1.0 < 2 ^ 8) × ((p.1.1.1.1.0 < 2 ^ 8) × (LinkFits p.1.1.1.1.1.0 × (length p.1.1.1.1.1.1 ≡ p.1.1.1.1.0))))))

table_there : (p : TableParts) → TablePartsFit p → (table_parts (table_of p) ≡ p) × TableSpelled (table_of p)
table_there p h =
    let len = h.1.1.1.1.1.1 in
    (ap (λ (n : ℕ). (p.0, (p.1.0, (p.1.1.0, (p.1.1.1.0, (n, p.1.1.1.1.1)))))) len, record { number = h.0; level = h.1.1.1.0; name = omega (arith, len, h.1.1.1.1.0); link = h.1.1.1.1.1.0 })

pub table_field : IsField table_text table_at TableSpelled
unfolding table_at
table_field =
    again_field table_text TableSpelled (λ t. simp append_assoc refl) (λ t h. h) (λ t h. h)
    (seen_field table_of table_parts TableSpelled table_there (λ t h. (refl, (h.number, (tt, (tt, (h.level, (h.name, (h.link, refl))))))))
    (then_field field32 (λ number. then_field format_field (λ key. then_field format_field (λ value. then_field byte_field (λ level. then_field byte_field (λ len. then_field link_field (λ link. slice_field len))))))))

-- ---- a snapshot

abbrev Wide : ℕ → Type 0
Wide n = n < 2 ^ 64

pub record SnapshotSpelled (s : Snapshot) : Type 0 where
  pub min : s.min < 2 ^ 64
  pub max : s.max < 2 ^ 64
  pub few : length s.ids < 2 ^ 16
  pub ids : AllByRecursion (λ (n : ℕ). n < 2 ^ 64) s.ids

abbrev snapshot_parts : Snapshot → SnapshotParts
snapshot_parts s = (s.min, (s.max, (length s.ids, s.ids)))

abbrev SnapshotPartsFit : SnapshotParts → Type 0
SnapshotPartsFit p = (p.0 < 2 ^ 64) × ((p.1.0 < 2 ^ 64) × ((p.1.1.0 < 2 ^ 16) × ((length p.1.1.1 ≡ p.1.1.0) × AllByRecursion (λ (n : ℕ). n < 2 ^ 64) p.1.1.1)))

snapshot_there : (p : SnapshotParts) → SnapshotPartsFit p → (snapshot_parts (snapshot_of p) ≡ p) × SnapshotSpelled (snapshot_of p)
snapshot_there p h =
    let len = h.1.1.1.0 in
    (ap (λ (n : ℕ). (p.0, (p.1.0, (n, p.1.1.1)))) len, record { min = h.0; max = h.1.0; few = omega (arith, len, h.1.1.0); ids = h.1.1.1.1 })

pub snapshot_field : IsField snapshot_text snapshot_at SnapshotSpelled
unfolding snapshot_at
snapshot_field =
    again_field snapshot_text SnapshotSpelled (λ s. simp append_assoc refl) (λ s h. h) (λ s h. h)
    (seen_field snapshot_of snapshot_parts SnapshotSpelled snapshot_there (λ s h. (refl, (h.min, (h.max, (h.few, (refl, h.ids))))))
    (then_field field64 (λ min. then_field field64 (λ max. then_field field16 (λ count. many_field field64 count)))))

-- ---- a record

pub record RecordSpelled (count : ℕ) (r : Record) : Type 0 where
  pub sequence : r.sequence < 2 ^ 64
  pub run : r.run < 2 ^ 64
  pub oldest : r.oldest < 2 ^ 64
  pub stable : r.stable < 2 ^ 64
  pub snapshot : SnapshotSpelled r.snapshot
  pub next : r.next_table < 2 ^ 32
  pub level : r.history.level < 2 ^ 8
  pub link : LinkFits r.history.link
  pub many : length r.tables ≡ count
  pub tables : AllByRecursion TableSpelled r.tables

abbrev record_parts : Record → RecordParts
record_parts r = (r.sequence, (r.run, (r.oldest, (r.stable, (r.snapshot, (r.next_table, (r.history.level, (r.history.link, r.tables))))))))

pub record_field : (count : ℕ) → IsField record_body (record_at count) (RecordSpelled count)
unfolding record_at
record_field count =
    again_field record_body (RecordSpelled count) (λ r. simp append_assoc refl)
    (λ r h. record { sequence = h.0; run = h.1.0; oldest = h.1.1.0; stable = h.1.1.1.0; snapshot = h.1.1.1.1.0; next = h.1.1.1.1.1.0; level = h.1.1.1.1.1.1.0; link = h.1.1.1.1.1.1.1.0; many = h.1.1.1.1.1.1.1.1.0; tables = h.1.1.1.1.1.1.1.1.1 })
    (λ r h. (h.sequence, (h.run, (h.oldest, (h.stable, (h.snapshot, (h.next, (h.level, (h.link, (h.many, h.tables))))))))))
    (as_field record_of record_parts (λ p. refl) (λ r. refl)
    (then_field field64 (λ sequence. then_field field64 (λ run. then_field field64 (λ oldest. then_field field64 (λ stable. then_field snapshot_field (λ snapshot. then_field field32 (λ next. then_field byte_field (λ level. then_field link_field (λ link. many_field table_field count))))))))))
