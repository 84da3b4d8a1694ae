-- Leaves of the history: their records are read one after the other, and ascend.
use Rattle.std.proofs.Common.{◌≡◌, ℕ, ◌+◌, ◌*◌, ◌≤◌, true, false, List, [], ◌∷◌, length, slice_index, Option, Some, None, refl, sym, ap, subst, ◌∙◌, arith}
use Rattle.std.specs.Prelude.{◌&&◌, ◌==◌, nat_le}
use Rattle.std.specs.List.{flat_map, AllByRecursion}
use Rattle.std.specs.Int.{w32}
use Rattle.std.proofs.lemmas.Bool.{both_ways, and_parts, and_from, leb-true, le-leb, eqb-true, eq-eqb}
use Rattle.std.proofs.lemmas.List.{length-append}
use Rattle.std.proofs.lemmas.Option.{cond_some}
use Rattle.le_codec.specs.Fields.{IsField, IsBytes, le}
use Rattle.le_codec.specs.Combine.{Chained}
use Rattle.le_codec.specs.Images.{first_format, framed, block_of, HoldsImage}
use Rattle.le_codec.proofs.Laws.{length_32}
use Rattle.le_codec.proofs.Combined.{try_field}
use Rattle.row_page.specs.Rows.{cell, value_of}
use Rattle.row_page.proofs.Leaves.{length-cell}
use Rattle.stored.specs.HistoryTree.{HistoryEntry, history_entry_text, HistoryRecord, Mark, mark_of, comes_behind, record_text, RecordFits, RecordsAscend, AreRecords}
use Rattle.stored.proofs.Fields.{placed_field}
use Rattle.inner_page.specs.Pages.{IsHistoryPage, IsHistoryLeaf, leaf_fits}
use Rattle.inner_page.specs.RecordReading.{record_behind, record_behind_at, mark_in, records_at}
use Rattle.inner_page.specs.Names.{names_differ}
use Rattle.inner_page.proofs.HistoryPages.{first_byte}
use Rattle.inner_page.proofs.NamesOnce.{differ_true, differ_is}
use Rattle.inner_page.proofs.Grammars.{Grammar, IsIn, no_image, no_page, found_is, page_read, read_as, one_block}

-- a record fits, and comes behind the one before
abbrev pub After : Option Mark → HistoryRecord → Type 0
After before r = RecordFits r × (comes_behind before (mark_of r) ≡ true)

behind_there : (before : Option Mark) (a b : HistoryRecord) → RecordFits a → record_behind before a ≡ Some b → (b ≡ a) × After before b
behind_there before a b h e =
    let g = cond_some (comes_behind before (mark_of a)) a b e in
    (sym g.1, subst (λ (x : HistoryRecord). After before x) g.1 (h, g.0))

behind_here : (before : Option Mark) (b : HistoryRecord) → After before b → (record_behind before b ≡ Some b) × RecordFits b
behind_here before b h = (rw h.1 refl, h.0)

abbrev same_record : HistoryRecord → HistoryRecord
same_record r = r

pub behind_field : (before : Option Mark) → IsField record_text (record_behind_at before) (After before)
unfolding record_behind_at
behind_field before = try_field (record_behind before) same_record (After before) (behind_there before) (behind_here before) placed_field

pub length-record : (r : HistoryRecord) → length (record_text r) ≡ 43 + length r.key + length (value_of r.version.change)
length-record r = omega (arith, length-append (le w32 r.table) (cell (r.key, r.version)), length_32 r.table, length-cell (r.key, r.version))

abbrev pub leaf_grammar : Grammar HistoryRecord (Option Mark)
leaf_grammar = record {
  kind = 3;
  lowest = 0;
  highest = 0;
  most = 32752;
  spell = record_text;
  read = record_behind_at;
  Suits = After;
  next = mark_in;
  start = None;
  field = behind_field;
  some = λ r. omega (arith, length-record r);
  kind_fits = omega arith;
  highest_fits = omega arith;
  most_fits = omega arith;
}

-- ---- records that ascend

chained : (before : Option Mark) (records : List HistoryRecord) → AllByRecursion (λ (x : HistoryRecord). RecordFits x) records → RecordsAscend before records → Chained After mark_in before records
chained before [] fit ascend = tt
chained before (r ∷ records) fit ascend = ((fit.0, ascend.0), chained (Some (mark_of r)) records fit.1 ascend.1)

chain_fits : (before : Option Mark) (records : List HistoryRecord) → Chained After mark_in before records → AllByRecursion (λ (x : HistoryRecord). RecordFits x) records
chain_fits before [] h = tt
chain_fits before (r ∷ records) h = (h.0.0, chain_fits (Some (mark_of r)) records h.1)

chain_ascends : (before : Option Mark) (records : List HistoryRecord) → Chained After mark_in before records → RecordsAscend before records
chain_ascends before [] h = tt
chain_ascends before (r ∷ records) h = (h.0.1, chain_ascends (Some (mark_of r)) records h.1)

is_in : (records : List HistoryRecord) → AreRecords records → IsIn leaf_grammar 0 records
is_in records ok = record { some = ok.some; chained = chained None records ok.fit ok.ascend; low = omega arith; high = omega arith; size = omega (arith, ok.size) }

pub records_upto : (records : List HistoryRecord) → 43 * length records ≤ length (flat_map record_text records)
records_upto [] = omega arith
records_upto (r ∷ records) = omega (arith, records_upto records, length-append (record_text r) (flat_map record_text records), length-record r)

pub one_leaf_page : (block : List ℕ) (p q : List HistoryRecord) → IsHistoryLeaf block p → IsHistoryLeaf block q → p ≡ q
one_leaf_page block p q hp hq = (one_block leaf_grammar block 0 0 p q (is_in p hp.admitted) (is_in q hq.admitted) hp.spelled hq.spelled).1

pub leaf_parts : (block : List ℕ) (level : ℕ) (p : List HistoryEntry) (records : List HistoryRecord) → IsHistoryPage block level p → IsHistoryLeaf block records → ⊥
leaf_parts block level p records page leaf =
    let four = first_byte 4 (length p) level (flat_map history_entry_text p) (omega arith) in
    let three = first_byte 3 (length records) 0 (flat_map record_text records) (omega arith) in
    omega (arith, ap (λ (l : List ℕ). slice_index l 0) page.spelled, ap (λ (l : List ℕ). slice_index l 0) leaf.spelled, four, three)

-- ---- from a block

record LeafFits (at count len : ℕ) : Type 0 where
  level : at ≡ 0
  some : 1 ≤ count
  room : 43 * count ≤ len
  most : len ≤ 32752

fits_true : (level count len : ℕ) → leaf_fits level count len ≡ true → LeafFits level count len
fits_true level count len e =
    let a = and_parts ((level == 0) && nat_le 1 count && nat_le (43 * count) len) (nat_le len 32752) e in
    let b = and_parts ((level == 0) && nat_le 1 count) (nat_le (43 * count) len) a.0 in
    let c = and_parts (level == 0) (nat_le 1 count) b.0 in
    record { level = eqb-true level 0 c.0; some = leb-true 1 count c.1; room = leb-true (43 * count) len b.1; most = leb-true len 32752 a.1 }

fits_are : (level count len : ℕ) → LeafFits level count len → leaf_fits level count len ≡ true
fits_are level count len h =
    and_from ((level == 0) && nat_le 1 count && nat_le (43 * count) len) (nat_le len 32752)
    (and_from ((level == 0) && nat_le 1 count) (nat_le (43 * count) len)
    (and_from (level == 0) (nat_le 1 count) (eq-eqb level 0 h.level) (le-leb 1 count h.some)) (le-leb (43 * count) len h.room)) (le-leb len 32752 h.most)

-- no image, no leaf
pub no_leaf_image : (block : List ℕ) → ((count level : ℕ) (text : List ℕ) → HoldsImage 3 first_format block count level text → ⊥) → (records : List HistoryRecord) → IsHistoryLeaf block records → ⊥
no_leaf_image block none records leaf = no_image leaf_grammar block none 0 records (is_in records leaf.admitted) leaf.spelled

-- the header is no leaf's
pub no_leaf_head : (block : List ℕ) (count level : ℕ) (text : List ℕ) → HoldsImage 3 first_format block count level text → leaf_fits level count (length text) ≡ false → (records : List HistoryRecord) → IsHistoryLeaf block records → ⊥
no_leaf_head block count level text h isnt records leaf =
    let f = found_is leaf_grammar block count level text h 0 records (is_in records leaf.admitted) leaf.spelled in
    let ok = leaf.admitted in
    let long : length text ≡ length (flat_map record_text records) = ap length f.2 in
    both_ways (leaf_fits level count (length text)) isnt
    (fits_are level count (length text) (record { level = f.1; some = omega (arith, f.0, ok.some); room = omega (arith, f.0, long, records_upto records); most = omega (arith, long, ok.size) }))

-- the text has no such records
pub no_leaf_page : (block : List ℕ) (count level : ℕ) (text : List ℕ) → HoldsImage 3 first_format block count level text → ((records : List HistoryRecord) → records_at count None text ≡ Some (records, []) → ⊥) → (records : List HistoryRecord) → IsHistoryLeaf block records → ⊥
no_leaf_page block count level text h none records leaf = no_page leaf_grammar block count level text h none 0 records (is_in records leaf.admitted) leaf.spelled

-- the records that were read have a name twice
pub no_leaf_names : (block : List ℕ) (count level : ℕ) (text : List ℕ) (found : List HistoryRecord) → HoldsImage 3 first_format block count level text → records_at count None text ≡ Some (found, []) → names_differ found ≡ false → (records : List HistoryRecord) → IsHistoryLeaf block records → ⊥
no_leaf_names block count level text found h is isnt records leaf =
    let f = found_is leaf_grammar block count level text h 0 records (is_in records leaf.admitted) leaf.spelled in
    let same = read_as leaf_grammar count text found records is f.0 f.2 (is_in records leaf.admitted).chained in
    both_ways (names_differ found) isnt (ap names_differ same ∙ differ_is records leaf.admitted.once)

pub history_leaf : (block : List ℕ) (count level : ℕ) (text : List ℕ) (records : List HistoryRecord) → IsBytes block → HoldsImage 3 first_format block count level text → leaf_fits level count (length text) ≡ true → records_at count None text ≡ Some (records, [])
    → names_differ records ≡ true → IsHistoryLeaf block records
history_leaf block count level text records bytes h fits is names =
    let r = page_read leaf_grammar block count level text records bytes h is in
    let k = fits_true level count (length text) fits in
    let ascend : RecordsAscend None records = chain_ascends None records r.0.chained in
    record {
      admitted = record { some = omega (arith, k.some, r.0.count_is); fit = chain_fits None records r.0.chained; ascend = ascend; once = differ_true records ascend names; size = omega (arith, k.most, ap length r.0.text_is) };
      spelled = r.1 ∙ ap (λ (n : ℕ). block_of (framed 3 first_format (length records) n (flat_map record_text records))) k.level;
    }
