-- Pages of the history: their entries are read one after the other, and their records climb.
use Rattle.std.proofs.Common.{◌≡◌, ℕ, ◌*◌, ◌^◌, ◌≤◌, ◌<◌, true, false, List, [], ◌∷◌, length, slice_index, Option, Some, None, refl, sym, ap, subst, arith}
use Rattle.std.specs.Prelude.{nat_le, nat_lt}
use Rattle.std.specs.List.{flat_map, AllByRecursion}
use Rattle.std.proofs.lemmas.Bool.{both_ways, and_parts, and_from, leb-true, le-leb, ltb-true, lt-ltb}
use Rattle.std.proofs.lemmas.List.{length-append}
use Rattle.std.proofs.lemmas.Option.{cond_some}
use Rattle.le_codec.specs.Fields.{IsField, IsBytes, le}
use Rattle.le_codec.specs.Combine.{Chained}
use Rattle.le_codec.proofs.Combined.{try_field}
use Rattle.row_page.specs.Rows.{key_most, IsNumber}
use Rattle.row_page.specs.Reading.{is_number}
use Rattle.stored.specs.TableTree.{Entry, entry_text}
use Rattle.stored.specs.HistoryTree.{Mark, is_before, comes_behind, HistoryEntry, history_entry_text, HistoryEntryFits, HistoryClimbs, AreHistoryEntries}
use Rattle.stored.proofs.Fields.{HistoryEntrySpelled, history_entry_field}
use Rattle.stored.proofs.Exact.{length-history-entry}
use Rattle.le_codec.specs.Images.{first_format, framed, block_of, HoldsImage}
use Rattle.inner_page.specs.Pages.{IsTablePage, IsHistoryPage, page_fits}
use Rattle.inner_page.specs.Marks.{name_fits}
use Rattle.inner_page.specs.HistoryReading.{mark_fits, history_entry_fits, history_entry_behind, history_entry_behind_at, mark_in, history_entries_at}
use Rattle.inner_page.proofs.Halving.{Rises}
use Rattle.inner_page.proofs.Lists.{all_more}
use Rattle.inner_page.proofs.MarkOrder.{before_trans}
use Rattle.inner_page.proofs.Grammars.{Grammar, IsIn, no_image, no_page, found_is, page_read, one_block}
use Rattle.inner_page.proofs.PageHeads.{fits_true, fits_are}

-- an entry fits, and its record comes behind the one before
abbrev pub After : Option Mark → HistoryEntry → Type 0
After before e = HistoryEntryFits e × (comes_behind before e.least ≡ true)

number_true : (n : ℕ) → is_number n ≡ true → IsNumber n
number_true n e =
    let p = and_parts (nat_le 1 n) (nat_lt n (2 ^ 62)) e in
    (leb-true 1 n p.0, ltb-true n (2 ^ 62) p.1)

number_is : (n : ℕ) → IsNumber n → is_number n ≡ true
number_is n h = and_from (nat_le 1 n) (nat_lt n (2 ^ 62)) (le-leb 1 n h.0) (lt-ltb n (2 ^ 62) h.1)

mark_true : (e : HistoryEntry) → HistoryEntrySpelled e → mark_fits e.least ≡ true → HistoryEntryFits e
mark_true e h is =
    let m = e.least in
    let a = and_parts (nat_le (length m.key) key_most) (name_fits m.name) is in
    let b = and_parts (is_number m.name.run) (is_number m.name.id) a.1 in
    record { table = h.table; key = leb-true (length m.key) key_most a.0; commit = h.commit; name = record { run = number_true m.name.run b.0; id = number_true m.name.id b.1 }; link = h.link }

mark_is : (e : HistoryEntry) → HistoryEntryFits e → mark_fits e.least ≡ true
mark_is e h =
    let m = e.least in
    and_from (nat_le (length m.key) key_most) (name_fits m.name) (le-leb (length m.key) key_most h.key)
    (and_from (is_number m.name.run) (is_number m.name.id) (number_is m.name.run h.name.run) (number_is m.name.id h.name.id))

spelled : (e : HistoryEntry) → HistoryEntryFits e → HistoryEntrySpelled e
spelled e h = record { table = h.table; key = omega (arith, h.key); commit = h.commit; run = omega (arith, h.name.run.1); id = omega (arith, h.name.id.1); link = h.link }

behind_there : (before : Option Mark) (a b : HistoryEntry) → HistoryEntrySpelled a → history_entry_behind before a ≡ Some b → (b ≡ a) × After before b
behind_there before a b h e =
    let g = cond_some (history_entry_fits before a) a b e in
    let p = and_parts (mark_fits a.least) (comes_behind before a.least) g.0 in
    (sym g.1, subst (λ (x : HistoryEntry). After before x) g.1 (mark_true a h p.0, p.1))

behind_here : (before : Option Mark) (b : HistoryEntry) → After before b → (history_entry_behind before b ≡ Some b) × HistoryEntrySpelled b
behind_here before b h =
    let fits : history_entry_fits before b ≡ true = and_from (mark_fits b.least) (comes_behind before b.least) (mark_is b h.0) h.1 in
    (rw fits refl, spelled b h.0)

abbrev same_entry : HistoryEntry → HistoryEntry
same_entry e = e

pub behind_field : (before : Option Mark) → IsField history_entry_text (history_entry_behind_at before) (After before)
unfolding history_entry_behind_at
behind_field before = try_field (history_entry_behind before) same_entry (After before) (behind_there before) (behind_here before) history_entry_field

abbrev pub history_grammar : Grammar HistoryEntry (Option Mark)
history_grammar = record {
  kind = 4;
  lowest = 1;
  highest = 60;
  most = 4080;
  spell = history_entry_text;
  read = history_entry_behind_at;
  Suits = After;
  next = mark_in;
  start = None;
  field = behind_field;
  some = λ e. omega (arith, length-history-entry e);
  kind_fits = omega arith;
  highest_fits = omega arith;
  most_fits = omega arith;
}

-- ---- records that climb

chained : (before : Option Mark) (e : HistoryEntry) (es : List HistoryEntry) → comes_behind before e.least ≡ true → AllByRecursion (λ (x : HistoryEntry). HistoryEntryFits x) (e ∷ es) → HistoryClimbs (e ∷ es) → Chained After mark_in before (e ∷ es)
chained before e [] after fit climbs = ((fit.0, after), tt)
chained before e (f ∷ es) after fit climbs = ((fit.0, after), chained (Some e.least) f es climbs.0 fit.1 climbs.1)

chain_fits : (before : Option Mark) (es : List HistoryEntry) → Chained After mark_in before es → AllByRecursion (λ (x : HistoryEntry). HistoryEntryFits x) es
chain_fits before [] h = tt
chain_fits before (e ∷ es) h = (h.0.0, chain_fits (Some e.least) es h.1)

chain_climbs : (before : Option Mark) (es : List HistoryEntry) → Chained After mark_in before es → HistoryClimbs es
chain_climbs before [] h = tt
chain_climbs before (e ∷ []) h = tt
chain_climbs before (e ∷ f ∷ es) h = (h.1.0.1, chain_climbs (Some e.least) (f ∷ es) h.1)

pub is_in : (level : ℕ) (es : List HistoryEntry) → AreHistoryEntries level es → IsIn history_grammar level es
is_in level [] ok = absurd (omega (arith, ok.some))
is_in level (e ∷ es) ok = record { some = ok.some; chained = chained None e es refl ok.fit ok.climbs; low = ok.low; high = ok.high; size = omega (arith, ok.size) }

pub are_entries : (level : ℕ) (es : List HistoryEntry) → IsIn history_grammar level es → AreHistoryEntries level es
are_entries level es h = record { some = h.some; fit = chain_fits None es h.chained; climbs = chain_climbs None es h.chained; low = h.low; high = h.high; size = omega (arith, h.size) }

pub entries_upto : (es : List HistoryEntry) → 70 * length es ≤ length (flat_map history_entry_text es)
entries_upto [] = omega arith
entries_upto (e ∷ es) = omega (arith, entries_upto es, length-append (history_entry_text e) (flat_map history_entry_text es), length-history-entry e)

-- a mark before one entry's record is before those of all behind it
pub rises : (mark : Mark) (es : List HistoryEntry) → HistoryClimbs es → Rises (λ (e : HistoryEntry). is_before mark e.least) es
rises mark [] climbs = tt
rises mark (e ∷ []) climbs = tt
rises mark (e ∷ f ∷ es) climbs = (λ before. before_trans mark e.least f.least before climbs.0, rises mark (f ∷ es) climbs.1)

pub keys_short : (level : ℕ) (es : List HistoryEntry) → AreHistoryEntries level es → AllByRecursion (λ (e : HistoryEntry). length e.least.key ≤ 1024) es
keys_short level es ok = all_more (λ (e : HistoryEntry). HistoryEntryFits e) (λ (e : HistoryEntry). length e.least.key ≤ 1024) (λ e fits. fits.key) es ok.fit

pub one_history_page : (block : List ℕ) (level other : ℕ) (p q : List HistoryEntry) → IsHistoryPage block level p → IsHistoryPage block other q → (level ≡ other) × (p ≡ q)
one_history_page block level other p q hp hq = one_block history_grammar block level other p q (is_in level p hp.admitted) (is_in other q hq.admitted) hp.spelled hq.spelled

-- ---- from a block

-- no image, no page
pub no_history_image : (block : List ℕ) → ((count level : ℕ) (text : List ℕ) → HoldsImage 4 first_format block count level text → ⊥) → (level : ℕ) (es : List HistoryEntry) → IsHistoryPage block level es → ⊥
no_history_image block none level es page = no_image history_grammar block none level es (is_in level es page.admitted) page.spelled

-- the header is no page's
pub no_history_head : (block : List ℕ) (count level : ℕ) (text : List ℕ) → HoldsImage 4 first_format block count level text → page_fits 70 level count (length text) ≡ false → (other : ℕ) (es : List HistoryEntry) → IsHistoryPage block other es → ⊥
no_history_head block count level text h isnt other es page =
    let f = found_is history_grammar block count level text h other es (is_in other es page.admitted) page.spelled in
    let ok = page.admitted in
    let long : length text ≡ length (flat_map history_entry_text es) = ap length f.2 in
    both_ways (page_fits 70 level count (length text)) isnt
    (fits_are 70 level count (length text) (record { low = omega (arith, f.1, ok.low); high = omega (arith, f.1, ok.high); some = omega (arith, f.0, ok.some); room = omega (arith, f.0, long, entries_upto es); most = omega (arith, long, ok.size) }))

-- the text has no such entries
pub no_history_page : (block : List ℕ) (count level : ℕ) (text : List ℕ) → HoldsImage 4 first_format block count level text → ((es : List HistoryEntry) → history_entries_at count None text ≡ Some (es, []) → ⊥) → (other : ℕ) (es : List HistoryEntry) → IsHistoryPage block other es → ⊥
no_history_page block count level text h none other es page = no_page history_grammar block count level text h none other es (is_in other es page.admitted) page.spelled

pub history_page : (block : List ℕ) (count level : ℕ) (text : List ℕ) (es : List HistoryEntry) → IsBytes block → HoldsImage 4 first_format block count level text → page_fits 70 level count (length text) ≡ true → history_entries_at count None text ≡ Some (es, []) → IsHistoryPage block level es
history_page block count level text es bytes h fits is =
    let r = page_read history_grammar block count level text es bytes h is in
    let k = fits_true 70 level count (length text) fits in
    record {
      admitted = are_entries level es (record { some = omega (arith, k.some, r.0.count_is); chained = r.0.chained; low = k.low; high = k.high; size = omega (arith, k.most, ap length r.0.text_is) });
      spelled = r.1;
    }

-- ---- the kinds

pub first_byte : (kind count level : ℕ) (text : List ℕ) → kind < 256 → slice_index (block_of (framed kind first_format count level text)) 0 ≡ kind
unfolding le
first_byte kind count level text small = omega (arith, small)

pub kinds_part : (block : List ℕ) (level other : ℕ) (p : List Entry) (q : List HistoryEntry) → IsTablePage block level p → IsHistoryPage block other q → ⊥
kinds_part block level other p q table history =
    let two = first_byte 2 (length p) level (flat_map entry_text p) (omega arith) in
    let four = first_byte 4 (length q) other (flat_map history_entry_text q) (omega arith) in
    omega (arith, ap (λ (l : List ℕ). slice_index l 0) table.spelled, ap (λ (l : List ℕ). slice_index l 0) history.spelled, two, four)
