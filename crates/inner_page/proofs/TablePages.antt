-- Pages of tables: their entries are read one after the other, and their keys climb.
use Rattle.std.proofs.Common.{◌≡◌, ℕ, ◌*◌, ◌≤◌, true, false, List, [], ◌∷◌, length, Option, Some, None, refl, sym, ap, subst, arith}
use Rattle.std.specs.Prelude.{nat_le}
use Rattle.std.specs.List.{flat_map, AllByRecursion}
use Rattle.std.proofs.lemmas.Bool.{both_ways, and_parts, and_from, leb-true, le-leb}
use Rattle.std.proofs.lemmas.List.{length-append}
use Rattle.std.proofs.lemmas.Option.{cond_some}
use Rattle.le_codec.specs.Fields.{IsField, IsBytes}
use Rattle.le_codec.specs.Combine.{Chained}
use Rattle.le_codec.proofs.Combined.{try_field}
use Rattle.row_page.specs.Rows.{key_most, is_below, comes_after}
use Rattle.row_page.proofs.Ascending.{below_trans}
use Rattle.stored.specs.TableTree.{Entry, entry_text, EntryFits, Climbs, AreEntries}
use Rattle.stored.proofs.Fields.{EntrySpelled, entry_field}
use Rattle.stored.proofs.Exact.{length-entry}
use Rattle.le_codec.specs.Images.{first_format, HoldsImage}
use Rattle.inner_page.specs.Pages.{IsTablePage, page_fits}
use Rattle.inner_page.specs.TableReading.{entry_fits, entry_behind, entry_behind_at, key_in, entries_at}
use Rattle.inner_page.proofs.Halving.{Rises}
use Rattle.inner_page.proofs.Lists.{all_more}
use Rattle.inner_page.proofs.Grammars.{Grammar, IsIn, no_image, no_page, found_is, page_read, one_block}
use Rattle.inner_page.proofs.PageHeads.{fits_true, fits_are}

-- an entry fits, and its key comes after the one before
abbrev pub After : Option (List ℕ) → Entry → Type 0
After before e = EntryFits e × (comes_after before e.key ≡ true)

behind_there : (before : Option (List ℕ)) (a b : Entry) → EntrySpelled a → entry_behind before a ≡ Some b → (b ≡ a) × After before b
behind_there before a b h e =
    let g = cond_some (entry_fits before a) a b e in
    let p = and_parts (nat_le (length a.key) key_most) (comes_after before a.key) g.0 in
    (sym g.1, subst (λ (x : Entry). After before x) g.1 (record { key = leb-true (length a.key) key_most p.0; link = h.link }, p.1))

behind_here : (before : Option (List ℕ)) (b : Entry) → After before b → (entry_behind before b ≡ Some b) × EntrySpelled b
behind_here before b h =
    let fits : entry_fits before b ≡ true = and_from (nat_le (length b.key) key_most) (comes_after before b.key) (le-leb (length b.key) key_most h.0.key) h.1 in
    (rw fits refl, record { key = omega (arith, h.0.key); link = h.0.link })

abbrev same_entry : Entry → Entry
same_entry e = e

pub behind_field : (before : Option (List ℕ)) → IsField entry_text (entry_behind_at before) (After before)
unfolding entry_behind_at
behind_field before = try_field (entry_behind before) same_entry (After before) (behind_there before) (behind_here before) entry_field

abbrev pub table_grammar : Grammar Entry (Option (List ℕ))
table_grammar = record {
  kind = 2;
  lowest = 1;
  highest = 60;
  most = 4080;
  spell = entry_text;
  read = entry_behind_at;
  Suits = After;
  next = key_in;
  start = None;
  field = behind_field;
  some = λ e. omega (arith, length-entry e);
  kind_fits = omega arith;
  highest_fits = omega arith;
  most_fits = omega arith;
}

-- ---- keys that climb

chained : (before : Option (List ℕ)) (e : Entry) (es : List Entry) → comes_after before e.key ≡ true → AllByRecursion (λ (x : Entry). EntryFits x) (e ∷ es) → Climbs (e ∷ es) → Chained After key_in before (e ∷ es)
chained before e [] after fit climbs = ((fit.0, after), tt)
chained before e (f ∷ es) after fit climbs = ((fit.0, after), chained (Some e.key) f es climbs.0 fit.1 climbs.1)

chain_fits : (before : Option (List ℕ)) (es : List Entry) → Chained After key_in before es → AllByRecursion (λ (x : Entry). EntryFits x) es
chain_fits before [] h = tt
chain_fits before (e ∷ es) h = (h.0.0, chain_fits (Some e.key) es h.1)

chain_climbs : (before : Option (List ℕ)) (es : List Entry) → Chained After key_in before es → Climbs es
chain_climbs before [] h = tt
chain_climbs before (e ∷ []) h = tt
chain_climbs before (e ∷ f ∷ es) h = (h.1.0.1, chain_climbs (Some e.key) (f ∷ es) h.1)

pub is_in : (level : ℕ) (es : List Entry) → AreEntries level es → IsIn table_grammar level es
is_in level [] ok = absurd (omega (arith, ok.some))
is_in level (e ∷ es) ok = record { some = ok.some; chained = chained None e es refl ok.fit ok.climbs; low = ok.low; high = ok.high; size = omega (arith, ok.size) }

pub are_entries : (level : ℕ) (es : List Entry) → IsIn table_grammar level es → AreEntries level es
are_entries level es h = record { some = h.some; fit = chain_fits None es h.chained; climbs = chain_climbs None es h.chained; low = h.low; high = h.high; size = omega (arith, h.size) }

pub entries_upto : (es : List Entry) → 42 * length es ≤ length (flat_map entry_text es)
entries_upto [] = omega arith
entries_upto (e ∷ es) = omega (arith, entries_upto es, length-append (entry_text e) (flat_map entry_text es), length-entry e)

-- a key that is below one entry's is below those of all behind it
pub rises : (key : List ℕ) (es : List Entry) → Climbs es → Rises (λ (e : Entry). is_below key e.key) es
rises key [] climbs = tt
rises key (e ∷ []) climbs = tt
rises key (e ∷ f ∷ es) climbs = (λ above. below_trans key e.key f.key above climbs.0, rises key (f ∷ es) climbs.1)

pub keys_short : (level : ℕ) (es : List Entry) → AreEntries level es → AllByRecursion (λ (e : Entry). length e.key ≤ 1024) es
keys_short level es ok = all_more (λ (e : Entry). EntryFits e) (λ (e : Entry). length e.key ≤ 1024) (λ e fits. fits.key) es ok.fit

pub one_table_page : (block : List ℕ) (level other : ℕ) (p q : List Entry) → IsTablePage block level p → IsTablePage block other q → (level ≡ other) × (p ≡ q)
one_table_page block level other p q hp hq = one_block table_grammar block level other p q (is_in level p hp.admitted) (is_in other q hq.admitted) hp.spelled hq.spelled

-- ---- from a block

-- no image, no page
pub no_table_image : (block : List ℕ) → ((count level : ℕ) (text : List ℕ) → HoldsImage 2 first_format block count level text → ⊥) → (level : ℕ) (es : List Entry) → IsTablePage block level es → ⊥
no_table_image block none level es page = no_image table_grammar block none level es (is_in level es page.admitted) page.spelled

-- the header is no page's
pub no_table_head : (block : List ℕ) (count level : ℕ) (text : List ℕ) → HoldsImage 2 first_format block count level text → page_fits 42 level count (length text) ≡ false → (other : ℕ) (es : List Entry) → IsTablePage block other es → ⊥
no_table_head block count level text h isnt other es page =
    let f = found_is table_grammar block count level text h other es (is_in other es page.admitted) page.spelled in
    let ok = page.admitted in
    let long : length text ≡ length (flat_map entry_text es) = ap length f.2 in
    both_ways (page_fits 42 level count (length text)) isnt
    (fits_are 42 level count (length text) (record { low = omega (arith, f.1, ok.low); high = omega (arith, f.1, ok.high); some = omega (arith, f.0, ok.some); room = omega (arith, f.0, long, entries_upto es); most = omega (arith, long, ok.size) }))

-- the text has no such entries
pub no_table_page : (block : List ℕ) (count level : ℕ) (text : List ℕ) → HoldsImage 2 first_format block count level text → ((es : List Entry) → entries_at count None text ≡ Some (es, []) → ⊥) → (other : ℕ) (es : List Entry) → IsTablePage block other es → ⊥
no_table_page block count level text h none other es page = no_page table_grammar block count level text h none other es (is_in other es page.admitted) page.spelled

pub table_page : (block : List ℕ) (count level : ℕ) (text : List ℕ) (es : List Entry) → IsBytes block → HoldsImage 2 first_format block count level text → page_fits 42 level count (length text) ≡ true → entries_at count None text ≡ Some (es, []) → IsTablePage block level es
table_page block count level text es bytes h fits is =
    let r = page_read table_grammar block count level text es bytes h is in
    let k = fits_true 42 level count (length text) fits in
    record {
      admitted = are_entries level es (record { some = omega (arith, k.some, r.0.count_is); chained = r.0.chained; low = k.low; high = k.high; size = omega (arith, k.most, ap length r.0.text_is) });
      spelled = r.1;
    }
