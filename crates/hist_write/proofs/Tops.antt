-- Entries cut into pages, up to a root, whatever stands on the device.
use Rattle.std.specs.Prelude.{◌≡◌, ℕ, zero, suc, ◌+◌, ◌*◌, ◌^◌, ◌<◌, ◌≤◌, true, List, [], ◌∷◌, ◌++◌, length, map, Option, Some, None, refl, slice_get}
use Rattle.std.specs.List.{AllByRecursion, flat_map}
use Rattle.std.proofs.Common.{inl, inr, sym, ◌∙◌, ap, subst, arith, append_assoc}
use Rattle.std.proofs.lemmas.Bool.{cases_Bool, cases_lt}
use Rattle.std.proofs.lemmas.List.{length-append}
use Rattle.stamp.specs.declared.name.Name.{Name}
use Rattle.stamp.specs.Order.{is_before as is_earlier, later}
use Rattle.row_page.specs.Greatest.{greatest_in, most_in}
use Rattle.inner_page.proofs.MarkOrder.{before_trans}
use Rattle.stored.specs.Tree.{AllLead, Layer, Lead, bottom, join}
use Rattle.stored.specs.HistoryTree.{AreHistoryEntries, HistoryClimbs, HistoryEntry, HistoryEntryFits, HistoryLeads, Mark, history_entry_text, first_mark, history_kind, is_before, start}
use Rattle.stored.proofs.Exact.{length-history-entry}
use Rattle.hist_pages.specs.Levels.{IsFull, page_length}
use Rattle.hist_write.specs.Cuts.{AreFullPages, page_count}
use Rattle.hist_write.specs.Steps.{IsCutInto, IsRisen, IsTop}
use Rattle.tree_write.proofs.Lists.{all_back, all_both, all_front}

-- ---- parts of entries

climbs_behind : (e : HistoryEntry) (es : List HistoryEntry) → HistoryClimbs (e ∷ es) → HistoryClimbs es
climbs_behind e [] c = tt
climbs_behind e (f ∷ es) c = c.1

climbs_front : (xs ys : List HistoryEntry) → HistoryClimbs (xs ++ ys) → HistoryClimbs xs
climbs_front [] ys c = tt
climbs_front (e ∷ []) ys c = tt
climbs_front (e ∷ f ∷ xs) ys c = (c.0, climbs_front (f ∷ xs) ys c.1)

climbs_back : (xs ys : List HistoryEntry) → HistoryClimbs (xs ++ ys) → HistoryClimbs ys
climbs_back [] ys c = c
climbs_back (e ∷ xs) ys c = climbs_back xs ys (climbs_behind e (xs ++ ys) c)

text_most : (es : List HistoryEntry) → AllByRecursion HistoryEntryFits es → length (flat_map history_entry_text es) ≤ 1094 * length es
text_most [] a = omega arith
text_most (e ∷ es) a =
    let more = text_most es a.1 in
    let both = length-append (history_entry_text e) (flat_map history_entry_text es) in
    let one = length-history-entry e in
    let key = a.0.key in
    omega (arith, more, both, one, key)

-- ---- a level

-- pages that begin with these entries, which are some
record Cut (level : ℕ) (front es : List HistoryEntry) : Type 0 where
  pub page : List HistoryEntry
  pub pages : Layer HistoryEntry
  pub whole : page ++ join pages ≡ front ++ es
  pub full : AreFullPages (page ∷ pages)
  pub sizes : AllByRecursion (λ (p : List HistoryEntry). (1 ≤ length p) × (page_length p ≤ 4096)) (page ∷ pages)

cut_from : (level : ℕ) (front es : List HistoryEntry) → 1 ≤ length front → page_length front ≤ 4096 → AllByRecursion HistoryEntryFits es → Cut level front es
cut_from level front [] some room fit = record { page = front; pages = []; whole = refl; full = ((λ e none. absurd (no_entry e none)), tt); sizes = ((some, room), tt) }
  where
    no_entry : (e : HistoryEntry) → None ≡ Some e → ⊥
    no_entry e same = cc
cut_from level front (e ∷ es) some room fit = elim (cases_lt 4096 (page_length (front ++ e ∷ []))) [
  | inl past ↦
      let rest = cut_from level (e ∷ []) es (omega arith) (alone e fit.0) fit.1 in
      record {
        page = front;
        pages = rest.page ∷ rest.pages;
        whole = ap (λ (l : List HistoryEntry). front ++ l) rest.whole;
        full = (subst (λ (l : List HistoryEntry). IsFull front l) (sym rest.whole) (λ x is. subst (λ (y : HistoryEntry). 4096 < page_length (front ++ y ∷ [])) (one is) past), rest.full);
        sizes = ((some, room), rest.sizes);
      }
  | inr fits ↦
      let rest = cut_from level (front ++ e ∷ []) es (longer front) (omega (arith, fits)) fit.1 in
      record { page = rest.page; pages = rest.pages; whole = rest.whole ∙ append_assoc front (e ∷ []) es; full = rest.full; sizes = rest.sizes }
]
  where
    one : {x y : HistoryEntry} → Some x ≡ Some y → x ≡ y
    one same = cc

    longer : (l : List HistoryEntry) → 1 ≤ length (l ++ e ∷ [])
    longer l = omega (arith, length-append l (e ∷ []))

    alone : (e : HistoryEntry) → HistoryEntryFits e → page_length (e ∷ []) ≤ 4096
    alone e fits = let most = text_most (e ∷ []) (fits, tt) in omega (arith, most)

admit : (level : ℕ) (pages : Layer HistoryEntry) → 1 ≤ level → level ≤ 60 → AllByRecursion (λ (p : List HistoryEntry). (1 ≤ length p) × (page_length p ≤ 4096)) pages → AllByRecursion HistoryEntryFits (join pages) → HistoryClimbs (join pages) → AllByRecursion (λ (p : List HistoryEntry). AreHistoryEntries level p) pages
admit level [] low high sizes fit climbs = tt
admit level (p ∷ pages) low high sizes fit climbs = (
  record { some = sizes.0.0; fit = all_front HistoryEntryFits p (join pages) fit; climbs = climbs_front p (join pages) climbs; low = low; high = high; size = sizes.0.1 },
  admit level pages low high sizes.1 (all_back HistoryEntryFits p (join pages) fit) (climbs_back p (join pages) climbs),
)

-- entries are cut into pages
pub cut_exists : (level : ℕ) (es : List HistoryEntry) → 1 ≤ length es → 1 ≤ level → level ≤ 60 → AllByRecursion HistoryEntryFits es → HistoryClimbs es → (pages : Layer HistoryEntry) × IsCutInto level es pages
cut_exists level [] some low high fit climbs = absurd (omega (arith, some))
cut_exists level (e ∷ es) some low high fit climbs =
    let most = text_most (e ∷ []) (fit.0, tt) in
    let cut = cut_from level (e ∷ []) es (omega arith) (omega (arith, most)) fit.1 in (
      cut.page ∷ cut.pages,
      record {
        whole = cut.whole;
        full = cut.full;
        admitted = admit level (cut.page ∷ cut.pages) low high cut.sizes (subst (λ (l : List HistoryEntry). AllByRecursion HistoryEntryFits l) (sym cut.whole) fit) (subst HistoryClimbs (sym cut.whole) climbs);
      },
    )

-- a page with others behind it has three entries at least
three : (front : List HistoryEntry) (e : HistoryEntry) → AllByRecursion HistoryEntryFits front → HistoryEntryFits e → 4096 < page_length (front ++ e ∷ []) → 3 ≤ length front
three front e a f full =
    let most = text_most (front ++ e ∷ []) (all_both HistoryEntryFits front (e ∷ []) a (f, tt)) in
    let long = length-append front (e ∷ []) in
    omega (arith, most, long, full)

first_entry : (level : ℕ) (p : List HistoryEntry) (more : List HistoryEntry) → AreHistoryEntries level p → (e : HistoryEntry) × (slice_get (p ++ more) 0 ≡ Some e) × HistoryEntryFits e
first_entry level [] more a = absurd (let some = a.some in omega (arith, some))
first_entry level (e ∷ p) more a = (e, refl, a.fit.0)

pub shrinks : (level : ℕ) (pages : Layer HistoryEntry) → AreFullPages pages → AllByRecursion (λ (p : List HistoryEntry). AreHistoryEntries level p) pages → 3 * length pages ≤ length (join pages) + 2
shrinks level [] full admitted = omega arith
shrinks level (p ∷ []) full admitted = let some = admitted.0.some in let long = length-append p [] in omega (arith, some, long)
shrinks level (p ∷ q ∷ pages) full admitted =
    let e = first_entry level q (join pages) admitted.1.0 in
    let more = three p e.0 admitted.0.fit e.2 (full.0 e.0 e.1) in
    let rest = shrinks level (q ∷ pages) full.1 admitted.1 in
    let long = length-append p (join (q ∷ pages)) in
    omega (arith, more, rest, long)

-- ---- the entries above pages

-- each entry has the key of its page's first
abbrev pub Heads : List HistoryEntry → Layer HistoryEntry → Type 0
Heads [] [] = Unit {0}
Heads [] (p ∷ pages) = ⊥
Heads (e ∷ own) [] = ⊥
Heads (e ∷ own) (p ∷ pages) = (first_mark p ≡ Some e.least) × Heads own pages

-- the first is before those behind it
before_behind : (e : HistoryEntry) (xs : List HistoryEntry) (f : HistoryEntry) (ys : List HistoryEntry) → HistoryClimbs (e ∷ (xs ++ f ∷ ys)) → is_before e.least f.least ≡ true
before_behind e [] f ys c = c.0
before_behind e (x ∷ xs) f ys c = before_trans e.least x.least f.least c.0 (before_behind x xs f ys c.1)

some_mark : {x y : Mark} → Some x ≡ Some y → x ≡ y
some_mark same = cc

none_mark : {x : Mark} → None ≡ Some x → ⊥
none_mark same = cc

pub above_climbs : (own : List HistoryEntry) (pages : Layer HistoryEntry) → Heads own pages → HistoryClimbs (join pages) → HistoryClimbs own
above_climbs [] pages heads c = tt
above_climbs (e ∷ []) pages heads c = tt
above_climbs (e ∷ f ∷ own) [] heads c = absurd heads
above_climbs (e ∷ f ∷ own) (p ∷ []) heads c = absurd heads.1
above_climbs (e ∷ f ∷ own) ([] ∷ q ∷ pages) heads c = absurd (none_mark heads.0)
above_climbs (e ∷ f ∷ own) ((x ∷ p) ∷ [] ∷ pages) heads c = absurd (none_mark heads.1.0)
above_climbs (e ∷ f ∷ own) ((x ∷ p) ∷ (y ∷ q) ∷ pages) heads c = (
  subst (λ (k : Mark). is_before k f.least ≡ true) (some_mark heads.0) (subst (λ (k : Mark). is_before x.least k ≡ true) (some_mark heads.1.0) (before_behind x p y (q ++ join pages) c)),
  above_climbs (f ∷ own) ((y ∷ q) ∷ pages) heads.1 (climbs_back (x ∷ p) ((y ∷ q) ++ join pages) c),
)

pub heads_length : (own : List HistoryEntry) (pages : Layer HistoryEntry) → Heads own pages → length own ≡ length pages
heads_length [] [] heads = refl
heads_length [] (p ∷ pages) heads = absurd heads
heads_length (e ∷ own) [] heads = absurd heads
heads_length (e ∷ own) (p ∷ pages) heads = ap (λ (n : ℕ). suc n) (heads_length own pages heads.1)

-- ---- entries that lead to pages, wherever these stand

abbrev NameFits : Name → Type 0
NameFits n = (n.run < 2 ^ 64) × (n.id < 2 ^ 64)

later_fits : (x y : Name) → NameFits x → NameFits y → NameFits (later x y)
later_fits x y one other = elim (cases_Bool (is_earlier x y)) [ inl is ↦ rw is other | inr isnt ↦ rw isnt one ]

names_fit : (es : List HistoryEntry) → AllByRecursion HistoryEntryFits es → NameFits (greatest_in (map (λ (x : HistoryEntry). x.link.greatest) es))
names_fit [] fit = (omega arith, omega arith)
names_fit (e ∷ es) fit = later_fits e.link.greatest (greatest_in (map (λ (x : HistoryEntry). x.link.greatest) es)) (fit.0.link.run, fit.0.link.id) (names_fit es fit.1)

stamps_fit : (es : List HistoryEntry) → AllByRecursion HistoryEntryFits es → most_in (map (λ (x : HistoryEntry). x.link.durable) es) < 2 ^ 64
stamps_fit [] fit = omega arith
stamps_fit (e ∷ es) fit = let rest = stamps_fit es fit.1 in let one = fit.0.link.durable in omega (arith, rest, one)

abbrev pub mark_or : Option Mark → Mark
mark_or None = start
mark_or (Some mark) = mark

abbrev pub lead_to : List HistoryEntry → HistoryEntry
lead_to p = record {
  least = mark_or (first_mark p);
  link = record {
    addr = record { offset = 8192; size = 4096; sum = 0 };
    greatest = greatest_in (map (λ (x : HistoryEntry). x.link.greatest) p);
    durable = most_in (map (λ (x : HistoryEntry). x.link.durable) p);
  };
}

abbrev pub leads_to : Layer HistoryEntry → List HistoryEntry
leads_to pages = map lead_to pages

leads_one : (level : ℕ) (p : List HistoryEntry) → AreHistoryEntries level p → HistoryLeads level (lead_to p) p
leads_one level [] a = absurd (let some = a.some in omega (arith, some))
leads_one level (e ∷ p) a = record { page = a; begins = inr refl; says = record { greatest = refl; durable = refl } }

pub leads_all : (level : ℕ) (pages : Layer HistoryEntry) → AllByRecursion (λ (p : List HistoryEntry). AreHistoryEntries level p) pages → Lead history_kind level (leads_to pages) pages
leads_all level [] all = tt
leads_all level (p ∷ pages) all = (leads_one level p all.0, leads_all level pages all.1)

pub leads_heads : (level : ℕ) (pages : Layer HistoryEntry) → AllByRecursion (λ (p : List HistoryEntry). AreHistoryEntries level p) pages → Heads (leads_to pages) pages
leads_heads level [] all = tt
leads_heads level ([] ∷ pages) all = absurd (let some = all.0.some in omega (arith, some))
leads_heads level ((e ∷ p) ∷ pages) all = (refl, leads_heads level pages all.1)

pub leads_fit : (level : ℕ) (pages : Layer HistoryEntry) → AllByRecursion (λ (p : List HistoryEntry). AreHistoryEntries level p) pages → AllByRecursion HistoryEntryFits (leads_to pages)
leads_fit level [] all = tt
leads_fit level ([] ∷ pages) all = absurd (let some = all.0.some in omega (arith, some))
leads_fit level ((e ∷ p) ∷ pages) all =
    let names = names_fit (e ∷ p) all.0.fit in
    let one = all.0.fit.0 in (
      record { table = one.table; key = one.key; commit = one.commit; name = one.name; link = record { offset = omega arith; size = omega arith; sum = omega arith; run = names.0; id = names.1; durable = stamps_fit (e ∷ p) all.0.fit } },
      leads_fit level pages all.1,
    )

-- ---- up to a root

-- how many entries so many levels can have below one
abbrev pub reach : ℕ → ℕ
reach zero = 1
reach (suc n) = 3 * reach n

-- one level more
pub risen_more : (own es leaves : List HistoryEntry) (pages : Layer HistoryEntry) (layers : List (Layer HistoryEntry)) → IsRisen es layers leaves → Lead history_kind (suc (length layers)) own pages → join pages ≡ es → AreFullPages pages → 2 ≤ length es → IsRisen own (pages ∷ layers) leaves
risen_more own es leaves pages layers risen lead whole full more = record {
  lead = (lead, subst (λ (l : List HistoryEntry). AllLead history_kind l layers) (sym whole) risen.lead);
  bottom = ap (λ (l : List HistoryEntry). bottom l layers) whole ∙ risen.bottom;
  full = (full, risen.full);
  needed = subst (λ (l : List HistoryEntry). 2 ≤ length l) (sym whole) more;
}

-- a top above, and how many pages more
pub record TopOver (layers : List (Layer HistoryEntry)) (leaves : List HistoryEntry) : Type 0 where
  pub top : HistoryEntry
  pub level : ℕ
  pub above : List (Layer HistoryEntry)
  pub more : ℕ
  pub is : IsTop top level above leaves
  pub count : page_count above ≡ page_count layers + more

top_one : (es leaves : List HistoryEntry) (layers : List (Layer HistoryEntry)) (level : ℕ) → length layers ≡ level → 1 ≤ length es → length es ≤ 1 → IsRisen es layers leaves → TopOver layers leaves
top_one [] leaves layers level levels some few risen = absurd (omega (arith, some))
top_one (e ∷ f ∷ es) leaves layers level levels some few risen = absurd (omega (arith, few))
top_one (e ∷ []) leaves layers level levels some few risen = record { top = e; level = level; above = layers; more = 0; is = record { levels = levels; risen = risen }; count = omega arith }

pub top_over : (n level : ℕ) (es leaves : List HistoryEntry) (layers : List (Layer HistoryEntry)) → IsRisen es layers leaves → length layers ≡ level → AllByRecursion HistoryEntryFits es → HistoryClimbs es → 1 ≤ length es → length es ≤ reach n → n + level ≤ 60 → TopOver layers leaves
top_over zero level es leaves layers risen levels fit climbs some few low = top_one es leaves layers level levels some (omega (arith, few)) risen
top_over (suc n) level es leaves layers risen levels fit climbs some few low = elim (cases_lt 1 (length es)) [
  | inr one ↦ top_one es leaves layers level levels some (omega (arith, one)) risen
  | inl many ↦
      let cut = cut_exists (suc level) es some (omega arith) (omega (arith, low)) fit climbs in
      let pages = cut.0 in
      let lead = leads_all (suc level) pages cut.1.admitted in
      let heads = leads_heads (suc level) pages cut.1.admitted in
      let long = heads_length (leads_to pages) pages heads in
      let less = shrinks (suc level) pages cut.1.full cut.1.admitted in
      let whole = ap length cut.1.whole in
      let has = some_pages pages (subst (λ (l : List HistoryEntry). 1 ≤ length l) (sym cut.1.whole) some) in
      let over = top_over n (suc level) (leads_to pages) leaves (pages ∷ layers)
      (risen_more (leads_to pages) es leaves pages layers risen (subst (λ (k : ℕ). Lead history_kind (suc k) (leads_to pages) pages) (sym levels) lead) cut.1.whole cut.1.full (omega (arith, many)))
      (ap (λ (k : ℕ). suc k) levels) (leads_fit (suc level) pages cut.1.admitted) (above_climbs (leads_to pages) pages heads (subst HistoryClimbs (sym cut.1.whole) climbs))
      (omega (arith, long, has)) (omega (arith, few, long, less, whole)) (omega (arith, low)) in
      record { top = over.top; level = over.level; above = over.above; more = length pages + over.more; is = over.is; count = omega (arith, over.count) }
]
  where
    some_pages : (pages : Layer HistoryEntry) → 1 ≤ length (join pages) → 1 ≤ length pages
    some_pages [] some = absurd (omega (arith, some))
    some_pages (p ∷ pages) some = omega arith
