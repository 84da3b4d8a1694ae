-- Entries cut into pages, up to a root, whatever stands on the device.
use Rattle.std.specs.Prelude.{◌≡◌, ℕ, zero, suc, ◌+◌, ◌*◌, ◌^◌, ◌<◌, ◌≤◌, true, List, [], ◌∷◌, ◌++◌, length, map, Option, Some, None, refl, slice_get}
use Rattle.std.specs.List.{AllByRecursion, flat_map}
use Rattle.std.proofs.Common.{inl, inr, sym, ◌∙◌, ap, subst, arith, append_assoc}
use Rattle.std.proofs.lemmas.Bool.{cases_Bool, cases_lt}
use Rattle.std.proofs.lemmas.List.{length-append}
use Rattle.stamp.specs.declared.name.Name.{Name}
use Rattle.stamp.specs.Order.{is_before, later}
use Rattle.row_page.specs.Greatest.{greatest_in, most_in}
use Rattle.row_page.proofs.Ascending.{below_trans}
use Rattle.row_page.specs.Rows.{is_below}
use Rattle.device_layout.specs.declared.link.Link.{Link}
use Rattle.stored.specs.Records.{Root}
use Rattle.stored.specs.Tree.{AllLead, Layer, Lead, bottom, join}
use Rattle.stored.specs.TableTree.{AreEntries, Climbs, Entry, EntryFits, Leads, entry_text, first_key, table_kind}
use Rattle.stored.proofs.Exact.{length-entry}
use Rattle.tree_dir.specs.Levels.{IsFull, page_length}
use Rattle.tree_open.specs.Trees.{root_own}
use Rattle.tree_write.specs.Cuts.{AreFullPages}
use Rattle.tree_write.specs.Sizes.{page_count}
use Rattle.tree_write.specs.Steps.{IsCutInto, IsRisen, IsTop}
use Rattle.tree_write.proofs.Lists.{all_back, all_both, all_front}

-- ---- parts of entries

climbs_behind : (e : Entry) (es : List Entry) → Climbs (e ∷ es) → Climbs es
climbs_behind e [] c = tt
climbs_behind e (f ∷ es) c = c.1

climbs_front : (xs ys : List Entry) → Climbs (xs ++ ys) → Climbs xs
climbs_front [] ys c = tt
climbs_front (e ∷ []) ys c = tt
climbs_front (e ∷ f ∷ xs) ys c = (c.0, climbs_front (f ∷ xs) ys c.1)

climbs_back : (xs ys : List Entry) → Climbs (xs ++ ys) → Climbs ys
climbs_back [] ys c = c
climbs_back (e ∷ xs) ys c = climbs_back xs ys (climbs_behind e (xs ++ ys) c)

text_most : (es : List Entry) → AllByRecursion EntryFits es → length (flat_map entry_text es) ≤ 1066 * length es
text_most [] a = omega arith
text_most (e ∷ es) a =
    let more = text_most es a.1 in
    let both = length-append (entry_text e) (flat_map entry_text es) in
    let one = length-entry e in
    let key = a.0.key in
    omega (arith, more, both, one, key)

-- ---- a level

-- pages that begin with these entries, which are some
record Cut (level : ℕ) (front es : List Entry) : Type 0 where
  pub page : List Entry
  pub pages : Layer Entry
  pub whole : page ++ join pages ≡ front ++ es
  pub full : AreFullPages (page ∷ pages)
  pub sizes : AllByRecursion (λ (p : List Entry). (1 ≤ length p) × (page_length p ≤ 4096)) (page ∷ pages)

cut_from : (level : ℕ) (front es : List Entry) → 1 ≤ length front → page_length front ≤ 4096 → AllByRecursion EntryFits es → Cut level front es
cut_from level front [] some room fit = record { page = front; pages = []; whole = refl; full = ((λ e none. absurd (no_entry e none)), tt); sizes = ((some, room), tt) }
  where
    no_entry : (e : Entry) → None ≡ Some e → ⊥
    no_entry e same = cc
cut_from level front (e ∷ es) some room fit = elim (cases_lt 4096 (page_length (front ++ e ∷ []))) [
  | inl past ↦
      let rest = cut_from level (e ∷ []) es (omega arith) (alone e fit.0) fit.1 in
      record {
        page = front;
        pages = rest.page ∷ rest.pages;
        whole = ap (λ (l : List Entry). front ++ l) rest.whole;
        full = (subst (λ (l : List Entry). IsFull front l) (sym rest.whole) (λ x is. subst (λ (y : Entry). 4096 < page_length (front ++ y ∷ [])) (one is) past), rest.full);
        sizes = ((some, room), rest.sizes);
      }
  | inr fits ↦
      let rest = cut_from level (front ++ e ∷ []) es (longer front) (omega (arith, fits)) fit.1 in
      record { page = rest.page; pages = rest.pages; whole = rest.whole ∙ append_assoc front (e ∷ []) es; full = rest.full; sizes = rest.sizes }
]
  where
    one : {x y : Entry} → Some x ≡ Some y → x ≡ y
    one same = cc

    longer : (l : List Entry) → 1 ≤ length (l ++ e ∷ [])
    longer l = omega (arith, length-append l (e ∷ []))

    alone : (e : Entry) → EntryFits e → page_length (e ∷ []) ≤ 4096
    alone e fits = let most = text_most (e ∷ []) (fits, tt) in omega (arith, most)

admit : (level : ℕ) (pages : Layer Entry) → 1 ≤ level → level ≤ 60 → AllByRecursion (λ (p : List Entry). (1 ≤ length p) × (page_length p ≤ 4096)) pages → AllByRecursion EntryFits (join pages) → Climbs (join pages) → AllByRecursion (λ (p : List Entry). AreEntries level p) pages
admit level [] low high sizes fit climbs = tt
admit level (p ∷ pages) low high sizes fit climbs = (
  record { some = sizes.0.0; fit = all_front EntryFits p (join pages) fit; climbs = climbs_front p (join pages) climbs; low = low; high = high; size = sizes.0.1 },
  admit level pages low high sizes.1 (all_back EntryFits p (join pages) fit) (climbs_back p (join pages) climbs),
)

-- entries are cut into pages
pub cut_exists : (level : ℕ) (es : List Entry) → 1 ≤ length es → 1 ≤ level → level ≤ 60 → AllByRecursion EntryFits es → Climbs es → (pages : Layer Entry) × IsCutInto level es pages
cut_exists level [] some low high fit climbs = absurd (omega (arith, some))
cut_exists level (e ∷ es) some low high fit climbs =
    let most = text_most (e ∷ []) (fit.0, tt) in
    let cut = cut_from level (e ∷ []) es (omega arith) (omega (arith, most)) fit.1 in (
      cut.page ∷ cut.pages,
      record {
        whole = cut.whole;
        full = cut.full;
        admitted = admit level (cut.page ∷ cut.pages) low high cut.sizes (subst (λ (l : List Entry). AllByRecursion EntryFits l) (sym cut.whole) fit) (subst Climbs (sym cut.whole) climbs);
      },
    )

-- a page with others behind it has three entries at least
three : (front : List Entry) (e : Entry) → AllByRecursion EntryFits front → EntryFits e → 4096 < page_length (front ++ e ∷ []) → 3 ≤ length front
three front e a f full =
    let most = text_most (front ++ e ∷ []) (all_both EntryFits front (e ∷ []) a (f, tt)) in
    let long = length-append front (e ∷ []) in
    omega (arith, most, long, full)

first_entry : (level : ℕ) (p : List Entry) (more : List Entry) → AreEntries level p → (e : Entry) × (slice_get (p ++ more) 0 ≡ Some e) × EntryFits e
first_entry level [] more a = absurd (let some = a.some in omega (arith, some))
first_entry level (e ∷ p) more a = (e, refl, a.fit.0)

pub shrinks : (level : ℕ) (pages : Layer Entry) → AreFullPages pages → AllByRecursion (λ (p : List Entry). AreEntries level p) pages → 3 * length pages ≤ length (join pages) + 2
shrinks level [] full admitted = omega arith
shrinks level (p ∷ []) full admitted = let some = admitted.0.some in let long = length-append p [] in omega (arith, some, long)
shrinks level (p ∷ q ∷ pages) full admitted =
    let e = first_entry level q (join pages) admitted.1.0 in
    let more = three p e.0 admitted.0.fit e.2 (full.0 e.0 e.1) in
    let rest = shrinks level (q ∷ pages) full.1 admitted.1 in
    let long = length-append p (join (q ∷ pages)) in
    omega (arith, more, rest, long)

-- ---- the entries above pages

-- each entry has the key of its page's first
abbrev pub Heads : List Entry → Layer Entry → Type 0
Heads [] [] = Unit {0}
Heads [] (p ∷ pages) = ⊥
Heads (e ∷ own) [] = ⊥
Heads (e ∷ own) (p ∷ pages) = (first_key p ≡ Some e.key) × Heads own pages

pub lead_heads : (level : ℕ) (own : List Entry) (pages : Layer Entry) → Lead table_kind level own pages → Heads own pages
lead_heads level [] [] lead = tt
lead_heads level [] (p ∷ pages) lead = lead
lead_heads level (e ∷ own) [] lead = lead
lead_heads level (e ∷ own) (p ∷ pages) lead = (lead.0.begins, lead_heads level own pages lead.1)

-- the first is below those behind it
below_behind : (e : Entry) (xs : List Entry) (f : Entry) (ys : List Entry) → Climbs (e ∷ (xs ++ f ∷ ys)) → is_below e.key f.key ≡ true
below_behind e [] f ys c = c.0
below_behind e (x ∷ xs) f ys c = below_trans e.key x.key f.key c.0 (below_behind x xs f ys c.1)

some_key : {x y : List ℕ} → Some x ≡ Some y → x ≡ y
some_key same = cc

none_key : {x : List ℕ} → None ≡ Some x → ⊥
none_key same = cc

pub above_climbs : (own : List Entry) (pages : Layer Entry) → Heads own pages → Climbs (join pages) → Climbs own
above_climbs [] pages heads c = tt
above_climbs (e ∷ []) pages heads c = tt
above_climbs (e ∷ f ∷ own) [] heads c = absurd heads
above_climbs (e ∷ f ∷ own) (p ∷ []) heads c = absurd heads.1
above_climbs (e ∷ f ∷ own) ([] ∷ q ∷ pages) heads c = absurd (none_key heads.0)
above_climbs (e ∷ f ∷ own) ((x ∷ p) ∷ [] ∷ pages) heads c = absurd (none_key heads.1.0)
above_climbs (e ∷ f ∷ own) ((x ∷ p) ∷ (y ∷ q) ∷ pages) heads c = (
  subst (λ (k : List ℕ). is_below k f.key ≡ true) (some_key heads.0) (subst (λ (k : List ℕ). is_below x.key k ≡ true) (some_key heads.1.0) (below_behind x p y (q ++ join pages) c)),
  above_climbs (f ∷ own) ((y ∷ q) ∷ pages) heads.1 (climbs_back (x ∷ p) ((y ∷ q) ++ join pages) c),
)

pub above_first : (own : List Entry) (pages : Layer Entry) → Heads own pages → 1 ≤ length own → first_key own ≡ first_key (join pages)
above_first [] pages heads some = absurd (omega (arith, some))
above_first (e ∷ own) [] heads some = absurd heads
above_first (e ∷ own) ([] ∷ pages) heads some = absurd (none_key heads.0)
above_first (e ∷ own) ((x ∷ p) ∷ pages) heads some = sym heads.0

pub heads_length : (own : List Entry) (pages : Layer Entry) → Heads own pages → length own ≡ length pages
heads_length [] [] heads = refl
heads_length [] (p ∷ pages) heads = absurd heads
heads_length (e ∷ own) [] heads = absurd heads
heads_length (e ∷ own) (p ∷ pages) heads = ap (λ (n : ℕ). suc n) (heads_length own pages heads.1)

-- ---- entries that lead to pages, wherever these stand

abbrev NameFits : Name → Type 0
NameFits n = (n.run < 2 ^ 64) × (n.id < 2 ^ 64)

later_fits : (x y : Name) → NameFits x → NameFits y → NameFits (later x y)
later_fits x y one other = elim (cases_Bool (is_before x y)) [ inl is ↦ rw is other | inr isnt ↦ rw isnt one ]

names_fit : (es : List Entry) → AllByRecursion EntryFits es → NameFits (greatest_in (map (λ (x : Entry). x.link.greatest) es))
names_fit [] fit = (omega arith, omega arith)
names_fit (e ∷ es) fit = later_fits e.link.greatest (greatest_in (map (λ (x : Entry). x.link.greatest) es)) (fit.0.link.run, fit.0.link.id) (names_fit es fit.1)

stamps_fit : (es : List Entry) → AllByRecursion EntryFits es → most_in (map (λ (x : Entry). x.link.durable) es) < 2 ^ 64
stamps_fit [] fit = omega arith
stamps_fit (e ∷ es) fit = let rest = stamps_fit es fit.1 in let one = fit.0.link.durable in omega (arith, rest, one)

abbrev pub key_or : Option (List ℕ) → List ℕ
key_or None = []
key_or (Some key) = key

abbrev pub lead_to : List Entry → Entry
lead_to p = record {
  key = key_or (first_key p);
  link = record {
    addr = record { offset = 8192; size = 4096; sum = 0 };
    greatest = greatest_in (map (λ (x : Entry). x.link.greatest) p);
    durable = most_in (map (λ (x : Entry). x.link.durable) p);
  };
}

abbrev pub leads_to : Layer Entry → List Entry
leads_to pages = map lead_to pages

leads_one : (level : ℕ) (p : List Entry) → AreEntries level p → Leads level (lead_to p) p
leads_one level [] a = absurd (let some = a.some in omega (arith, some))
leads_one level (e ∷ p) a = record { page = a; begins = refl; says = record { greatest = refl; durable = refl } }

pub leads_all : (level : ℕ) (pages : Layer Entry) → AllByRecursion (λ (p : List Entry). AreEntries level p) pages → Lead table_kind level (leads_to pages) pages
leads_all level [] all = tt
leads_all level (p ∷ pages) all = (leads_one level p all.0, leads_all level pages all.1)

key_fits : (level : ℕ) (p : List Entry) → AreEntries level p → length (key_or (first_key p)) ≤ 1024
key_fits level [] a = omega arith
key_fits level (e ∷ p) a = a.fit.0.key

pub leads_fit : (level : ℕ) (pages : Layer Entry) → AllByRecursion (λ (p : List Entry). AreEntries level p) pages → AllByRecursion EntryFits (leads_to pages)
leads_fit level [] all = tt
leads_fit level (p ∷ pages) all =
    let names = names_fit p all.0.fit in (
      record { key = key_fits level p all.0; link = record { offset = omega arith; size = omega arith; sum = omega arith; run = names.0; id = names.1; durable = stamps_fit p all.0.fit } },
      leads_fit level pages all.1,
    )

-- ---- up to a root

-- how many entries so many levels can have below one
abbrev pub reach : ℕ → ℕ
reach zero = 1
reach (suc n) = 3 * reach n

-- one level more
pub risen_more : (own es leaves : List Entry) (pages : Layer Entry) (layers : List (Layer Entry)) → IsRisen es layers leaves → Lead table_kind (suc (length layers)) own pages → join pages ≡ es → AreFullPages pages → 2 ≤ length es → IsRisen own (pages ∷ layers) leaves
risen_more own es leaves pages layers risen lead whole full more = record {
  lead = (lead, subst (λ (l : List Entry). AllLead table_kind l layers) (sym whole) risen.lead);
  bottom = ap (λ (l : List Entry). bottom l layers) whole ∙ risen.bottom;
  full = (full, risen.full);
  needed = subst (λ (l : List Entry). 2 ≤ length l) (sym whole) more;
}

-- one entry without a key is a root's
pub root_of : (es leaves : List Entry) (layers : List (Layer Entry)) (level : ℕ) → length layers ≡ level → first_key es ≡ Some [] → length es ≤ 1 → IsRisen es layers leaves → (link : Link) × (es ≡ root_own (record { level = level; link = link })) × IsTop (record { level = level; link = link }) layers leaves
root_of [] leaves layers level levels first few risen = absurd (none_key first)
root_of (e ∷ f ∷ es) leaves layers level levels first few risen = absurd (omega (arith, few))
root_of (e ∷ []) leaves layers level levels first few risen = (e.link, same, record { levels = levels; risen = subst (λ (l : List Entry). IsRisen l layers leaves) same risen })
  where
    same : e ∷ [] ≡ root_own (record { level = level; link = e.link })
    same = ap (λ (k : List ℕ). let own : List Entry = record { key = k; link = e.link } ∷ [] in own) (some_key first)

-- a root above, and how many pages more
pub record TopOver (layers : List (Layer Entry)) (leaves : List Entry) : Type 0 where
  pub root : Root
  pub above : List (Layer Entry)
  pub more : ℕ
  pub top : IsTop root above leaves
  pub count : page_count above ≡ page_count layers + more

pub top_over : (n level : ℕ) (es leaves : List Entry) (layers : List (Layer Entry)) → IsRisen es layers leaves → length layers ≡ level → AllByRecursion EntryFits es → Climbs es → first_key es ≡ Some [] → length es ≤ reach n → n + level ≤ 60 → TopOver layers leaves
top_over zero level es leaves layers risen levels fit climbs first few low =
    let root = root_of es leaves layers level levels first (omega (arith, few)) risen in
    record { root = record { level = level; link = root.0 }; above = layers; more = 0; top = root.2; count = omega arith }
top_over (suc n) level es leaves layers risen levels fit climbs first few low = elim (cases_lt 1 (length es)) [
  | inr one ↦
      let root = root_of es leaves layers level levels first (omega (arith, one)) risen in
      record { root = record { level = level; link = root.0 }; above = layers; more = 0; top = root.2; count = omega arith }
  | inl many ↦
      let cut = cut_exists (suc level) es (omega (arith, many)) (omega arith) (omega (arith, low)) fit climbs in
      let pages = cut.0 in
      let lead = leads_all (suc level) pages cut.1.admitted in
      let heads = lead_heads (suc level) (leads_to pages) pages lead in
      let long = heads_length (leads_to pages) pages heads in
      let less = shrinks (suc level) pages cut.1.full cut.1.admitted in
      let whole = ap length cut.1.whole in
      let has = some_pages pages (subst (λ (l : List Entry). 1 ≤ length l) (sym cut.1.whole) (omega (arith, many))) in
      let over = top_over n (suc level) (leads_to pages) leaves (pages ∷ layers)
      (risen_more (leads_to pages) es leaves pages layers risen (subst (λ (k : ℕ). Lead table_kind (suc k) (leads_to pages) pages) (sym levels) lead) cut.1.whole cut.1.full (omega (arith, many)))
      (ap (λ (k : ℕ). suc k) levels) (leads_fit (suc level) pages cut.1.admitted) (above_climbs (leads_to pages) pages heads (subst Climbs (sym cut.1.whole) climbs))
      (above_first (leads_to pages) pages heads (omega (arith, long, has)) ∙ (ap first_key cut.1.whole ∙ first)) (omega (arith, few, long, less, whole)) (omega (arith, low)) in
      record { root = over.root; above = over.above; more = length pages + over.more; top = over.top; count = omega (arith, over.count) }
]
  where
    some_pages : (pages : Layer Entry) → 1 ≤ length (join pages) → 1 ≤ length pages
    some_pages [] some = absurd (omega (arith, some))
    some_pages (p ∷ pages) some = omega arith
