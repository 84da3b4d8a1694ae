-- The whole history, put together.
use Rattle.std.specs.Prelude.{◌≡◌, ℕ, suc, ◌+◌, ◌^◌, ◌<◌, ◌≤◌, List, [], ◌∷◌, ◌++◌, length, map, Option, None, Some, refl, true, false, zero, ◌==◌}
use Rattle.std.specs.List.{AllByRecursion}
use Rattle.std.proofs.Common.{inl, inr, sym, ◌∙◌, ap, subst, arith}
use Rattle.std.proofs.lemmas.Bool.{cases_Bool, false≢true}
use Rattle.std.proofs.lemmas.List.{map-append}
use Rattle.stamp.specs.declared.name.Name.{Name}
use Rattle.stamp.specs.Order.{is_before as is_earlier, later}
use Rattle.row_page.specs.Greatest.{greatest_in, most_in}
use Rattle.le_codec.specs.Images.{block_size}
use Rattle.device_layout.specs.declared.link.Link.{Link}
use Rattle.stored.specs.Blocks.{Block}
use Rattle.stored.specs.Records.{Root}
use Rattle.stored.specs.Tree.{AllBear, AllLead, Layer, Lead, bottom, inner_blocks, join, leaf_blocks, page_blocks}
use Rattle.stored.specs.HistoryTree.{AreRecords, HistoryBears, HistoryClimbs, HistoryEntry, HistoryEntryFits, HistoryLeads, HistoryRecord, HistoryStays, Mark, NamesOnce, RecordFits, RecordsAscend, first_record, history_image, history_kind, history_root_entry, is_before, mark_of, start}
use Rattle.inner_page.proofs.MarkOrder.{before_trans}
use Rattle.hist_pages.specs.declared.leaf.HistoryLeaf.{HistoryLeaf}
use Rattle.hist_pages.specs.Leaves.{AreLeaves, IsFull}
use Rattle.hist_open.specs.Trees.{root_own}
use Rattle.hist_open.proofs.OneLeaf.{stay_none}
use Rattle.tree_write.specs.Sizes.{page_sizes}
use Rattle.tree_write.proofs.Lists.{repeat_both}
use Rattle.hist_write.specs.Cuts.{AreFullLeaves, IsCut, page_count, risen_blocks, sizes_of}
use Rattle.hist_write.specs.Steps.{AreSpelled, IsRisen, IsTop, leaf_sizes, leasts_of, marks_of}
use Rattle.hist_write.proofs.LeafGoing.{leaves_length}
use Rattle.hist_write.proofs.PageSteps.{page_unit}
use Rattle.hist_write.proofs.Trees.{Stored, first_block}

-- ---- the records of the leaves

pub record Cut (drafts : List HistoryLeaf) (records : List HistoryRecord) : Type 0 where
  pub leaves : List (List HistoryRecord)
  pub spelled : AreSpelled drafts leaves
  pub whole : join leaves ≡ records
  pub full : AreFullLeaves leaves
  pub some : AllByRecursion (λ (l : List HistoryRecord). AreRecords l) leaves

pub cut_of : (drafts : List HistoryLeaf) (records : List HistoryRecord) → AreLeaves drafts records → Cut drafts records
cut_of [] records none = record { leaves = []; spelled = tt; whole = sym none; full = tt; some = tt }
cut_of (d ∷ drafts) records begins =
    let rest = cut_of drafts begins.others begins.go_on in
    record {
      leaves = begins.front ∷ rest.leaves;
      spelled = (begins.spells, rest.spelled);
      whole = ap (λ (l : List HistoryRecord). begins.front ++ l) rest.whole ∙ sym begins.whole;
      full = (subst (λ (l : List HistoryRecord). IsFull begins.front l) (sym rest.whole) begins.full, rest.full);
      some = (begins.spells.block.admitted, rest.some);
    }

pub empty_of : (drafts : List HistoryLeaf) → length drafts ≡ 0 → (records : List HistoryRecord) → AreLeaves drafts records → records ≡ []
empty_of [] none records is = is
empty_of (d ∷ drafts) none records is = absurd (omega (arith, none))

pub some_leaves : (drafts : List HistoryLeaf) (records : List HistoryRecord) (cut : Cut drafts records) → 1 ≤ length drafts → 1 ≤ length cut.leaves
some_leaves drafts records cut some = let long = leaves_length drafts cut.leaves cut.spelled in omega (arith, some, long)

pub vec_some : (n : ℕ) → (n == 0) ≡ false → 1 ≤ n
vec_some zero none = absurd (false≢true (sym none))
vec_some (suc n) none = omega arith

-- ---- in order

ascend_back : (before : Option Mark) (xs ys : List HistoryRecord) → RecordsAscend before (xs ++ ys) → RecordsAscend None ys
ascend_back before [] [] ascend = tt
ascend_back before [] (y ∷ ys) ascend = (refl, ascend.1)
ascend_back before (x ∷ xs) ys ascend = ascend_back (Some (mark_of x)) xs ys ascend.1

first_before : (before : Option Mark) (r : HistoryRecord) (xs : List HistoryRecord) (s : HistoryRecord) (ys : List HistoryRecord) → RecordsAscend before (r ∷ (xs ++ s ∷ ys)) → is_before (mark_of r) (mark_of s) ≡ true
first_before before r [] s ys ascend = ascend.1.0
first_before before r (x ∷ xs) s ys ascend = before_trans (mark_of r) (mark_of x) (mark_of s) ascend.1.0 (first_before (Some (mark_of r)) x xs s ys ascend.1)

all_before : (before : Option Mark) (xs : List HistoryRecord) (s : HistoryRecord) (ys : List HistoryRecord) → RecordsAscend before (xs ++ s ∷ ys) → AllByRecursion (λ (r : HistoryRecord). is_before (mark_of r) (mark_of s) ≡ true) xs
all_before before [] s ys ascend = tt
all_before before (x ∷ xs) s ys ascend = (first_before before x xs s ys ascend, all_before (Some (mark_of x)) xs s ys ascend.1)

cons_first : {A : Type 0} {x y : A} {xs ys : List A} → x ∷ xs ≡ y ∷ ys → x ≡ y
cons_first same = cc

cons_rest : {A : Type 0} {x y : A} {xs ys : List A} → x ∷ xs ≡ y ∷ ys → xs ≡ ys
cons_rest same = cc

nil_cons : {A : Type 0} {x : A} {xs : List A} → [] ≡ x ∷ xs → ⊥
nil_cons same = cc

some_mark : {x y : Mark} → Some x ≡ Some y → x ≡ y
some_mark same = cc

-- entries that have the least records of these leaves
abbrev pub AreFirst : List HistoryEntry → List (List HistoryRecord) → Type 0
AreFirst [] [] = Unit {0}
AreFirst [] (p ∷ leaves) = ⊥
AreFirst (e ∷ es) [] = ⊥
AreFirst (e ∷ es) (p ∷ leaves) = (first_record p ≡ Some e.least) × AreFirst es leaves

pub are_first : (es : List HistoryEntry) (drafts : List HistoryLeaf) (leaves : List (List HistoryRecord)) → marks_of es ≡ leasts_of drafts → AreSpelled drafts leaves → AreFirst es leaves
are_first [] [] [] marks spelled = tt
are_first [] [] (p ∷ leaves) marks spelled = spelled
are_first [] (d ∷ drafts) leaves marks spelled = absurd (nil_cons marks)
are_first (e ∷ es) [] leaves marks spelled = absurd (nil_cons (sym marks))
are_first (e ∷ es) (d ∷ drafts) [] marks spelled = absurd spelled
are_first (e ∷ es) (d ∷ drafts) (p ∷ leaves) marks spelled = (spelled.0.least ∙ ap (λ (m : Mark). Some m) (sym (cons_first marks)), are_first es drafts leaves (cons_rest marks) spelled.1)

pub first_climb : (es : List HistoryEntry) (leaves : List (List HistoryRecord)) → AreFirst es leaves → RecordsAscend None (join leaves) → HistoryClimbs es
first_climb [] leaves first ascend = tt
first_climb (e ∷ []) leaves first ascend = tt
first_climb (e ∷ f ∷ es) [] first ascend = absurd first
first_climb (e ∷ f ∷ es) (p ∷ []) first ascend = absurd first.1
first_climb (e ∷ f ∷ es) ([] ∷ q ∷ leaves) first ascend = cc
first_climb (e ∷ f ∷ es) ((r ∷ p) ∷ [] ∷ leaves) first ascend = cc
first_climb (e ∷ f ∷ es) ((r ∷ p) ∷ (s ∷ q) ∷ leaves) first ascend = (
  subst (λ (m : Mark). is_before m f.least ≡ true) (some_mark first.0) (subst (λ (m : Mark). is_before (mark_of r) m ≡ true) (some_mark first.1.0) (first_before None r p s (q ++ join leaves) ascend)),
  first_climb (f ∷ es) ((s ∷ q) ∷ leaves) first.1 (ascend_back None (r ∷ p) ((s ∷ q) ++ join leaves) ascend),
)

pub marks_climb : (drafts : List HistoryLeaf) (records : List HistoryRecord) (cut : Cut drafts records) → RecordsAscend None records → (es : List HistoryEntry) → marks_of es ≡ leasts_of drafts → HistoryClimbs es
marks_climb drafts records cut ascend es marks = first_climb es cut.leaves (are_first es drafts cut.leaves marks cut.spelled) (subst (λ (l : List HistoryRecord). RecordsAscend None l) (sym cut.whole) ascend)

pub first_stay : (es : List HistoryEntry) (leaves : List (List HistoryRecord)) → AreFirst es leaves → RecordsAscend None (join leaves) → HistoryStays es leaves
first_stay [] leaves first ascend = tt
first_stay (e ∷ es) [] first ascend = tt
first_stay (e ∷ []) (p ∷ leaves) first ascend = (stay_none p, tt)
first_stay (e ∷ f ∷ es) (p ∷ []) first ascend = absurd first.1
first_stay (e ∷ f ∷ es) (p ∷ [] ∷ leaves) first ascend = cc
first_stay (e ∷ f ∷ es) (p ∷ (s ∷ q) ∷ leaves) first ascend = (
  subst (λ (m : Mark). AllByRecursion (λ (r : HistoryRecord). is_before (mark_of r) m ≡ true) p) (some_mark first.1.0) (all_before None p s (q ++ join leaves) ascend),
  first_stay (f ∷ es) ((s ∷ q) ∷ leaves) first.1 (ascend_back None p ((s ∷ q) ++ join leaves) ascend),
)

-- ---- the sizes

leaf_sizes_are : (es : List HistoryEntry) (leaves : List (List HistoryRecord)) → AllBear history_kind es leaves → AllByRecursion Stored es → sizes_of (leaf_blocks history_kind es leaves) ≡ leaf_sizes leaves
leaf_sizes_are [] [] bear stored = refl
leaf_sizes_are [] (p ∷ leaves) bear stored = absurd bear
leaf_sizes_are (e ∷ es) [] bear stored = absurd bear
leaf_sizes_are (e ∷ es) (p ∷ leaves) bear stored = ap sizes_of (first_block e p es leaves stored.0) ∙ ap (λ (l : List ℕ). leaf_size_of p ∷ l) (leaf_sizes_are es leaves bear.1 stored.1)
  where
    leaf_size_of : List HistoryRecord → ℕ
    leaf_size_of records = block_size (length (history_image records))

page_sizes_are : (level : ℕ) (own : List HistoryEntry) (pages : Layer HistoryEntry) → Lead history_kind level own pages → sizes_of (page_blocks history_kind level own pages) ≡ page_sizes (length pages)
page_sizes_are level [] [] lead = refl
page_sizes_are level [] (p ∷ pages) lead = absurd lead
page_sizes_are level (e ∷ own) [] lead = absurd lead
page_sizes_are level (e ∷ own) (p ∷ pages) lead = ap (λ (n : ℕ). n ∷ sizes_of (page_blocks history_kind level own pages)) (page_unit level p lead.0.page) ∙ ap (λ (l : List ℕ). 4096 ∷ l) (page_sizes_are level own pages lead.1)

risen_sizes_are : (own : List HistoryEntry) (layers : List (Layer HistoryEntry)) → AllLead history_kind own layers → sizes_of (risen_blocks own layers) ≡ page_sizes (page_count layers)
risen_sizes_are own [] lead = refl
risen_sizes_are own (pages ∷ layers) lead =
    let swap : page_count layers + length pages ≡ length pages + page_count layers = omega arith in
    map-append (λ (b : Block). block_size (length b.image)) (risen_blocks (join pages) layers) (page_blocks history_kind (suc (length layers)) own pages)
    ∙ ap (λ (l : List ℕ). l ++ sizes_of (page_blocks history_kind (suc (length layers)) own pages)) (risen_sizes_are (join pages) layers lead.1)
    ∙ ap (λ (l : List ℕ). page_sizes (page_count layers) ++ l) (page_sizes_are (suc (length layers)) own pages lead.0)
    ∙ repeat_both (page_count layers) (length pages) (4096 ∷ [])
    ∙ ap page_sizes swap

-- ---- below a root

bears_root : (root : Root) (top : HistoryEntry) (p : List HistoryRecord) → root.link ≡ top.link → HistoryBears top p → HistoryBears (history_root_entry root.link) p
bears_root root top p same bears = subst (λ (l : Link). HistoryBears (history_root_entry l) p) (sym same) (record { leaf = bears.leaf; begins = inl refl; says = bears.says })

leads_root : (level : ℕ) (root : Root) (top : HistoryEntry) (p : List HistoryEntry) → root.link ≡ top.link → HistoryLeads level top p → HistoryLeads level (history_root_entry root.link) p
leads_root level root top p same leads = subst (λ (l : Link). HistoryLeads level (history_root_entry l) p) (sym same) (record { page = leads.page; begins = inl refl; says = leads.says })

-- what a tree has whose root leads where this entry does
pub record Rooted (root : Root) (top : HistoryEntry) (layers : List (Layer HistoryEntry)) (es : List HistoryEntry) (leaves : List (List HistoryRecord)) : Type 0 where
  pub lead : AllLead history_kind (root_own root) layers
  pub bear : AllBear history_kind (bottom (root_own root) layers) leaves
  pub climbs : HistoryClimbs (bottom (root_own root) layers)
  pub stays : HistoryStays (bottom (root_own root) layers) leaves
  pub leaf_same : leaf_blocks history_kind (bottom (root_own root) layers) leaves ≡ leaf_blocks history_kind es leaves
  pub inner_same : inner_blocks history_kind (root_own root) layers ≡ inner_blocks history_kind (top ∷ []) layers
  pub risen_same : risen_blocks (root_own root) layers ≡ risen_blocks (top ∷ []) layers

page_same : (level : ℕ) (root : Root) (top : HistoryEntry) (pages : Layer HistoryEntry) → root.link ≡ top.link → page_blocks history_kind level (root_own root) pages ≡ page_blocks history_kind level (top ∷ []) pages
page_same level root top [] same = refl
page_same level root top (p ∷ pages) same = ap (λ (l : Link). page_blocks history_kind level (history_root_entry l ∷ []) (p ∷ pages)) same

pub rooted : (root : Root) (top : HistoryEntry) (layers : List (Layer HistoryEntry)) (es : List HistoryEntry) (leaves : List (List HistoryRecord)) → root.link ≡ top.link → IsRisen (top ∷ []) layers es → AllBear history_kind es leaves → HistoryClimbs es → HistoryStays es leaves → Rooted root top layers es leaves
rooted root top [] es leaves same risen bear climbs stays = alone leaves (subst (λ (l : List HistoryEntry). AllBear history_kind l leaves) (sym risen.bottom) bear)
  where
    alone : (leaves : List (List HistoryRecord)) → AllBear history_kind (top ∷ []) leaves → Rooted root top [] es leaves
    alone [] bear = absurd bear
    alone (p ∷ q ∷ leaves) bear = absurd bear.1
    alone (p ∷ []) bear = record {
      lead = tt;
      bear = (bears_root root top p same bear.0, tt);
      climbs = tt;
      stays = (stay_none p, tt);
      leaf_same = ap (λ (l : Link). leaf_blocks history_kind (history_root_entry l ∷ []) (p ∷ [])) same ∙ ap (λ (l : List HistoryEntry). leaf_blocks history_kind l (p ∷ [])) risen.bottom;
      inner_same = refl;
      risen_same = refl;
    }
rooted root top (pages ∷ layers) es leaves same risen bear climbs stays =
    let below : bottom (join pages) layers ≡ es = risen.bottom in
    record {
      lead = (one pages risen.lead.0, risen.lead.1);
      bear = subst (λ (l : List HistoryEntry). AllBear history_kind l leaves) (sym below) bear;
      climbs = subst (λ (l : List HistoryEntry). HistoryClimbs l) (sym below) climbs;
      stays = subst (λ (l : List HistoryEntry). HistoryStays l leaves) (sym below) stays;
      leaf_same = ap (λ (l : List HistoryEntry). leaf_blocks history_kind l leaves) below;
      inner_same = ap (λ (l : List Block). l ++ inner_blocks history_kind (join pages) layers) (page_same (suc (length layers)) root top pages same);
      risen_same = ap (λ (l : List Block). risen_blocks (join pages) layers ++ l) (page_same (suc (length layers)) root top pages same);
    }
  where
    one : (pages : Layer HistoryEntry) → Lead history_kind (suc (length layers)) (top ∷ []) pages → Lead history_kind (suc (length layers)) (root_own root) pages
    one [] lead = absurd lead
    one (p ∷ []) lead = (leads_root (suc (length layers)) root top p same lead.0, tt)
    one (p ∷ q ∷ pages) lead = absurd lead.1

-- ---- the tree

has_records : (leaves : List (List HistoryRecord)) → AllByRecursion (λ (l : List HistoryRecord). AreRecords l) leaves → 1 ≤ length leaves → join leaves ≡ [] → ⊥
has_records [] all some none = omega (arith, some)
has_records ([] ∷ leaves) all some none = let least = all.0.some in omega (arith, least)
has_records ((r ∷ p) ∷ leaves) all some none = clash none
  where
    clash : (r ∷ p) ++ join leaves ≡ [] → ⊥
    clash same = cc

pub is_cut : (root : Root) (top : HistoryEntry) (layers : List (Layer HistoryEntry)) (es : List HistoryEntry) (drafts : List HistoryLeaf) (records : List HistoryRecord) → (cut : Cut drafts records) → NamesOnce records → 1 ≤ length cut.leaves → IsTop top root.level layers es → Rooted root top layers es cut.leaves
    → IsCut root records (record { layers = layers; leaves = cut.leaves })
is_cut root top layers es drafts records cut once some is of = record {
  tree = record {
    levels = is.levels;
    lead = of.lead;
    bear = of.bear;
    parts = record { climbs = of.climbs; stays = of.stays; once = subst (λ (l : List HistoryRecord). NamesOnce l) (sym cut.whole) once };
  };
  whole = cut.whole;
  full_leaves = cut.full;
  full_layers = is.risen.full;
  needed = is.risen.needed;
  nowhere = λ none. absurd (has_records cut.leaves cut.some some (cut.whole ∙ none));
}

pub sizes_are : (root : Root) (top : HistoryEntry) (layers : List (Layer HistoryEntry)) (es : List HistoryEntry) (leaves : List (List HistoryRecord)) → AllBear history_kind es leaves → AllByRecursion Stored es → IsRisen (top ∷ []) layers es → Rooted root top layers es leaves
    → sizes_of (leaf_blocks history_kind (bottom (root_own root) layers) leaves ++ risen_blocks (root_own root) layers) ≡ leaf_sizes leaves ++ page_sizes (page_count layers)
sizes_are root top layers es leaves bear stored risen of =
    map-append (λ (b : Block). block_size (length b.image)) (leaf_blocks history_kind (bottom (root_own root) layers) leaves) (risen_blocks (root_own root) layers)
    ∙ ap (λ (l : List Block). sizes_of l ++ sizes_of (risen_blocks (root_own root) layers)) of.leaf_same
    ∙ ap (λ (l : List ℕ). l ++ sizes_of (risen_blocks (root_own root) layers)) (leaf_sizes_are es leaves bear stored)
    ∙ ap (λ (l : List Block). leaf_sizes leaves ++ sizes_of l) of.risen_same
    ∙ ap (λ (l : List ℕ). leaf_sizes leaves ++ l) (risen_sizes_are (top ∷ []) layers risen.lead)

-- ---- entries that lead to leaves, wherever these stand

abbrev NameFits : Name → Type 0
NameFits n = (n.run < 2 ^ 64) × (n.id < 2 ^ 64)

later_fits : (x y : Name) → NameFits x → NameFits y → NameFits (later x y)
later_fits x y one other = elim (cases_Bool (is_earlier x y)) [ inl is ↦ rw is other | inr isnt ↦ rw isnt one ]

names_fit : (p : List HistoryRecord) → AllByRecursion (λ (r : HistoryRecord). RecordFits r) p → NameFits (greatest_in (map (λ (r : HistoryRecord). r.version.window.name) p))
names_fit [] fit = (omega arith, omega arith)
names_fit (r ∷ p) fit =
    let name = fit.0.row.window.name in
    later_fits r.version.window.name (greatest_in (map (λ (x : HistoryRecord). x.version.window.name) p)) (omega (arith, name.run.1), omega (arith, name.id.1)) (names_fit p fit.1)

stamps_fit : (p : List HistoryRecord) → AllByRecursion (λ (r : HistoryRecord). RecordFits r) p → most_in (map (λ (r : HistoryRecord). r.version.window.durable) p) < 2 ^ 64
stamps_fit [] fit = omega arith
stamps_fit (r ∷ p) fit = let rest = stamps_fit p fit.1 in let one = fit.0.row.window.durable in omega (arith, rest, one)

abbrev pub mark_or : Option Mark → Mark
mark_or None = start
mark_or (Some mark) = mark

abbrev pub bear_to : List HistoryRecord → HistoryEntry
bear_to p = record {
  least = mark_or (first_record p);
  link = record {
    addr = record { offset = 8192; size = 4096; sum = 0 };
    greatest = greatest_in (map (λ (r : HistoryRecord). r.version.window.name) p);
    durable = most_in (map (λ (r : HistoryRecord). r.version.window.durable) p);
  };
}

abbrev pub bear_all : List (List HistoryRecord) → List HistoryEntry
bear_all leaves = map bear_to leaves

some_offset : ◌≡◌ {A = ℕ} 8192 0 → ⊥
some_offset is = omega (arith, is)

pub bears_all : (leaves : List (List HistoryRecord)) → AllByRecursion (λ (l : List HistoryRecord). AreRecords l) leaves → AllBear history_kind (bear_all leaves) leaves
bears_all [] all = tt
bears_all ([] ∷ leaves) all = absurd (let some = all.0.some in omega (arith, some))
bears_all ((r ∷ p) ∷ leaves) all = (record { leaf = inr (some_offset, all.0); begins = inr refl; says = record { greatest = refl; durable = refl } }, bears_all leaves all.1)

pub stored_all : (leaves : List (List HistoryRecord)) → AllByRecursion Stored (bear_all leaves)
stored_all [] = tt
stored_all (p ∷ leaves) = (some_offset, stored_all leaves)

pub first_all : (leaves : List (List HistoryRecord)) → AllByRecursion (λ (l : List HistoryRecord). AreRecords l) leaves → AreFirst (bear_all leaves) leaves
first_all [] all = tt
first_all ([] ∷ leaves) all = absurd (let some = all.0.some in omega (arith, some))
first_all ((r ∷ p) ∷ leaves) all = (refl, first_all leaves all.1)

pub fit_all : (leaves : List (List HistoryRecord)) → AllByRecursion (λ (l : List HistoryRecord). AreRecords l) leaves → AllByRecursion HistoryEntryFits (bear_all leaves)
fit_all [] all = tt
fit_all ([] ∷ leaves) all = absurd (let some = all.0.some in omega (arith, some))
fit_all ((r ∷ p) ∷ leaves) all =
    let names = names_fit (r ∷ p) all.0.fit in
    let one = all.0.fit.0 in
    let window = one.row.window in (
      record {
        table = one.table;
        key = one.row.key;
        commit = omega (arith, window.stamps, window.durable);
        name = window.name;
        link = record { offset = omega arith; size = omega arith; sum = omega arith; run = names.0; id = names.1; durable = stamps_fit (r ∷ p) all.0.fit };
      },
      fit_all leaves all.1,
    )
