-- Inner pages that are captured, level by level.
use Rattle.std.specs.Prelude.{◌≡◌, ℕ, zero, suc, ◌+◌, ◌*◌, ◌-◌, ◌<◌, ◌≤◌, List, [], ◌∷◌, ◌++◌, length, map, Option, Some, Ok, Err, Vec, refl}
use Rattle.std.specs.List.{AllByRecursion}
use Rattle.std.specs.declared.alloc.Global.{Global}
use Rattle.std.proofs.Common.{inl, inr, sym, ◌∙◌, ap, subst, arith, append_assoc, get_or}
use Rattle.std.proofs.lemmas.Bool.{cases_lt}
use Rattle.std.proofs.lemmas.List.{append-nil, length-append, map-append}
use Rattle.disk_model.specs.declared.disk.Disk.{Ghosts}
use Rattle.disk_model.proofs.Crash.{joined}
use Rattle.extent_list.specs.Space.{HasNoRoom}
use Rattle.block_mgr.specs.Blocks.{Books}
use Rattle.block_mgr.specs.Cells.{cell_at}
use Rattle.device_layout.specs.declared.addr.Addr.{Addr}
use Rattle.wt_code.specs.declared.store_error.StoreError.{StoreError}
use Rattle.wt_code.specs.declared.store_error.StoreError.TheVariants.{NoSpace}
use Rattle.stored.specs.Blocks.{Block}
use Rattle.stored.specs.Records.{Root}
use Rattle.stored.specs.Stored.{Stored as Kept}
use Rattle.stored.specs.Tree.{Layer, Lead, inner_blocks, join, page_blocks}
use Rattle.stored.specs.HistoryTree.{HistoryClimbs, HistoryEntry, HistoryEntryFits, Mark, history_kind}
use Rattle.checkpoint_core.specs.Finishes.{IsOld}
use Rattle.hist_pages.specs.declared.page.HistoryPage.{HistoryPage}
use Rattle.hist_pages.specs.Levels.{AreCut, IsFull, SpellsPage}
use Rattle.hist_open.specs.Pages.{page_block}
use Rattle.hist_write.specs.declared.writing.HistoryPlace.{HistoryPlace}
use Rattle.tree_write.specs.Captures.{Captures, IsPlaced, IsSafe, MayWrite, places_of}
use Rattle.hist_write.specs.Cuts.{page_count, risen_blocks}
use Rattle.tree_write.specs.Sizes.{LacksAll, PlacesAll, page_sizes}
use Rattle.hist_write.specs.Steps.{AreDrafts, HasNoTop, IsCutInto, IsRisen, LevelWrites, PageWrites, PagesStopped, PagesWritten, RiseStopped, Rose, marks_of, lows_of}
use Rattle.tree_write.proofs.Joining.{captures_join, captures_none, lacks_behind, none_before}
use Rattle.tree_write.proofs.Lists.{all_both, all_map, repeat_both}
use Rattle.tree_write.proofs.OneBlock.{captures_failed}
use Rattle.hist_write.proofs.Tops.{Heads, TopOver, above_climbs, heads_length, leads_all, leads_fit, leads_heads, leads_to, reach, risen_more, shrinks, top_over}
use Rattle.hist_write.proofs.Trees.{lead_more, pages_more, places_pages}

-- ---- levels

pub level_low : (level n : ℕ) → level ≤ 41 → n ≤ reach (41 - level) → 2 ≤ n → (level ≤ 40) × (n ≤ reach (suc (40 - level)))
level_low level n low few many = elim (cases_lt level 41) [
  | inl lt ↦
      let one : 41 - level ≡ suc (40 - level) = omega (arith, lt) in
      (omega (arith, lt), subst (λ (k : ℕ). n ≤ reach k) one few)
  | inr past ↦
      let none : 41 - level ≡ 0 = omega (arith, past) in
      let one = subst (λ (k : ℕ). n ≤ reach k) none few in
      absurd (omega (arith, one, many))
]

pub level_next : (level n m : ℕ) → level ≤ 41 → n ≤ reach (41 - level) → 2 ≤ n → 3 * m ≤ n + 2 → (level + 1 ≤ 41) × (m ≤ reach (41 - (level + 1)))
level_next level n m low few many less =
    let at = level_low level n low few many in
    let here : n ≤ 3 * reach (40 - level) = at.1 in
    let one : 40 - level ≡ 41 - (level + 1) = omega (arith, at.0) in
    let fewer : m ≤ reach (40 - level) = omega (arith, here, less) in
    (omega (arith, at.0), subst (λ (k : ℕ). m ≤ reach k) one fewer)

-- ---- drafts

cons_first : {A : Type 0} {x y : A} {xs ys : List A} → x ∷ xs ≡ y ∷ ys → x ≡ y
cons_first same = cc

cons_rest : {A : Type 0} {x y : A} {xs ys : List A} → x ∷ xs ≡ y ∷ ys → xs ≡ ys
cons_rest same = cc

nil_cons : {A : Type 0} {x : A} {xs : List A} → [] ≡ x ∷ xs → ⊥
nil_cons same = cc

pub record DraftsOf (level : ℕ) (drafts : List HistoryPage) (es : List HistoryEntry) : Type 0 where
  pub pages : Layer HistoryEntry
  pub spelled : AreDrafts level drafts pages
  pub cut : IsCutInto level es pages

pub drafts_of : (level : ℕ) (drafts : List HistoryPage) (es : List HistoryEntry) → AreCut level drafts es → DraftsOf level drafts es
drafts_of level [] es none = record { pages = []; spelled = tt; cut = record { whole = sym none; full = tt; admitted = tt } }
drafts_of level (p ∷ drafts) es begins =
    let rest = drafts_of level drafts begins.others begins.go_on in
    record {
      pages = begins.front ∷ rest.pages;
      spelled = (begins.spells, rest.spelled);
      cut = record {
        whole = ap (λ (l : List HistoryEntry). begins.front ++ l) rest.cut.whole ∙ sym begins.whole;
        full = (subst (λ (l : List HistoryEntry). IsFull begins.front l) (sym rest.cut.whole) begins.full, rest.cut.full);
        admitted = (begins.spells.admitted, rest.cut.admitted);
      };
    }

pub draft_heads : (level : ℕ) (own : List HistoryEntry) (drafts : List HistoryPage) (pages : Layer HistoryEntry) → marks_of own ≡ lows_of drafts → AreDrafts level drafts pages → Heads own pages
draft_heads level [] [] [] keys spelled = tt
draft_heads level [] [] (es ∷ pages) keys spelled = spelled
draft_heads level [] (p ∷ drafts) pages keys spelled = absurd (nil_cons keys)
draft_heads level (e ∷ own) [] pages keys spelled = absurd (nil_cons (sym keys))
draft_heads level (e ∷ own) (p ∷ drafts) [] keys spelled = absurd spelled
draft_heads level (e ∷ own) (p ∷ drafts) (es ∷ pages) keys spelled = (spelled.0.least ∙ ap (λ (k : Mark). Some k) (sym (cons_first keys)), draft_heads level own drafts pages (cons_rest keys) spelled.1)

pub drafts_length : (level : ℕ) (drafts : List HistoryPage) (pages : Layer HistoryEntry) → AreDrafts level drafts pages → length drafts ≡ length pages
drafts_length level [] [] spelled = refl
drafts_length level [] (es ∷ pages) spelled = absurd spelled
drafts_length level (p ∷ drafts) [] spelled = absurd spelled
drafts_length level (p ∷ drafts) (es ∷ pages) spelled = ap (λ (n : ℕ). suc n) (drafts_length level drafts pages spelled.1)

pub draft_at : (level : ℕ) (drafts : List HistoryPage) (pages : Layer HistoryEntry) (n : ℕ) (draft : HistoryPage) → AreDrafts level drafts pages → n < length drafts → draft ≡ get_or drafts n draft → (es : List HistoryEntry) × SpellsPage level draft es
draft_at level [] pages n draft spelled lt is = absurd (omega (arith, lt))
draft_at level (p ∷ drafts) [] n draft spelled lt is = absurd spelled
draft_at level (p ∷ drafts) (es ∷ pages) zero draft spelled lt is = (es, subst (λ (d : HistoryPage). SpellsPage level d es) (sym is) spelled.0)
draft_at level (p ∷ drafts) (es ∷ pages) (suc n) draft spelled lt is = draft_at level drafts pages n draft spelled.1 (omega (arith, lt)) is

-- what is known of the entries above pages whatever the device has
pub record AreAbove (es own : List HistoryEntry) : Type 0 where
  pub climbs : HistoryClimbs own
  pub some : 1 ≤ length own
  pub shrinks : 3 * length own ≤ length es + 2

pub above_of : (level : ℕ) (drafts : List HistoryPage) (es own : List HistoryEntry) → AreCut level drafts es → marks_of own ≡ lows_of drafts → HistoryClimbs es → 1 ≤ length es → AreAbove es own
above_of level drafts es own cut keys climbs some =
    let of = drafts_of level drafts es cut in
    let heads = draft_heads level own drafts of.pages keys of.spelled in
    let long = heads_length own of.pages heads in
    let has = some_pages of.pages (subst (λ (l : List HistoryEntry). 1 ≤ length l) (sym of.cut.whole) some) in
    let less = shrinks level of.pages of.cut.full of.cut.admitted in
    let whole = ap length of.cut.whole in
    record {
      climbs = above_climbs own of.pages heads (subst HistoryClimbs (sym of.cut.whole) climbs);
      some = omega (arith, long, has);
      shrinks = omega (arith, long, less, whole);
    }
  where
    some_pages : (pages : Layer HistoryEntry) → 1 ≤ length (join pages) → 1 ≤ length pages
    some_pages [] some = absurd (omega (arith, some))
    some_pages (p ∷ pages) some = omega arith

-- ---- the pages of a level, one after the other

module _ {D : Type 0} (g : Ghosts D) (old : Option Kept) (first books0 : Books) (start : D) (level : ℕ) (pages : Layer HistoryEntry) where
  pub record PagesGoing (rest : List HistoryPage) (own : List HistoryEntry) (addrs : List Addr) (books : Books) (now : D) : Type 0 where
    pub done : Layer HistoryEntry
    pub left : Layer HistoryEntry
    pub split : pages ≡ done ++ left
    pub spelled : AreDrafts level rest left
    pub lead : Lead history_kind level own done
    pub placed : AllByRecursion (λ (b : Block). IsPlaced books0 b.place) (page_blocks history_kind level own done)
    pub captures : Captures g old first (page_blocks history_kind level own done) (page_sizes (length done)) books0 books start now
    pub listed : addrs ≡ places_of (page_blocks history_kind level own done)

  pub pages_begun : (drafts : List HistoryPage) → AreDrafts level drafts pages → MayWrite (g.seen start) (g.may_leave start) books0 old → ((c : List ℕ) → g.left_since start (g.moment start) c → g.may_leave start c) → PagesGoing drafts [] [] books0 start
  pages_begun drafts spelled may only = record { done = []; left = pages; split = refl; spelled = spelled; lead = tt; placed = tt; captures = captures_none g old first books0 start only may; listed = refl }

  pub pages_ended : (own : List HistoryEntry) (addrs : List Addr) (books : Books) (now : D) → PagesGoing [] own addrs books now → PagesWritten g old first books0 books start now level pages own addrs
  pages_ended own addrs books now going = subst (λ (l : Layer HistoryEntry). PagesWritten g old first books0 books start now level l own addrs) (sym (going.split ∙ (ap (λ (l : Layer HistoryEntry). going.done ++ l) (no_left going.left going.spelled) ∙ append-nil going.done))) (record {
    lead = going.lead;
    placed = going.placed;
    captures = going.captures;
    listed = going.listed;
  })
    where
      no_left : (l : Layer HistoryEntry) → AreDrafts level [] l → l ≡ []
      no_left [] spelled = refl
      no_left (es ∷ l) spelled = absurd spelled

  -- an error that is not want of room
  pub pages_stopped : (rest : List HistoryPage) (own : List HistoryEntry) (addrs : List Addr) (books : Books) (now : D) (e : StoreError) → PagesGoing rest own addrs books now → (e ≡ NoSpace → ⊥) → PagesStopped g old first books0 books start now level pages addrs e
  pages_stopped rest own addrs books now e going other = record { blocks = page_blocks history_kind level own going.done; count = length going.done; listed = going.listed; captures = λ safe. going.captures; left = going.captures.left; lacks = λ is. absurd (other is) }

  module _ (draft : HistoryPage) (rest : List HistoryPage) (own : List HistoryEntry) (addrs : List Addr) (books : Books) (mid : D) (going : PagesGoing (draft ∷ rest) own addrs books mid) (room : g.capacity mid ≡ g.capacity start) where
    pub record NextPage : Type 0 where
      pub es : List HistoryEntry
      pub later : Layer HistoryEntry
      pub is : going.left ≡ es ∷ later
      pub spells : SpellsPage level draft es
      pub others : AreDrafts level rest later

    pub next_page : NextPage
    next_page = of going.left refl going.spelled
      where
        of : (l : Layer HistoryEntry) → going.left ≡ l → AreDrafts level (draft ∷ rest) l → NextPage
        of [] is spelled = absurd spelled
        of (es ∷ later) is spelled = record { es = es; later = later; is = is; spells = spelled.0; others = spelled.1 }

    abbrev es : List HistoryEntry
    es = next_page.es

    old_mid : (c : List ℕ) → IsOld (g.may_leave mid) old c → IsOld (g.may_leave start) old c
    old_mid c (inl left) = going.captures.images c left
    old_mid c (inr has) = inr has

    split_here : pages ≡ going.done ++ (es ∷ next_page.later)
    split_here = going.split ∙ ap (λ (l : Layer HistoryEntry). going.done ++ l) next_page.is

    pub page_failed : (addrs' : List Addr) (books' : Books) (end : D) (e : StoreError) → PageWrites g old first books books' mid end level es addrs' (Err e) → PagesStopped g old first books0 books' start end level pages (addrs ++ addrs') e
    page_failed addrs' books' end e (none, fails, why) = record {
      blocks = page_blocks history_kind level own going.done;
      count = length going.done;
      listed = ap (λ (l : List Addr). addrs ++ l) none ∙ (append-nil addrs ∙ going.listed);
      captures = λ safe. subst (λ (l : List Block). Captures g old first l (page_sizes (length going.done)) books0 books' start end) (append-nil (page_blocks history_kind level own going.done)) (subst (λ (l : List ℕ). Captures g old first (page_blocks history_kind level own going.done ++ []) l books0 books' start end) (append-nil (page_sizes (length going.done)))
          (captures_join g old first (page_blocks history_kind level own going.done) [] (page_sizes (length going.done)) [] books0 books books' start mid end room going.captures (captures_failed g old first books books' mid end (IsSafe e) safe going.captures.may fails)));
      left = joined g start mid end _ _ going.captures.left fails.left old_mid;
      lacks = λ is.
          let long = ap length split_here ∙ length-append going.done (es ∷ next_page.later) in
          (omega (arith, long), subst (λ (b : Books). HasNoRoom b.space 4096 (g.capacity start)) (sym fails.same) (subst (λ (k : ℕ). HasNoRoom books.space 4096 k) room (why is)));
    }

    pub page_more : (e : HistoryEntry) (addrs' : List Addr) (books' : Books) (end : D) → PageWrites g old first books books' mid end level es addrs' (Ok e) → PagesGoing rest (own ++ e ∷ []) (addrs ++ addrs') books' end
    page_more e addrs' books' end (listed, leads, placed, captures) = record {
      done = going.done ++ es ∷ [];
      left = next_page.later;
      split = split_here ∙ sym (append_assoc going.done (es ∷ []) next_page.later);
      spelled = next_page.others;
      lead = lead_more level own going.done e es going.lead leads;
      placed = subst (λ (l : List Block). AllByRecursion (λ (b : Block). IsPlaced books0 b.place) l) (sym blocks_are) (all_both (λ (b : Block). IsPlaced books0 b.place) (page_blocks history_kind level own going.done) (page_block level e es ∷ []) going.placed (placed0, tt));
      captures = subst (λ (l : List Block). Captures g old first l (page_sizes (length (going.done ++ es ∷ []))) books0 books' start end) (sym blocks_are) (subst (λ (l : List ℕ). Captures g old first (page_blocks history_kind level own going.done ++ page_block level e es ∷ []) l books0 books' start end) sizes_are
          (captures_join g old first (page_blocks history_kind level own going.done) (page_block level e es ∷ []) (page_sizes (length going.done)) (4096 ∷ []) books0 books books' start mid end room going.captures captures));
      listed = ap (λ (l : List Addr). addrs ++ l) listed ∙ (ap (λ (l : List Addr). l ++ e.link.addr ∷ []) going.listed ∙ (sym (map-append {A = Block} {B = Addr} (λ b. b.place) (page_blocks history_kind level own going.done) (page_block level e es ∷ [])) ∙ ap places_of (sym blocks_are)));
    }
      where
        blocks_are : page_blocks history_kind level (own ++ e ∷ []) (going.done ++ es ∷ []) ≡ page_blocks history_kind level own going.done ++ page_block level e es ∷ []
        blocks_are = pages_more level own going.done e es going.lead

        one : ℕ
        one = 1

        sizes_are : page_sizes (length going.done) ++ 4096 ∷ [] ≡ page_sizes (length (going.done ++ es ∷ []))
        sizes_are =
            let both = repeat_both (length going.done) 1 (4096 ∷ []) in
            let long : length going.done + 1 ≡ length (going.done ++ es ∷ []) = sym (length-append going.done (es ∷ [])) in
            both ∙ ap page_sizes long

        placed0 : IsPlaced books0 e.link.addr
        placed0 = record { unit = placed.unit; units = placed.units; offset = placed.offset; size = placed.size; none = none_before placed.unit (cell_at books0.cells placed.unit) (places_of (page_blocks history_kind level own going.done)) (sym (going.captures.cells placed.unit) ∙ placed.none) }

-- ---- level by level

module _ {D : Type 0} (g : Ghosts D) (old : Option Kept) (first books0 : Books) (start : D) (leaves : List HistoryEntry) where
  -- the levels below these entries are captured
  pub record Up (own : List HistoryEntry) (level : ℕ) (addrs : List Addr) (books : Books) (now : D) : Type 0 where
    pub layers : List (Layer HistoryEntry)
    pub levels : length layers ≡ level
    pub risen : IsRisen own layers leaves
    pub placed : AllByRecursion (λ (b : Block). IsPlaced books0 b.place) (risen_blocks own layers)
    pub captures : Captures g old first (risen_blocks own layers) (page_sizes (page_count layers)) books0 books start now
    pub listed : addrs ≡ places_of (risen_blocks own layers)

  -- and these addresses are those of the inner pages, from the top down, and of the leaves
  pub record UpTo (own : List HistoryEntry) (level : ℕ) (addrs stand : List Addr) (books : Books) (now : D) : Type 0 where
    pub up : Up own level addrs books now
    pub stand_is : stand ≡ places_of (inner_blocks history_kind own up.layers) ++ map {A = HistoryEntry} (λ e. e.link.addr) leaves

  pub up_begun : MayWrite (g.seen start) (g.may_leave start) books0 old → ((c : List ℕ) → g.left_since start (g.moment start) c → g.may_leave start c) → Up leaves 0 [] books0 start
  up_begun may only = record { layers = []; levels = refl; risen = record { lead = tt; bottom = refl; full = tt; needed = tt }; placed = tt; captures = captures_none g old first books0 start only may; listed = refl }

  pub stand_begun : MayWrite (g.seen start) (g.may_leave start) books0 old → ((c : List ℕ) → g.left_since start (g.moment start) c → g.may_leave start c) → (stand : List Addr) → stand ≡ map {A = HistoryEntry} (λ e. e.link.addr) leaves → UpTo leaves 0 [] stand books0 start
  unfolding up_begun
  stand_begun may only stand is = record { up = up_begun may only; stand_is = is }

  -- an error that is not want of room
  pub up_stopped : (own : List HistoryEntry) (level : ℕ) (addrs : List Addr) (books : Books) (now : D) (e : StoreError) → Up own level addrs books now → (e ≡ NoSpace → ⊥) → RiseStopped g old first books0 books start now leaves addrs e
  up_stopped own level addrs books now e up other = record { blocks = risen_blocks own up.layers; sizes = page_sizes (page_count up.layers); listed = up.listed; captures = λ safe. up.captures; left = up.captures.left; lacks = λ is. absurd (other is) }

  -- one entry is left
  pub up_ended : (own : List HistoryEntry) (level : ℕ) (addrs stand : List Addr) (books : Books) (now : D) (place : HistoryPlace) → UpTo own level addrs stand books now → (e : HistoryEntry) → own ≡ e ∷ [] → place.root ≡ record { level = level; link = e.link } → place.addrs.items ≡ stand
      → Rose g old first books0 books start now leaves addrs place
  up_ended own level addrs stand books now place to e is root stands =
      let up = to.up in
      record {
        layers = up.layers;
        top = e;
        link = ap (λ (r : Root). r.link) root;
        is = record { levels = up.levels ∙ ap (λ (r : Root). r.level) (sym root); risen = subst (λ (l : List HistoryEntry). IsRisen l up.layers leaves) is up.risen };
        stand = stands ∙ (to.stand_is ∙ ap (λ (l : List HistoryEntry). places_of (inner_blocks history_kind l up.layers) ++ map {A = HistoryEntry} (λ e. e.link.addr) leaves) is);
        placed = subst (λ (l : List HistoryEntry). AllByRecursion (λ (b : Block). IsPlaced books0 b.place) (risen_blocks l up.layers)) is up.placed;
        captures = subst (λ (l : List HistoryEntry). Captures g old first (risen_blocks l up.layers) (page_sizes (page_count up.layers)) books0 books start now) is up.captures;
        listed = up.listed ∙ ap (λ (l : List HistoryEntry). places_of (risen_blocks l up.layers)) is;
      }

  module _ (own : List HistoryEntry) (level : ℕ) (addrs : List Addr) (books : Books) (mid : D) (up : Up own level addrs books mid) (many : 2 ≤ length own) (room : g.capacity mid ≡ g.capacity start) where
    up_mid : (c : List ℕ) → IsOld (g.may_leave mid) old c → IsOld (g.may_leave start) old c
    up_mid c (inl left) = up.captures.images c left
    up_mid c (inr has) = inr has

    module _ (pages : Layer HistoryEntry) (cut : IsCutInto (suc level) own pages) where
      -- the blocks of one level more
      more_blocks : (next : List HistoryEntry) → risen_blocks own up.layers ++ page_blocks history_kind (suc level) next pages ≡ risen_blocks next (pages ∷ up.layers)
      more_blocks next = ap (λ (l : List HistoryEntry). risen_blocks l up.layers ++ page_blocks history_kind (suc level) next pages) (sym cut.whole) ∙ ap (λ (k : ℕ). risen_blocks (join pages) up.layers ++ page_blocks history_kind (suc k) next pages) (sym up.levels)

      more_risen : (next : List HistoryEntry) → Lead history_kind (suc level) next pages → IsRisen next (pages ∷ up.layers) leaves
      more_risen next lead = risen_more next own leaves pages up.layers up.risen (subst (λ (k : ℕ). Lead history_kind (suc k) next pages) (sym up.levels) lead) cut.whole cut.full many

      more_sizes : page_sizes (page_count up.layers) ++ page_sizes (length pages) ≡ page_sizes (page_count (pages ∷ up.layers))
      more_sizes =
          let swap : page_count up.layers + length pages ≡ length pages + page_count up.layers = omega arith in
          repeat_both (page_count up.layers) (length pages) (4096 ∷ []) ∙ ap page_sizes swap

      pub level_more : (next : List HistoryEntry) (addrs' : List Addr) (books' : Books) (end : D) → PagesWritten g old first books books' mid end (suc level) pages next addrs' → Up next (suc level) (addrs ++ addrs') books' end
      level_more next addrs' books' end wrote = record {
        layers = pages ∷ up.layers;
        levels = ap (λ (k : ℕ). suc k) up.levels;
        risen = more_risen next wrote.lead;
        placed = subst (λ (l : List Block). AllByRecursion (λ (b : Block). IsPlaced books0 b.place) l) (more_blocks next) (all_both (λ (b : Block). IsPlaced books0 b.place) (risen_blocks own up.layers) (page_blocks history_kind (suc level) next pages) up.placed
            (all_map (λ (b : Block). IsPlaced books b.place) (λ (b : Block). IsPlaced books0 b.place) (page_blocks history_kind (suc level) next pages) (λ b placed. placed0 b.place placed) wrote.placed));
        captures = subst (λ (l : List Block). Captures g old first l (page_sizes (page_count (pages ∷ up.layers))) books0 books' start end) (more_blocks next) (subst (λ (l : List ℕ). Captures g old first (risen_blocks own up.layers ++ page_blocks history_kind (suc level) next pages) l books0 books' start end) more_sizes
            (captures_join g old first (risen_blocks own up.layers) (page_blocks history_kind (suc level) next pages) (page_sizes (page_count up.layers)) (page_sizes (length pages)) books0 books books' start mid end room up.captures wrote.captures));
        listed = ap (λ (l : List Addr). addrs ++ l) wrote.listed ∙ (ap (λ (l : List Addr). l ++ places_of (page_blocks history_kind (suc level) next pages)) up.listed ∙ (sym (map-append {A = Block} {B = Addr} (λ b. b.place) (risen_blocks own up.layers) (page_blocks history_kind (suc level) next pages)) ∙ ap places_of (more_blocks next)));
      }
        where
          placed0 : (a : Addr) → IsPlaced books a → IsPlaced books0 a
          placed0 a placed = record { unit = placed.unit; units = placed.units; offset = placed.offset; size = placed.size; none = none_before placed.unit (cell_at books0.cells placed.unit) (places_of (risen_blocks own up.layers)) (sym (up.captures.cells placed.unit) ∙ placed.none) }

      pub stand_more : (next : List HistoryEntry) (addrs' : List Addr) (books' : Books) (end : D) (wrote : PagesWritten g old first books books' mid end (suc level) pages next addrs') (stand stand' : List Addr)
          → stand ≡ places_of (inner_blocks history_kind own up.layers) ++ map {A = HistoryEntry} (λ e. e.link.addr) leaves → stand' ≡ map {A = HistoryEntry} (λ e. e.link.addr) next ++ stand → UpTo next (suc level) (addrs ++ addrs') stand' books' end
      unfolding level_more
      stand_more next addrs' books' end wrote stand stand' was is = record {
        up = level_more next addrs' books' end wrote;
        stand_is = is ∙ (ap (λ (l : List Addr). map {A = HistoryEntry} (λ e. e.link.addr) next ++ l) was ∙ (ap (λ (l : List Addr). l ++ (places_of (inner_blocks history_kind own up.layers) ++ map {A = HistoryEntry} (λ e. e.link.addr) leaves)) (sym (places_pages (suc level) next pages wrote.lead))
            ∙ (sym (append_assoc (places_of (page_blocks history_kind (suc level) next pages)) (places_of (inner_blocks history_kind own up.layers)) (map {A = HistoryEntry} (λ e. e.link.addr) leaves))
            ∙ ap (λ (l : List Addr). l ++ map {A = HistoryEntry} (λ e. e.link.addr) leaves) joined_places)));
      }
        where
          joined_places : places_of (page_blocks history_kind (suc level) next pages) ++ places_of (inner_blocks history_kind own up.layers) ≡ places_of (inner_blocks history_kind next (pages ∷ up.layers))
          joined_places = sym (map-append {A = Block} {B = Addr} (λ b. b.place) (page_blocks history_kind (suc level) next pages) (inner_blocks history_kind own up.layers)) ∙ ap places_of (ap (λ (l : List HistoryEntry). page_blocks history_kind (suc level) next pages ++ inner_blocks history_kind l up.layers) (sym cut.whole) ∙ ap (λ (k : ℕ). page_blocks history_kind (suc k) next pages ++ inner_blocks history_kind (join pages) up.layers) (sym up.levels))

      pub level_failed : (n : ℕ) → AllByRecursion HistoryEntryFits own → HistoryClimbs own → length own ≤ reach (suc n) → suc n + level ≤ 60 → (addrs' : List Addr) (books' : Books) (end : D) (e : StoreError) → PagesStopped g old first books books' mid end (suc level) pages addrs' e → RiseStopped g old first books0 books' start end leaves (addrs ++ addrs') e
      level_failed n fit climbs few low addrs' books' end e stop = record {
        blocks = risen_blocks own up.layers ++ stop.blocks;
        sizes = page_sizes (page_count up.layers) ++ page_sizes stop.count;
        listed = ap (λ (l : List Addr). addrs ++ l) stop.listed ∙ (ap (λ (l : List Addr). l ++ places_of stop.blocks) up.listed ∙ sym (map-append {A = Block} {B = Addr} (λ b. b.place) (risen_blocks own up.layers) stop.blocks));
        captures = λ safe. captures_join g old first (risen_blocks own up.layers) stop.blocks (page_sizes (page_count up.layers)) (page_sizes stop.count) books0 books books' start mid end room up.captures (stop.captures safe);
        left = joined g start mid end _ _ up.captures.left stop.left up_mid;
        lacks = λ is. no_top is;
      }
        where
          lead : Lead history_kind (suc level) (leads_to pages) pages
          lead = leads_all (suc level) pages cut.admitted

          heads : Heads (leads_to pages) pages
          heads = leads_heads (suc level) pages cut.admitted

          some_pages : (pages : Layer HistoryEntry) → 1 ≤ length (join pages) → 1 ≤ length pages
          some_pages [] some = absurd (omega (arith, some))
          some_pages (p ∷ pages) some = omega arith

          over : TopOver (pages ∷ up.layers) leaves
          over =
              let long = heads_length (leads_to pages) pages heads in
              let less = shrinks (suc level) pages cut.full cut.admitted in
              let whole = ap length cut.whole in
              let has = some_pages pages (subst (λ (l : List HistoryEntry). 1 ≤ length l) (sym cut.whole) (omega (arith, many))) in
              top_over n (suc level) (leads_to pages) leaves (pages ∷ up.layers) (more_risen (leads_to pages) lead) (ap (λ (k : ℕ). suc k) up.levels) (leads_fit (suc level) pages cut.admitted)
              (above_climbs (leads_to pages) pages heads (subst HistoryClimbs (sym cut.whole) climbs)) (omega (arith, long, has)) (omega (arith, few, long, less, whole)) (omega (arith, low))

          no_top : e ≡ NoSpace → HasNoTop g old first books0 books' start end leaves
          no_top is =
              let why = stop.lacks is in
              let all = over.count in
              record {
                top = over.top;
                level = over.level;
                layers = over.above;
                is = over.is;
                lacks = subst (λ (l : List ℕ). LacksAll books0.space (g.capacity start) l) (sizes why.0) (lacks_behind books0.space books'.space (g.capacity start) 4096 (page_sizes (page_count up.layers) ++ page_sizes stop.count) (page_sizes (length pages - (stop.count + 1) + over.more))
                    placed_sizes (subst (λ (k : ℕ). HasNoRoom books'.space 4096 k) room why.1));
              }
            where
              safe : IsSafe e
              safe = subst IsSafe (sym is) tt

              placed_sizes : PlacesAll books0.space (g.capacity start) (page_sizes (page_count up.layers) ++ page_sizes stop.count) books'.space
              placed_sizes = (captures_join g old first (risen_blocks own up.layers) stop.blocks (page_sizes (page_count up.layers)) (page_sizes stop.count) books0 books books' start mid end room up.captures (stop.captures safe)).places

              sizes : stop.count < length pages → (page_sizes (page_count up.layers) ++ page_sizes stop.count) ++ 4096 ∷ page_sizes (length pages - (stop.count + 1) + over.more) ≡ page_sizes (page_count over.above)
              sizes less =
                  let k : ℕ = length pages - (stop.count + 1) + over.more in
                  let all = over.count in
                  let sum : (page_count up.layers + stop.count) + (1 + k) ≡ page_count over.above = omega (arith, all, less) in
                  ap (λ (l : List ℕ). l ++ 4096 ∷ page_sizes k) (repeat_both (page_count up.layers) stop.count (4096 ∷ [])) ∙ (ap (λ (l : List ℕ). page_sizes (page_count up.layers + stop.count) ++ l) (repeat_both 1 k (4096 ∷ [])) ∙ (repeat_both (page_count up.layers + stop.count) (1 + k) (4096 ∷ []) ∙ ap page_sizes sum))

    -- the next level, as it is written
    one_more : level + 1 ≡ suc level
    one_more = omega arith

    cut_here : (xs : List HistoryEntry) (pages : Layer HistoryEntry) → xs ≡ own → IsCutInto (level + 1) xs pages → IsCutInto (suc level) own pages
    cut_here xs pages same cut = subst (λ (k : ℕ). IsCutInto k own pages) one_more (subst (λ (l : List HistoryEntry). IsCutInto (level + 1) l pages) same cut)

    pub up_failed : (es : List HistoryEntry) → es ≡ own → level ≤ 41 → length own ≤ reach (41 - level) → AllByRecursion HistoryEntryFits own → HistoryClimbs own → (addrs' : List Addr) (books' : Books) (end : D) (e : StoreError) → LevelWrites g old first books books' mid end (level + 1) es addrs' (Err e) → RiseStopped g old first books0 books' start end leaves (addrs ++ addrs') e
    up_failed es same low few fit climbs addrs' books' end e w =
        let at = level_low level (length own) low few many in
        level_failed w.pages (cut_here es w.pages same w.cut) (40 - level) fit climbs at.1 (omega (arith, at.0)) addrs' books' end e (subst (λ (k : ℕ). PagesStopped g old first books books' mid end k w.pages addrs' e) one_more w.writes)

    pub up_next : (es : List HistoryEntry) → es ≡ own → (next : Vec HistoryEntry Global) (addrs' : List Addr) (books' : Books) (end : D) → LevelWrites g old first books books' mid end (level + 1) es addrs' (Ok next) → Up next.items (level + 1) (addrs ++ addrs') books' end
    up_next es same next addrs' books' end w = subst (λ (k : ℕ). Up next.items k (addrs ++ addrs') books' end) (sym one_more)
        (level_more w.pages (cut_here es w.pages same w.cut) next.items addrs' books' end (subst (λ (k : ℕ). PagesWritten g old first books books' mid end k w.pages next.items addrs') one_more w.writes))

    pub stand_next : (es : List HistoryEntry) → es ≡ own → (next : Vec HistoryEntry Global) (addrs' : List Addr) (books' : Books) (end : D) → LevelWrites g old first books books' mid end (level + 1) es addrs' (Ok next) → (stand stand' : List Addr)
        → stand ≡ places_of (inner_blocks history_kind own up.layers) ++ map {A = HistoryEntry} (λ e. e.link.addr) leaves → stand' ≡ map {A = HistoryEntry} (λ e. e.link.addr) next.items ++ stand → UpTo next.items (level + 1) (addrs ++ addrs') stand' books' end
    stand_next es same next addrs' books' end w stand stand' was is = subst (λ (k : ℕ). UpTo next.items k (addrs ++ addrs') stand' books' end) (sym one_more)
        (stand_more w.pages (cut_here es w.pages same w.cut) next.items addrs' books' end (subst (λ (k : ℕ). PagesWritten g old first books books' mid end k w.pages next.items addrs') one_more w.writes) stand stand' was is)

-- the one entry that is left
pub one_left : (own : List HistoryEntry) → 1 ≤ length own → length own ≤ 1 → (e : HistoryEntry) × (own ≡ e ∷ [])
one_left [] some few = absurd (omega (arith, some))
one_left (e ∷ []) some few = (e, refl)
one_left (e ∷ f ∷ own) some few = absurd (omega (arith, few))
