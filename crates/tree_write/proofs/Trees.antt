-- The blocks of a tree, as they are captured and as they stand.
use Rattle.std.specs.Prelude.{◌≡◌, ℕ, suc, ◌==◌, ◌≤◌, List, [], ◌∷◌, ◌++◌, length, map, None, Some, refl}
use Rattle.std.specs.List.{AllByRecursion}
use Rattle.std.proofs.Common.{inl, inr, sym, ◌∙◌, ap, subst, arith}
use Rattle.std.proofs.lemmas.Bool.{cases_Bool, eqb-true}
use Rattle.std.proofs.lemmas.List.{append-nil}
use Rattle.block_mgr.specs.Blocks.{Books, HasLive}
use Rattle.device_layout.specs.declared.addr.Addr.{Addr}
use Rattle.device_layout.specs.declared.link.Link.{Link}
use Rattle.row_page.specs.Rows.{Row}
use Rattle.stored.specs.Blocks.{Block}
use Rattle.stored.specs.Records.{Root}
use Rattle.stored.specs.Tree.{AllBear, Layer, Lead, bottom, inner_blocks, join, leaf_blocks, page_blocks, tree_blocks}
use Rattle.stored.specs.TableTree.{Bears, Climbs, Entry, Leads, Stay, TableTree, root_entry, table_kind}
use Rattle.tree_open.specs.Pages.{page_block}
use Rattle.tree_open.specs.Trees.{root_own}
use Rattle.tree_write.specs.Captures.{AreDistinct, AreOnce, IsPlaced, StaysLive, places_of}
use Rattle.tree_write.specs.Cuts.{AreFullLeaves, IsCut, captured_blocks, risen_blocks}
use Rattle.tree_write.specs.Drafts.{IsCutBy, or_empty}
use Rattle.tree_write.specs.Steps.{IsTop, leaf_block}
use Rattle.tree_write.specs.Writes.{AreOwn, LeadApart}
use Rattle.tree_write.proofs.Joining.{live_is_used, used_not_placed}
use Rattle.tree_write.proofs.Lists.{all_back, all_both, all_front, all_map}

-- ---- one more

abbrev pub Stored : Entry → Type 0
Stored e = e.link.addr.offset ≡ 0 → ⊥

pub bear_more : (es : List Entry) (done : List (List Row)) (e : Entry) (rows : List Row) → AllBear table_kind es done → Bears e rows → AllBear table_kind (es ++ e ∷ []) (done ++ rows ∷ [])
bear_more [] [] e rows bear one = (one, tt)
bear_more [] (other ∷ done) e rows bear one = absurd bear
bear_more (x ∷ es) [] e rows bear one = absurd bear
bear_more (x ∷ es) (other ∷ done) e rows bear one = (bear.0, bear_more es done e rows bear.1 one)

-- a leaf that is stored has one block
pub one_block : (e : Entry) (rows : List Row) → Stored e → leaf_blocks table_kind (e ∷ []) (rows ∷ []) ≡ leaf_block e.link rows ∷ []
one_block e rows stored = elim (cases_Bool (e.link.addr.offset == 0)) [ inl is ↦ absurd (stored (eqb-true e.link.addr.offset 0 is)) | inr isnt ↦ rw isnt refl ]

pub first_block : (e : Entry) (rows : List Row) (es : List Entry) (done : List (List Row)) → Stored e → leaf_blocks table_kind (e ∷ es) (rows ∷ done) ≡ leaf_block e.link rows ∷ leaf_blocks table_kind es done
first_block e rows es done stored = elim (cases_Bool (e.link.addr.offset == 0)) [ inl is ↦ absurd (stored (eqb-true e.link.addr.offset 0 is)) | inr isnt ↦ rw isnt refl ]

pub blocks_more : (es : List Entry) (done : List (List Row)) (e : Entry) (rows : List Row) → AllBear table_kind es done → Stored e → leaf_blocks table_kind (es ++ e ∷ []) (done ++ rows ∷ []) ≡ leaf_blocks table_kind es done ++ leaf_block e.link rows ∷ []
blocks_more [] [] e rows bear stored = one_block e rows stored
blocks_more [] (other ∷ done) e rows bear stored = absurd bear
blocks_more (x ∷ es) [] e rows bear stored = absurd bear
blocks_more (x ∷ es) (other ∷ done) e rows bear stored = elim (cases_Bool (x.link.addr.offset == 0)) [
  | inl is ↦ rw is (blocks_more es done e rows bear.1 stored)
  | inr isnt ↦ rw isnt (ap (λ (l : List Block). leaf_block x.link other ∷ l) (blocks_more es done e rows bear.1 stored))
]

pub places_leaves : (es : List Entry) (done : List (List Row)) → AllBear table_kind es done → AllByRecursion Stored es → places_of (leaf_blocks table_kind es done) ≡ map {A = Entry} (λ e. e.link.addr) es
places_leaves [] done bear stored = refl
places_leaves (e ∷ es) [] bear stored = absurd bear
places_leaves (e ∷ es) (rows ∷ done) bear stored = ap places_of (first_block e rows es done stored.0) ∙ ap (λ (l : List Addr). e.link.addr ∷ l) (places_leaves es done bear.1 stored.1)

pub lead_more : (level : ℕ) (own : List Entry) (pages : Layer Entry) (e : Entry) (p : List Entry) → Lead table_kind level own pages → Leads level e p → Lead table_kind level (own ++ e ∷ []) (pages ++ p ∷ [])
lead_more level [] [] e p lead one = (one, tt)
lead_more level [] (q ∷ pages) e p lead one = absurd lead
lead_more level (x ∷ own) [] e p lead one = absurd lead
lead_more level (x ∷ own) (q ∷ pages) e p lead one = (lead.0, lead_more level own pages e p lead.1 one)

pub pages_more : (level : ℕ) (own : List Entry) (pages : Layer Entry) (e : Entry) (p : List Entry) → Lead table_kind level own pages → page_blocks table_kind level (own ++ e ∷ []) (pages ++ p ∷ []) ≡ page_blocks table_kind level own pages ++ page_block level e p ∷ []
pages_more level [] [] e p lead = refl
pages_more level [] (q ∷ pages) e p lead = absurd lead
pages_more level (x ∷ own) [] e p lead = absurd lead
pages_more level (x ∷ own) (q ∷ pages) e p lead = ap (λ (l : List Block). page_block level x q ∷ l) (pages_more level own pages e p lead.1)

pub places_pages : (level : ℕ) (own : List Entry) (pages : Layer Entry) → Lead table_kind level own pages → places_of (page_blocks table_kind level own pages) ≡ map {A = Entry} (λ e. e.link.addr) own
places_pages level [] pages lead = refl
places_pages level (e ∷ own) [] lead = absurd lead
places_pages level (e ∷ own) (p ∷ pages) lead = ap (λ (l : List Addr). e.link.addr ∷ l) (places_pages level own pages lead.1)

-- ---- as they stand

inner_all : (P : Block → Type 0) (own : List Entry) (layers : List (Layer Entry)) → AllByRecursion P (risen_blocks own layers) → AllByRecursion P (inner_blocks table_kind own layers)
inner_all P own [] all = tt
inner_all P own (pages ∷ layers) all =
    all_both P (page_blocks table_kind (suc (length layers)) own pages) (inner_blocks table_kind (join pages) layers)
    (all_back P (risen_blocks (join pages) layers) (page_blocks table_kind (suc (length layers)) own pages) all)
    (inner_all P (join pages) layers (all_front P (risen_blocks (join pages) layers) (page_blocks table_kind (suc (length layers)) own pages) all))

risen_all : (P : Block → Type 0) (own : List Entry) (layers : List (Layer Entry)) → AllByRecursion P (inner_blocks table_kind own layers) → AllByRecursion P (risen_blocks own layers)
risen_all P own [] all = tt
risen_all P own (pages ∷ layers) all =
    all_both P (risen_blocks (join pages) layers) (page_blocks table_kind (suc (length layers)) own pages)
    (risen_all P (join pages) layers (all_back P (page_blocks table_kind (suc (length layers)) own pages) (inner_blocks table_kind (join pages) layers) all))
    (all_front P (page_blocks table_kind (suc (length layers)) own pages) (inner_blocks table_kind (join pages) layers) all)

-- what holds of each block that is captured holds of each of the tree
pub tree_all : (P : Block → Type 0) (root : Root) (t : TableTree) → AllByRecursion P (captured_blocks root t) → AllByRecursion P (tree_blocks table_kind (root_entry root.link) t)
tree_all P root t all =
    let leaves = leaf_blocks table_kind (bottom (root_own root) t.layers) t.leaves in
    all_both P (inner_blocks table_kind (root_own root) t.layers) leaves (inner_all P (root_own root) t.layers (all_back P leaves (risen_blocks (root_own root) t.layers) all)) (all_front P leaves (risen_blocks (root_own root) t.layers) all)

-- and the other way round
pub captured_all : (P : Block → Type 0) (root : Root) (t : TableTree) → AllByRecursion P (tree_blocks table_kind (root_entry root.link) t) → AllByRecursion P (captured_blocks root t)
captured_all P root t all =
    let leaves = leaf_blocks table_kind (bottom (root_own root) t.layers) t.leaves in
    all_both P leaves (risen_blocks (root_own root) t.layers) (all_back P (inner_blocks table_kind (root_own root) t.layers) leaves all) (risen_all P (root_own root) t.layers (all_front P (inner_blocks table_kind (root_own root) t.layers) leaves all))

-- ---- the tree that is cut

or_some : (leaves : List (List Row)) → 1 ≤ length leaves → leaves ≡ or_empty leaves
or_some [] some = absurd (omega (arith, some))
or_some (rows ∷ leaves) some = refl

pub is_cut_by : (parts : List (List (List Row))) (root : Root) (layers : List (Layer Entry)) (es : List Entry) (leaves : List (List Row)) → leaves ≡ join parts → IsTop root layers es → AllBear table_kind es leaves → Climbs es → Stay es leaves → AllByRecursion AreFullLeaves parts
    → AllByRecursion (λ (l : List Row). 1 ≤ length l) leaves → 1 ≤ length leaves → IsCutBy parts root (join leaves) (record { layers = layers; leaves = leaves })
is_cut_by parts root layers es leaves are top bear climbs stay full has some = record {
  tree = record {
    levels = top.levels;
    lead = top.risen.lead;
    bear = subst (λ (l : List Entry). AllBear table_kind l leaves) (sym top.risen.bottom) bear;
    parts = subst (λ (l : List Entry). Climbs l × Stay l leaves) (sym top.risen.bottom) (climbs, stay);
  };
  whole = refl;
  parted = or_some leaves some ∙ ap or_empty are;
  full_leaves = full;
  full_layers = top.risen.full;
  needed = top.risen.needed;
  some = inr has;
  nowhere = λ none. absurd (has_rows leaves has some none);
}
  where
    has_rows : (leaves : List (List Row)) → AllByRecursion (λ (l : List Row). 1 ≤ length l) leaves → 1 ≤ length leaves → join leaves ≡ [] → ⊥
    has_rows [] has some none = omega (arith, some)
    has_rows ([] ∷ leaves) has some none = let zero = has.0 in omega (arith, zero)
    has_rows ((r ∷ rows) ∷ leaves) has some none = clash none
      where
        clash : (r ∷ rows) ++ join leaves ≡ [] → ⊥
        clash same = cc

-- a tree that is cut in one part
pub cut_whole : (leaves : List (List Row)) (root : Root) (rows : List Row) (t : TableTree) → IsCutBy (leaves ∷ []) root rows t → IsCut root rows t
cut_whole leaves root rows t cut = record {
  tree = cut.tree;
  whole = cut.whole;
  full_leaves = subst AreFullLeaves (sym (cut.parted ∙ ap or_empty (append-nil leaves))) (full_or leaves cut.full_leaves.0);
  full_layers = cut.full_layers;
  needed = cut.needed;
  some = cut.some;
  nowhere = cut.nowhere;
}
  where
    no_row : (row : Row) → None ≡ Some row → ⊥
    no_row row same = cc

    full_or : (leaves : List (List Row)) → AreFullLeaves leaves → AreFullLeaves (or_empty leaves)
    full_or [] full = ((λ row is. absurd (no_row row is)), tt)
    full_or (rows ∷ leaves) full = full

-- ---- no two at one place

-- by their addresses: only what the live tree had at first stands twice
abbrev pub OnceAddrs : Books → List Addr → Type 0
OnceAddrs first [] = Unit {0}
OnceAddrs first (a ∷ addrs) = AllByRecursion (λ (x : Addr). x.offset ≡ a.offset → HasLive first.cells x.offset x.size) addrs × OnceAddrs first addrs

pub once_addrs : (first : Books) (blocks : List Block) → AreOnce first blocks → OnceAddrs first (places_of blocks)
once_addrs first [] once = tt
once_addrs first (b ∷ blocks) once = (each blocks once.0, once_addrs first blocks once.1)
  where
    each : (l : List Block) → AllByRecursion (λ (c : Block). c.place.offset ≡ b.place.offset → HasLive first.cells c.place.offset c.place.size) l → AllByRecursion (λ (x : Addr). x.offset ≡ b.place.offset → HasLive first.cells x.offset x.size) (places_of l)
    each [] all = tt
    each (c ∷ l) all = (all.0, each l all.1)

module _ (first books : Books) (live : StaysLive first books) where
  -- a new block is not what the live tree had at first
  not_both : (a b : Addr) → IsPlaced books a → HasLive first.cells b.offset b.size → a.offset ≡ b.offset → ⊥
  not_both a b placed has same = used_not_placed books b a (live_is_used books.cells b.offset b.size (live b.offset b.size has)) placed same

  -- new blocks behind others
  new_far : (a : Addr) (addrs : List Addr) → AllByRecursion (λ (x : Addr). IsPlaced books x) addrs → AllByRecursion (λ (x : Addr). x.offset ≡ a.offset → HasLive first.cells x.offset x.size) addrs → AllByRecursion (λ (x : Addr). x.offset ≡ a.offset → ⊥) addrs
  new_far a [] placed once = tt
  new_far a (x ∷ addrs) placed once = ((λ same. not_both x x placed.0 (once.0 same) refl), new_far a addrs placed.1 once.1)

  new_distinct : (addrs : List Addr) → AllByRecursion (λ (x : Addr). IsPlaced books x) addrs → OnceAddrs first addrs → AreDistinct addrs
  new_distinct [] placed once = tt
  new_distinct (a ∷ addrs) placed once = (new_far a addrs placed.1 once.0, new_distinct addrs placed.1 once.1)

  abbrev pub addrs_in : List Link → List Addr
  addrs_in links = map {A = Link} (λ l. l.addr) links

  abbrev Leads_somewhere : Link → Type 0
  Leads_somewhere l = l.addr.offset ≡ 0 → ⊥

  -- leaves that stand where those of before did, or are new, behind one that stands where one did
  was_far : (w : Link) (was links : List Link) → AreOwn books was links → AllByRecursion Leads_somewhere links → AllByRecursion (λ (x : Link). x.addr.offset ≡ w.addr.offset → ⊥) was
      → AllByRecursion (λ (x : Addr). x.offset ≡ w.addr.offset → HasLive first.cells x.offset x.size) (addrs_in links) → AllByRecursion (λ (x : Addr). x.offset ≡ w.addr.offset → ⊥) (addrs_in links)
  was_far w was [] own some far once = tt
  was_far w [] (x ∷ links) own some far once = (
    (λ same. elim own.0 [
      | inl none ↦ some.0 (ap (λ (l : Link). l.addr.offset) none)
      | inr (inl none) ↦ some.0 (ap (λ (l : Link). l.addr.offset) none)
      | inr (inr placed) ↦ not_both x.addr x.addr placed (once.0 same) refl
    ]),
    was_far w [] links own.1 some.1 tt once.1,
  )
  was_far w (v ∷ was) (x ∷ links) own some far once = (
    (λ same. elim own.0 [
      | inl none ↦ some.0 (ap (λ (l : Link). l.addr.offset) none)
      | inr (inl stays) ↦ far.0 (sym (ap (λ (l : Link). l.addr.offset) stays) ∙ same)
      | inr (inr placed) ↦ not_both x.addr x.addr placed (once.0 same) refl
    ]),
    was_far w was links own.1 some.1 far.1 once.1,
  )

  -- behind a new one
  placed_far : (a : Addr) (addrs : List Addr) → IsPlaced books a → AllByRecursion (λ (x : Addr). x.offset ≡ a.offset → HasLive first.cells x.offset x.size) addrs → AllByRecursion (λ (x : Addr). x.offset ≡ a.offset → ⊥) addrs
  placed_far a addrs placed once = all_map (λ (x : Addr). x.offset ≡ a.offset → HasLive first.cells x.offset x.size) (λ (x : Addr). x.offset ≡ a.offset → ⊥) addrs (λ x is same. not_both a x placed (is same) (sym same)) once

  -- leaves, and new blocks behind them
  pub tree_distinct : (was links : List Link) (more : List Addr) → AreOwn books was links → AllByRecursion Leads_somewhere links → LeadApart was → AllByRecursion (λ (x : Addr). IsPlaced books x) more → OnceAddrs first (addrs_in links ++ more) → AreDistinct (addrs_in links ++ more)
  tree_distinct was [] more own some apart placed once = new_distinct more placed once
  tree_distinct [] (x ∷ links) more own some apart placed once = (
    elim own.0 [
      | inl none ↦ absurd (some.0 (ap (λ (l : Link). l.addr.offset) none))
      | inr (inl none) ↦ absurd (some.0 (ap (λ (l : Link). l.addr.offset) none))
      | inr (inr new) ↦ placed_far x.addr (addrs_in links ++ more) new once.0
    ],
    tree_distinct [] links more own.1 some.1 tt placed once.1,
  )
  tree_distinct (v ∷ was) (x ∷ links) more own some apart placed once = (
    elim own.0 [
      | inl none ↦ absurd (some.0 (ap (λ (l : Link). l.addr.offset) none))
      | inr (inl stays) ↦ stayed stays
      | inr (inr new) ↦ placed_far x.addr (addrs_in links ++ more) new once.0
    ],
    tree_distinct was links more own.1 some.1 apart.1 placed once.1,
  )
    where
      behind : x ≡ v → AllByRecursion (λ (y : Link). y.addr.offset ≡ x.addr.offset → ⊥) was
      behind stays = elim apart.0 [
        | inl zero ↦ absurd (some.0 (ap (λ (l : Link). l.addr.offset) stays ∙ zero))
        | inr far ↦ all_map (λ (y : Link). y.addr.offset ≡ v.addr.offset → ⊥) (λ (y : Link). y.addr.offset ≡ x.addr.offset → ⊥) was (λ y is same. is (same ∙ ap (λ (l : Link). l.addr.offset) stays)) far
      ]

      stayed : x ≡ v → AllByRecursion (λ (y : Addr). y.offset ≡ x.addr.offset → ⊥) (addrs_in links ++ more)
      stayed stays = all_both (λ (y : Addr). y.offset ≡ x.addr.offset → ⊥) (addrs_in links) more
          (was_far x was links own.1 some.1 (behind stays) (all_front (λ (y : Addr). y.offset ≡ x.addr.offset → HasLive first.cells y.offset y.size) (addrs_in links) more once.0))
          (new_far x.addr more placed (all_back (λ (y : Addr). y.offset ≡ x.addr.offset → HasLive first.cells y.offset y.size) (addrs_in links) more once.0))
