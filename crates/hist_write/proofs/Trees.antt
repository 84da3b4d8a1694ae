-- The blocks of a history, as they are captured and as they stand.
use Rattle.std.specs.Prelude.{◌≡◌, ℕ, suc, ◌==◌, List, [], ◌∷◌, ◌++◌, length, map, refl}
use Rattle.std.specs.List.{AllByRecursion}
use Rattle.std.proofs.Common.{inl, inr, ◌∙◌, ap}
use Rattle.std.proofs.lemmas.Bool.{cases_Bool, eqb-true}
use Rattle.device_layout.specs.declared.addr.Addr.{Addr}
use Rattle.stored.specs.Blocks.{Block}
use Rattle.stored.specs.Records.{Root}
use Rattle.stored.specs.Tree.{AllBear, Layer, Lead, bottom, inner_blocks, join, leaf_blocks, page_blocks, tree_blocks}
use Rattle.stored.specs.HistoryTree.{HistoryBears, HistoryEntry, HistoryLeads, HistoryRecord, HistoryTree, history_kind, history_root_entry}
use Rattle.hist_open.specs.Pages.{page_block}
use Rattle.hist_open.specs.Trees.{root_own}
use Rattle.tree_write.specs.Captures.{places_of}
use Rattle.tree_write.proofs.Lists.{all_back, all_both, all_front}
use Rattle.hist_write.specs.Cuts.{captured_blocks, risen_blocks}
use Rattle.hist_write.specs.Steps.{leaf_block}

-- ---- one more

abbrev pub Stored : HistoryEntry → Type 0
Stored e = e.link.addr.offset ≡ 0 → ⊥

pub bear_more : (es : List HistoryEntry) (done : List (List HistoryRecord)) (e : HistoryEntry) (records : List HistoryRecord) → AllBear history_kind es done → HistoryBears e records → AllBear history_kind (es ++ e ∷ []) (done ++ records ∷ [])
bear_more [] [] e records bear one = (one, tt)
bear_more [] (other ∷ done) e records bear one = absurd bear
bear_more (x ∷ es) [] e records bear one = absurd bear
bear_more (x ∷ es) (other ∷ done) e records bear one = (bear.0, bear_more es done e records bear.1 one)

-- a leaf that is stored has one block
one_block : (e : HistoryEntry) (records : List HistoryRecord) → Stored e → leaf_blocks history_kind (e ∷ []) (records ∷ []) ≡ leaf_block e.link.addr records ∷ []
one_block e records stored = elim (cases_Bool (e.link.addr.offset == 0)) [ inl is ↦ absurd (stored (eqb-true e.link.addr.offset 0 is)) | inr isnt ↦ rw isnt refl ]

pub first_block : (e : HistoryEntry) (records : List HistoryRecord) (es : List HistoryEntry) (done : List (List HistoryRecord)) → Stored e → leaf_blocks history_kind (e ∷ es) (records ∷ done) ≡ leaf_block e.link.addr records ∷ leaf_blocks history_kind es done
first_block e records es done stored = elim (cases_Bool (e.link.addr.offset == 0)) [ inl is ↦ absurd (stored (eqb-true e.link.addr.offset 0 is)) | inr isnt ↦ rw isnt refl ]

pub blocks_more : (es : List HistoryEntry) (done : List (List HistoryRecord)) (e : HistoryEntry) (records : List HistoryRecord) → AllBear history_kind es done → Stored e → leaf_blocks history_kind (es ++ e ∷ []) (done ++ records ∷ []) ≡ leaf_blocks history_kind es done ++ leaf_block e.link.addr records ∷ []
blocks_more [] [] e records bear stored = one_block e records stored
blocks_more [] (other ∷ done) e records bear stored = absurd bear
blocks_more (x ∷ es) [] e records bear stored = absurd bear
blocks_more (x ∷ es) (other ∷ done) e records bear stored = elim (cases_Bool (x.link.addr.offset == 0)) [
  | inl is ↦ rw is (blocks_more es done e records bear.1 stored)
  | inr isnt ↦ rw isnt (ap (λ (l : List Block). leaf_block x.link.addr other ∷ l) (blocks_more es done e records bear.1 stored))
]

pub places_leaves : (es : List HistoryEntry) (done : List (List HistoryRecord)) → AllBear history_kind es done → AllByRecursion Stored es → places_of (leaf_blocks history_kind es done) ≡ map {A = HistoryEntry} (λ e. e.link.addr) es
places_leaves [] done bear stored = refl
places_leaves (e ∷ es) [] bear stored = absurd bear
places_leaves (e ∷ es) (records ∷ done) bear stored = ap places_of (first_block e records es done stored.0) ∙ ap (λ (l : List Addr). e.link.addr ∷ l) (places_leaves es done bear.1 stored.1)

pub lead_more : (level : ℕ) (own : List HistoryEntry) (pages : Layer HistoryEntry) (e : HistoryEntry) (p : List HistoryEntry) → Lead history_kind level own pages → HistoryLeads level e p → Lead history_kind level (own ++ e ∷ []) (pages ++ p ∷ [])
lead_more level [] [] e p lead one = (one, tt)
lead_more level [] (q ∷ pages) e p lead one = absurd lead
lead_more level (x ∷ own) [] e p lead one = absurd lead
lead_more level (x ∷ own) (q ∷ pages) e p lead one = (lead.0, lead_more level own pages e p lead.1 one)

pub pages_more : (level : ℕ) (own : List HistoryEntry) (pages : Layer HistoryEntry) (e : HistoryEntry) (p : List HistoryEntry) → Lead history_kind level own pages → page_blocks history_kind level (own ++ e ∷ []) (pages ++ p ∷ []) ≡ page_blocks history_kind level own pages ++ page_block level e p ∷ []
pages_more level [] [] e p lead = refl
pages_more level [] (q ∷ pages) e p lead = absurd lead
pages_more level (x ∷ own) [] e p lead = absurd lead
pages_more level (x ∷ own) (q ∷ pages) e p lead = ap (λ (l : List Block). page_block level x q ∷ l) (pages_more level own pages e p lead.1)

pub places_pages : (level : ℕ) (own : List HistoryEntry) (pages : Layer HistoryEntry) → Lead history_kind level own pages → places_of (page_blocks history_kind level own pages) ≡ map {A = HistoryEntry} (λ e. e.link.addr) own
places_pages level [] pages lead = refl
places_pages level (e ∷ own) [] lead = absurd lead
places_pages level (e ∷ own) (p ∷ pages) lead = ap (λ (l : List Addr). e.link.addr ∷ l) (places_pages level own pages lead.1)

-- ---- as they stand

inner_all : (P : Block → Type 0) (own : List HistoryEntry) (layers : List (Layer HistoryEntry)) → AllByRecursion P (risen_blocks own layers) → AllByRecursion P (inner_blocks history_kind own layers)
inner_all P own [] all = tt
inner_all P own (pages ∷ layers) all =
    all_both P (page_blocks history_kind (suc (length layers)) own pages) (inner_blocks history_kind (join pages) layers)
    (all_back P (risen_blocks (join pages) layers) (page_blocks history_kind (suc (length layers)) own pages) all)
    (inner_all P (join pages) layers (all_front P (risen_blocks (join pages) layers) (page_blocks history_kind (suc (length layers)) own pages) all))

risen_all : (P : Block → Type 0) (own : List HistoryEntry) (layers : List (Layer HistoryEntry)) → AllByRecursion P (inner_blocks history_kind own layers) → AllByRecursion P (risen_blocks own layers)
risen_all P own [] all = tt
risen_all P own (pages ∷ layers) all =
    all_both P (risen_blocks (join pages) layers) (page_blocks history_kind (suc (length layers)) own pages)
    (risen_all P (join pages) layers (all_back P (page_blocks history_kind (suc (length layers)) own pages) (inner_blocks history_kind (join pages) layers) all))
    (all_front P (page_blocks history_kind (suc (length layers)) own pages) (inner_blocks history_kind (join pages) layers) all)

-- what holds of each block that is captured holds of each of the tree
pub tree_all : (P : Block → Type 0) (root : Root) (t : HistoryTree) → AllByRecursion P (captured_blocks root t) → AllByRecursion P (tree_blocks history_kind (history_root_entry root.link) t)
tree_all P root t all =
    let leaves = leaf_blocks history_kind (bottom (root_own root) t.layers) t.leaves in
    all_both P (inner_blocks history_kind (root_own root) t.layers) leaves (inner_all P (root_own root) t.layers (all_back P leaves (risen_blocks (root_own root) t.layers) all)) (all_front P leaves (risen_blocks (root_own root) t.layers) all)

-- and the other way round
pub captured_all : (P : Block → Type 0) (root : Root) (t : HistoryTree) → AllByRecursion P (tree_blocks history_kind (history_root_entry root.link) t) → AllByRecursion P (captured_blocks root t)
captured_all P root t all =
    let leaves = leaf_blocks history_kind (bottom (root_own root) t.layers) t.leaves in
    all_both P leaves (risen_blocks (root_own root) t.layers) (all_back P (inner_blocks history_kind (root_own root) t.layers) leaves all) (risen_all P (root_own root) t.layers (all_front P (inner_blocks history_kind (root_own root) t.layers) leaves all))
