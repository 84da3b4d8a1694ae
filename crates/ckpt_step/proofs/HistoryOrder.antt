-- The blocks of a history in the order in which they are captured.
use Rattle.std.specs.Prelude.{◌≡◌, suc, false, List, [], ◌∷◌, length}
use Rattle.std.specs.List.{AllByRecursion}
use Rattle.std.proofs.Common.{inl, inr}
use Rattle.std.proofs.lemmas.Bool.{false≢true}
use Rattle.block_mgr.specs.Blocks.{Books, HasLive}
use Rattle.device_layout.specs.declared.addr.Addr.{Addr}
use Rattle.kv_model.specs.Holds.{Member}
use Rattle.stored.specs.Blocks.{Apart, Block}
use Rattle.stored.specs.Records.{Root}
use Rattle.stored.specs.HistoryTree.{HistoryEntry, HistoryTree, history_kind}
use Rattle.stored.specs.Tree.{Layer, bottom, inner_blocks, join, leaf_blocks, page_blocks}
use Rattle.hist_open.specs.Trees.{root_own}
use Rattle.hist_write.specs.Cuts.{captured_blocks, risen_blocks}
use Rattle.tree_write.specs.Captures.{AreDistinct, AreOnce, places_of}
use Rattle.ckpt_step.specs.Halves.{older_blocks}
use Rattle.ckpt_step.proofs.CapturedOrder.{apart_join, turned}
use Rattle.ckpt_step.proofs.Members.{in_back, in_either, in_front}
use Rattle.ckpt_step.proofs.Pairs.{apart_across, apart_back, apart_front}

risen_in : (own : List HistoryEntry) (layers : List (Layer HistoryEntry)) (b : Block) → Member b (risen_blocks own layers) → Member b (inner_blocks history_kind own layers)
risen_in own [] b there = there
risen_in own (pages ∷ layers) b there = elim (in_either (risen_blocks (join pages) layers) (page_blocks history_kind (suc (length layers)) own pages) b there) [
  | inl below ↦ in_back (page_blocks history_kind (suc (length layers)) own pages) (inner_blocks history_kind (join pages) layers) b (risen_in (join pages) layers b below)
  | inr here ↦ in_front (page_blocks history_kind (suc (length layers)) own pages) (inner_blocks history_kind (join pages) layers) b here
]

in_risen : (own : List HistoryEntry) (layers : List (Layer HistoryEntry)) (b : Block) → Member b (inner_blocks history_kind own layers) → Member b (risen_blocks own layers)
in_risen own [] b there = there
in_risen own (pages ∷ layers) b there = elim (in_either (page_blocks history_kind (suc (length layers)) own pages) (inner_blocks history_kind (join pages) layers) b there) [
  | inl here ↦ in_back (risen_blocks (join pages) layers) (page_blocks history_kind (suc (length layers)) own pages) b here
  | inr below ↦ in_front (risen_blocks (join pages) layers) (page_blocks history_kind (suc (length layers)) own pages) b (in_risen (join pages) layers b below)
]

module _ (root : Root) (t : HistoryTree) where
  abbrev leafs : List Block
  leafs = leaf_blocks history_kind (bottom (root_own root) t.layers) t.leaves

  abbrev inner : List Block
  inner = inner_blocks history_kind (root_own root) t.layers

  abbrev risen : List Block
  risen = risen_blocks (root_own root) t.layers

  pub captured_in : (b : Block) → Member b (captured_blocks root t) → Member b (older_blocks root t)
  captured_in b there = elim (in_either leafs risen b there) [
    | inl leaf ↦ in_back inner leafs b leaf
    | inr above ↦ in_front inner leafs b (risen_in (root_own root) t.layers b above)
  ]

  pub in_captured : (b : Block) → Member b (older_blocks root t) → Member b (captured_blocks root t)
  in_captured b there = elim (in_either inner leafs b there) [
    | inl above ↦ in_back leafs risen b (in_risen (root_own root) t.layers b above)
    | inr leaf ↦ in_front leafs risen b leaf
  ]

fallen : (own : List HistoryEntry) (layers : List (Layer HistoryEntry)) → Apart (risen_blocks own layers) → Apart (inner_blocks history_kind own layers)
fallen own [] apart = apart
fallen own (pages ∷ layers) apart =
    let page = page_blocks history_kind (suc (length layers)) own pages in
    let above = risen_blocks (join pages) layers in
    apart_join page (inner_blocks history_kind (join pages) layers) (apart_back above page apart) (fallen (join pages) layers (apart_front above page apart))
    (λ b c there also. turned c.place b.place (apart_across above page c b apart (in_risen (join pages) layers c also) there))

pub history_apart : (root : Root) (t : HistoryTree) → Apart (captured_blocks root t) → Apart (older_blocks root t)
history_apart root t apart =
    apart_join (inner root t) (leafs root t) (fallen (root_own root) t.layers (apart_back (leafs root t) (risen root t) apart)) (apart_front (leafs root t) (risen root t) apart)
    (λ b c there also. turned c.place b.place (apart_across (leafs root t) (risen root t) c b apart also (in_risen (root_own root) t.layers b there)))

-- ---- new blocks

-- books that have nothing
abbrev pub no_books : Books
no_books = record { cells = []; space = record { units = [] }; is_synced = false; is_held = false }

pub none_live : (a : Addr) → HasLive no_books.cells a.offset a.size → ⊥
none_live a (u, offset, size, live) = false≢true live

far_apart : (a : Addr) (blocks : List Block) → AllByRecursion (λ (c : Block). c.place.offset ≡ a.offset → HasLive no_books.cells c.place.offset c.place.size) blocks → AllByRecursion (λ (x : Addr). x.offset ≡ a.offset → ⊥) (places_of blocks)
far_apart a [] once = tt
far_apart a (b ∷ blocks) once = ((λ same. none_live b.place (once.0 same)), far_apart a blocks once.1)

-- where nothing was live at first the blocks begin at different places
pub new_distinct : (blocks : List Block) → AreOnce no_books blocks → AreDistinct (places_of blocks)
new_distinct [] once = tt
new_distinct (b ∷ blocks) once = (far_apart b.place blocks once.0, new_distinct blocks once.1)
