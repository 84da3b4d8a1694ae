-- A tree of pages, layer by layer: the entries of one layer's pages, one after the other, lead to the pages of the next.
use Rattle.std.specs.Prelude.{◌≡◌, ℕ, suc, List, [], ◌∷◌, ◌++◌, length, if◌then◌else◌}
use Rattle.std.specs.List.{flat_map}
use Rattle.device_layout.specs.declared.addr.Addr.{Addr}
use Rattle.stored.specs.Blocks.{Block}
use Rattle.stored.specs.Links.{is_nowhere}

-- the entries of each page of a layer
abbrev pub Layer : Type 0 → Type 0
Layer E = List (List E)

-- pages, one after the other
abbrev pub join : {E : Type 0} → Layer E → List E
join pages = flat_map (λ p. p) pages

-- how the entries of a tree lead to its pages, and how pages are spelled
pub record Kind (E R : Type 0) : Type 1 where
  pub place : E → Addr
  -- the image of an inner page at a level
  pub inner : ℕ → List E → List ℕ
  -- the image of a leaf
  pub leaf : List R → List ℕ
  -- what stands between an entry and its inner page, at that page's level
  pub Leads : ℕ → E → List E → Type 0
  -- what stands between an entry and its leaf
  pub Bears : E → List R → Type 0
  -- what stands between all the entries of the leaves, and all leaves
  pub Parts : List E → List (List R) → Type 0

-- the inner pages from the top down, without the root's entry, and the leaves
pub record Tree (E R : Type 0) : Type 0 where
  pub layers : List (Layer E)
  pub leaves : List (List R)

abbrev pub page_blocks : {E R : Type 0} → Kind E R → ℕ → List E → Layer E → List Block
page_blocks k level [] pages = []
page_blocks k level (e ∷ own) [] = []
page_blocks k level (e ∷ own) (p ∷ pages) = record { place = k.place e; image = k.inner level p } ∷ page_blocks k level own pages

-- the blocks of the inner pages below these entries: each is stored
abbrev pub inner_blocks : {E R : Type 0} → Kind E R → List E → List (Layer E) → List Block
inner_blocks k own [] = []
inner_blocks k own (pages ∷ layers) = page_blocks k (suc (length layers)) own pages ++ inner_blocks k (join pages) layers

-- the entries of the leaves
abbrev pub bottom : {E : Type 0} → List E → List (Layer E) → List E
bottom own [] = own
bottom own (pages ∷ layers) = bottom (join pages) layers

-- the blocks of the leaves that are stored
abbrev pub leaf_blocks : {E R : Type 0} → Kind E R → List E → List (List R) → List Block
leaf_blocks k [] leaves = []
leaf_blocks k (e ∷ own) [] = []
leaf_blocks k (e ∷ own) (rows ∷ leaves) = (if is_nowhere (k.place e) then [] else record { place = k.place e; image = k.leaf rows } ∷ []) ++ leaf_blocks k own leaves

-- each entry leads to its page
abbrev pub Lead : {E R : Type 0} → Kind E R → ℕ → List E → Layer E → Type 0
Lead k level [] [] = Unit {0}
Lead k level [] (p ∷ pages) = ⊥
Lead k level (e ∷ own) [] = ⊥
Lead k level (e ∷ own) (p ∷ pages) = k.Leads level e p × Lead k level own pages

abbrev pub AllLead : {E R : Type 0} → Kind E R → List E → List (Layer E) → Type 0
AllLead k own [] = Unit {0}
AllLead k own (pages ∷ layers) = Lead k (suc (length layers)) own pages × AllLead k (join pages) layers

-- each entry has its leaf
abbrev pub AllBear : {E R : Type 0} → Kind E R → List E → List (List R) → Type 0
AllBear k [] [] = Unit {0}
AllBear k [] (rows ∷ leaves) = ⊥
AllBear k (e ∷ own) [] = ⊥
AllBear k (e ∷ own) (rows ∷ leaves) = k.Bears e rows × AllBear k own leaves

-- the blocks of a tree
abbrev pub tree_blocks : {E R : Type 0} → Kind E R → E → Tree E R → List Block
tree_blocks k root t = inner_blocks k (root ∷ []) t.layers ++ leaf_blocks k (bottom (root ∷ []) t.layers) t.leaves

-- the rules of a tree of this level below a root
pub record IsTree {E R : Type 0} (k : Kind E R) (level : ℕ) (root : E) (t : Tree E R) : Type 0 where
  pub levels : length t.layers ≡ level
  pub lead : AllLead k (root ∷ []) t.layers
  pub bear : AllBear k (bottom (root ∷ []) t.layers) t.leaves
  pub parts : k.Parts (bottom (root ∷ []) t.layers) t.leaves
