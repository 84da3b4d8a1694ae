-- The nearest key of a leaf on a way, in its chains, on its page, or in both.
use Rattle.std.specs.Prelude.{◌≡◌, ◌⊎◌, ◌≤◌, ℕ, true, false, List, [], ◌++◌, length, take, drop, map, Option, Some, None, option_map}
use Rattle.std.specs.Borrow.{Bor}
use Rattle.std.specs.List.{AllByRecursion}
use Rattle.std.specs.Ordering.{ordering_reverse}
use Rattle.std.specs.declared.cmp.Ordering.{Ordering}
use Rattle.kv_model.specs.Holds.{Member}
use Rattle.kv_model.specs.Rows.{Way, Up, Down, is_past, comes_after}
use Rattle.row_page.specs.declared.cell.Cell.{Cell}
use Rattle.row_page.specs.Rows.{Row}
use Rattle.reconcile.specs.Shows.{shown_at}
use Rattle.update_chain.specs.declared.update.Update.{Update}
use Rattle.leaf_chains.specs.declared.slot.KeyChain.{KeyChain}
use Rattle.leaf_chains.specs.Slots.{chain_at}
use Rattle.leaf_frame.specs.declared.near.Near.{Near}
use Rattle.leaf_frame.specs.Leaf.{HeldLeaf}
use Rattle.leaf_frame.specs.Looks.{version_seen}

-- the keys that have a slot or a row
abbrev pub keys_in : HeldLeaf → List (List ℕ)
keys_in leaf = map {A = KeyChain} (λ s. s.key) leaf.chains ++ map {A = Row} (λ r. r.0) leaf.page

abbrev pub chain_in : Option (Bor KeyChain) → List Update
chain_in None = []
chain_in (Some s) = s.now.chain

-- the slot is of the nearest key that has one
pub record IsNearSlot (way : Way) (from : Option (List ℕ)) (chains : List KeyChain) (s : KeyChain) : Type 0 where
  pub past : is_past way from s.key ≡ true
  pub known : Member s.key (map {A = KeyChain} (λ t. t.key) chains)
  pub chain : chain_at s.key chains ≡ s.chain
  pub before : (k : List ℕ) → is_past way from k ≡ true → comes_after way k s.key ≡ true → chain_at k chains ≡ []

abbrev pub NoSlotPast : Way → Option (List ℕ) → List KeyChain → Type 0
NoSlotPast way from chains = (k : List ℕ) → is_past way from k ≡ true → chain_at k chains ≡ []

-- the row is of the nearest key that has one
pub record IsNearRow (way : Way) (from : Option (List ℕ)) (page : List Row) (c : Cell) : Type 0 where
  pub past : is_past way from c.key.now ≡ true
  pub known : Member c.key.now (map {A = Row} (λ r. r.0) page)
  pub row : shown_at c.key.now page ≡ Some (version_seen c)
  pub before : (k : List ℕ) → is_past way from k ≡ true → comes_after way k c.key.now ≡ true → shown_at k page ≡ None

abbrev pub NoRowPast : Way → Option (List ℕ) → List Row → Type 0
NoRowPast way from page = (k : List ℕ) → is_past way from k ≡ true → shown_at k page ≡ None

-- the first i rows are not above where the way up starts, and the others are
pub record IsPlaceAbove (from : Option (List ℕ)) (page : List Row) (i : ℕ) : Type 0 where
  pub within : i ≤ length page
  pub below : AllByRecursion (λ (r : Row). is_past Up from r.0 ≡ false) (take i page)
  pub above : AllByRecursion (λ (r : Row). is_past Up from r.0 ≡ true) (drop i page)

-- the first i rows are below where the way down starts, and the others are not
pub record IsPlaceBelow (from : Option (List ℕ)) (page : List Row) (i : ℕ) : Type 0 where
  pub within : i ≤ length page
  pub below : AllByRecursion (λ (r : Row). is_past Down from r.0 ≡ true) (take i page)
  pub above : AllByRecursion (λ (r : Row). is_past Down from r.0 ≡ false) (drop i page)

-- neither chain nor row has anything of the key
abbrev pub IsBare : List ℕ → HeldLeaf → Type 0
IsBare key leaf = (chain_at key leaf.chains ≡ []) × (shown_at key leaf.page ≡ None)

-- the nearest of all keys, with what it has
pub record IsNear (way : Way) (from : Option (List ℕ)) (leaf : HeldLeaf) (n : Near) : Type 0 where
  pub past : is_past way from n.key.now ≡ true
  pub known : Member n.key.now (keys_in leaf)
  pub chain : chain_at n.key.now leaf.chains ≡ chain_in n.there
  pub row : shown_at n.key.now leaf.page ≡ option_map version_seen n.cell
  pub before : (k : List ℕ) → is_past way from k ≡ true → comes_after way k n.key.now ≡ true → IsBare k leaf

abbrev pub NonePast : Way → Option (List ℕ) → HeldLeaf → Type 0
NonePast way from leaf = (k : List ℕ) → is_past way from k ≡ true → IsBare k leaf

-- ---- which of two it is

abbrev pub IsOfSlot : Near → KeyChain → Type 0
IsOfSlot n s = (n.key.now ≡ s.key) × (chain_in n.there ≡ s.chain) × (option_map version_seen n.cell ≡ None)

abbrev pub IsOfRow : Near → Cell → Type 0
IsOfRow n c = (n.key.now ≡ c.key.now) × (chain_in n.there ≡ []) × (option_map version_seen n.cell ≡ Some (version_seen c))

pub record IsOfBoth (n : Near) (s : KeyChain) (c : Cell) : Type 0 where
  pub key : n.key.now ≡ c.key.now
  pub same : s.key ≡ c.key.now
  pub chain : chain_in n.there ≡ s.chain
  pub row : option_map version_seen n.cell ≡ Some (version_seen c)

-- the one whose key comes first on the way, or both
abbrev pub IsNearer : Way → KeyChain → Cell → Near → Type 0
IsNearer way s c n = ((comes_after way s.key c.key.now ≡ true) × IsOfSlot n s) ⊎ (((comes_after way c.key.now s.key ≡ true) × IsOfRow n c) ⊎ IsOfBoth n s c)

-- how keys that compare so compare on the way
abbrev pub towards : Way → Ordering → Ordering
towards Up o = o
towards Down o = ordering_reverse o
