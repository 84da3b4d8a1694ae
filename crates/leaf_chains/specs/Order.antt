-- The slots in the order of their keys, and how a search asks for a key.
use Rattle.std.specs.Prelude.{◌≡◌, ℕ, ◌<◌, List, length}
use Rattle.std.specs.List.{All, AllPairs, Contains}
use Rattle.std.specs.Ordering.{nat_cmp}
use Rattle.std.specs.Cmp.Lexicographic.{slice_cmp}
use Rattle.std.specs.declared.cmp.Ordering.{Ordering}
use Rattle.std.specs.declared.cmp.Ordering.TheVariants.{Less, Equal, Greater}
use Rattle.leaf_chains.specs.declared.slot.KeyChain.{KeyChain}
use Rattle.leaf_chains.specs.Slots.{key_at}

-- how the key in a slot compares with this one
abbrev pub key_order : List KeyChain → List ℕ → ℕ → Ordering
key_order slots key i = slice_cmp nat_cmp (key_at slots i) key

-- the key in slot i is below that in slot j
abbrev pub IsKeyBelow : List KeyChain → ℕ → ℕ → Type 0
IsKeyBelow slots i j = key_order slots (key_at slots j) i ≡ Less

-- each slot is named once, and the keys of those named ascend
pub record IsIndex (slots : List KeyChain) (order : List ℕ) : Type 0 where
  pub within : All (λ i. i < length slots) order
  pub ascends : AllPairs (IsKeyBelow slots) order
  pub whole : (i : ℕ) → i < length slots → Contains order i

-- an equal key counts as below
abbrev pub not_above : Ordering → Ordering
not_above Less = Less
not_above Equal = Less
not_above Greater = Greater

-- an equal key counts as above
abbrev pub not_below : Ordering → Ordering
not_below Less = Less
not_below Equal = Greater
not_below Greater = Greater
