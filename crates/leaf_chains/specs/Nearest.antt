-- The slot whose key comes next on a way through the keys.
use Rattle.std.specs.Prelude.{◌≡◌, ℕ, ◌<◌, true, false, List, length, Option}
use Rattle.std.specs.List.{All, AllPairs, Contains}
use Rattle.kv_model.specs.Rows.{Way, Up, Down, comes_after, is_past, key_lt}
use Rattle.leaf_chains.specs.declared.slot.KeyChain.{KeyChain}
use Rattle.leaf_chains.specs.Slots.{key_at}

-- the key in slot i is past where the way starts, and no slot's key lies between
pub record IsNearest (way : Way) (from : Option (List ℕ)) (slots : List KeyChain) (i : ℕ) : Type 0 where
  pub is_slot : i < length slots
  pub past : is_past way from (key_at slots i) ≡ true
  pub nearest : All (λ (s : KeyChain). is_past way from s.key ≡ true → comes_after way s.key (key_at slots i) ≡ false) slots

-- the slots whose keys are past where the way up starts, in the order of their keys
pub record IsWayUp (from : Option (List ℕ)) (slots : List KeyChain) (way : List ℕ) : Type 0 where
  pub within : All (λ i. i < length slots) way
  pub past : All (λ i. is_past Up from (key_at slots i) ≡ true) way
  pub ascends : AllPairs (λ i j. key_lt (key_at slots i) (key_at slots j) ≡ true) way
  pub whole : (i : ℕ) → i < length slots → is_past Up from (key_at slots i) ≡ true → Contains way i

-- no slot's key is past where the way starts
abbrev pub NonePast : Way → Option (List ℕ) → List KeyChain → Type 0
NonePast way from slots = All (λ (s : KeyChain). is_past way from s.key ≡ false) slots

-- the least key above the bound, or of all
abbrev pub NextAbove : Option (List ℕ) → List KeyChain → ℕ → Type 0
NextAbove bound slots i = IsNearest Up bound slots i

-- the greatest key below the bound, or of all
abbrev pub NextBelow : Option (List ℕ) → List KeyChain → ℕ → Type 0
NextBelow bound slots i = IsNearest Down bound slots i
