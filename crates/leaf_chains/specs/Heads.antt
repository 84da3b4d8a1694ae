-- The heads of keys: the eight bytes behind a front that they have in common, as a number.
use Rattle.std.specs.Prelude.{◌≡◌, ℕ, ◌+◌, ◌<◌, ◌≤◌, List, length, take, slice_get, slice_index_or, Some}
use Rattle.std.specs.Slice.Scan.{big_endian}
use Rattle.std.specs.Simd.Lanes.{chunk}
use Rattle.leaf_chains.specs.declared.slot.KeyChain.{KeyChain}
use Rattle.leaf_chains.specs.Slots.{key_at}

-- the key begins with the front, and the eight bytes behind it spell the number
pub record IsHead (front key : List ℕ) (head : ℕ) : Type 0 where
  pub long : length front + 8 ≤ length key
  pub begins : take (length front) key ≡ front
  pub spells : head ≡ big_endian 0 (chunk (length front) 8 key)
  pub bytes : (k : ℕ) → slice_index_or key k 0 < 256

-- these are the heads of the keys in the first slots
pub record AreHeads (front words : List ℕ) (slots : List KeyChain) : Type 0 where
  pub few : length words ≤ length slots
  pub heads : (i head : ℕ) → slice_get words i ≡ Some head → IsHead front (key_at slots i) head
