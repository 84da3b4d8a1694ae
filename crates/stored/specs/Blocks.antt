-- Blocks of a device: where they stand, and their bytes. (What fills up a block: `padded` of `le_codec`. Its sum: `sum_of` of `block_sum`.)
use Rattle.std.specs.Prelude.{◌≡◌, ◌⊎◌, ℕ, ◌+◌, ◌%◌, ◌^◌, ◌≤◌, List, [], ◌∷◌, length}
use Rattle.std.specs.List.{AllByRecursion}
use Rattle.block_sum.specs.Sum.{sum_of}
use Rattle.le_codec.specs.Images.{padded, block_size}
use Rattle.disk_model.specs.Ranges.{range}
use Rattle.device_layout.specs.declared.addr.Addr.{Addr}

-- a block: where it stands, and its image
pub record Block : Type 0 where
  pub place : Addr
  pub image : List ℕ

-- The address is one that the image can have, wherever that is: behind the slots, in units, and with the size and the sum of the image.
pub record IsAddressed (b : Block) : Type 0 where
  pub low : 8192 ≤ b.place.offset
  pub unit : b.place.offset % 4096 ≡ 0
  pub size : b.place.size ≡ block_size (length b.image)
  pub most : b.place.size ≤ 2 ^ 20
  pub sum : b.place.sum ≡ sum_of (padded b.image b.place.size)

-- the device has the block at its address
pub record IsAt (bytes : List ℕ) (b : Block) : Type 0 where
  pub within : b.place.offset + b.place.size ≤ length bytes
  pub is : range bytes b.place.offset b.place.size ≡ padded b.image b.place.size

abbrev pub Holds : List ℕ → List Block → Type 0
Holds bytes blocks = AllByRecursion (λ (b : Block). IsAt bytes b) blocks

abbrev pub AreApart : Addr → Addr → Type 0
AreApart x y = (x.offset + x.size ≤ y.offset) ⊎ (y.offset + y.size ≤ x.offset)

-- no two overlap
abbrev pub Apart : List Block → Type 0
Apart [] = Unit {0}
Apart (b ∷ blocks) = AllByRecursion (λ (c : Block). AreApart b.place c.place) blocks × Apart blocks

-- two contents are the same where a block stands
abbrev pub SameAt : List ℕ → List ℕ → Block → Type 0
SameAt old new b = range new b.place.offset b.place.size ≡ range old b.place.offset b.place.size

-- two contents are the same where any of the blocks stands
abbrev pub Same : List ℕ → List ℕ → List Block → Type 0
Same old new blocks = AllByRecursion (λ (b : Block). SameAt old new b) blocks

-- the n bytes from this offset on are outside of each block
abbrev pub Away : ℕ → ℕ → List Block → Type 0
Away at n blocks = AllByRecursion (λ (b : Block). (at + n ≤ b.place.offset) ⊎ (b.place.offset + b.place.size ≤ at)) blocks
