-- What is free on a device beside its blocks.
use Rattle.std.specs.Prelude.{◌≡◌, ◌⊎◌, ℕ, ◌+◌, ◌<◌, ◌≤◌, max, List, [], ◌∷◌}
use Rattle.extent_list.specs.Space.{Space, IsFree, end_of as space_end}
use Rattle.stored.specs.Blocks.{Block}

-- the byte at an offset lies in one of the blocks
abbrev pub InBlocks : List Block → ℕ → Type 0
InBlocks [] b = ⊥
InBlocks (x ∷ blocks) b = ((x.place.offset ≤ b) × (b < x.place.offset + x.place.size)) ⊎ InBlocks blocks b

-- where the last block ends, or the slots where there is none
abbrev pub end_of : List Block → ℕ
end_of [] = 8192
end_of (x ∷ blocks) = max (x.place.offset + x.place.size) (end_of blocks)

-- what is free between the slots and the end, once an opening found these blocks
pub record IsSpaceOf (blocks : List Block) (space : Space) : Type 0 where
  pub end_is : space_end space ≡ end_of blocks
  pub free : (b : ℕ) → IsFree space b → (8192 ≤ b) × (b < space_end space) × (InBlocks blocks b → ⊥)
  pub rest : (b : ℕ) → 8192 ≤ b → b < space_end space → (InBlocks blocks b → ⊥) → IsFree space b
