-- The room beside the checkpoint before and what was written since.
use Rattle.std.specs.Prelude.{◌≡◌, ℕ, ◌+◌, ◌-◌, ◌*◌, ◌/◌, ◌<◌, ◌≤◌, List, [], ◌∷◌, ◌++◌, length, Option, Some, None, refl}
use Rattle.std.proofs.Common.{inl, inr, ◌∙◌, ap, arith}
use Rattle.std.proofs.lemmas.Bool.{cases_eq}
use Rattle.extent_list.specs.Space.{Space, IsFree, end_of as space_end}
use Rattle.extent_list.proofs.SpaceLemmas.{free_before_end}
use Rattle.block_mgr.specs.declared.cell.Cell.{Cell}
use Rattle.block_mgr.specs.Blocks.{Books, Has}
use Rattle.block_mgr.specs.Cells.{AreUnits, cell_at}
use Rattle.block_mgr.specs.Open.{found_cell}
use Rattle.block_mgr.proofs.HasLemmas.{used_some}
use Rattle.block_mgr.proofs.HolderLemmas.{used_live}
use Rattle.kv_model.specs.Holds.{Member}
use Rattle.stored.specs.Blocks.{Block}
use Rattle.stored.specs.Stored.{Stored}
use Rattle.checkpoint_core.specs.Stands.{AreInUse, Stands, blocks_of, body_blocks}
use Rattle.checkpoint_core.specs.Room.{InBlocks, end_of}
use Rattle.ckpt_step.specs.Grounds.{AreLone, found_in, start_cell}
use Rattle.ckpt_step.specs.Lives.{block_of, lone_blocks}
use Rattle.ckpt_step.specs.Sizes.{IsFreeSpace}
use Rattle.ckpt_step.specs.declared.lives.Lone.{Lone}
use Rattle.ckpt_step.proofs.Cells.{found_is, found_of, start-none, start-record}
use Rattle.ckpt_step.proofs.Lones.{lone_old, which_lone}
use Rattle.ckpt_step.proofs.Members.{map_member}
use Rattle.ckpt_step.proofs.OldTrees.{live_of_old}

-- a block in use ends before the end, and none of its bytes is free
pub ends_before : (cells : List Cell) (space : Space) (at n : ℕ) → AreUnits cells space → Has cells at n → at + n ≤ space_end space
ends_before cells space at n units (u, offset, size, used) = omega (arith, offset, size, units.within u (used_some cells space u units used))

not_free : (cells : List Cell) (space : Space) (at n b : ℕ) → AreUnits cells space → Has cells at n → at ≤ b → b < at + n → IsFree space b → ⊥
not_free cells space at n b units (u, offset, size, used) low high free = units.held u ((b - 8192) / 4096) (omega (arith, offset, low), omega (arith, offset, size, low, high)) free.1

end_within : (cells : List Cell) (space : Space) (blocks : List Block) → AreUnits cells space → AreInUse cells blocks → end_of blocks ≤ space_end space
end_within cells space [] units used = omega arith
end_within cells space (x ∷ blocks) units used = omega (arith, ends_before cells space x.place.offset x.place.size units used.0, end_within cells space blocks units used.1)

none_free : (cells : List Cell) (space : Space) (blocks : List Block) (b : ℕ) → AreUnits cells space → AreInUse cells blocks → IsFree space b → InBlocks blocks b → ⊥
none_free cells space [] b units used free inside = inside
none_free cells space (x ∷ blocks) b units used free (inl here) = not_free cells space x.place.offset x.place.size b units used.0 here.0 here.1 free
none_free cells space (x ∷ blocks) b units used free (inr later) = none_free cells space blocks b units used.1 free later

in_front : (xs ys : List Block) (b : ℕ) → InBlocks xs b → InBlocks (xs ++ ys) b
in_front [] ys b inside = absurd inside
in_front (x ∷ xs) ys b (inl here) = inl here
in_front (x ∷ xs) ys b (inr later) = inr (in_front xs ys b later)

inside : (blocks : List Block) (x : Block) (b : ℕ) → Member x blocks → x.place.offset ≤ b → b < x.place.offset + x.place.size → InBlocks blocks b
inside [] x b there low high = absurd there
inside (y ∷ blocks) x b (inl same) low high = inl (omega (arith, low, ap (λ (z : Block). z.place.offset) same), omega (arith, high, ap (λ (z : Block). z.place.offset) same, ap (λ (z : Block). z.place.size) same))
inside (y ∷ blocks) x b (inr later) low high = inr (inside blocks x b later low high)

in_blocks_back : (xs ys : List Block) (b : ℕ) → InBlocks ys b → InBlocks (xs ++ ys) b
in_blocks_back [] ys b inside = inside
in_blocks_back (x ∷ xs) ys b inside = inr (in_blocks_back xs ys b inside)

all_both : (cells : List Cell) (xs ys : List Block) → AreInUse cells xs → AreInUse cells ys → AreInUse cells (xs ++ ys)
all_both cells [] ys all more = more
all_both cells (x ∷ xs) ys all more = (all.0, all_both cells xs ys all.1 more)

-- a unit that a block covers lies in one of the checkpoint's, or in one that was written since
covered_old : (old : Option Stored) (c : Cell) (u v b : ℕ) → c ≡ found_cell (found_in old) u → u ≤ v → v < u + c.units → 8192 + 4096 * v ≤ b → b < 8192 + 4096 * v + 4096 → InBlocks (blocks_of old) b
covered_old None c u v b is low high from to = absurd (omega (arith, ap (λ (x : Cell). x.units) is, low, high))
covered_old (Some s) c u v b is low high from to = elim (found_of u s) [
  | inl one ↦
      let units : c.units ≡ one.block.place.size / 4096 = ap (λ (x : Cell). x.units) (is ∙ (found_is u s ∙ one.cell)) in
      inr (inside (body_blocks s) one.block b one.there (omega (arith, one.at, from, low)) (omega (arith, one.at, to, high, units)))
  | inr none ↦ elim (cases_eq s.slot.offset (8192 + 4096 * u)) [
    | inl at ↦
        let units : c.units ≡ s.slot.size / 4096 = ap (λ (x : Cell). x.units) (is ∙ (found_is u s ∙ (none.cell ∙ start-record u s at))) in
        inl (omega (arith, at, from, low), omega (arith, at, to, high, units))
    | inr far ↦ absurd (omega (arith, ap (λ (x : Cell). x.units) (is ∙ (found_is u s ∙ (none.cell ∙ start-none u s far))), low, high))
  ]
]

covered : (books : Books) (old : Option Stored) (lives : List Lone) (u v b : ℕ) → ((w : ℕ) → cell_at books.cells w ≡ start_cell old lives w) → u ≤ v → v < u + (cell_at books.cells u).units → 8192 + 4096 * v ≤ b → b < 8192 + 4096 * v + 4096 → InBlocks (blocks_of old ++ lone_blocks lives) b
covered books old lives u v b cells low high from to = elim (which_lone u lives) [
  | inr none ↦ in_front (blocks_of old) (lone_blocks lives) b (covered_old old (cell_at books.cells u) u v b (cells u ∙ none.cell (found_cell (found_in old) u)) low high from to)
  | inl one ↦
      let units : (cell_at books.cells u).units ≡ one.lone.addr.size / 4096 = ap (λ (x : Cell). x.units) (cells u ∙ one.cell (found_cell (found_in old) u)) in
      in_blocks_back (blocks_of old) (lone_blocks lives) b (inside (lone_blocks lives) (block_of one.lone) b (map_member block_of one.lone lives one.there) (omega (arith, one.at, from, low)) (omega (arith, one.at, to, high, units)))
]

-- the blocks of leaves that were written since are in use
lones_used : (books : Books) (old : Option Stored) (lives : List Lone) → ((w : ℕ) → cell_at books.cells w ≡ start_cell old lives w) → AreLone old lives → AreInUse books.cells (lone_blocks lives)
lones_used books old lives cells lone = all lives (λ x there. there)
  where
    all : (some : List Lone) → ((x : Lone) → Member x some → Member x lives) → AreInUse books.cells (lone_blocks some)
    all [] within = tt
    all (x ∷ some) within =
        let live = live_of_old old lives books x.addr cells (lone_old old lives lone x (within x (inl refl))) in
        ((live.0, live.1, live.2, used_live (cell_at books.cells live.0) live.3), all some (λ y there. within y (inr there)))

pub free_space : (seen : List ℕ) (images : List ℕ → Type 0) (books : Books) (old : Option Stored) (lives : List Lone) → Stands seen images books old → AreLone old lives → ((u : ℕ) → cell_at books.cells u ≡ start_cell old lives u) → AreUnits books.cells books.space → space_end books.space ≤ length seen
    → IsFreeSpace seen (blocks_of old ++ lone_blocks lives) books.space
free_space seen images books old lives stands lone cells units within =
    let used = all_both books.cells (blocks_of old) (lone_blocks lives) stands.in_use (lones_used books old lives cells lone) in
    record {
      end_is = end_within books.cells books.space (blocks_of old ++ lone_blocks lives) units used;
      within = omega (arith, within);
      free = λ b free. (free.0, free_before_end books.space b free, none_free books.cells books.space (blocks_of old ++ lone_blocks lives) b units used free);
      rest = λ b low high none. elim (units.all ((b - 8192) / 4096) (omega (arith, low, high))) [
        | inl free ↦ (low, free)
        | inr (u, covers) ↦ absurd (none (covered books old lives u ((b - 8192) / 4096) b cells covers.0 covers.1 (omega (arith, low)) (omega (arith, low))))
      ];
    }
