-- Blocks of the live tree by their units, and by their offsets and sizes.
use Rattle.std.specs.Prelude.{◌≡◌, ℕ, ◌+◌, ◌*◌, List}
use Rattle.std.proofs.Common.{sym, ap, subst, arith, ◌∙◌}
use Rattle.block_mgr.specs.declared.cell.Cell.{Cell}
use Rattle.block_mgr.specs.Cells.{cell_at}
use Rattle.block_mgr.specs.Blocks.{HasCell, unit_of}

pub unit_is : (offset u : ℕ) → offset ≡ 8192 + 4096 * u → u ≡ unit_of offset
unit_is offset u place = omega (arith, place)

-- a block by its first unit and how many it has
module _ (P : Cell → Type 0) (cells : List Cell) (offset size u n : ℕ) (place : offset ≡ 8192 + 4096 * u) (sized : size ≡ 4096 * n) where
  pub has_there : ((cell_at cells u).units ≡ n) × P (cell_at cells u) → HasCell P cells offset size
  has_there (units, is) = (u, place, sized ∙ ap (λ (k : ℕ). 4096 * k) (sym units), is)

  pub there_has : HasCell P cells offset size → ((cell_at cells u).units ≡ n) × P (cell_at cells u)
  there_has (v, from, long, is) =
      let same : v ≡ u = omega (arith, place, from) in
      (subst (λ (k : ℕ). (cell_at cells k).units ≡ n) same (omega (arith, long, sized)), subst (λ (k : ℕ). P (cell_at cells k)) same is)
