-- The blocks that were found on a device, as the books have them.
use Rattle.std.specs.Prelude.{◌≡◌, ◌⊎◌, ℕ, ◌+◌, ◌-◌, ◌*◌, ◌/◌, ◌<◌, ◌≤◌, List, length, take}
use Rattle.std.proofs.Common.{inl, inr, sym, ◌∙◌, ap, arith}
use Rattle.std.proofs.lemmas.List.{take_all}
use Rattle.extent_list.specs.Space.{Space, IsFree, end_of as space_end}
use Rattle.device_layout.specs.declared.addr.Addr.{Addr}
use Rattle.block_mgr.specs.declared.cell.Cell.{Cell}
use Rattle.block_mgr.specs.declared.found.Found.{Found}
use Rattle.block_mgr.specs.Cells.{cell_at}
use Rattle.block_mgr.specs.Blocks.{Books, Has, unit_of}
use Rattle.block_mgr.specs.Open.{AreStored, found_at, found_cell}
use Rattle.block_mgr.proofs.OpenLemmas.{units_known, from_one}
use Rattle.stored.specs.Blocks.{Block}
use Rattle.checkpoint_core.specs.Stands.{AreInUse}
use Rattle.checkpoint_core.specs.Room.{IsSpaceOf}
use Rattle.device_leaf.specs.Openings.{HasBooks}

abbrev pub ends : Addr → ℕ
ends a = a.offset + a.size

-- ---- what the books say of the blocks

pub record Told (used : List Cell) (blocks : List Block) (space : Space) (len : ℕ) : Type 0 where
  pub in_use : AreInUse used blocks
  pub space_is : IsSpaceOf blocks space
  pub within : space_end space ≤ len

-- a byte of a block that was found
abbrev pub Inside : List Found → ℕ → ℕ → Type 0
Inside found j b = ((found_at found j).addr.offset ≤ b) × (b < ends (found_at found j).addr)

module _ (found : List Found) (books : Books) (len : ℕ) (has : HasBooks found books) (are : AreStored found len) where
  known : (u : ℕ) → cell_at books.cells u ≡ found_cell (take (length found) found) u
  known u = has.cells u ∙ ap (λ (l : List Found). found_cell l u) (sym (take_all (length found) found (omega arith)))

  some : (i : ℕ) → i < length found → 1 ≤ (found_at found i).addr.size
  some i lt = omega (arith, (are.fit i lt).0.some)

  at_unit : (j : ℕ) → j < length found → (found_at found j).addr.offset ≡ 8192 + 4096 * unit_of (found_at found j).addr.offset
  at_unit j lt = omega (arith, (are.fit j lt).0.behind, (are.fit j lt).0.unit)

  sized : (j : ℕ) → j < length found → (cell_at books.cells (unit_of (found_at found j).addr.offset)).units ≡ (found_at found j).addr.size / 4096
  sized j lt = ap (λ (c : Cell). c.units) (known (unit_of (found_at found j).addr.offset)) ∙ units_known found (length found) j (unit_of (found_at found j).addr.offset) (omega arith) are.agree some lt (at_unit j lt)

  pub found_used : (j : ℕ) → j < length found → Has books.cells (found_at found j).addr.offset (found_at found j).addr.size
  found_used j lt = (unit_of (found_at found j).addr.offset, at_unit j lt, omega (arith, sized j lt, (are.fit j lt).0.whole), has.units.used (unit_of (found_at found j).addr.offset) (omega (arith, sized j lt, (are.fit j lt).0.whole, some j lt)))

  pub not_free : (j b : ℕ) → j < length found → Inside found j b → IsFree books.space b → ⊥
  not_free j b lt inside free = has.units.held (unit_of (found_at found j).addr.offset) ((b - 8192) / 4096) (omega (arith, inside.0, at_unit j lt), omega (arith, inside.0, inside.1, at_unit j lt, sized j lt, (are.fit j lt).0.whole)) free.1

  pub free_or_found : (b : ℕ) → 8192 ≤ b → b < space_end books.space → IsFree books.space b ⊎ ((j : ℕ) × (j < length found) × Inside found j b)
  free_or_found b low high = elim (has.units.all ((b - 8192) / 4096) (omega (arith, high))) [
    | inl free ↦ inl (low, free)
    | inr there ↦
        let v : ℕ = there.0 in
        let more : 1 ≤ (found_cell (take (length found) found) v).units = omega (arith, there.1.0, there.1.1, ap (λ (c : Cell). c.units) (known v)) in
        let one = from_one found (length found) v (omega arith) more in
        let size : (cell_at books.cells v).units ≡ (found_at found one.0).addr.size / 4096 = ap (λ (c : Cell). c.units) (known v) ∙ one.3 in
        inr (one.0, one.1, (omega (arith, one.2, there.1.0, low), omega (arith, one.2, there.1.0, there.1.1, size, low, (are.fit one.0 one.1).0.whole)))
  ]
