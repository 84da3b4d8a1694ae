-- The units of a block that an opening finds.
use Rattle.std.specs.Prelude.{◌≡◌, ℕ, ◌+◌, ◌*◌, ◌/◌, ◌<◌, ◌≤◌, ◌||◌, true, List, length, set, refl}
use Rattle.std.proofs.Common.{inl, sym, ◌∙◌, ap, subst, arith}
use Rattle.std.proofs.lemmas.List.{get_or-set_same, get_or-set_other, length-set}
use Rattle.extent_list.specs.Space.{Space, end_of, Fits as Fit, Took}
use Rattle.block_mgr.specs.declared.cell.Cell.{Cell}
use Rattle.block_mgr.specs.declared.found.Found.{Found}
use Rattle.block_mgr.specs.declared.found.Holder.{Holder}
use Rattle.block_mgr.specs.declared.found.Holder.TheVariants.{Tree, Last, Named}
use Rattle.block_mgr.specs.Cells.{AreUnits, cell_at, nothing, is_used}
use Rattle.block_mgr.specs.Blocks.{unit_of}
use Rattle.block_mgr.specs.Found.{lasts, name_count}
use Rattle.block_mgr.specs.Places.{IsPlace}
use Rattle.block_mgr.specs.Open.{joined}
use Rattle.block_mgr.proofs.HolderLemmas.{used_last, used_named}
use Rattle.block_mgr.proofs.UnitLemmas.{Claimed, block_new, same_block}

-- someone has a block that was found
pub joined_used : (c : Cell) (f : Found) → is_used (joined c f) ≡ true
joined_used c f = go f.holder refl
  where
    go : (h : Holder) → f.holder ≡ h → is_used (joined c f) ≡ true
    go Tree is = subst (λ (k : Holder). is_used (joined c (record f { holder = k })) ≡ true) (sym is) refl
    go Last is = used_last (joined c f) (ap (λ (k : Holder). lasts k || c.is_last) is)
    go Named is = used_named (joined c f) (omega (arith, ap name_count is))

module _ (cells : List Cell) (old : Space) (f : Found) (units : AreUnits cells old) (place : IsPlace f.addr) (within : f.addr.offset + f.addr.size ≤ end_of old) where
  there : unit_of f.addr.offset < length cells
  there = omega (arith, place.behind, place.unit, place.some, within, units.long)

  pub block_found : (new : Space) (next : Cell) → next ≡ joined (cell_at cells (unit_of f.addr.offset)) f → Fit old f.addr.offset f.addr.size → Took old new f.addr.offset f.addr.size → end_of new ≡ end_of old → AreUnits (set cells (unit_of f.addr.offset) next) new
  block_found new next is fits took ends =
      let u : ℕ = unit_of f.addr.offset in
      let n : ℕ = f.addr.size / 4096 in
      let at : f.addr.offset ≡ 8192 + 4096 * u = omega (arith, place.behind, place.unit) in
      let size : f.addr.size ≡ 4096 * n = omega (arith, place.whole) in
      let claimed : Claimed old new (8192 + 4096 * u) (4096 * n) = subst (λ (k : ℕ). Claimed old new k (4096 * n)) at (subst (λ (k : ℕ). Claimed old new f.addr.offset k) size (record { spot = inl fits; took = took; ends = inl ends })) in
      block_new cells old new u n units (omega (arith, size, place.some)) claimed (set cells u next) next (ap (λ (c : Cell). c.units) is) (ap is_used is ∙ joined_used (cell_at cells u) f)
      (record {
        here = get_or-set_same cells u next nothing there;
        others = λ v other. get_or-set_other cells u v next nothing other;
        long = omega (arith, length-set cells u next, units.long, ends);
      })
      (omega (arith, ends, units.small))

  pub block_shared : (next : Cell) → next ≡ joined (cell_at cells (unit_of f.addr.offset)) f → (cell_at cells (unit_of f.addr.offset)).units ≡ f.addr.size / 4096 → AreUnits (set cells (unit_of f.addr.offset) next) old
  block_shared next is same =
      same_block cells old (unit_of f.addr.offset) units there next (ap (λ (c : Cell). c.units) is ∙ sym same) (omega (arith, ap (λ (c : Cell). c.units) is, place.some)) (ap is_used is ∙ joined_used (cell_at cells (unit_of f.addr.offset)) f)
