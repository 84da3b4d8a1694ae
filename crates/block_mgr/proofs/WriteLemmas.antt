-- What a block that was placed and written says of the books and of the disk.
use Rattle.std.specs.Prelude.{◌≡◌, ℕ, ◌+◌, ◌*◌, ◌≤◌, Bool, List, length, Option, Some, IfSome, refl}
use Rattle.std.proofs.Common.{inl, inr, sym, ◌∙◌, ap, subst, arith}
use Rattle.std.proofs.lemmas.Bool.{cases_lt}
use Rattle.failure.specs.declared.Fault.{Fault}
use Rattle.failure.specs.declared.Fault.TheVariants.{Write, Sync}
use Rattle.wt_code.specs.declared.store_error.StoreError.TheVariants.{Down}
use Rattle.disk_model.specs.declared.disk.Disk.{Ghosts}
use Rattle.disk_model.specs.Disk.{put, Torn}
use Rattle.disk_model.specs.Ranges.{length_put}
use Rattle.extent_list.specs.Space.{Space, end_of, IsSpot, Taken, HasNoRoom}
use Rattle.block_mgr.specs.declared.cell.Cell.{Cell}
use Rattle.block_mgr.specs.Cells.{AreUnits, Put, cell_at, nothing, fresh}
use Rattle.block_mgr.specs.Blocks.{Books}
use Rattle.block_mgr.specs.Writes.{Base, Stored, Wrote, StoreFault, Added}
use Rattle.block_mgr.proofs.UnitLemmas.{claimed_taken, clear}

-- where there is a place, there is room
pub spot_room : (space : Space) (n capacity at : ℕ) → IsSpot space n capacity at → HasNoRoom space n capacity → ⊥
spot_room space n capacity at spot full = elim spot [ inl run ↦ full.0 at run.fits | inr end ↦ absurd (omega (arith, full.1, end.1, end.2)) ]

-- the units that were taken, as the books are seen
pub taken_seen : (inside old : Books) (new : Space) (o : Option ℕ) (u units n cap capacity : ℕ) → inside ≡ old → o ≡ Some u → IfSome o (λ v. Taken inside.space new (4096 * units) cap (8192 + 4096 * v)) → 4096 * units ≡ n → cap ≡ capacity → Taken old.space new n capacity (8192 + 4096 * u)
taken_seen inside old new o u units n cap capacity is some taken size room =
    subst (λ (s : Books). Taken s.space new n capacity (8192 + 4096 * u)) is
    (subst (λ (k : ℕ). Taken inside.space new n k (8192 + 4096 * u)) room
    (subst (λ (k : ℕ). Taken inside.space new k cap (8192 + 4096 * u)) size
    (subst (λ (p : Option ℕ). IfSome p (λ v. Taken inside.space new (4096 * units) cap (8192 + 4096 * v))) some taken)))

-- no block was at a place that was taken
pub none_there : (cells : List Cell) (old new : Space) (u n capacity : ℕ) → AreUnits cells old → 1 ≤ n → Taken old new (4096 * n) capacity (8192 + 4096 * u) → cell_at cells u ≡ nothing
none_there cells old new u n capacity units some taken = elim (cases_lt 0 (cell_at cells u).units) [
  | inl more ↦ absurd (clear cells old new u n units some (claimed_taken old new (8192 + 4096 * u) (4096 * n) capacity taken) u u (omega arith) (omega (arith, some)) (omega arith, omega (arith, more)))
  | inr zero ↦ units.empty u (omega (arith, zero))
]

pub added_seen : (inside old new : Books) (o : Option ℕ) (u units n cap sum : ℕ) → inside ≡ old → AreUnits inside.cells inside.space → o ≡ Some u → IfSome o (λ v. Taken inside.space new.space (4096 * units) cap (8192 + 4096 * v))
    → IfSome o (λ v. Put inside.cells new.cells (length new.space.units) v (fresh units)) → 1 ≤ units → 4096 * units ≡ n → Added old new (record { offset = 8192 + 4096 * u; size = n; sum = sum })
added_seen inside old new o u units n cap sum is are some taken put more size = record {
  unit = u;
  units = units;
  offset = refl;
  size = sym size;
  none = subst (λ (s : Books). cell_at s.cells u ≡ nothing) is (none_there inside.cells inside.space new.space u units cap are more (subst (λ (p : Option ℕ). IfSome p (λ v. Taken inside.space new.space (4096 * units) cap (8192 + 4096 * v))) some taken));
  put = subst (λ (s : Books). Put s.cells new.cells (length new.space.units) u (fresh units)) is (subst (λ (p : Option ℕ). IfSome p (λ v. Put inside.cells new.cells (length new.space.units) v (fresh units))) some put);
}

-- at any moment of a store at the place that the books give
pub stored_wrote : (old : Books) (is_synced : Bool) (at n capacity : ℕ) (seen : List ℕ) (images : List ℕ → Type 0) (c : List ℕ) → is_synced ≡ old.is_synced → IsSpot old.space n capacity at → Stored is_synced at n seen images c → Wrote old n capacity seen images c
stored_wrote old is_synced at n capacity seen images c same spot stored = elim stored [
  | inl before ↦ inl before
  | inr from ↦ inr (at, spot, subst (λ (b : Bool). (d : List ℕ) × (Base b seen images d) × (Torn at n d c)) same from)
]

-- the device reaches to the end after a write that was done
pub ready_then : (old new : Space) (seen later bytes : List ℕ) (n capacity at : ℕ) → Taken old new n capacity at → n ≡ length bytes → end_of old ≤ length seen → at ≤ length seen → later ≡ put seen at bytes → end_of new ≤ length later
ready_then old new seen later bytes n capacity at taken size within low is = elim taken.2 [
  | inl same ↦ omega (arith, same, within, ap length is, length_put seen bytes at low)
  | inr moved ↦ omega (arith, moved.0, moved.1, size, ap length is, length_put seen bytes at low)
]

-- a place that was taken lies by the end
pub taken_low : (old new : Space) (n capacity at : ℕ) → Taken old new n capacity at → at ≤ end_of old
taken_low old new n capacity at taken = elim taken.2 [ inl same ↦ omega (arith, same, taken.1.within) | inr moved ↦ omega (arith, moved.0) ]

module _ {D : Type 0} (g : Ghosts D) (is_synced : Bool) (at other : ℕ) (old new : D) where
  pub fault_at : (fault : Fault) → StoreFault g is_synced at old new fault → Down fault ≡ Down (Write other) → at ≡ other
  fault_at (Write offset) is same = let one : offset ≡ other = cc in sym is ∙ one
  fault_at Sync is same = cc
