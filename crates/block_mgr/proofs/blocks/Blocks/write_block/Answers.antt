use Rattle.std.proofs.Common.{◌≡◌, ◌+◌, ◌*◌, ◌/◌, ℕ, Option, length, IfSome, true, refl, sym, ◌∙◌, ap, subst, arith}
use Rattle.extent_list.specs.Space.{IsSpot, Taken}
use Rattle.disk_model.proofs.Crash.{widened}
use Rattle.block_mgr.specs.Cells.{Holdings, AreUnits, Put, fresh}
use Rattle.block_mgr.specs.Blocks.{Books}
use Rattle.block_mgr.proofs.WriteLemmas.{spot_room, taken_seen, added_seen, stored_wrote, ready_then, taken_low, fault_at}
use Rattle.block_mgr.proofs.blocks.Blocks.write_block.Goals as goal

pub returns-in-Err-store-clause-leaves : goal.returns-in-Err-store-clause-leaves
returns-in-Err-store-clause-leaves g c =
    let inside : Books = record { cells = c.self.inside.holders.cells; space = c.self.inside.holders.space; is_synced = c.self.inside.is_synced; is_held = c.self.inside.is_held } in
    let n : ℕ = length c.args.block.now in
    let units : ℕ = n / 4096 in
    let size : 4096 * units ≡ n = omega (arith, c.requires.whole) in
    let at : ℕ = 8192 + 4096 * c.in-Ok-Some.unit in
    let capacity : ℕ = g.D.Disk.capacity c.args.disk.now in
    let taken : Taken c.args.self.now.space c.place.new.self.space n capacity at = taken_seen inside c.args.self.now c.place.new.self.space c.in-Ok-Some.field-0 c.in-Ok-Some.unit units n c.capacity-capacity.result capacity c.self.view_is c.in-Ok-Some.field-0-is c.in-Ok-Some.ensures.taken size c.capacity-capacity.ensures in
    widened g.D.Disk _ _ _ _ c.store.ensures.leaves (λ d stored. stored_wrote c.args.self.now c.self.inside.is_synced at n capacity (g.D.Disk.seen c.args.disk.now) (g.D.Disk.may_leave c.args.disk.now) d (ap (λ (s : Books). s.is_synced) c.self.view_is) taken.0 stored)

pub returns-in-Err-store-clause-units : goal.returns-in-Err-store-clause-units
returns-in-Err-store-clause-units g c =
    let units : ℕ = length c.args.block.now / 4096 in
    let taken : Taken c.self.inside.holders.space c.place.new.self.space (4096 * units) c.capacity-capacity.result (8192 + 4096 * c.in-Ok-Some.unit) = subst (λ (o : Option ℕ). IfSome o (λ v. Taken c.self.inside.holders.space c.place.new.self.space (4096 * units) c.capacity-capacity.result (8192 + 4096 * v))) c.in-Ok-Some.field-0-is c.in-Ok-Some.ensures.taken in
    let put : Put c.self.inside.holders.cells c.place.new.self.cells (length c.place.new.self.space.units) c.in-Ok-Some.unit (fresh units) = subst (λ (o : Option ℕ). IfSome o (λ v. Put c.self.inside.holders.cells c.place.new.self.cells (length c.place.new.self.space.units) v (fresh units))) c.in-Ok-Some.field-0-is c.in-Ok-Some.ensures.placed in
    let undone : c.withdraw.new.self ≡ c.self.inside.holders = c.withdraw.ensures c.self.inside.holders c.capacity-capacity.result c.end-end.ensures.units c.end-end.ensures.end (taken, put) in
    subst (λ (h : Holdings). AreUnits h.cells h.space) (sym undone) c.end-end.ensures.units

pub returns-in-Err-store-clause-same : goal.returns-in-Err-store-clause-same
returns-in-Err-store-clause-same g c =
    let units : ℕ = length c.args.block.now / 4096 in
    let taken : Taken c.self.inside.holders.space c.place.new.self.space (4096 * units) c.capacity-capacity.result (8192 + 4096 * c.in-Ok-Some.unit) = subst (λ (o : Option ℕ). IfSome o (λ v. Taken c.self.inside.holders.space c.place.new.self.space (4096 * units) c.capacity-capacity.result (8192 + 4096 * v))) c.in-Ok-Some.field-0-is c.in-Ok-Some.ensures.taken in
    let put : Put c.self.inside.holders.cells c.place.new.self.cells (length c.place.new.self.space.units) c.in-Ok-Some.unit (fresh units) = subst (λ (o : Option ℕ). IfSome o (λ v. Put c.self.inside.holders.cells c.place.new.self.cells (length c.place.new.self.space.units) v (fresh units))) c.in-Ok-Some.field-0-is c.in-Ok-Some.ensures.placed in
    let undone : c.withdraw.new.self ≡ c.self.inside.holders = c.withdraw.ensures c.self.inside.holders c.capacity-capacity.result c.end-end.ensures.units c.end-end.ensures.end (taken, put) in
    ap (λ (h : Holdings). let seen : Books = record { cells = h.cells; space = h.space; is_synced = c.self.inside.is_synced; is_held = c.self.inside.is_held } in seen) undone ∙ c.self.view_is

pub returns-in-Err-store-clause-full : goal.returns-in-Err-store-clause-full
returns-in-Err-store-clause-full g c =
    let inside : Books = record { cells = c.self.inside.holders.cells; space = c.self.inside.holders.space; is_synced = c.self.inside.is_synced; is_held = c.self.inside.is_held } in
    let n : ℕ = length c.args.block.now in
    let units : ℕ = n / 4096 in
    let size : 4096 * units ≡ n = omega (arith, c.requires.whole) in
    let at : ℕ = 8192 + 4096 * c.in-Ok-Some.unit in
    let capacity : ℕ = g.D.Disk.capacity c.args.disk.now in
    let taken : Taken c.args.self.now.space c.place.new.self.space n capacity at = taken_seen inside c.args.self.now c.place.new.self.space c.in-Ok-Some.field-0 c.in-Ok-Some.unit units n c.capacity-capacity.result capacity c.self.view_is c.in-Ok-Some.field-0-is c.in-Ok-Some.ensures.taken size c.capacity-capacity.ensures in
    λ full. absurd (spot_room c.args.self.now.space n capacity at taken.0 full)

pub returns-in-Err-store-clause-write_fault : goal.returns-in-Err-store-clause-write_fault
returns-in-Err-store-clause-write_fault g c =
    let inside : Books = record { cells = c.self.inside.holders.cells; space = c.self.inside.holders.space; is_synced = c.self.inside.is_synced; is_held = c.self.inside.is_held } in
    let n : ℕ = length c.args.block.now in
    let units : ℕ = n / 4096 in
    let size : 4096 * units ≡ n = omega (arith, c.requires.whole) in
    let at : ℕ = 8192 + 4096 * c.in-Ok-Some.unit in
    let capacity : ℕ = g.D.Disk.capacity c.args.disk.now in
    let taken : Taken c.args.self.now.space c.place.new.self.space n capacity at = taken_seen inside c.args.self.now c.place.new.self.space c.in-Ok-Some.field-0 c.in-Ok-Some.unit units n c.capacity-capacity.result capacity c.self.view_is c.in-Ok-Some.field-0-is c.in-Ok-Some.ensures.taken size c.capacity-capacity.ensures in
    λ other same. subst (λ (k : ℕ). IsSpot c.args.self.now.space n capacity k) (fault_at g.D.Disk c.self.inside.is_synced at other c.args.disk.now c.store.new.disk c.in-Err-store.fault c.in-Err-store.ensures.fault same) taken.0

pub returns-clause-leaves : goal.returns-clause-leaves
returns-clause-leaves g c =
    let inside : Books = record { cells = c.self.inside.holders.cells; space = c.self.inside.holders.space; is_synced = c.self.inside.is_synced; is_held = c.self.inside.is_held } in
    let n : ℕ = length c.args.block.now in
    let units : ℕ = n / 4096 in
    let size : 4096 * units ≡ n = omega (arith, c.requires.whole) in
    let at : ℕ = 8192 + 4096 * c.in-Ok-Some.unit in
    let capacity : ℕ = g.D.Disk.capacity c.args.disk.now in
    let taken : Taken c.args.self.now.space c.place.new.self.space n capacity at = taken_seen inside c.args.self.now c.place.new.self.space c.in-Ok-Some.field-0 c.in-Ok-Some.unit units n c.capacity-capacity.result capacity c.self.view_is c.in-Ok-Some.field-0-is c.in-Ok-Some.ensures.taken size c.capacity-capacity.ensures in
    widened g.D.Disk _ _ _ _ c.store.ensures.leaves (λ d stored. stored_wrote c.args.self.now c.self.inside.is_synced at n capacity (g.D.Disk.seen c.args.disk.now) (g.D.Disk.may_leave c.args.disk.now) d (ap (λ (s : Books). s.is_synced) c.self.view_is) taken.0 stored)

pub returns-clause-taken : goal.returns-clause-taken
returns-clause-taken g c =
    let inside : Books = record { cells = c.self.inside.holders.cells; space = c.self.inside.holders.space; is_synced = c.self.inside.is_synced; is_held = c.self.inside.is_held } in
    let n : ℕ = length c.args.block.now in
    let units : ℕ = n / 4096 in
    let size : 4096 * units ≡ n = omega (arith, c.requires.whole) in
    let at : ℕ = 8192 + 4096 * c.in-Ok-Some.unit in
    let capacity : ℕ = g.D.Disk.capacity c.args.disk.now in
    let taken : Taken c.args.self.now.space c.place.new.self.space n capacity at = taken_seen inside c.args.self.now c.place.new.self.space c.in-Ok-Some.field-0 c.in-Ok-Some.unit units n c.capacity-capacity.result capacity c.self.view_is c.in-Ok-Some.field-0-is c.in-Ok-Some.ensures.taken size c.capacity-capacity.ensures in
    taken

pub returns-clause-added : goal.returns-clause-added
returns-clause-added g c =
    let inside : Books = record { cells = c.self.inside.holders.cells; space = c.self.inside.holders.space; is_synced = c.self.inside.is_synced; is_held = c.self.inside.is_held } in
    let n : ℕ = length c.args.block.now in
    let units : ℕ = n / 4096 in
    let size : 4096 * units ≡ n = omega (arith, c.requires.whole) in
    let at : ℕ = 8192 + 4096 * c.in-Ok-Some.unit in
    let capacity : ℕ = g.D.Disk.capacity c.args.disk.now in
    let taken : Taken c.args.self.now.space c.place.new.self.space n capacity at = taken_seen inside c.args.self.now c.place.new.self.space c.in-Ok-Some.field-0 c.in-Ok-Some.unit units n c.capacity-capacity.result capacity c.self.view_is c.in-Ok-Some.field-0-is c.in-Ok-Some.ensures.taken size c.capacity-capacity.ensures in
    added_seen inside c.args.self.now (record { cells = c.place.new.self.cells; space = c.place.new.self.space; is_synced = true; is_held = c.self.inside.is_held }) c.in-Ok-Some.field-0 c.in-Ok-Some.unit units n c.capacity-capacity.result c.sum.result c.self.view_is c.end-end.ensures.units c.in-Ok-Some.field-0-is c.in-Ok-Some.ensures.taken c.in-Ok-Some.ensures.placed (omega (arith, size, c.requires.some)) size

pub returns-clause-ready : goal.returns-clause-ready
returns-clause-ready g c =
    let inside : Books = record { cells = c.self.inside.holders.cells; space = c.self.inside.holders.space; is_synced = c.self.inside.is_synced; is_held = c.self.inside.is_held } in
    let n : ℕ = length c.args.block.now in
    let units : ℕ = n / 4096 in
    let size : 4096 * units ≡ n = omega (arith, c.requires.whole) in
    let at : ℕ = 8192 + 4096 * c.in-Ok-Some.unit in
    let capacity : ℕ = g.D.Disk.capacity c.args.disk.now in
    let taken : Taken c.args.self.now.space c.place.new.self.space n capacity at = taken_seen inside c.args.self.now c.place.new.self.space c.in-Ok-Some.field-0 c.in-Ok-Some.unit units n c.capacity-capacity.result capacity c.self.view_is c.in-Ok-Some.field-0-is c.in-Ok-Some.ensures.taken size c.capacity-capacity.ensures in
    λ known. ready_then c.args.self.now.space c.place.new.self.space (g.D.Disk.seen c.args.disk.now) (g.D.Disk.seen c.store.new.disk) c.args.block.now n capacity at taken refl (c.requires.ready known) (omega (arith, c.requires.ready known, taken_low c.args.self.now.space c.place.new.self.space n capacity at taken)) (c.in-Ok.ensures.written known)
