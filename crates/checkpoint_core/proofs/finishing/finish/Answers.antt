use Rattle.std.proofs.Common.{inl, inr, ◌≡◌, ◌∙◌, ◌≤◌, ◌+◌, ◌*◌, sym, ap, subst, arith, refl, ℕ, List, Option, Err, drop, length}
use Rattle.disk_model.specs.Ranges.{length_put}
use Rattle.disk_model.specs.Crash.{Keeps, LeavesOnly}
use Rattle.disk_model.specs.declared.disk.Disk.{Ghosts}
use Rattle.disk_model.proofs.Crash.{keeps_refl, started, widened}
use Rattle.extent_list.specs.Space.{Taken, HasNoRoom}
use Rattle.le_codec.specs.Images.{block_of}
use Rattle.device_layout.specs.declared.addr.Addr.{Addr}
use Rattle.device_layout.specs.declared.slot.Slot.{Slot}
use Rattle.block_mgr.specs.Blocks.{Books, Has}
use Rattle.block_mgr.specs.Cells.{done as done_cells}
use Rattle.block_mgr.proofs.WriteLemmas.{taken_low}
use Rattle.device_layout.specs.Slots.{slot_at}
use Rattle.checkpoint_core.specs.Stands.{blocks_of, placed_at}
use Rattle.checkpoint_core.specs.Finishes.{IsOld, KeepsAfter, KeepsParts, ReadsThen}
use Rattle.stored.specs.Stored.{Stored}
use Rattle.wt_code.specs.declared.store_error.StoreError.{StoreError}
use Rattle.wt_code.specs.declared.store_error.StoreError.TheVariants.{NoMemory, NoSpace, Read, Down}
use Rattle.checkpoint_core.proofs.Recording.{keeps, block_length, block_some, wrote_old, written_now}
use Rattle.checkpoint_core.proofs.Capturing.{freed_back, live_added}
use Rattle.checkpoint_core.proofs.Holding.{in_use_same, range_behind}
use Rattle.checkpoint_core.proofs.Installing.{finished, not_finished, not_read, not_written}
use Rattle.checkpoint_core.proofs.finishing.finish.Goals as goal

named_is : (kept sequence : ℕ) (a : Addr) (slot : Slot) → kept ≡ sequence → slot ≡ slot_at sequence a → slot_at kept a ≡ slot
named_is kept sequence a slot same is = ap (λ (k : ℕ). slot_at k a) same ∙ sym is

pub returns-in-Err-clause-finishes : goal.returns-in-Err-clause-finishes
returns-in-Err-clause-finishes g c h old new stands ready sequence next =
    let D = g.D.Disk in
    let seen = D.seen c.args.disk.now in
    let images = D.may_leave c.args.disk.now in
    let books = c.args.blocks.now in
    let image = c.args.image.items in
    let capacity = D.capacity c.args.disk.now in
    let leaves : LeavesOnly D c.args.disk.now c.write.new.disk (IsOld images old) = elim c.in-Err.ensures.before [
      | inl same ↦ rw same (started D c.args.disk.now (IsOld images old) (λ d there. inl (g.met.D.Disk.only_now _ d there)))
      | inr units ↦ widened D _ _ _ _ c.write.ensures.leaves (wrote_old seen images books old stands units (length (block_of image)) capacity (block_some image c.requires.some))
    ] in
    not_written D books.space (length image) capacity old new c.args.disk.now c.write.new.disk c.in-Err.error leaves (λ is. subst (λ (k : ℕ). HasNoRoom books.space k capacity) (block_length image) (c.in-Err.ensures.no_space is).1)

pub hand_over-requires-clause-live : goal.hand_over-requires-clause-live
hand_over-requires-clause-live g c = live_added c.args.blocks.now c.write.new.self c.in-Ok.addr c.in-Ok.ensures.added

pub sync_and_install-requires-clause-long : goal.sync_and_install-requires-clause-long
sync_and_install-requires-clause-long g c known =
    let D = g.D.Disk in
    let h = sym c.write.ensures.disk.same ∙ known in
    let low : c.in-Ok.addr.offset ≤ length (D.seen c.args.disk.now) = omega (arith, (c.requires.ready h).1, taken_low c.args.blocks.now.space c.write.new.self.space c.in-Ok.addr.size (D.capacity c.args.disk.now) c.in-Ok.addr.offset c.in-Ok.ensures.taken) in
    omega (arith, (c.requires.ready h).0, ap length (c.in-Ok.ensures.written h), length_put (D.seen c.args.disk.now) (block_of c.args.image.items) c.in-Ok.addr.offset low)

pub returns-in-Ok-sync_and_install-clause-finishes : goal.returns-in-Ok-sync_and_install-clause-finishes
returns-in-Ok-sync_and_install-clause-finishes g c h old new stands ready sequence next =
    let D = g.D.Disk in
    let seen = D.seen c.args.disk.now in
    let books = c.args.blocks.now in
    let image = c.args.image.items in
    let a = c.in-Ok.addr in
    let wrote = c.in-Ok.ensures in
    let units = wrote.units.0 in
    let capacity = D.capacity c.args.disk.now in
    let low : a.offset ≤ length seen = omega (arith, (c.requires.ready h).1, taken_low books.space c.write.new.self.space a.size capacity a.offset wrote.taken) in
    let made = placed_at new a in
    let slot_is : made.slot ≡ c.new.result = named_is _ _ _ _ sequence c.new.ensures in
    let done = written_now seen (D.seen c.write.new.disk) image (D.may_leave c.args.disk.now) (D.may_leave c.write.new.disk) books c.write.new.self.space capacity old new a stands ready units c.requires.some wrote.address wrote.taken low (wrote.written h) wrote.images in
    let first : LeavesOnly D c.args.disk.now c.write.new.disk (IsOld (D.may_leave c.args.disk.now) old) =
    widened D _ _ _ _ c.write.ensures.leaves (wrote_old seen (D.may_leave c.args.disk.now) books old stands units (length (block_of image)) capacity (block_some image c.requires.some)) in
    finished D books.space (length image) capacity old new a c.args.disk.now c.write.new.disk c.sync_and_install.new.disk first tt (c.in-Ok-sync_and_install.ensures.leaves (c.write.ensures.disk.same ∙ h) old made done slot_is (next c.new.result (ap (λ (s : Slot). s.sequence) c.new.ensures)))
    (c.write.new.self.space, a.offset, subst (λ (k : ℕ). Taken books.space c.write.new.self.space k capacity a.offset) (wrote.address.size ∙ block_length image) wrote.taken)

pub returns-in-Ok-sync_and_install-clause-last : goal.returns-in-Ok-sync_and_install-clause-last
returns-in-Ok-sync_and_install-clause-last g c = (c.write.new.self, c.in-Ok.ensures.added, c.ckpt_done.ensures.cells ∙ ap done_cells c.hand_over.ensures.cells)

pub returns-in-Ok-sync_and_install-clause-reads : goal.returns-in-Ok-sync_and_install-clause-reads
returns-in-Ok-sync_and_install-clause-reads g c h old new stands ready sequence next =
    let D = g.D.Disk in
    let seen = D.seen c.args.disk.now in
    let books = c.args.blocks.now in
    let a = c.in-Ok.addr in
    let wrote = c.in-Ok.ensures in
    let capacity = D.capacity c.args.disk.now in
    let low : a.offset ≤ length seen = omega (arith, (c.requires.ready h).1, taken_low books.space c.write.new.self.space a.size capacity a.offset wrote.taken) in
    let made = placed_at new a in
    let slot_is : made.slot ≡ c.new.result = named_is _ _ _ _ sequence c.new.ensures in
    let done = written_now seen (D.seen c.write.new.disk) c.args.image.items (D.may_leave c.args.disk.now) (D.may_leave c.write.new.disk) books c.write.new.self.space capacity old new a stands ready wrote.units.0 c.requires.some wrote.address wrote.taken low (wrote.written h) wrote.images in
    let reads = c.in-Ok-sync_and_install.ensures.reads (c.write.ensures.disk.same ∙ h) old made done slot_is (next c.new.result (ap (λ (s : Slot). s.sequence) c.new.ensures)) in
    (reads.0, omega (arith, c.ckpt_done.ensures.end, c.hand_over.ensures.end, wrote.ready h, reads.1))

pub returns-in-Err-sync_and_install-clause-finishes : goal.returns-in-Err-sync_and_install-clause-finishes
returns-in-Err-sync_and_install-clause-finishes g c h old new stands ready sequence next =
    let D = g.D.Disk in
    let seen = D.seen c.args.disk.now in
    let books = c.args.blocks.now in
    let image = c.args.image.items in
    let a = c.in-Ok.addr in
    let wrote = c.in-Ok.ensures in
    let units = wrote.units.0 in
    let capacity = D.capacity c.args.disk.now in
    let low : a.offset ≤ length seen = omega (arith, (c.requires.ready h).1, taken_low books.space c.write.new.self.space a.size capacity a.offset wrote.taken) in
    let made = placed_at new a in
    let slot_is : made.slot ≡ c.new.result = named_is _ _ _ _ sequence c.new.ensures in
    let done = written_now seen (D.seen c.write.new.disk) image (D.may_leave c.args.disk.now) (D.may_leave c.write.new.disk) books c.write.new.self.space capacity old new a stands ready units c.requires.some wrote.address wrote.taken low (wrote.written h) wrote.images in
    let first : LeavesOnly D c.args.disk.now c.write.new.disk (IsOld (D.may_leave c.args.disk.now) old) =
    widened D _ _ _ _ c.write.ensures.leaves (wrote_old seen (D.may_leave c.args.disk.now) books old stands units (length (block_of image)) capacity (block_some image c.requires.some)) in
    not_finished D books.space (length image) capacity old new a c.args.disk.now c.write.new.disk c.sync_and_install.new.disk first c.in-Err-sync_and_install.error (c.in-Err-sync_and_install.ensures.leaves (c.write.ensures.disk.same ∙ h) old made done slot_is (next c.new.result (ap (λ (s : Slot). s.sequence) c.new.ensures)))

pub returns-in-Err-sync_and_install-clause-back : goal.returns-in-Err-sync_and_install-clause-back
returns-in-Err-sync_and_install-clause-back g c = record {
  cells = freed_back c.free.new.self.cells c.args.blocks.now c.write.new.self c.in-Ok.addr c.in-Ok.ensures.added (omega (arith, c.in-Ok.ensures.address.place.some)) c.free.ensures.cells;
  units = λ before. c.free.ensures.units;
}

pub returns-in-Err-sync_and_install-clause-reads : goal.returns-in-Err-sync_and_install-clause-reads
returns-in-Err-sync_and_install-clause-reads g c h old new stands ready sequence next =
    let D = g.D.Disk in
    let seen = D.seen c.args.disk.now in
    let books = c.args.blocks.now in
    let a = c.in-Ok.addr in
    let wrote = c.in-Ok.ensures in
    let capacity = D.capacity c.args.disk.now in
    let low : a.offset ≤ length seen = omega (arith, (c.requires.ready h).1, taken_low books.space c.write.new.self.space a.size capacity a.offset wrote.taken) in
    let made = placed_at new a in
    let slot_is : made.slot ≡ c.new.result = named_is _ _ _ _ sequence c.new.ensures in
    let done = written_now seen (D.seen c.write.new.disk) c.args.image.items (D.may_leave c.args.disk.now) (D.may_leave c.write.new.disk) books c.write.new.self.space capacity old new a stands ready wrote.units.0 c.requires.some wrote.address wrote.taken low (wrote.written h) wrote.images in
    let back = freed_back c.free.new.self.cells books c.write.new.self a wrote.added (omega (arith, wrote.address.place.some)) c.free.ensures.cells in
    not_read D c.free.new.self old new made c.write.new.disk c.sync_and_install.new.disk c.in-Err-sync_and_install.error (c.in-Err-sync_and_install.ensures.reads (c.write.ensures.disk.same ∙ h) old made done slot_is (next c.new.result (ap (λ (s : Slot). s.sequence) c.new.ensures)))
    done.seen_has (in_use_same books.cells c.free.new.self.cells (blocks_of old) back stands.in_use) (omega (arith, c.free.ensures.end, wrote.ready h))

keeps_unwritten : {D : Type 0} (g : Ghosts D) (books : Books) (before after : D) (e : StoreError) → (e ≡ NoMemory → after ≡ before) → (e ≡ NoSpace → after ≡ before) → (e ≡ Read → ⊥) → KeepsAfter g books before after (Err e)
keeps_unwritten g books before after NoMemory none full read = rw (none refl) (keeps_refl (Has books.cells) (g.seen before))
keeps_unwritten g books before after NoSpace none full read = rw (full refl) (keeps_refl (Has books.cells) (g.seen before))
keeps_unwritten g books before after Read none full read = absurd (read refl)
keeps_unwritten g books before after (Down fault) none full read = tt

pub returns-in-Err-clause-keeps : goal.returns-in-Err-clause-keeps
returns-in-Err-clause-keeps g c h old new stands ready sequence next =
    keeps_unwritten g.D.Disk c.args.blocks.now c.args.disk.now c.write.new.disk c.in-Err.error c.in-Err.ensures.no_memory (λ is. (c.in-Err.ensures.no_space is).0) c.in-Err.ensures.no_read

keeps_uninstalled : {D : Type 0} (g : Ghosts D) (books : Books) (before mid after : D) (old : Option Stored) (new : Stored) (e : StoreError) → Keeps (Has books.cells) (g.seen before) (g.seen mid) → ReadsThen g old new mid after (Err e) → KeepsAfter g books before after (Err e)
keeps_uninstalled g books before mid after old new NoMemory kept reads = subst (λ (l : List ℕ). Keeps (Has books.cells) (g.seen before) l) (sym reads.0) kept
keeps_uninstalled g books before mid after old new NoSpace kept reads = subst (λ (l : List ℕ). Keeps (Has books.cells) (g.seen before) l) (sym reads.0) kept
keeps_uninstalled g books before mid after old new Read kept reads = subst (λ (l : List ℕ). Keeps (Has books.cells) (g.seen before) l) (sym reads.0) kept
keeps_uninstalled g books before mid after old new (Down fault) kept reads = tt

-- a block in use is behind the slots
parts_kept : (books : Books) (seen mid last : List ℕ) → Keeps (Has books.cells) seen mid → length last ≡ length mid → drop 8192 last ≡ drop 8192 mid → KeepsParts (Has books.cells) seen last
parts_kept books seen mid last kept long behind = record {
  part = λ at n has within. range_behind last mid at n behind (omega (arith, has.1)) ∙ kept.part at n has within;
  no_shorter = omega (arith, long, kept.no_shorter);
}

pub returns-in-Ok-sync_and_install-clause-keeps : goal.returns-in-Ok-sync_and_install-clause-keeps
returns-in-Ok-sync_and_install-clause-keeps g c h old new stands ready sequence next =
    let D = g.D.Disk in
    let seen = D.seen c.args.disk.now in
    let books = c.args.blocks.now in
    let a = c.in-Ok.addr in
    let wrote = c.in-Ok.ensures in
    let capacity = D.capacity c.args.disk.now in
    let low : a.offset ≤ length seen = omega (arith, (c.requires.ready h).1, taken_low books.space c.write.new.self.space a.size capacity a.offset wrote.taken) in
    let made = placed_at new a in
    let slot_is : made.slot ≡ c.new.result = named_is _ _ _ _ sequence c.new.ensures in
    let done = written_now seen (D.seen c.write.new.disk) c.args.image.items (D.may_leave c.args.disk.now) (D.may_leave c.write.new.disk) books c.write.new.self.space capacity old new a stands ready wrote.units.0 c.requires.some wrote.address wrote.taken low (wrote.written h) wrote.images in
    let reads = c.in-Ok-sync_and_install.ensures.reads (c.write.ensures.disk.same ∙ h) old made done slot_is (next c.new.result (ap (λ (s : Slot). s.sequence) c.new.ensures)) in
    parts_kept books seen (D.seen c.write.new.disk) (D.seen c.sync_and_install.new.disk) (keeps seen (D.seen c.write.new.disk) c.args.image.items books c.write.new.self.space capacity new a ready wrote.units.0 wrote.address wrote.taken low (wrote.written h)) reads.1 reads.2

pub returns-in-Err-sync_and_install-clause-keeps : goal.returns-in-Err-sync_and_install-clause-keeps
returns-in-Err-sync_and_install-clause-keeps g c h old new stands ready sequence next =
    let D = g.D.Disk in
    let seen = D.seen c.args.disk.now in
    let books = c.args.blocks.now in
    let a = c.in-Ok.addr in
    let wrote = c.in-Ok.ensures in
    let capacity = D.capacity c.args.disk.now in
    let low : a.offset ≤ length seen = omega (arith, (c.requires.ready h).1, taken_low books.space c.write.new.self.space a.size capacity a.offset wrote.taken) in
    let made = placed_at new a in
    let slot_is : made.slot ≡ c.new.result = named_is _ _ _ _ sequence c.new.ensures in
    let done = written_now seen (D.seen c.write.new.disk) c.args.image.items (D.may_leave c.args.disk.now) (D.may_leave c.write.new.disk) books c.write.new.self.space capacity old new a stands ready wrote.units.0 c.requires.some wrote.address wrote.taken low (wrote.written h) wrote.images in
    let kept = keeps seen (D.seen c.write.new.disk) c.args.image.items books c.write.new.self.space capacity new a ready wrote.units.0 wrote.address wrote.taken low (wrote.written h) in
    keeps_uninstalled D books c.args.disk.now c.write.new.disk c.sync_and_install.new.disk old made c.in-Err-sync_and_install.error kept
    (c.in-Err-sync_and_install.ensures.reads (c.write.ensures.disk.same ∙ h) old made done slot_is (next c.new.result (ap (λ (s : Slot). s.sequence) c.new.ensures)))
