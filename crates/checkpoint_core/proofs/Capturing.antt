-- A block of a checkpoint that is written keeps what stands.
use Rattle.std.specs.Prelude.{◌≡◌, ◌*◌, ℕ, ◌≤◌, List, [], ◌∷◌, length, true, false, Option}
use Rattle.std.proofs.Common.{inl, inr, sym, ◌∙◌, ap, arith}
use Rattle.std.proofs.lemmas.Bool.{false≢true, cases_eq}
use Rattle.std.proofs.lemmas.List.{get_or-set_same, get_or-set_other}
use Rattle.disk_model.specs.Disk.{put}
use Rattle.disk_model.specs.Crash.{Each}
use Rattle.device_layout.specs.declared.addr.Addr.{Addr}
use Rattle.extent_list.specs.Space.{IsSpot}
use Rattle.block_mgr.specs.declared.cell.Cell.{Cell}
use Rattle.block_mgr.specs.Cells.{AreUnits, cell_at, fresh, freed, is_used, kept, nothing, captured as captured_cells}
use Rattle.block_mgr.specs.Blocks.{Books, Has, HasLive, unit_of}
use Rattle.block_mgr.specs.Writes.{FromBase, Added}
use Rattle.block_mgr.proofs.HasLemmas.{has_added, has_set, unused_nothing}
use Rattle.block_mgr.proofs.HolderLemmas.{is_there}
use Rattle.stored.specs.Blocks.{Block}
use Rattle.stored.specs.Stored.{Stored}
use Rattle.checkpoint_core.specs.Stands.{AreInUse, Stands, blocks_of}
use Rattle.checkpoint_core.proofs.Recording.{image_still, seen_still}

-- a block that was in use still is
still_used : (old new : Books) (a : Addr) (i n : ℕ) → Added old new a → Has old.cells i n → Has new.cells i n
still_used old new a i n added has = has_added (λ (c : Cell). is_used c ≡ true) (λ is. false≢true is) old new a i n added has

-- and so is the new one
pub has_new : (old new : Books) (a : Addr) → Added old new a → Has new.cells a.offset a.size
has_new old new a added = (added.unit, added.offset, added.size ∙ ap (λ (c : Cell). 4096 * c.units) (sym added.put.here), ap is_used added.put.here)

pub in_use_added : (old new : Books) (a : Addr) (blocks : List Block) → Added old new a → AreInUse old.cells blocks → AreInUse new.cells blocks
in_use_added old new a [] added in_use = tt
in_use_added old new a (x ∷ blocks) added in_use = (still_used old new a x.place.offset x.place.size added in_use.0, in_use_added old new a blocks added in_use.1)

-- once a block was written, the old checkpoint stands as before
pub captured : (seen now bytes : List ℕ) (images left : List ℕ → Type 0) (books after : Books) (capacity : ℕ) (old : Option Stored) (a : Addr) → Stands seen images books old → AreUnits books.cells books.space → 1 ≤ length bytes
    → IsSpot books.space (length bytes) capacity a.offset → now ≡ put seen a.offset bytes → Each left (FromBase books.is_synced a.offset (length bytes) seen images) → Added books after a → Stands now left after old
captured seen now bytes images left books after capacity old a stands units some spot written from added = record {
  seen_has = seen_still seen images books old stands units now bytes capacity a.offset some spot written;
  images_have = λ _ d there. image_still seen images books old stands units d (length bytes) capacity a.offset some spot (from d there);
  in_use = in_use_added books after a (blocks_of old) added stands.in_use;
}

-- a live block stays live where it is captured
pub live_captured : (cells : List Cell) (u at n : ℕ) → HasLive cells at n → HasLive (captured_cells cells u) at n
live_captured cells u at n has = has_set (λ (c : Cell). c.is_live ≡ true) cells at n u (record (cell_at cells u) { is_running = true }) (λ is. is) has

-- a block that was written is live
pub live_added : (old new : Books) (a : Addr) → Added old new a → HasLive new.cells a.offset a.size
live_added old new a added = (added.unit, added.offset, added.size ∙ ap (λ (c : Cell). 4096 * c.units) (sym added.put.here), ap (λ (c : Cell). c.is_live) added.put.here)

-- ---- a block that was written, and is free again

pub freed_back : (cells : List Cell) (old new : Books) (a : Addr) → Added old new a → 1 ≤ a.size → cells ≡ freed new.cells (unit_of a.offset) → (u : ℕ) → cell_at cells u ≡ cell_at old.cells u
freed_back cells old new a added some is u = ap (λ (l : List Cell). cell_at l u) is ∙ elim (cases_eq u (unit_of a.offset)) [
  | inl here ↦ ap (λ (k : ℕ). cell_at (freed new.cells (unit_of a.offset)) k) here ∙ (gone ∙ (sym added.none ∙ ap (λ (k : ℕ). cell_at old.cells k) (sym (here ∙ sym unit))))
  | inr other ↦ elsewhere other
]
  where
    unit : added.unit ≡ unit_of a.offset
    unit = omega (arith, added.offset)

    there : cell_at new.cells (unit_of a.offset) ≡ fresh added.units
    there = ap (λ (k : ℕ). cell_at new.cells k) (sym unit) ∙ added.put.here

    gone : cell_at (freed new.cells (unit_of a.offset)) (unit_of a.offset) ≡ nothing
    gone = get_or-set_same new.cells (unit_of a.offset) (kept (record (cell_at new.cells (unit_of a.offset)) { is_live = false })) nothing
        (is_there new.cells (unit_of a.offset) (omega (arith, some, added.size, ap (λ (c : Cell). c.units) there)))
        ∙ unused_nothing (cell_at new.cells (unit_of a.offset)) (ap (λ (c : Cell). c.is_running) there) (ap (λ (c : Cell). c.is_last) there) (ap (λ (c : Cell). c.names) there)

    elsewhere : (u ≡ unit_of a.offset → ⊥) → cell_at (freed new.cells (unit_of a.offset)) u ≡ cell_at old.cells u
    elsewhere other = get_or-set_other new.cells (unit_of a.offset) u (kept (record (cell_at new.cells (unit_of a.offset)) { is_live = false })) nothing other ∙ added.put.others u (λ same. other (same ∙ unit))
