-- What bytes that keep a checkpoint's blocks have.
use Rattle.std.specs.Prelude.{◌≡◌, ℕ, ◌-◌, ◌*◌, ◌≤◌, List, [], ◌∷◌, length, take, drop, Option, Some, None}
use Rattle.std.specs.List.{AllByRecursion}
use Rattle.std.proofs.Common.{sym, ◌∙◌, ap, arith}
use Rattle.std.proofs.lemmas.List.{length-drop}
use Rattle.disk_model.specs.Ranges.{range, range_take, range_drop}
use Rattle.disk_model.specs.Crash.{Keeps}
use Rattle.turtle.specs.Slots.{Chooses}
use Rattle.block_mgr.specs.declared.cell.Cell.{Cell}
use Rattle.block_mgr.specs.Blocks.{Has}
use Rattle.block_mgr.specs.Cells.{cell_at, is_used}
use Rattle.stored.specs.Blocks.{Block, IsAddressed, Holds, Same}
use Rattle.stored.specs.Stored.{Stored, SameSlots, stored_blocks, IsWhole, IsOn}
use Rattle.stored.proofs.Device.{frame_on, frame_blank}
use Rattle.checkpoint_core.specs.Stands.{HasStill, chosen_of, blocks_of, AreInUse}

-- ---- a write away from the blocks

same_slots : (old new : List ℕ) → take 8192 new ≡ take 8192 old → SameSlots old new
same_slots old new same = (
  sym (range_take new 8192 0 36 (omega arith)) ∙ ap (λ (l : List ℕ). range l 0 36) same ∙ range_take old 8192 0 36 (omega arith),
  sym (range_take new 8192 4096 36 (omega arith)) ∙ ap (λ (l : List ℕ). range l 4096 36) same ∙ range_take old 8192 4096 36 (omega arith),
)

same_blocks : (used : List Cell) (old new : List ℕ) (blocks : List Block) → Keeps (Has used) old new → AreInUse used blocks → Holds old blocks → Same old new blocks
same_blocks used old new [] keeps in_use holds = tt
same_blocks used old new (b ∷ blocks) keeps in_use holds = (keeps.part b.place.offset b.place.size in_use.0 holds.0.within, same_blocks used old new blocks keeps in_use.1 holds.1)

pub still_long : (old : Option Stored) (bytes : List ℕ) → HasStill old bytes → 8192 ≤ length bytes
still_long None bytes has = has.long
still_long (Some s) bytes has = has.long

pub still_kept : (old : Option Stored) (used : List Cell) (seen c : List ℕ) → HasStill old seen → AreInUse used (blocks_of old) → Keeps (Has used) seen c → HasStill old c
still_kept None used seen c has in_use keeps = frame_blank seen c keeps.no_shorter (same_slots seen c (keeps.slots has.long)) has
still_kept (Some s) used seen c has in_use keeps = frame_on seen c s keeps.no_shorter (same_slots seen c (keeps.slots has.long)) (same_blocks used seen c (stored_blocks s) keeps in_use has.holds) has

pub holds_kept : (used : List Cell) (seen c : List ℕ) (blocks : List Block) → Holds seen blocks → AreInUse used blocks → Keeps (Has used) seen c → Holds c blocks
holds_kept used seen c [] holds in_use keeps = tt
holds_kept used seen c (b ∷ blocks) holds in_use keeps = (
  record { within = omega (arith, holds.0.within, keeps.no_shorter); is = keeps.part b.place.offset b.place.size in_use.0 holds.0.within ∙ holds.0.is },
  holds_kept used seen c blocks holds.1 in_use.1 keeps,
)

-- the same cells have the same blocks
pub in_use_same : (old new : List Cell) (blocks : List Block) → ((u : ℕ) → cell_at new u ≡ cell_at old u) → AreInUse old blocks → AreInUse new blocks
in_use_same old new [] same in_use = tt
in_use_same old new (b ∷ blocks) same in_use = (has_same old new b.place.offset b.place.size same in_use.0, in_use_same old new blocks same in_use.1)
  where
    has_same : (old new : List Cell) (i n : ℕ) → ((u : ℕ) → cell_at new u ≡ cell_at old u) → Has old i n → Has new i n
    has_same old new i n same (u, place, size, used) = (u, place, size ∙ ap (λ (c : Cell). 4096 * c.units) (sym (same u)), ap is_used (same u) ∙ used)

-- ---- other slots, and all behind them as it was

pub range_behind : (c d : List ℕ) (i n : ℕ) → drop 8192 c ≡ drop 8192 d → 8192 ≤ i → range c i n ≡ range d i n
range_behind c d i n same behind = sym (range_drop c 8192 i n behind) ∙ ap (λ (l : List ℕ). range l (i - 8192) n) same ∙ range_drop d 8192 i n behind

pub length_behind : (c d : List ℕ) → drop 8192 c ≡ drop 8192 d → 8192 ≤ length c → 8192 ≤ length d → length c ≡ length d
length_behind c d same long also = omega (arith, long, also, ap length same, length-drop 8192 c, length-drop 8192 d)

holds_behind : (c d : List ℕ) (blocks : List Block) → drop 8192 c ≡ drop 8192 d → 8192 ≤ length c → 8192 ≤ length d → AllByRecursion (λ (b : Block). IsAddressed b) blocks → Holds d blocks → Holds c blocks
holds_behind c d [] same long also addressed holds = tt
holds_behind c d (b ∷ blocks) same long also addressed holds = (
  record { within = omega (arith, holds.0.within, length_behind c d same long also); is = range_behind c d b.place.offset b.place.size same addressed.0.low ∙ holds.0.is },
  holds_behind c d blocks same long also addressed.1 holds.1,
)

-- the slots choose a checkpoint whose blocks are there
pub chosen_on : (s : Stored) (c d : List ℕ) → IsWhole s → Holds d (stored_blocks s) → drop 8192 c ≡ drop 8192 d → 8192 ≤ length c → 8192 ≤ length d → Chooses c (Some s.slot) → IsOn c s
chosen_on s c d whole holds same long also chooses = record {
  whole = whole;
  long = long;
  chosen = chooses;
  holds = holds_behind c d (stored_blocks s) same long also whole.addressed holds;
}

pub still_behind : (old : Option Stored) (c d : List ℕ) → HasStill old d → drop 8192 c ≡ drop 8192 d → 8192 ≤ length c → Chooses c (chosen_of old) → HasStill old c
still_behind None c d has same long chooses = record { long = long; shut = chooses }
still_behind (Some s) c d has same long chooses = chosen_on s c d has.whole has.holds same long has.long chooses

pub still_chooses : (old : Option Stored) (bytes : List ℕ) → HasStill old bytes → Chooses bytes (chosen_of old)
still_chooses None bytes has = has.shut
still_chooses (Some s) bytes has = has.chosen
