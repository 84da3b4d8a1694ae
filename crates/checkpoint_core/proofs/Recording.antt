-- The block of a record, written behind the other blocks of a checkpoint.
use Rattle.std.specs.Prelude.{◌≡◌, ℕ, ◌+◌, ◌≤◌, Bool, true, false, IsTrue, List, [], ◌∷◌, length, Option, refl}
use Rattle.std.specs.List.{AllByRecursion}
use Rattle.std.proofs.Common.{inl, inr, sym, ◌∙◌, ap, subst, arith}
use Rattle.std.proofs.lemmas.Bool.{cases_lt}
use Rattle.std.proofs.lemmas.Grind.{common_steps}
use Rattle.block_sum.specs.Sum.{sum_of}
use Rattle.le_codec.specs.Images.{padded, block_size, block_of}
use Rattle.disk_model.specs.Disk.{put, Torn}
use Rattle.disk_model.specs.Laws.{torn_put}
use Rattle.disk_model.specs.Ranges.{range, range_put_same, length_put}
use Rattle.disk_model.specs.Crash.{Keeps, Each, Apart as ApartFrom}
use Rattle.extent_list.specs.Space.{Space, IsSpot, Taken}
use Rattle.block_mgr.specs.declared.cell.Cell.{Cell}
use Rattle.device_layout.specs.declared.addr.Addr.{Addr}
use Rattle.block_mgr.specs.Cells.{AreUnits}
use Rattle.block_mgr.specs.Blocks.{Books, Has}
use Rattle.block_mgr.specs.Writes.{Base, FromBase, Wrote, IsAddress}
use Rattle.block_mgr.proofs.HasLemmas.{spot_apart, spot_keeps}
use Rattle.stored.specs.Blocks.{Block, IsAddressed, IsAt, Holds, AreApart}
use Rattle.stored.specs.Records.{record_image}
use Rattle.stored.specs.Stored.{Stored, record_block, stored_blocks, IsWhole}
use Rattle.checkpoint_core.specs.Stands.{HasStill, AreInUse, Stands, body_blocks, IsReady, IsWritten, placed_at}
use Rattle.checkpoint_core.specs.Finishes.{IsOld}
use Rattle.checkpoint_core.proofs.Holding.{still_kept, holds_kept}

-- the length of an image's block
pub block_length : (image : List ℕ) → length (block_of image) ≡ block_size (length image)
block_length image = grind (arith, common_steps)

pub block_some : (image : List ℕ) → 1 ≤ length image → 1 ≤ length (block_of image)
block_some image some = omega (arith, block_length image, some)

-- ---- what the write leaves of the old checkpoint

module _ (seen : List ℕ) (images : List ℕ → Type 0) (books : Books) (old : Option Stored) (stands : Stands seen images books old) (units : AreUnits books.cells books.space) where
  base_has : (synced : Bool) → (IsTrue synced → Each images (HasStill old)) → (d : List ℕ) → Base synced seen images d → HasStill old d
  base_has true have d base = have refl d base
  base_has false have d base = subst (λ (l : List ℕ). HasStill old l) (sym base) stands.seen_has

  pub image_still : (c : List ℕ) (n capacity at : ℕ) → 1 ≤ n → IsSpot books.space n capacity at → FromBase books.is_synced at n seen images c → HasStill old c
  image_still c n capacity at some spot (d, base, torn) = still_kept old books.cells d c (base_has books.is_synced stands.images_have d base) stands.in_use (spot_keeps books.cells books.space n capacity at d c units some spot torn)

  pub wrote_old : (n capacity : ℕ) → 1 ≤ n → (c : List ℕ) → Wrote books n capacity seen images c → IsOld images old c
  wrote_old n capacity some c (inl image) = inl image
  wrote_old n capacity some c (inr (at, spot, from)) = inr (image_still c n capacity at some spot from)

  pub seen_still : (now bytes : List ℕ) (capacity at : ℕ) → 1 ≤ length bytes → IsSpot books.space (length bytes) capacity at → now ≡ put seen at bytes → HasStill old now
  seen_still now bytes capacity at some spot is = still_kept old books.cells seen now stands.seen_has stands.in_use (spot_keeps books.cells books.space (length bytes) capacity at seen now units some spot (subst (λ (l : List ℕ). Torn at (length bytes) seen l) (sym is) (torn_put at bytes seen)))

-- ---- the new checkpoint

are_apart : (a : Addr) (b : Block) → ApartFrom a.offset a.size b.place.offset b.place.size → AreApart a b.place
are_apart a b apart = elim (cases_lt a.offset (b.place.offset + b.place.size)) [
  | inl meets ↦ inl (apart meets)
  | inr behind ↦ inr behind
]

all_apart : (a : Addr) (used : List Cell) (blocks : List Block) → ((i n : ℕ) → Has used i n → ApartFrom a.offset a.size i n) → AreInUse used blocks → AllByRecursion (λ (b : Block). AreApart a b.place) blocks
all_apart a used [] apart in_use = tt
all_apart a used (b ∷ blocks) apart in_use = (are_apart a b (apart b.place.offset b.place.size in_use.0), all_apart a used blocks apart in_use.1)

module _ (seen now image : List ℕ) (books : Books) (after : Space) (capacity : ℕ) (new : Stored) (a : Addr) (ready : IsReady seen books image new) (units : AreUnits books.cells books.space)
    (is : IsAddress (block_of image) a) (taken : Taken books.space after a.size capacity a.offset) (low : a.offset ≤ length seen) (written : now ≡ put seen a.offset (block_of image)) where
  abbrev placed : Stored
  placed = placed_at new a

  sized : a.size ≡ block_size (length image)
  sized = is.size ∙ block_length image

  fills : block_of image ≡ padded (record_image new.kept) a.size
  fills = ap (λ (l : List ℕ). padded l (block_size (length l))) ready.is_image ∙ ap (λ k. padded (record_image new.kept) k) (sym (sized ∙ ap (λ (l : List ℕ). block_size (length l)) ready.is_image))

  addressed : IsAddressed (record_block placed)
  addressed = record {
    low = is.place.behind;
    unit = is.place.unit;
    size = sized ∙ ap (λ (l : List ℕ). block_size (length l)) ready.is_image;
    most = is.place.most;
    sum = is.sum ∙ ap sum_of fills;
  }

  some : 1 ≤ a.size
  some = omega (arith, is.place.some)

  pub whole_now : IsWhole placed
  whole_now = record {
    sequence = refl;
    is_record = ready.is_record;
    trees = ready.trees;
    history = ready.history;
    addressed = (addressed, ready.addressed);
    apart = (all_apart a books.cells (body_blocks new) (spot_apart books.cells books.space a.size capacity a.offset units some taken.0) ready.in_use, ready.apart);
  }

  record_at : IsAt now (record_block placed)
  record_at = record {
    within = omega (arith, ap length written, length_put seen (block_of image) a.offset low, is.size);
    is = subst (λ k. range now a.offset k ≡ block_of image) (sym is.size) (ap (λ (l : List ℕ). range l a.offset (length (block_of image))) written ∙ range_put_same seen (block_of image) a.offset low) ∙ fills;
  }

  pub keeps : Keeps (Has books.cells) seen now
  keeps = spot_keeps books.cells books.space a.size capacity a.offset seen now units some taken.0 (subst (λ (l : List ℕ). Torn a.offset a.size seen l) (sym written) (subst (λ k. Torn a.offset k seen (put seen a.offset (block_of image))) (sym is.size) (torn_put a.offset (block_of image) seen)))

  pub holds_now : Holds now (stored_blocks placed)
  holds_now = (record_at, holds_kept books.cells seen now (body_blocks new) ready.holds ready.in_use keeps)

-- all of both is on the device then
pub written_now : (seen now image : List ℕ) (images left : List ℕ → Type 0) (books : Books) (after : Space) (capacity : ℕ) (old : Option Stored) (new : Stored) (a : Addr) → Stands seen images books old → IsReady seen books image new → AreUnits books.cells books.space → 1 ≤ length image
    → IsAddress (block_of image) a → Taken books.space after a.size capacity a.offset → a.offset ≤ length seen → now ≡ put seen a.offset (block_of image) → Each left (FromBase books.is_synced a.offset a.size seen images) → IsWritten now left old (placed_at new a)
written_now seen now image images left books after capacity old new a stands ready units full is taken low written from =
    let bytes : List ℕ = block_of image in
    let some : 1 ≤ length bytes = block_some image full in
    let spot : IsSpot books.space (length bytes) capacity a.offset = subst (λ (k : ℕ). IsSpot books.space k capacity a.offset) is.size taken.0 in
    record {
      seen_has = seen_still seen images books old stands units now bytes capacity a.offset some spot written;
      images_have = λ d there. image_still seen images books old stands units d (length bytes) capacity a.offset some spot (subst (λ (k : ℕ). FromBase books.is_synced a.offset k seen images d) is.size (from d there));
      whole = whole_now seen now image books after capacity new a ready units is taken low written;
      holds = holds_now seen now image books after capacity new a ready units is taken low written;
    }
