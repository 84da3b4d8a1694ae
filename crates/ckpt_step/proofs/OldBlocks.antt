-- The blocks of the checkpoint before are in use while a block that it has not is let go of.
use Rattle.std.specs.Prelude.{◌≡◌, ℕ, ◌*◌, List, Option, None, Some}
use Rattle.std.proofs.Common.{inl, inr, sym, ◌∙◌, ap, subst}
use Rattle.std.proofs.lemmas.Bool.{false≢true}
use Rattle.block_mgr.specs.declared.cell.Cell.{Cell}
use Rattle.block_mgr.specs.Blocks.{Has}
use Rattle.block_mgr.specs.Cells.{cell_at, is_used, nothing}
use Rattle.block_mgr.specs.Open.{found_cell}
use Rattle.device_layout.specs.declared.addr.Addr.{Addr}
use Rattle.device_layout.specs.Slots.{addr_in}
use Rattle.kv_model.specs.Holds.{Member}
use Rattle.stored.specs.Blocks.{Block}
use Rattle.stored.specs.Stored.{Stored}
use Rattle.checkpoint_core.specs.Stands.{AreInUse, HasStill, blocks_of, body_blocks}
use Rattle.ckpt_step.specs.Frees.{without}
use Rattle.ckpt_step.specs.Grounds.{found_in}
use Rattle.ckpt_step.proofs.Cells.{Begins, begins_or_not, found_is, found_of, start-record}
use Rattle.ckpt_step.proofs.Frees.{elsewhere}
use Rattle.ckpt_step.proofs.Members.{all_made, all_of}

-- ---- where one of its blocks begins an opening finds one

module _ (s : Stored) where
  in_body : (u : ℕ) (b : Block) → Member b (body_blocks s) → Begins u b.place → found_cell (found_in (Some s)) u ≡ nothing → ⊥
  in_body u b there at none = elim (found_of u s) [
    | inl one ↦ false≢true (ap (λ (c : Cell). c.is_live) (sym none ∙ (found_is u s ∙ one.cell)))
    | inr nobody ↦ nobody.none b there at
  ]

  of_record : (u : ℕ) → Begins u (addr_in s.slot) → found_cell (found_in (Some s)) u ≡ nothing → ⊥
  of_record u at none = elim (found_of u s) [
    | inl one ↦ false≢true (ap (λ (c : Cell). c.is_live) (sym none ∙ (found_is u s ∙ one.cell)))
    | inr nobody ↦ false≢true (ap (λ (c : Cell). c.is_last) (sym none ∙ (found_is u s ∙ (nobody.cell ∙ start-record u s at))))
  ]

  pub found_there : (u : ℕ) (b : Block) → Member b (blocks_of (Some s)) → Begins u b.place → found_cell (found_in (Some s)) u ≡ nothing → ⊥
  found_there u b (inl same) at none = of_record u (subst (λ (x : Block). Begins u x.place) same at) none
  found_there u b (inr later) at none = in_body u b later at none

-- ---- one is let go of that is none of its blocks

used_less : (old : Option Stored) (cells less : List Cell) (x : Addr) → ((u : ℕ) (b : Block) → Member b (blocks_of old) → Begins u b.place → found_cell (found_in old) u ≡ nothing → ⊥) → ((u : ℕ) → Begins u x → found_cell (found_in old) u ≡ nothing)
    → ((u : ℕ) → cell_at less u ≡ without u (cell_at cells u) x) → AreInUse cells (blocks_of old) → AreInUse less (blocks_of old)
used_less old cells less x found none goes used = all_made (λ (b : Block). Has less b.place.offset b.place.size) (blocks_of old) (λ b there. one b there (all_of (λ (y : Block). Has cells y.place.offset y.place.size) (blocks_of old) b used there))
  where
    one : (b : Block) → Member b (blocks_of old) → Has cells b.place.offset b.place.size → Has less b.place.offset b.place.size
    one b there (u, at, size, is) = elim (begins_or_not u x) [
      | inl here ↦ absurd (found u b there at (none u here))
      | inr far ↦
          let same : cell_at less u ≡ cell_at cells u = goes u ∙ elsewhere u (cell_at cells u) x far in
          (u, at, subst (λ (c : Cell). b.place.size ≡ 4096 * c.units) (sym same) size, ap is_used same ∙ is)
    ]

pub in_use_less : (seen : List ℕ) (old : Option Stored) (cells less : List Cell) (x : Addr) → HasStill old seen → ((u : ℕ) → Begins u x → found_cell (found_in old) u ≡ nothing)
    → ((u : ℕ) → cell_at less u ≡ without u (cell_at cells u) x) → AreInUse cells (blocks_of old) → AreInUse less (blocks_of old)
in_use_less seen None cells less x still none goes used = tt
in_use_less seen (Some s) cells less x still none goes used = used_less (Some s) cells less x (found_there s) none goes used
