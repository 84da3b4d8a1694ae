-- The cells of a checkpoint that is half written.
use Rattle.std.specs.Prelude.{ℕ, Bool, List, Option, true, ◌≡◌}
use Rattle.std.proofs.Common.{ap, inl, inr, sym, ◌∙◌}
use Rattle.std.proofs.lemmas.Bool.{false≢true}
use Rattle.block_mgr.specs.declared.cell.Cell.{Cell}
use Rattle.block_mgr.specs.Blocks.{Books}
use Rattle.block_mgr.specs.Cells.{nothing}
use Rattle.device_layout.specs.declared.addr.Addr.{Addr}
use Rattle.stored.specs.Stored.{Stored}
use Rattle.tree_write.specs.Captures.{MayWrite}
use Rattle.ckpt_step.specs.Grounds.{start_cell}
use Rattle.ckpt_step.specs.Halves.{Runs, half_cell, held_cell}
use Rattle.ckpt_step.specs.declared.lives.Lone.{Lone}
use Rattle.ckpt_step.proofs.Cells.{which}
use Rattle.ckpt_step.proofs.Lones.{StartCell, start_kind}

no_names : (c : Cell) → StartCell c → c.names ≡ 0
no_names c (inl is) = ap (λ (x : Cell). x.names) is
no_names c (inr (inl (a, is))) = ap (λ (x : Cell). x.names) is
no_names c (inr (inr (n, last, is))) = ap (λ (x : Cell). x.names) is

half_unnamed : (old : Option Stored) (lives : List Lone) (captured : List Addr) (u : ℕ) → (half_cell old lives captured u).names ≡ 0
half_unnamed old lives captured u = elim (which u captured) [
  | inl one ↦ ap (λ (c : Cell). c.names) (one.half (start_cell old lives u))
  | inr none ↦ ap (λ (c : Cell). c.names) (none.half (start_cell old lives u)) ∙ no_names (start_cell old lives u) (start_kind u old lives)
]

-- where nothing is, nothing was as the checkpoint began
pub none_before : (old : Option Stored) (lives : List Lone) (captured : List Addr) (u : ℕ) → half_cell old lives captured u ≡ nothing → start_cell old lives u ≡ nothing
none_before old lives captured u none = elim (which u captured) [
  | inl one ↦ absurd (false≢true (sym (ap (λ (c : Cell). c.is_live) (sym (one.half (start_cell old lives u)) ∙ none))))
  | inr far ↦ sym (far.half (start_cell old lives u)) ∙ none
]

pub may_of : (seen : List ℕ) (images : List ℕ → Type 0) (books : Books) (old : Option Stored) (lives : List Lone) (captured : List Addr) → Runs seen images books old lives captured → MayWrite seen images books old
may_of seen images books old lives captured runs = record { stands = runs.stands; units = runs.units; unnamed = λ u. ap (λ (c : Cell). c.names) (runs.cells u) ∙ half_unnamed old lives captured u }

-- a cell of the live tree as the checkpoint begins
pub live_cell : (c : Cell) → StartCell c → c.is_live ≡ true → (n : ℕ) × (last : Bool) × (c ≡ held_cell n last)
live_cell c (inl is) live = absurd (false≢true (sym (ap (λ (x : Cell). x.is_live) is) ∙ live))
live_cell c (inr (inl (a, is))) live = absurd (false≢true (sym (ap (λ (x : Cell). x.is_live) is) ∙ live))
live_cell c (inr (inr held)) live = held
