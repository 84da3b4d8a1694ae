-- Blocks in use over the calls.
use Rattle.std.specs.Prelude.{◌≡◌, ℕ, ◌+◌, ◌-◌, ◌*◌, ◌/◌, ◌<◌, ◌≤◌, Bool, true, false, ◌||◌, nat_lt, cond, List, length, map, set, refl}
use Rattle.std.proofs.Common.{inl, inr, sym, ◌∙◌, ap, subst, arith}
use Rattle.std.proofs.lemmas.Bool.{cases_lt, cases_eq, false≢true}
use Rattle.std.proofs.lemmas.List.{get_or-set_same, get_or_past, set_past}
use Rattle.disk_model.specs.Disk.{Torn}
use Rattle.disk_model.specs.Crash.{Apart, Keeps}
use Rattle.disk_model.proofs.Crash.{keeps_torn}
use Rattle.device_layout.specs.declared.addr.Addr.{Addr}
use Rattle.extent_list.specs.Space.{Space, Fits, IsSpot}
use Rattle.block_mgr.specs.declared.cell.Cell.{Cell}
use Rattle.block_mgr.specs.Cells.{AreUnits, cell_at, is_used, nothing, kept}
use Rattle.block_mgr.specs.Blocks.{Books, HasCell, Has}
use Rattle.block_mgr.specs.Writes.{Added}
use Rattle.block_mgr.proofs.HolderLemmas.{set_keeps, map_keeps, kept_used}

-- of this size, and it has P
abbrev pub Sized : (Cell → Type 0) → ℕ → Cell → Type 0
Sized P n c = (n ≡ 4096 * c.units) × P c

module _ (P : Cell → Type 0) where
  pub has_set : (cells : List Cell) (at n v : ℕ) (c : Cell) → (Sized P n (cell_at cells v) → Sized P n c) → HasCell P cells at n → HasCell P (set cells v c) at n
  has_set cells at n v c step (u, place, size, is) =
      let both : Sized P n (cell_at (set cells v c) u) = set_keeps (Sized P n) cells u v c step (size, is) in
      (u, place, both.0, both.1)

  pub has_map : (f : Cell → Cell) (cells : List Cell) (at n : ℕ) → f nothing ≡ nothing → ((c : Cell) → Sized P n c → Sized P n (f c)) → HasCell P cells at n → HasCell P (map f cells) at n
  has_map f cells at n empty step (u, place, size, is) =
      let both : Sized P n (cell_at (map f cells) u) = map_keeps (Sized P n) f cells u empty (step (cell_at cells u)) (size, is) in
      (u, place, both.0, both.1)

  pub has_added : (P nothing → ⊥) → (old new : Books) (addr : Addr) (at n : ℕ) → Added old new addr → HasCell P old.cells at n → HasCell P new.cells at n
  has_added none old new addr at n added (v, place, size, is) = elim (cases_eq v added.unit) [
    | inl here ↦ absurd (none (subst P (ap (λ (k : ℕ). cell_at old.cells k) here ∙ added.none) is))
    | inr other ↦ (v, place, subst (λ (c : Cell). n ≡ 4096 * c.units) (sym (added.put.others v other)) size, subst P (sym (added.put.others v other)) is)
  ]

  -- a changed cell that someone still has
  pub sized_kept : (n : ℕ) (c : Cell) → is_used c ≡ true → Sized P n c → Sized P n (kept c)
  sized_kept n c used is = subst (Sized P n) (sym (kept_used c used)) is

-- a block in use has a unit
pub used_some : (cells : List Cell) (space : Space) (u : ℕ) → AreUnits cells space → is_used (cell_at cells u) ≡ true → 1 ≤ (cell_at cells u).units
used_some cells space u units used = elim (cases_lt 0 (cell_at cells u).units) [
  | inl some ↦ omega (arith, some)
  | inr none ↦ absurd (false≢true (sym (ap is_used (units.empty u (omega (arith, none)))) ∙ used))
]

-- a free range does not reach over a byte of a block
pub hit : (cells : List Cell) (space : Space) (u at n b : ℕ) → AreUnits cells space → Fits space at n → at ≤ b → b < at + n → 8192 + 4096 * u ≤ b → b < 8192 + 4096 * u + 4096 * (cell_at cells u).units → ⊥
hit cells space u at n b units fits low high from to = units.held u ((b - 8192) / 4096) (omega (arith, from), omega (arith, from, to)) (fits b low high).1

pub spot_apart : (cells : List Cell) (space : Space) (n capacity at : ℕ) → AreUnits cells space → 1 ≤ n → IsSpot space n capacity at → (i m : ℕ) → Has cells i m → Apart at n i m
spot_apart cells space n capacity at units some spot i m (u, place, size, used) meets = elim (cases_lt i (at + n)) [
  | inr behind ↦ behind
  | inl over ↦ elim spot [
    | inl run ↦ elim (cases_lt at i) [
      | inl before ↦ absurd (hit cells space u at n i units run.fits (omega (arith, before)) over (omega (arith, place)) (omega (arith, place, used_some cells space u units used)))
      | inr from ↦ absurd (hit cells space u at n at units run.fits (omega arith) (omega (arith, some)) (omega (arith, place, from)) (omega (arith, place, size, meets)))
    ]
    | inr end ↦ absurd (omega (arith, end.1, place, size, meets, units.within u (used_some cells space u units used)))
  ]
]

pub spot_behind : (space : Space) (n capacity at : ℕ) → 1 ≤ n → IsSpot space n capacity at → 8192 ≤ at
spot_behind space n capacity at some spot = elim spot [ inl run ↦ (run.fits at (omega arith) (omega (arith, some))).0 | inr end ↦ omega (arith, end.1) ]

pub spot_keeps : (cells : List Cell) (space : Space) (n capacity at : ℕ) (old new : List ℕ) → AreUnits cells space → 1 ≤ n → IsSpot space n capacity at → Torn at n old new → Keeps (Has cells) old new
spot_keeps cells space n capacity at old new units some spot torn = keeps_torn (Has cells) at n old new (spot_behind space n capacity at some spot) (spot_apart cells space n capacity at units some spot) torn

-- a cell that nobody but the live tree has, once that lets go of it
pub unused_nothing : (c : Cell) → c.is_running ≡ false → c.is_last ≡ false → c.names ≡ 0 → kept (record c { is_live = false }) ≡ nothing
unused_nothing c running last names = ap (λ (b : Bool). cond b (record c { is_live = false }) nothing) unused
  where
    unused : is_used (record c { is_live = false }) ≡ false
    unused = ap (λ (x : Bool). false || (x || (c.is_last || nat_lt 0 c.names))) running ∙ (ap (λ (x : Bool). false || (false || (x || nat_lt 0 c.names))) last ∙ ap (λ (k : ℕ). nat_lt 0 k) names)

-- what a changed cell is by cases
kept_not_live : (c : Cell) (b : Bool) → (cond b (record c { is_live = false }) nothing).is_live ≡ false
kept_not_live c true = refl
kept_not_live c false = refl

pub freed_not_live : (cells : List Cell) (v u : ℕ) → v ≡ u → (cell_at (set cells v (kept (record (cell_at cells v) { is_live = false }))) u).is_live ≡ true → ⊥
freed_not_live cells v u same live = elim (cases_lt v (length cells)) [
  | inl within ↦ false≢true (sym (kept_not_live (cell_at cells v) (is_used (record (cell_at cells v) { is_live = false }))) ∙ (ap (λ (c : Cell). c.is_live) (sym (get_or-set_same cells v (kept (record (cell_at cells v) { is_live = false })) nothing within)) ∙ (ap (λ (k : ℕ). (cell_at (set cells v (kept (record (cell_at cells v) { is_live = false }))) k).is_live) same ∙ live)))
  | inr past ↦ false≢true (sym (ap (λ (c : Cell). c.is_live) (get_or_past cells u nothing (omega (arith, past, same)))) ∙ (ap (λ (l : List Cell). (cell_at l u).is_live) (sym (set_past cells v (kept (record (cell_at cells v) { is_live = false })) past)) ∙ live))
]
