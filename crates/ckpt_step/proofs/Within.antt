-- Once blocks are captured, the books still end within the device.
use Rattle.std.specs.Prelude.{◌≡◌, ℕ, ◌+◌, ◌-◌, ◌*◌, ◌/◌, ◌<◌, ◌≤◌, true, false, List, [], ◌∷◌, length, slice_index_or}
use Rattle.std.proofs.Common.{inl, inr, sym, ◌∙◌, ap, subst, arith}
use Rattle.std.proofs.lemmas.Bool.{cases_lt}
use Rattle.extent_list.specs.Space.{IsFree, Space, end_of}
use Rattle.extent_list.proofs.SpaceLemmas.{free_before_end}
use Rattle.block_mgr.specs.declared.cell.Cell.{Cell}
use Rattle.block_mgr.specs.Blocks.{Books, Has}
use Rattle.block_mgr.specs.Cells.{AreUnits, cell_at}
use Rattle.device_layout.specs.declared.addr.Addr.{Addr}
use Rattle.stored.specs.Blocks.{Block, Holds, IsAt}
use Rattle.checkpoint_core.specs.Stands.{AreInUse}
use Rattle.tree_write.specs.Captures.{places_of, with_addrs}
use Rattle.tree_write.specs.Sizes.{PlacesAll}
use Rattle.ckpt_step.proofs.Cells.{which}
use Rattle.ckpt_step.proofs.Members.{all_of, member_map}

-- what is free once blocks have places was free before
was_free : (space last : Space) (capacity : ℕ) (sizes : List ℕ) (b : ℕ) → PlacesAll space capacity sizes last → IsFree last b → IsFree space b
was_free space last capacity [] b same free = subst (λ (s : Space). IsFree s b) same free
was_free space last capacity (size ∷ sizes) b (next, at, taken, more) free =
    let before : IsFree next b = was_free next last capacity sizes b more free in
    elim (cases_lt b at) [
      | inl low ↦ (taken.1.low b low).0 before
      | inr not_low ↦ elim (cases_lt b (at + size)) [
        | inl inside ↦ absurd (taken.1.held b not_low inside before)
        | inr high ↦ (taken.1.high b high).0 before
      ]
    ]

pub ends_within : (books books' : Books) (capacity : ℕ) (sizes : List ℕ) (blocks : List Block) (bytes : List ℕ) → AreUnits books.cells books.space → AreUnits books'.cells books'.space → end_of books.space ≤ length bytes → 8192 ≤ length bytes → PlacesAll books.space capacity sizes books'.space
    → Holds bytes blocks → AreInUse books'.cells blocks → ((u : ℕ) → cell_at books'.cells u ≡ with_addrs u (cell_at books.cells u) (places_of blocks)) → end_of books'.space ≤ length bytes
ends_within books books' capacity sizes blocks bytes units units' within long places holds used cells = elim (cases_lt 0 (length books'.space.units)) [
  | inr none ↦ omega (arith, none, long)
  | inl some ↦ last (length books'.space.units - 1) (omega (arith, some))
]
  where
    covered : (u v : ℕ) → v + 1 ≡ length books'.space.units → u ≤ v → v < u + (cell_at books'.cells u).units → end_of books'.space ≤ length bytes
    covered u v top low high = elim (which u (places_of blocks)) [
      | inr none ↦
          let same : (cell_at books'.cells u).units ≡ (cell_at books.cells u).units = ap (λ (c : Cell). c.units) (cells u ∙ none.half (cell_at books.cells u)) in
          let le = units.within u (omega (arith, low, high, same)) in
          omega (arith, le, same, top, high, within)
      | inl one ↦
          let b = member_map {A = Block} (λ x. x.place) one.addr (places_of_blocks) one.there in
          let at : IsAt bytes b.0 = all_of (λ (x : Block). IsAt bytes x) blocks b.0 holds b.1 in
          let has : Has books'.cells b.0.place.offset b.0.place.size = all_of (λ (x : Block). Has books'.cells x.place.offset x.place.size) blocks b.0 used b.1 in
          let begins : b.0.place.offset ≡ 8192 + 4096 * u = ap (λ (a : Addr). a.offset) (sym b.2) ∙ one.at in
          let unit : has.0 ≡ u = omega (arith, has.1, begins) in
          let size : b.0.place.size ≡ 4096 * (cell_at books'.cells u).units = has.2 ∙ ap (λ (k : ℕ). 4096 * (cell_at books'.cells k).units) unit in
          omega (arith, at.within, begins, size, top, high)
    ]
      where
        places_of_blocks : List Block
        places_of_blocks = blocks

    last : (v : ℕ) → v + 1 ≡ length books'.space.units → end_of books'.space ≤ length bytes
    last v top = elim (units'.all v (omega (arith, top))) [
      | inl free ↦
          let b : ℕ = 8192 + 4096 * v in
          let unit : (b - 8192) / 4096 ≡ v = omega arith in
          let is : IsFree books'.space b = (omega arith, subst (λ (k : ℕ). slice_index_or books'.space.units k false ≡ true) (sym unit) free) in
          let before = free_before_end books.space b (was_free books.space books'.space capacity sizes b places is) in
          omega (arith, before, top, within)
      | inr (u, covers) ↦ covered u v top covers.0 covers.1
    ]
