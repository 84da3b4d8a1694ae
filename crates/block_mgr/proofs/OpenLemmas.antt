-- The cells of the addresses that were found, and which of them agree.
use Rattle.std.specs.Prelude.{◌≡◌, ◌⊎◌, ℕ, zero, suc, ◌+◌, ◌-◌, ◌*◌, ◌/◌, ◌%◌, ◌^◌, ◌<◌, ◌≤◌, ◌||◌, ◌∷◌, [], Bool, true, false, cond, List, length, take, set, refl}
use Rattle.std.specs.List.{fold}
use Rattle.std.proofs.Common.{inl, inr, sym, ◌∙◌, ap, subst, arith, eq-eqb, add-one}
use Rattle.std.proofs.Math.Seq.{take-suc}
use Rattle.std.proofs.lemmas.Bool.{cases_lt, cases_eq, ne_eqb, false≢true}
use Rattle.std.proofs.lemmas.List.{get_or-set_same, get_or-set_other}
use Rattle.std.proofs.lemmas.List.Sums.{fold-append}
use Rattle.extent_list.specs.Space.{Space, end_of, IsFree, Fits as Fit}
use Rattle.block_mgr.specs.declared.cell.Cell.{Cell}
use Rattle.block_mgr.specs.declared.found.Found.{Found}
use Rattle.block_mgr.specs.declared.found.Holder.{Holder}
use Rattle.block_mgr.specs.declared.found.Holder.TheVariants.{Tree, Last, Named}
use Rattle.block_mgr.specs.Cells.{AreUnits, cell_at, nothing}
use Rattle.block_mgr.specs.Blocks.{unit_of}
use Rattle.block_mgr.specs.Found.{lasts, name_count}
use Rattle.block_mgr.specs.Open.{no_found, found_at, found_cell, joined, with_found, Fits, Agree, AgreeUpTo}
use Rattle.block_mgr.proofs.UnitLemmas.{unit_free}
use Rattle.block_mgr.proofs.HasLemmas.{hit}

or_false : (a b : Bool) → (a || b) ≡ false → (a ≡ false) × (b ≡ false)
or_false true b is = absurd (false≢true (sym is))
or_false false b is = (refl, is)

pub here : (u : ℕ) (c : Cell) (f : Found) → f.addr.offset ≡ 8192 + 4096 * u → with_found u c f ≡ joined c f
here u c f is = ap (λ (b : Bool). cond b (joined c f) c) (eq-eqb f.addr.offset (8192 + 4096 * u) is)

-- a holder stands for one named checkpoint at most
at_most_one : (f : Found) → name_count f.holder ≤ 1
at_most_one f = few f.holder
  where
    few : (h : Holder) → name_count h ≤ 1
    few Tree = omega arith
    few Last = omega arith
    few Named = omega arith

pub elsewhere : (u : ℕ) (c : Cell) (f : Found) → (f.addr.offset ≡ 8192 + 4096 * u → ⊥) → with_found u c f ≡ c
elsewhere u c f other = ap (λ (b : Bool). cond b (joined c f) c) (ne_eqb f.addr.offset (8192 + 4096 * u) other)

module _ (found : List Found) where
  pub more : (k u : ℕ) → k < length found → found_cell (take (suc k) found) u ≡ with_found u (found_cell (take k found) u) (found_at found k)
  more k u lt = ap (λ (l : List Found). fold (with_found u) nothing l) (take-suc found k no_found lt) ∙ fold-append (with_found u) nothing (take k found) (found_at found k ∷ [])

  -- the next address is at the unit, or it is not
  next : (k u : ℕ) → k < length found → ((found_at found k).addr.offset ≡ 8192 + 4096 * u) × (found_cell (take (suc k) found) u ≡ joined (found_cell (take k found) u) (found_at found k)) ⊎ (((found_at found k).addr.offset ≡ 8192 + 4096 * u → ⊥) × (found_cell (take (suc k) found) u ≡ found_cell (take k found) u))
  next k u lt = elim (cases_eq (found_at found k).addr.offset (8192 + 4096 * u)) [
    | inl at ↦ inl (at, more k u lt ∙ here u (found_cell (take k found) u) (found_at found k) at)
    | inr other ↦ inr (other, more k u lt ∙ elsewhere u (found_cell (take k found) u) (found_at found k) other)
  ]

  -- addresses of one offset that agree have one size
  one_size : (k j : ℕ) → Agree (found_at found j) (found_at found k) → 1 ≤ (found_at found j).addr.size → 1 ≤ (found_at found k).addr.size → (found_at found j).addr.offset ≡ (found_at found k).addr.offset → (found_at found j).addr.size ≡ (found_at found k).addr.size
  one_size k j agree some more same = elim agree [
    | inl apart ↦ absurd (elim apart [ inl low ↦ omega (arith, low, same, some) | inr high ↦ omega (arith, high, same, more) ])
    | inr shared ↦ shared.size
  ]

  -- the cell at an address has its size
  pub units_known : (k j u : ℕ) → k ≤ length found → AgreeUpTo found k → ((i : ℕ) → i < length found → 1 ≤ (found_at found i).addr.size) → j < k → (found_at found j).addr.offset ≡ 8192 + 4096 * u → (found_cell (take k found) u).units ≡ (found_at found j).addr.size / 4096
  units_known zero j u le agree some lt at = absurd (omega (arith, lt))
  units_known (suc k) j u le agree some lt at = elim (next k u (omega (arith, le))) [
    | inl is ↦ ap (λ (c : Cell). c.units) is.1 ∙ elim (cases_eq j k) [
      | inl same ↦ ap (λ (i : ℕ). (found_at found i).addr.size / 4096) (sym same)
      | inr other ↦ ap (λ (n : ℕ). n / 4096) (sym (one_size k j (agree j k (omega (arith, lt, other)) (omega arith)) (some j (omega (arith, lt, le))) (some k (omega (arith, le))) (at ∙ sym is.0)))
    ]
    | inr is ↦ ap (λ (c : Cell). c.units) is.1 ∙ units_known k j u (omega (arith, le)) (λ i h less lower. agree i h less (omega (arith, lower))) some (before is.0) at
  ]
    where
      before : ((found_at found k).addr.offset ≡ 8192 + 4096 * u → ⊥) → j < k
      before other = elim (cases_eq j k) [ inl same ↦ absurd (other (subst (λ (i : ℕ). (found_at found i).addr.offset ≡ 8192 + 4096 * u) same at)) | inr apart ↦ omega (arith, lt, apart) ]

  -- where the last checkpoint does not have it, no address says that it does
  pub named_all : (k j u : ℕ) → k ≤ length found → (found_cell (take k found) u).is_last ≡ false → j < k → (found_at found j).addr.offset ≡ 8192 + 4096 * u → lasts (found_at found j).holder ≡ false
  named_all zero j u le none lt at = absurd (omega (arith, lt))
  named_all (suc k) j u le none lt at = elim (next k u (omega (arith, le))) [
    | inl is ↦
        let both = or_false (lasts (found_at found k).holder) (found_cell (take k found) u).is_last (sym (ap (λ (c : Cell). c.is_last) is.1) ∙ none) in
        elim (cases_eq j k) [
          | inl same ↦ subst (λ (i : ℕ). lasts (found_at found i).holder ≡ false) (sym same) both.0
          | inr other ↦ named_all k j u (omega (arith, le)) both.1 (omega (arith, lt, other)) at
        ]
    | inr is ↦ elim (cases_eq j k) [
      | inl same ↦ absurd (is.0 (subst (λ (i : ℕ). (found_at found i).addr.offset ≡ 8192 + 4096 * u) same at))
      | inr apart ↦ named_all k j u (omega (arith, le)) (sym (ap (λ (c : Cell). c.is_last) is.1) ∙ none) (omega (arith, lt, apart)) at
    ]
  ]

  -- where it does, an address says so
  pub last_one : (k u : ℕ) → k ≤ length found → (found_cell (take k found) u).is_last ≡ true → (j : ℕ) × (j < k) × ((found_at found j).addr.offset ≡ 8192 + 4096 * u) × (lasts (found_at found j).holder ≡ true)
  last_one zero u le last = absurd (false≢true last)
  last_one (suc k) u le last = elim (next k u (omega (arith, le))) [
    | inl is ↦ go (lasts (found_at found k).holder) refl is.0 (sym (ap (λ (c : Cell). c.is_last) is.1) ∙ last) (λ before. last_one k u (omega (arith, le)) before)
    | inr is ↦ let found_one = last_one k u (omega (arith, le)) (sym (ap (λ (c : Cell). c.is_last) is.1) ∙ last) in (found_one.0, omega (arith, found_one.1), found_one.2, found_one.3)
  ]
    where
      go : (b : Bool) → lasts (found_at found k).holder ≡ b → (found_at found k).addr.offset ≡ 8192 + 4096 * u → (lasts (found_at found k).holder || (found_cell (take k found) u).is_last) ≡ true
          → ((found_cell (take k found) u).is_last ≡ true → (j : ℕ) × (j < k) × ((found_at found j).addr.offset ≡ 8192 + 4096 * u) × (lasts (found_at found j).holder ≡ true))
          → (j : ℕ) × (j < suc k) × ((found_at found j).addr.offset ≡ 8192 + 4096 * u) × (lasts (found_at found j).holder ≡ true)
      go true is at either earlier = (k, omega arith, at, is)
      go false is at either earlier = let found_one = earlier (sym (ap (λ (b : Bool). b || (found_cell (take k found) u).is_last) is) ∙ either) in (found_one.0, omega (arith, found_one.1), found_one.2, found_one.3)

  -- each block is that of an address
  pub from_one : (k u : ℕ) → k ≤ length found → 1 ≤ (found_cell (take k found) u).units → (j : ℕ) × (j < k) × ((found_at found j).addr.offset ≡ 8192 + 4096 * u) × ((found_cell (take k found) u).units ≡ (found_at found j).addr.size / 4096)
  from_one zero u le some = absurd (omega (arith, some))
  from_one (suc k) u le some = elim (next k u (omega (arith, le))) [
    | inl is ↦ (k, omega arith, is.0, ap (λ (c : Cell). c.units) is.1)
    | inr is ↦ let found_one = from_one k u (omega (arith, le)) (omega (arith, some, ap (λ (c : Cell). c.units) is.1)) in (found_one.0, omega (arith, found_one.1), found_one.2, ap (λ (c : Cell). c.units) is.1 ∙ found_one.3)
  ]

  pub names_few : (k u : ℕ) → k ≤ length found → (found_cell (take k found) u).names ≤ k
  names_few zero u le = omega arith
  names_few (suc k) u le = elim (next k u (omega (arith, le))) [
    | inl is ↦ omega (arith, ap (λ (c : Cell). c.names) is.1, names_few k u (omega (arith, le)), at_most_one (found_at found k))
    | inr is ↦ omega (arith, ap (λ (c : Cell). c.names) is.1, names_few k u (omega (arith, le)))
  ]

  pub not_running : (k u : ℕ) → k ≤ length found → (found_cell (take k found) u).is_running ≡ false
  not_running zero u le = refl
  not_running (suc k) u le = elim (next k u (omega (arith, le))) [
    | inl is ↦ ap (λ (c : Cell). c.is_running) is.1
    | inr is ↦ ap (λ (c : Cell). c.is_running) is.1 ∙ not_running k u (omega (arith, le))
  ]

  module _ (cells : List Cell) (space : Space) (i end : ℕ) (units : AreUnits cells space) (same : (u : ℕ) → cell_at cells u ≡ found_cell (take i found) u) (agree : AgreeUpTo found i) (fit : (k : ℕ) → k < length found → Fits (found_at found k) end) (within : i < length found) where
    some : (k : ℕ) → k < length found → 1 ≤ (found_at found k).addr.size
    some k lt = omega (arith, (fit k lt).0.some)

    at_unit : (k : ℕ) → k < length found → (found_at found k).addr.offset ≡ 8192 + 4096 * unit_of (found_at found k).addr.offset
    at_unit k lt = omega (arith, (fit k lt).0.behind, (fit k lt).0.unit)

    known : (j : ℕ) → j < i → (cell_at cells (unit_of (found_at found j).addr.offset)).units ≡ (found_at found j).addr.size / 4096
    known j lt = ap (λ (c : Cell). c.units) (same (unit_of (found_at found j).addr.offset)) ∙ units_known i j (unit_of (found_at found j).addr.offset) (omega (arith, within)) agree some lt (at_unit j (omega (arith, lt, within)))

    -- a block that was admitted agrees with those before it
    pub agrees : (j : ℕ) → j < i
        → Fit space (found_at found i).addr.offset (found_at found i).addr.size ⊎ ((cell_at cells (unit_of (found_at found i).addr.offset)).units ≡ (found_at found i).addr.size / 4096) × ((lasts (found_at found i).holder ≡ false) ⊎ ((cell_at cells (unit_of (found_at found i).addr.offset)).is_last ≡ false))
        → Agree (found_at found j) (found_at found i)
    agrees j lt admitted =
        let x : ℕ = (found_at found j).addr.offset in
        let m : ℕ = (found_at found j).addr.size in
        let y : ℕ = (found_at found i).addr.offset in
        let n : ℕ = (found_at found i).addr.size in
        let early : j < length found = omega (arith, lt, within) in
        let place_x : x ≡ 8192 + 4096 * unit_of x = at_unit j early in
        let place_y : y ≡ 8192 + 4096 * unit_of y = at_unit i within in
        let whole_x : m % 4096 ≡ 0 = (fit j early).0.whole in
        let whole_y : n % 4096 ≡ 0 = (fit i within).0.whole in
        let some_x : 1 ≤ m = some j early in
        let some_y : 1 ≤ n = some i within in
        let size_x : (cell_at cells (unit_of x)).units ≡ m / 4096 = known j lt in
        elim admitted [
          | inl free ↦ elim (cases_lt y (x + m)) [
            | inr behind ↦ inl (inl behind)
            | inl over ↦ elim (cases_lt x (y + n)) [
              | inr before ↦ inl (inr before)
              | inl meets ↦ elim (cases_lt x y) [
                | inl low ↦ absurd (hit cells space (unit_of x) y n y units free (omega arith) (omega (arith, some_y)) (omega (arith, place_x, low)) (omega (arith, place_x, size_x, over, whole_x)))
                | inr high ↦ absurd (hit cells space (unit_of x) y n x units free high meets (omega (arith, place_x)) (omega (arith, place_x, size_x, whole_x, some_x)))
              ]
            ]
          ]
          | inr shared ↦ elim (cases_eq x y) [
            | inl one ↦ inr (record {
              offset = one;
              size = omega (arith, whole_x, whole_y, size_x, shared.0, ap (λ (k : ℕ). (cell_at cells (unit_of k)).units) one);
              shared = elim shared.1 [
                | inl named ↦ inr named
                | inr none ↦ inl (named_all i j (unit_of y) (omega (arith, within)) (sym (ap (λ (c : Cell). c.is_last) (same (unit_of y))) ∙ none) lt (one ∙ place_y))
              ];
            })
            | inr other ↦ elim (cases_lt (unit_of x) (unit_of y)) [
              | inl low ↦ inl (inl (omega (arith, place_x, place_y, size_x, whole_x, units.apart (unit_of x) (unit_of y) low (omega (arith, shared.0, whole_y, some_y)))))
              | inr high ↦ inl (inr (omega (arith, place_x, place_y, shared.0, whole_y, units.apart (unit_of y) (unit_of x) (omega (arith, high, other, place_x, place_y)) (omega (arith, size_x, whole_x, some_x)))))
            ]
          ]
        ]

    -- one that was not does not agree with one of them
    pub clashes : (b : ℕ) → (found_at found i).addr.offset ≤ b → b < (found_at found i).addr.offset + (found_at found i).addr.size → (IsFree space b → ⊥) → end_of space ≡ end
        → ((cell_at cells (unit_of (found_at found i).addr.offset)).units ≡ (found_at found i).addr.size / 4096 → (lasts (found_at found i).holder ≡ true) × ((cell_at cells (unit_of (found_at found i).addr.offset)).is_last ≡ true))
        → (j : ℕ) × (j < i) × (Agree (found_at found j) (found_at found i) → ⊥)
    clashes b low high held ends clash =
        let y : ℕ = (found_at found i).addr.offset in
        let n : ℕ = (found_at found i).addr.size in
        let place_y : y ≡ 8192 + 4096 * unit_of y = at_unit i within in
        let whole_y : n % 4096 ≡ 0 = (fit i within).0.whole in
        let some_y : 1 ≤ n = some i within in
        elim (cases_eq (cell_at cells (unit_of y)).units (n / 4096)) [
          | inl is ↦
              let both = clash is in
              let one = last_one i (unit_of y) (omega (arith, within)) (sym (ap (λ (c : Cell). c.is_last) (same (unit_of y))) ∙ both.1) in (
                one.0,
                one.1,
                λ agree. elim agree [
                  | inl apart ↦ elim apart [ inl before ↦ omega (arith, before, one.2, place_y, some one.0 (omega (arith, one.1, within))) | inr behind ↦ omega (arith, behind, one.2, place_y, some_y) ]
                  | inr shared ↦ elim shared.shared [ inl none ↦ false≢true (sym none ∙ one.3) | inr none ↦ false≢true (sym none ∙ both.0) ]
                ],
              )
          | inr other ↦
              let w : ℕ = (b - 8192) / 4096 in
              elim (units.all w (omega (arith, high, (fit i within).1, ends, low, place_y))) [
                | inl free ↦ absurd (held (omega (arith, low, place_y), free))
                | inr there ↦
                    let v : ℕ = there.0 in
                    let cell : cell_at cells v ≡ found_cell (take i found) v = same v in
                    let has : 1 ≤ (found_cell (take i found) v).units = omega (arith, there.1.0, there.1.1, ap (λ (c : Cell). c.units) cell) in
                    let one = from_one i v (omega (arith, within)) has in
                    let early : one.0 < length found = omega (arith, one.1, within) in
                    let whole_x : (found_at found one.0).addr.size % 4096 ≡ 0 = (fit one.0 early).0.whole in
                    let size_x : (cell_at cells v).units ≡ (found_at found one.0).addr.size / 4096 = ap (λ (c : Cell). c.units) cell ∙ one.3 in (
                      one.0,
                      one.1,
                      λ agree. elim agree [
                        | inl apart ↦ elim apart [ inl before ↦ omega (arith, before, low, there.1.1, size_x, whole_x, one.2, place_y) | inr behind ↦ omega (arith, behind, high, there.1.0, one.2, low, place_y) ]
                        | inr shared ↦
                            let is_v : v ≡ unit_of y = omega (arith, one.2, shared.offset, place_y) in
                            other (sym (ap (λ (k : ℕ). (cell_at cells k).units) is_v) ∙ (size_x ∙ ap (λ (k : ℕ). k / 4096) shared.size))
                      ],
                    )
              ]
        ]

-- one address more
module _ (found : List Found) (cells new : List Cell) (i : ℕ) (within : i < length found) (same : (u : ℕ) → cell_at cells u ≡ found_cell (take i found) u)
    (place : (found_at found i).addr.offset ≡ 8192 + 4096 * unit_of (found_at found i).addr.offset) (there : unit_of (found_at found i).addr.offset < length cells)
    (is : new ≡ set cells (unit_of (found_at found i).addr.offset) (joined (cell_at cells (unit_of (found_at found i).addr.offset)) (found_at found i))) where
  pub cells_more : (u : ℕ) → cell_at new u ≡ found_cell (take (i + 1) found) u
  cells_more u =
      let f : Found = found_at found i in
      let v : ℕ = unit_of f.addr.offset in
      let taken : found_cell (take (suc i) found) u ≡ found_cell (take (i + 1) found) u = ap (λ (k : ℕ). found_cell (take k found) u) (sym (add-one i)) in
      ap (λ (l : List Cell). cell_at l u) is ∙ (elim (cases_eq u v) [
        | inl here_is ↦ ap (λ (k : ℕ). cell_at (set cells v (joined (cell_at cells v) f)) k) here_is ∙ (get_or-set_same cells v (joined (cell_at cells v) f) nothing there ∙ (ap (λ (c : Cell). joined c f) (ap (λ (k : ℕ). cell_at cells k) (sym here_is) ∙ same u) ∙ sym (more found i u within ∙ here u (found_cell (take i found) u) f (place ∙ ap (λ (k : ℕ). 8192 + 4096 * k) (sym here_is)))))
        | inr other ↦ get_or-set_other cells v u (joined (cell_at cells v) f) nothing other ∙ (same u ∙ sym (more found i u within ∙ elsewhere u (found_cell (take i found) u) f (λ at. other (omega (arith, at, place)))))
      ] ∙ taken)

-- a device with no block
pub units_none : (cells : List Cell) (space : Space) (end : ℕ) → ((u : ℕ) → cell_at cells u ≡ nothing) → length cells ≡ (end - 8192) / 4096 → end_of space ≡ end → 8192 ≤ end → end < 2 ^ 64 → Fit space 8192 (end - 8192) → AreUnits cells space
units_none cells space end none long ends behind small free = record {
  small = omega (arith, ends, small);
  long = omega (arith, long, ends);
  within = λ u more. absurd (omega (arith, ap (λ (c : Cell). c.units) (none u), more));
  apart = λ u v lt more. absurd (omega (arith, ap (λ (c : Cell). c.units) (none v), more));
  held = λ u v covers is. absurd (omega (arith, ap (λ (c : Cell). c.units) (none u), covers.0, covers.1));
  all = λ v lt. inl (unit_free space v (free (8192 + 4096 * v) (omega arith) (omega (arith, lt, ends, behind))));
  used = λ u more. absurd (omega (arith, ap (λ (c : Cell). c.units) (none u), more));
  empty = λ u is. none u;
}
