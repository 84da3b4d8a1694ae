-- What a changed cell leaves of the units.
use Rattle.std.specs.Prelude.{◌≡◌, ◌⊎◌, ℕ, ◌+◌, ◌-◌, ◌*◌, ◌/◌, ◌^◌, ◌<◌, ◌≤◌, true, false, List, length, set, get_or, refl}
use Rattle.std.proofs.Common.{inl, inr, sym, ◌∙◌, ap, subst, arith}
use Rattle.std.proofs.lemmas.Bool.{cases_lt, cases_eq, false≢true}
use Rattle.std.proofs.lemmas.List.{get_or-set_same, get_or-set_other, length-set, ext_get_or}
use Rattle.extent_list.proofs.SpaceLemmas.{undone}
use Rattle.extent_list.specs.Space.{Space, end_of, Fits, IsFree, IsHeld, IsPlace, Gave, Took, Taken, PutBack}
use Rattle.block_mgr.specs.declared.cell.Cell.{Cell}
use Rattle.block_mgr.specs.Cells.{Holdings, nothing, cell_at, is_used, IsLive, fresh, Covers, AreUnits, Put}

is_unit : (v : ℕ) → (8192 + 4096 * v - 8192) / 4096 ≡ v
is_unit v = omega arith

-- the first byte of a unit is free where the unit is
pub byte_free : (space : Space) (v : ℕ) → get_or space.units v false ≡ true → IsFree space (8192 + 4096 * v)
byte_free space v free = (omega arith, subst (λ (k : ℕ). get_or space.units k false ≡ true) (sym (is_unit v)) free)

pub unit_free : (space : Space) (v : ℕ) → IsFree space (8192 + 4096 * v) → get_or space.units v false ≡ true
unit_free space v free = subst (λ (k : ℕ). get_or space.units k false ≡ true) (is_unit v) free.1

module _ (cells : List Cell) (space : Space) (u : ℕ) (units : AreUnits cells space) (within : u < length cells) where
  -- another cell of the same block
  pub same_block : (next : Cell) → next.units ≡ (cell_at cells u).units → 1 ≤ next.units → is_used next ≡ true → AreUnits (set cells u next) space
  same_block next same some used = record {
    small = units.small;
    long = length-set cells u next ∙ units.long;
    within = λ v more. omega (arith, size v, units.within v (omega (arith, size v, more)));
    apart = λ v w lt more. omega (arith, size v, units.apart v w lt (omega (arith, size w, more)));
    held = λ v w covers free. units.held v w (covers.0, omega (arith, covers.1, size v)) free;
    all = λ w lt. elim (units.all w lt) [
      | inl free ↦ inl free
      | inr there ↦ inr (there.0, (there.1.0, omega (arith, there.1.1, size there.0)))
    ];
    used = λ v more. elim (cases_eq v u) [
      | inl here ↦ subst (λ (c : Cell). is_used c ≡ true) (sym (is_next v here)) used
      | inr other ↦ subst (λ (c : Cell). is_used c ≡ true) (sym (is_old v other)) (units.used v (omega (arith, size v, more)))
    ];
    empty = λ v none. elim (cases_eq v u) [
      | inl here ↦ absurd (omega (arith, some, ap (λ (c : Cell). c.units) (is_next v here), none))
      | inr other ↦ is_old v other ∙ units.empty v (omega (arith, size v, none))
    ];
  }
    where
      is_next : (v : ℕ) → v ≡ u → cell_at (set cells u next) v ≡ next
      is_next v here = ap (λ (k : ℕ). cell_at (set cells u next) k) here ∙ get_or-set_same cells u next nothing within

      is_old : (v : ℕ) → (v ≡ u → ⊥) → cell_at (set cells u next) v ≡ cell_at cells v
      is_old v other = get_or-set_other cells u v next nothing other

      size : (v : ℕ) → (cell_at (set cells u next) v).units ≡ (cell_at cells v).units
      size v = elim (cases_eq v u) [
        | inl here ↦ ap (λ (c : Cell). c.units) (is_next v here) ∙ (same ∙ ap (λ (k : ℕ). (cell_at cells k).units) (sym here))
        | inr other ↦ ap (λ (c : Cell). c.units) (is_old v other)
      ]

  pub is_place : (n : ℕ) → n ≡ (cell_at cells u).units → 1 ≤ n → IsPlace space (8192 + 4096 * u) (4096 * n)
  is_place n same some = record {
    behind = omega arith;
    within = omega (arith, same, units.within u (omega (arith, same, some)));
    whole = omega arith;
  }

  pub is_held : (n : ℕ) → n ≡ (cell_at cells u).units → IsHeld space (8192 + 4096 * u) (4096 * n)
  is_held n same b low high free = units.held u ((b - 8192) / 4096) (omega (arith, low), omega (arith, low, high, same)) free.1

  -- no block here any more, and its units are free
  pub block_gone : (n : ℕ) (new : Space) → n ≡ (cell_at cells u).units → 1 ≤ n → end_of new ≡ end_of space → Gave space new (8192 + 4096 * u) (4096 * n) → AreUnits (set cells u nothing) new
  block_gone n new same some ends gave = record {
    small = omega (arith, units.small, ends);
    long = omega (arith, length-set cells u nothing, units.long, ends);
    within = λ v more. elim (cases_eq v u) [
      | inl here ↦ absurd (omega (arith, ap (λ (c : Cell). c.units) (is_nothing v here), more))
      | inr other ↦ omega (arith, ends, size v other, units.within v (omega (arith, size v other, more)))
    ];
    apart = λ v w lt more. elim (cases_eq w u) [
      | inl here ↦ absurd (omega (arith, ap (λ (c : Cell). c.units) (is_nothing w here), more))
      | inr other ↦ elim (cases_eq v u) [
        | inl here ↦ omega (arith, ap (λ (c : Cell). c.units) (is_nothing v here), lt)
        | inr apart ↦ omega (arith, size v apart, units.apart v w lt (omega (arith, size w other, more)))
      ]
    ];
    held = λ v w covers free. elim (cases_eq v u) [
      | inl here ↦ absurd (omega (arith, ap (λ (c : Cell). c.units) (is_nothing v here), covers.0, covers.1))
      | inr other ↦
          let was : Covers cells v w = (covers.0, omega (arith, covers.1, size v other)) in
          elim ((gave (8192 + 4096 * w)).0 (byte_free new w free)) [
            | inl old ↦ units.held v w was (unit_free space w old)
            | inr given ↦ elim (cases_lt v u) [
              | inl before ↦ omega (arith, given.0, was.1, units.apart v u before (omega (arith, same, some)))
              | inr behind ↦ omega (arith, given.1, was.0, same, units.apart u v (omega (arith, behind, other)) (omega (arith, was.0, was.1)))
            ]
          ]
    ];
    all = λ w lt. elim (units.all w (omega (arith, lt, ends))) [
      | inl free ↦ inl (unit_free new w ((gave (8192 + 4096 * w)).1 (inl (byte_free space w free))))
      | inr there ↦ elim (cases_eq there.0 u) [
        | inl here ↦ inl (unit_free new w ((gave (8192 + 4096 * w)).1 (inr (omega (arith, there.1.0, here), omega (arith, there.1.1, ap (λ (k : ℕ). (cell_at cells k).units) here, here, same)))))
        | inr other ↦ inr (there.0, (there.1.0, omega (arith, there.1.1, size there.0 other)))
      ]
    ];
    used = λ v more. elim (cases_eq v u) [
      | inl here ↦ absurd (omega (arith, ap (λ (c : Cell). c.units) (is_nothing v here), more))
      | inr other ↦ subst (λ (c : Cell). is_used c ≡ true) (sym (is_old v other)) (units.used v (omega (arith, size v other, more)))
    ];
    empty = λ v none. elim (cases_eq v u) [
      | inl here ↦ is_nothing v here
      | inr other ↦ is_old v other ∙ units.empty v (omega (arith, size v other, none))
    ];
  }
    where
      is_nothing : (v : ℕ) → v ≡ u → cell_at (set cells u nothing) v ≡ nothing
      is_nothing v here = ap (λ (k : ℕ). cell_at (set cells u nothing) k) here ∙ get_or-set_same cells u nothing nothing within

      is_old : (v : ℕ) → (v ≡ u → ⊥) → cell_at (set cells u nothing) v ≡ cell_at cells v
      is_old v other = get_or-set_other cells u v nothing nothing other

      size : (v : ℕ) → (v ≡ u → ⊥) → (cell_at (set cells u nothing) v).units ≡ (cell_at cells v).units
      size v other = ap (λ (c : Cell). c.units) (is_old v other)

-- units of a block that is new: they were free, or the end moved on over them
pub record Claimed (old new : Space) (at n : ℕ) : Type 0 where
  pub spot : Fits old at n ⊎ (at ≡ end_of old)
  pub took : Took old new at n
  pub ends : (end_of new ≡ end_of old) ⊎ ((at ≡ end_of old) × (end_of new ≡ end_of old + n))

pub claimed_taken : (old new : Space) (at n capacity : ℕ) → Taken old new n capacity at → Claimed old new at n
claimed_taken old new at n capacity taken = record {
  spot = elim taken.0 [ inl lowest ↦ inl lowest.fits | inr behind ↦ inr behind.1 ];
  took = taken.1;
  ends = taken.2;
}

module _ (cells : List Cell) (old new : Space) (u n : ℕ) (units : AreUnits cells old) (some : 1 ≤ n) (taken : Claimed old new (8192 + 4096 * u) (4096 * n)) where
  -- no block covers one of its units
  pub clear : (v w : ℕ) → u ≤ w → w < u + n → Covers cells v w → ⊥
  clear v w low high covers = elim taken.spot [
    | inl lowest ↦ units.held v w covers (unit_free old w (lowest (8192 + 4096 * w) (omega (arith, low)) (omega (arith, high))))
    | inr behind ↦ omega (arith, behind, low, covers.1, units.within v (omega (arith, covers.0, covers.1)))
  ]

  longer : length old.units ≤ length new.units
  longer = elim taken.ends [ inl same ↦ omega (arith, same) | inr moved ↦ omega (arith, moved.1) ]

  was_free : (w : ℕ) → (w < u) ⊎ (u + n ≤ w) → get_or new.units w false ≡ true → get_or old.units w false ≡ true
  was_free w out free = elim out [
    | inl low ↦ unit_free old w ((taken.took.low (8192 + 4096 * w) (omega (arith, low))).0 (byte_free new w free))
    | inr high ↦ unit_free old w ((taken.took.high (8192 + 4096 * w) (omega (arith, high))).0 (byte_free new w free))
  ]

  still_free : (w : ℕ) → (w < u) ⊎ (u + n ≤ w) → get_or old.units w false ≡ true → get_or new.units w false ≡ true
  still_free w out free = elim out [
    | inl low ↦ unit_free new w ((taken.took.low (8192 + 4096 * w) (omega (arith, low))).1 (byte_free old w free))
    | inr high ↦ unit_free new w ((taken.took.high (8192 + 4096 * w) (omega (arith, high))).1 (byte_free old w free))
  ]

  old_unit : (w : ℕ) → (w < u) ⊎ (u + n ≤ w) → w < length new.units → w < length old.units
  old_unit w out lt = elim taken.ends [
    | inl same ↦ omega (arith, same, lt)
    | inr moved ↦ elim out [ inl low ↦ omega (arith, moved.0, low) | inr high ↦ absurd (omega (arith, moved.0, moved.1, high, lt)) ]
  ]

  pub block_new : (after : List Cell) (next : Cell) → next.units ≡ n → is_used next ≡ true → Put cells after (length new.units) u next → end_of new < 2 ^ 64 → AreUnits after new
  block_new after next sized by put small = record {
    small = small;
    long = put.long;
    within = λ v more. elim (cases_eq v u) [
      | inl here ↦ omega (arith, here, size_here v here, taken.took.within)
      | inr other ↦ omega (arith, longer, size v other, units.within v (omega (arith, size v other, more)))
    ];
    apart = λ v w lt more. elim (cases_eq v u) [
      | inl here ↦ elim (cases_lt w (u + n)) [
        | inl inside ↦ absurd (clear w w (omega (arith, lt, here)) inside (omega arith, omega (arith, more, size w (λ same. omega (arith, same, lt, here)))))
        | inr behind ↦ omega (arith, here, size_here v here, behind)
      ]
      | inr other ↦ elim (cases_eq w u) [
        | inl there ↦ elim (cases_lt w (v + (cell_at after v).units)) [
          | inl over ↦ absurd (clear v u (omega arith) (omega (arith, some)) (omega (arith, lt, there), omega (arith, over, there, size v other)))
          | inr behind ↦ behind
        ]
        | inr apart ↦ omega (arith, size v other, units.apart v w lt (omega (arith, size w apart, more)))
      ]
    ];
    held = λ v w covers free. elim (cases_lt w u) [
      | inl low ↦ kept_held v w covers free (inl low)
      | inr ge ↦ elim (cases_lt w (u + n)) [
        | inl inside ↦ taken.took.held (8192 + 4096 * w) (omega (arith, ge)) (omega (arith, inside)) (byte_free new w free)
        | inr high ↦ kept_held v w covers free (inr high)
      ]
    ];
    all = λ w lt. elim (cases_lt w u) [
      | inl low ↦ still_all w lt (inl low)
      | inr ge ↦ elim (cases_lt w (u + n)) [
        | inl inside ↦ inr (u, (ge, omega (arith, inside, size_here u refl)))
        | inr high ↦ still_all w lt (inr high)
      ]
    ];
    used = λ v more. elim (cases_eq v u) [
      | inl here ↦ subst (λ (c : Cell). is_used c ≡ true) (sym (is_next v here)) by
      | inr other ↦ subst (λ (c : Cell). is_used c ≡ true) (sym (put.others v other)) (units.used v (omega (arith, size v other, more)))
    ];
    empty = λ v none. elim (cases_eq v u) [
      | inl here ↦ absurd (omega (arith, some, size_here v here, none))
      | inr other ↦ put.others v other ∙ units.empty v (omega (arith, size v other, none))
    ];
  }
    where
      is_next : (v : ℕ) → v ≡ u → cell_at after v ≡ next
      is_next v here = ap (λ (k : ℕ). cell_at after k) here ∙ put.here

      size_here : (v : ℕ) → v ≡ u → (cell_at after v).units ≡ n
      size_here v here = ap (λ (c : Cell). c.units) (is_next v here) ∙ sized

      size : (v : ℕ) → (v ≡ u → ⊥) → (cell_at after v).units ≡ (cell_at cells v).units
      size v other = ap (λ (c : Cell). c.units) (put.others v other)

      kept_held : (v w : ℕ) → Covers after v w → get_or new.units w false ≡ true → (w < u) ⊎ (u + n ≤ w) → ⊥
      kept_held v w covers free out = elim (cases_eq v u) [
        | inl here ↦ elim out [ inl low ↦ omega (arith, covers.0, here, low) | inr high ↦ omega (arith, covers.1, here, size_here v here, high) ]
        | inr other ↦ units.held v w (covers.0, omega (arith, covers.1, size v other)) (was_free w out free)
      ]

      still_all : (w : ℕ) → w < length new.units → (w < u) ⊎ (u + n ≤ w) → (get_or new.units w false ≡ true) ⊎ ((v : ℕ) × Covers after v w)
      still_all w lt out = elim (units.all w (old_unit w out lt)) [
        | inl free ↦ inl (still_free w out free)
        | inr there ↦ elim (cases_eq there.0 u) [
          | inl here ↦ absurd (clear there.0 u (omega arith) (omega (arith, some)) (omega (arith, here), omega (arith, here, there.1.0, there.1.1)))
          | inr other ↦ inr (there.0, (there.1.0, omega (arith, there.1.1, size there.0 other)))
        ]
      ]

-- a block taken away, and perhaps the units behind it
module _ (cells : List Cell) (old new : Space) (u n end : ℕ) (units : AreUnits cells old) (some : 1 ≤ n) (same : (cell_at cells u).units ≡ n) (stops : (end ≡ end_of old) ⊎ ((end ≡ 8192 + 4096 * u) × (8192 + 4096 * u + 4096 * n ≡ end_of old))) where
  -- another block ends by the end
  ends_by : (v : ℕ) → (v ≡ u → ⊥) → 1 ≤ (cell_at cells v).units → 8192 + 4096 * (v + (cell_at cells v).units) ≤ end
  ends_by v other more = elim stops [
    | inl all ↦ omega (arith, all, units.within v more)
    | inr cut ↦ elim (cases_lt v u) [
      | inl before ↦ omega (arith, cut.0, units.apart v u before (omega (arith, same, some)))
      | inr behind ↦ absurd (omega (arith, cut.1, units.within v more, same, more, units.apart u v (omega (arith, behind, other)) more))
    ]
  ]

  -- no other block begins at the end or behind it
  pub none_behind : (total : ℕ) → end ≡ 8192 + 4096 * total → (v : ℕ) → total ≤ v → (v ≡ u → ⊥) → cell_at cells v ≡ nothing
  none_behind total is v le other = elim (cases_lt 0 (cell_at cells v).units) [
    | inl more ↦ absurd (omega (arith, ends_by v other more, is, le, more))
    | inr none ↦ units.empty v (omega (arith, none))
  ]

  pub block_withdrawn : (after : List Cell) → PutBack old new (8192 + 4096 * u) (4096 * n) end → Put cells after (length new.units) u nothing → AreUnits after new
  block_withdrawn after back gone = record {
    small = omega (arith, units.small, back.ends, shorter);
    long = gone.long;
    within = λ v more. elim (cases_eq v u) [
      | inl here ↦ absurd (omega (arith, size_here v here, more))
      | inr other ↦ omega (arith, size v other, back.ends, ends_by v other (omega (arith, size v other, more)))
    ];
    apart = λ v w lt more. elim (cases_eq w u) [
      | inl here ↦ absurd (omega (arith, size_here w here, more))
      | inr other ↦ elim (cases_eq v u) [
        | inl here ↦ omega (arith, size_here v here, lt)
        | inr apart ↦ omega (arith, size v apart, units.apart v w lt (omega (arith, size w other, more)))
      ]
    ];
    held = λ v w covers free. elim (cases_eq v u) [
      | inl here ↦ absurd (omega (arith, size_here v here, covers.0, covers.1))
      | inr other ↦
          let was : Covers cells v w = (covers.0, omega (arith, covers.1, size v other)) in
          elim ((back.free (8192 + 4096 * w)).0 (byte_free new w free)).1 [
            | inl there ↦ units.held v w was (unit_free old w there)
            | inr given ↦ elim (cases_lt v u) [
              | inl before ↦ omega (arith, given.0, was.1, units.apart v u before (omega (arith, same, some)))
              | inr behind ↦ omega (arith, given.1, was.0, same, units.apart u v (omega (arith, behind, other)) (omega (arith, was.0, was.1)))
            ]
          ]
    ];
    all = λ w lt. elim (units.all w (omega (arith, lt, back.ends, shorter))) [
      | inl free ↦ inl (unit_free new w ((back.free (8192 + 4096 * w)).1 (omega (arith, lt, back.ends), inl (byte_free old w free))))
      | inr there ↦ elim (cases_eq there.0 u) [
        | inl here ↦ inl (unit_free new w ((back.free (8192 + 4096 * w)).1 (omega (arith, lt, back.ends), inr (omega (arith, there.1.0, here), omega (arith, there.1.1, ap (λ (k : ℕ). (cell_at cells k).units) here, here, same)))))
        | inr other ↦ inr (there.0, (there.1.0, omega (arith, there.1.1, size there.0 other)))
      ]
    ];
    used = λ v more. elim (cases_eq v u) [
      | inl here ↦ absurd (omega (arith, size_here v here, more))
      | inr other ↦ subst (λ (c : Cell). is_used c ≡ true) (sym (gone.others v other)) (units.used v (omega (arith, size v other, more)))
    ];
    empty = λ v none. elim (cases_eq v u) [
      | inl here ↦ ap (λ (k : ℕ). cell_at after k) here ∙ gone.here
      | inr other ↦ gone.others v other ∙ units.empty v (omega (arith, size v other, none))
    ];
  }
    where
      shorter : end ≤ end_of old
      shorter = elim stops [ inl all ↦ omega (arith, all) | inr cut ↦ omega (arith, cut.0, cut.1) ]

      size_here : (v : ℕ) → v ≡ u → (cell_at after v).units ≡ 0
      size_here v here = ap (λ (k : ℕ). (cell_at after k).units) here ∙ ap (λ (c : Cell). c.units) gone.here

      size : (v : ℕ) → (v ≡ u → ⊥) → (cell_at after v).units ≡ (cell_at cells v).units
      size v other = ap (λ (c : Cell). c.units) (gone.others v other)

-- a block of the live tree has a unit
pub live_some : (cells : List Cell) (space : Space) (u : ℕ) → AreUnits cells space → IsLive cells u → 1 ≤ (cell_at cells u).units
live_some cells space u units live = elim (cases_lt 0 (cell_at cells u).units) [
  | inl some ↦ omega (arith, some)
  | inr none ↦ absurd (false≢true (sym (ap (λ (c : Cell). c.is_live) (units.empty u (omega (arith, none)))) ∙ live))
]

-- a block placed and withdrawn again leaves what was before
pub withdrawn : (before mid after : Holdings) (u n capacity end : ℕ) → 1 ≤ n → AreUnits before.cells before.space → end ≡ end_of before.space
    → Taken before.space mid.space (4096 * n) capacity (8192 + 4096 * u) → Put before.cells mid.cells (length mid.space.units) u (fresh n)
    → PutBack mid.space after.space (8192 + 4096 * u) (4096 * n) end → Put mid.cells after.cells (length after.space.units) u nothing → after ≡ before
withdrawn before mid after u n capacity end some units is taken put back gone = ap (λ (l : List Cell). holdings l after.space) cells ∙ ap (λ (s : Space). holdings before.cells s) space
  where
    holdings : List Cell → Space → Holdings
    holdings l s = record { cells = l; space = s }

    space : after.space ≡ before.space
    space = undone before.space mid.space after.space (4096 * n) capacity (8192 + 4096 * u) taken (subst (λ (e : ℕ). PutBack mid.space after.space (8192 + 4096 * u) (4096 * n) e) is back)

    none : (cell_at before.cells u).units ≡ 0
    none = elim (cases_lt 0 (cell_at before.cells u).units) [
      | inl more ↦ absurd (clear before.cells before.space mid.space u n units some (claimed_taken before.space mid.space (8192 + 4096 * u) (4096 * n) capacity taken) u u (omega arith) (omega (arith, some)) (omega arith, omega (arith, more)))
      | inr zero ↦ omega (arith, zero)
    ]

    cells : after.cells ≡ before.cells
    cells = ext_get_or nothing after.cells before.cells (gone.long ∙ (ap (λ (s : Space). length s.units) space ∙ sym units.long)) (λ v lt. elim (cases_eq v u) [
      | inl here ↦ ap (λ (k : ℕ). cell_at after.cells k) here ∙ (gone.here ∙ (sym (units.empty u none) ∙ ap (λ (k : ℕ). cell_at before.cells k) (sym here)))
      | inr other ↦ gone.others v other ∙ put.others v other
    ])
