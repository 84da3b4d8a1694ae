-- Which units are there, and what a run says of them.
use Rattle.std.specs.Prelude.{◌≡◌, ◌⊎◌, ℕ, ◌+◌, ◌-◌, ◌*◌, ◌<◌, ◌≤◌, Bool, false, List, length, get_or}
use Rattle.std.proofs.Common.{inl, inr, sym, ◌∙◌, arith}
use Rattle.std.proofs.lemmas.Bool.{cases_lt, false≢true}
use Rattle.std.proofs.lemmas.List.{get_or_past}
use Rattle.extent_list.specs.Units.{IsFreeUnit, Run, NoneFits, AtMost, IsLowest, Misses}

-- a unit that is free is there
pub free_within : (us : List Bool) (u : ℕ) → IsFreeUnit us u → u < length us
free_within us u free = elim (cases_lt u (length us)) [
  | inl lt ↦ lt
  | inr le ↦ absurd (false≢true (sym (get_or_past us u false le) ∙ free))
]

-- what is not free and free at once
pub not_both : (us : List Bool) (u : ℕ) → get_or us u false ≡ false → IsFreeUnit us u → ⊥
not_both us u held free = false≢true (sym held ∙ free)

-- a run of one unit or more ends within the units
pub run_within : (us : List Bool) (a m : ℕ) → 1 ≤ m → Run us a m → a + m ≤ length us
run_within us a m some run =
    let last : a + m - 1 < length us = free_within us (a + m - 1) (run (a + m - 1) (omega (arith, some)) (omega (arith, some))) in
    omega (arith, last, some)

pub shorter : (us : List Bool) (a m n : ℕ) → m ≤ n → Run us a n → Run us a m
shorter us a m n le run u low high = run u low (omega (arith, high, le))

-- nothing begins in an empty range, nor behind the last unit
pub empty : (us : List Bool) (at to n : ℕ) → to ≤ at → Misses us at to n 0
empty us at to n le = record {
  none = λ a low high run. omega (arith, low, high, le);
  most = λ a m low high few run. absurd (omega (arith, low, high, le));
}

pub nothing_behind : (us : List Bool) (from to n w : ℕ) → 1 ≤ n → length us ≤ from → Misses us from to n w
nothing_behind us from to n w some le = record {
  none = λ a low high run. omega (arith, run_within us a n some run, low, le, some);
  most = λ a m low high few run. elim (cases_lt 0 m) [
    | inl more ↦ absurd (omega (arith, run_within us a m more run, low, le, more))
    | inr none ↦ omega (arith, none)
  ];
}

-- two ranges, one behind the other
pub joined : (us : List Bool) (a b c n v w x : ℕ) → v ≤ x → w ≤ x → Misses us a b n v → Misses us b c n w → Misses us a c n x
joined us a b c n v w x le_v le_w front back = record {
  none = λ at low high run. elim (cases_lt at b) [
    | inl lt ↦ front.none at low lt run
    | inr le ↦ back.none at le high run
  ];
  most = λ at m low high few run. elim (cases_lt at b) [
    | inl lt ↦ omega (arith, le_v, front.most at m low lt few run)
    | inr le ↦ omega (arith, le_w, back.most at m le high few run)
  ];
}

pub lowest_behind : (us : List Bool) (from mid to n a : ℕ) → from ≤ mid → NoneFits us from mid n → IsLowest us mid to n a → IsLowest us from to n a
lowest_behind us from mid to n a le none is = record {
  behind = omega (arith, le, is.behind);
  before = is.before;
  fits = is.fits;
  lowest = λ c low run. elim (cases_lt c mid) [
    | inl lt ↦ absurd (none c low lt run)
    | inr ge ↦ is.lowest c ge run
  ];
}

pub lowest_wider : (us : List Bool) (from to more n a : ℕ) → to ≤ more → IsLowest us from to n a → IsLowest us from more n a
lowest_wider us from to more n a le is = record {
  behind = is.behind;
  before = omega (arith, le, is.before);
  fits = is.fits;
  lowest = is.lowest;
}

-- a bound that is too small for so many units
pub too_short : (us : List Bool) (from to n short w : ℕ) → short ≤ n → short ≤ 256 → w < short → AtMost us from to w → Misses us from to n w
too_short us from to n short w le few lt most = record {
  none = λ a low high run. omega (arith, lt, most a short low high few (shorter us a short n le run));
  most = most;
}

-- a length that counts up to 256 only
pub capped : (us : List Bool) (from to v w : ℕ) → (v ≤ 256 → w ≡ v) → (256 ≤ v → w ≡ 256) → AtMost us from to v → AtMost us from to w
capped us from to v w short long most a m low high few run = elim (cases_lt v 257) [
  | inl small ↦ omega (arith, most a m low high few run, short (omega (arith, small)))
  | inr large ↦ omega (arith, few, long (omega (arith, large)))
]

-- the groups of a region, of which the last may be missing
pub whole_region : (us : List Bool) (b f t n w : ℕ) → f ≡ 64 * b → 1 ≤ n → (length us ≤ 64 * t) ⊎ (t ≡ 64 * (b + 1)) → Misses us (64 * f) (64 * t) n w → Misses us (4096 * b) (4096 * (b + 1)) n w
whole_region us b f t n w first some rest misses = record {
  none = λ a low high run. elim (cases_lt a (64 * t)) [
    | inl lt ↦ misses.none a (omega (arith, low, first)) lt run
    | inr ge ↦ elim rest [
      | inl past ↦ omega (arith, run_within us a n some run, ge, past, some)
      | inr all ↦ omega (arith, all, ge, high)
    ]
  ];
  most = λ a m low high few run. elim (cases_lt a (64 * t)) [
    | inl lt ↦ misses.most a m (omega (arith, low, first)) lt few run
    | inr ge ↦ elim rest [
      | inl past ↦ elim (cases_lt 0 m) [
        | inl more ↦ absurd (omega (arith, run_within us a m more run, ge, past, more))
        | inr none ↦ omega (arith, none)
      ]
      | inr all ↦ absurd (omega (arith, all, ge, high))
    ]
  ];
}

-- the regions of an area, of which the last may be missing
pub whole_area : (us : List Bool) (b f t n w : ℕ) → f ≡ 64 * b → 1 ≤ n → (length us ≤ 4096 * t) ⊎ (t ≡ 64 * (b + 1)) → Misses us (4096 * f) (4096 * t) n w → Misses us (262144 * b) (262144 * (b + 1)) n w
whole_area us b f t n w first some rest misses = record {
  none = λ a low high run. elim (cases_lt a (4096 * t)) [
    | inl lt ↦ misses.none a (omega (arith, low, first)) lt run
    | inr ge ↦ elim rest [
      | inl past ↦ omega (arith, run_within us a n some run, ge, past, some)
      | inr all ↦ omega (arith, all, ge, high)
    ]
  ];
  most = λ a m low high few run. elim (cases_lt a (4096 * t)) [
    | inl lt ↦ misses.most a m (omega (arith, low, first)) lt few run
    | inr ge ↦ elim rest [
      | inl past ↦ elim (cases_lt 0 m) [
        | inl more ↦ absurd (omega (arith, run_within us a m more run, ge, past, more))
        | inr none ↦ omega (arith, none)
      ]
      | inr all ↦ absurd (omega (arith, all, ge, high))
    ]
  ];
}
