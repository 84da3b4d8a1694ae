-- A walk over units that counts the free ones side by side.
use Rattle.std.specs.Prelude.{◌≡◌, ◌⊎◌, ℕ, ◌+◌, ◌-◌, ◌<◌, ◌≤◌, Bool, false, List, length, get_or}
use Rattle.std.proofs.Common.{inl, inr, subst, arith}
use Rattle.std.proofs.lemmas.Bool.{cases_lt}
use Rattle.extent_list.specs.Units.{IsFreeUnit, Run, IsLowest, Misses}
use Rattle.extent_list.proofs.RunLemmas.{not_both, run_within}

-- before a unit: the free ones just before it, and the longest run that began and ended before those
pub record Walk (us : List Bool) (from i run longest n : ℕ) : Type 0 where
  pub short : run < n
  pub since : from + run ≤ i
  pub free : (u : ℕ) → i ≤ u + run → u < i → IsFreeUnit us u
  pub past : (a m : ℕ) → from ≤ a → a + run < i → Run us a m → m ≤ longest
  pub less : longest < n

pub begins : (us : List Bool) (from n : ℕ) → 1 ≤ n → Walk us from from 0 0 n
begins us from n some = record {
  short = omega (arith, some);
  since = omega arith;
  free = λ u low high. absurd (omega (arith, low, high));
  past = λ a m low high run. absurd (omega (arith, low, high));
  less = omega (arith, some);
}

pub goes_on : (us : List Bool) (from i run longest n : ℕ) → Walk us from i run longest n → IsFreeUnit us i → run + 1 < n → Walk us from (i + 1) (run + 1) longest n
goes_on us from i run longest n walk here more = record {
  short = more;
  since = omega (arith, walk.since);
  free = λ u low high. elim (cases_lt u i) [
    | inl lt ↦ walk.free u (omega (arith, low)) lt
    | inr ge ↦ let same : i ≡ u = omega (arith, ge, high) in subst (λ (k : ℕ). IsFreeUnit us k) same here
  ];
  past = λ a m low high is_run. walk.past a m low (omega (arith, high)) is_run;
  less = walk.less;
}

pub finds : (us : List Bool) (from to i run longest n : ℕ) → Walk us from i run longest n → IsFreeUnit us i → run + 1 ≡ n → i + 1 < to + n → IsLowest us from to n (i + 1 - n)
finds us from to i run longest n walk here all lt = record {
  behind = omega (arith, walk.since, all);
  before = omega (arith, lt, walk.since, all);
  fits = λ u low high. elim (cases_lt u i) [
    | inl less ↦ walk.free u (omega (arith, low, all)) less
    | inr ge ↦ let same : i ≡ u = omega (arith, ge, high, all, walk.since) in subst (λ (k : ℕ). IsFreeUnit us k) same here
  ];
  lowest = λ c low run_c. elim (cases_lt (c + run) i) [
    | inl less ↦ absurd (omega (arith, walk.less, walk.past c n low less run_c))
    | inr ge ↦ omega (arith, ge, all)
  ];
}

pub breaks : (us : List Bool) (from i run longest next n : ℕ) → Walk us from i run longest n → get_or us i false ≡ false → run ≤ next → longest ≤ next → next < n → Walk us from (i + 1) 0 next n
breaks us from i run longest next n walk held le_run le_longest less = record {
  short = omega (arith, less);
  since = omega (arith, walk.since);
  free = λ u low high. absurd (omega (arith, low, high));
  past = λ a m low high is_run. elim (cases_lt (a + run) i) [
    | inl before ↦ omega (arith, le_longest, walk.past a m low before is_run)
    | inr ge ↦ elim (cases_lt i (a + m)) [
      | inl over ↦ absurd (not_both us i held (is_run i (omega (arith, high)) over))
      | inr ends ↦ omega (arith, ge, ends, le_run)
    ]
  ];
  less = less;
}

-- at the end of the walk, which looked at each unit that a run from the range can reach
pub ends : (us : List Bool) (from to i run longest w n : ℕ) → Walk us from i run longest n → 1 ≤ n → (length us ≤ i) ⊎ (to + n ≤ i + 1) → run ≤ w → longest ≤ w → Misses us from to n w
ends us from to i run longest w n walk some looked le_run le_longest = record {
  none = λ a low high is_run. elim (cases_lt (a + run) i) [
    | inl before ↦ omega (arith, walk.less, walk.past a n low before is_run)
    | inr ge ↦ elim looked [
      | inl all ↦ omega (arith, walk.short, ge, all, run_within us a n some is_run)
      | inr far ↦ omega (arith, walk.short, ge, far, high)
    ]
  ];
  most = λ a m low high few is_run. elim (cases_lt (a + run) i) [
    | inl before ↦ omega (arith, le_longest, walk.past a m low before is_run)
    | inr ge ↦ elim looked [
      | inl all ↦ elim (cases_lt 0 m) [
        | inl more ↦ omega (arith, le_run, ge, all, run_within us a m more is_run)
        | inr none ↦ omega (arith, none)
      ]
      | inr far ↦ absurd (omega (arith, walk.short, ge, far, high))
    ]
  ];
}
