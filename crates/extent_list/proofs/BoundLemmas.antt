-- What keeps the bounds true.
use Rattle.std.specs.Prelude.{◌≡◌, ◌⊎◌, ℕ, ◌+◌, ◌-◌, ◌*◌, ◌<◌, ◌≤◌, Bool, true, false, List, length, get_or, refl, set, take, ◌++◌, replicate}
use Rattle.std.proofs.Common.{inl, inr, sym, ◌∙◌, ap, subst, arith}
use Rattle.std.proofs.lemmas.Bool.{cases_lt, cases_eq, false≢true}
use Rattle.std.proofs.lemmas.List.{get_or-set_same, get_or-set_other, length-set, get_or_append_left, get_or-append_right, get_or-replicate, get_or_past, get_or_read, length-append, length-replicate, length-take, get_or-take, take_all}
use Rattle.extent_list.specs.Units.{IsFreeUnit, Run, AtMost, Bounds, Marked, Raised, FreeBefore, FreeBehind, Reaches}
use Rattle.extent_list.proofs.RunLemmas.{run_within}

-- a bound in the place of another
pub bounds_set : (size : ℕ) (us : List Bool) (hs : List ℕ) (g w : ℕ) → Bounds size us hs → AtMost us (size * g) (size * (g + 1)) w → Bounds size us (set hs g w)
bounds_set size us hs g w bounds most k d lt = elim (cases_eq k g) [
  | inl same ↦ subst (λ (i : ℕ). AtMost us (size * i) (size * (i + 1)) (get_or (set hs g w) i d)) (sym same) (subst (λ (v : ℕ). AtMost us (size * g) (size * (g + 1)) v) (sym (get_or-set_same hs g w d (subst (λ (i : ℕ). i < length hs) same (subst (λ (n : ℕ). k < n) (length-set hs g w) lt)))) most)
  | inr other ↦ subst (λ (v : ℕ). AtMost us (size * k) (size * (k + 1)) v) (sym (get_or-set_other hs g k w d other)) (bounds k d (subst (λ (n : ℕ). k < n) (length-set hs g w) lt))
]

-- fewer free units
pub bounds_less : (size : ℕ) (old new : List Bool) (hs : List ℕ) → ((u : ℕ) → IsFreeUnit new u → IsFreeUnit old u) → Bounds size old hs → Bounds size new hs
bounds_less size old new hs fewer bounds k d lt a m low high few run = bounds k d lt a m low high few (λ u from to. fewer u (run u from to))

-- units behind the last one that are not free leave the free ones as they were
pub free_appended : (us : List Bool) (c u : ℕ) → IsFreeUnit (us ++ replicate c false) u → IsFreeUnit us u
free_appended us c u free = elim (cases_lt u (length us)) [
  | inl lt ↦ sym (get_or_append_left us (replicate c false) false u lt) ∙ free
  | inr ge ↦ elim (cases_lt (u - length us) c) [
    | inl in_new ↦ absurd (false≢true (sym (get_or-append_right us (replicate c false) (length us) u false refl ge ∙ get_or-replicate c (u - length us) false false in_new) ∙ free))
    | inr past ↦ absurd (false≢true (sym (get_or-append_right us (replicate c false) (length us) u false refl ge ∙ get_or_past (replicate c false) (u - length us) false (subst (λ (n : ℕ). n ≤ u - length us) (sym (length-replicate c false)) past)) ∙ free))
  ]
]

-- more units at the end, and bounds for them
pub bounds_grown : (size : ℕ) (us : List Bool) (hs : List ℕ) (c e : ℕ) → ((k : ℕ) → length hs ≤ k → length us ≤ size * k) → Bounds size us hs → Bounds size (us ++ replicate c false) (hs ++ replicate e 0)
bounds_grown size us hs c e reach bounds k d lt a m low high few run = elim (cases_lt k (length hs)) [
  | inl old ↦ subst (λ (v : ℕ). m ≤ v) (sym (get_or_append_left hs (replicate e 0) d k old)) (bounds k d old a m low high few was)
  | inr new ↦ elim (cases_lt 0 m) [
    | inl some ↦ absurd (omega (arith, run_within us a m some was, reach k new, low, some))
    | inr none ↦ omega (arith, none)
  ]
]
  where
    was : Run us a m
    was u from to = free_appended us c u (run u from to)

-- a state set at one more unit
pub marked_none : (us : List Bool) (from : ℕ) (state : Bool) → Marked us us from from state
marked_none us from state = record {
  len = refl;
  here = λ u low high. absurd (omega (arith, low, high));
  low = λ u lt. refl;
  high = λ u le. refl;
}

pub marked_more : (old now : List Bool) (from i : ℕ) (state : Bool) → from ≤ i → i < length now → Marked old now from i state → Marked old (set now i state) from (i + 1) state
marked_more old now from i state le lt is = record {
  len = length-set now i state ∙ is.len;
  here = λ u low high. elim (cases_eq u i) [
    | inl same ↦ ap (λ (k : ℕ). get_or (set now i state) k false) same ∙ get_or-set_same now i state false lt
    | inr other ↦ get_or-set_other now i u state false other ∙ is.here u low (omega (arith, high, other))
  ];
  low = λ u less. get_or-set_other now i u state false (λ same. omega (arith, same, less, le)) ∙ is.low u less;
  high = λ u more. get_or-set_other now i u state false (λ same. omega (arith, same, more)) ∙ is.high u (omega (arith, more));
}

pub raised_none : (hs : List ℕ) (from w : ℕ) → Raised hs hs from from w
raised_none hs from w = record {
  len = refl;
  kept = λ k d lt. omega arith;
  here = λ k d low high lt. absurd (omega (arith, low, high));
}

pub raised_more : (old now new : List ℕ) (from i w : ℕ) → Raised old now from i w → Raised now new i (i + 1) w → Raised old new from (i + 1) w
raised_more old now new from i w is step = record {
  len = step.len ∙ is.len;
  kept = λ k d lt. omega (arith, is.kept k d lt, step.kept k d (subst (λ (n : ℕ). k < n) (sym is.len) lt));
  here = λ k d low high lt.
      let within : k < length now = subst (λ (n : ℕ). k < n) (sym is.len) lt in
      elim (cases_lt k i) [
        | inl less ↦ omega (arith, is.here k d low less lt, step.kept k d within)
        | inr ge ↦ step.here k d ge high within
      ];
}

pub raised_one : (hs : List ℕ) (k v w : ℕ) → k < length hs → v ≡ get_or hs k v → v < w → Raised hs (set hs k w) k (k + 1) w
raised_one hs k v w lt read less = record {
  len = length-set hs k w;
  kept = λ i d within. elim (cases_eq i k) [
    | inl same ↦
        let now : get_or (set hs k w) i d ≡ w = ap (λ (j : ℕ). get_or (set hs k w) j d) same ∙ get_or-set_same hs k w d lt in
        let was : get_or hs i d ≡ v = ap (λ (j : ℕ). get_or hs j d) same ∙ sym (get_or_read hs k v lt read d) in
        omega (arith, now, was, less)
    | inr other ↦ let kept : get_or (set hs k w) i d ≡ get_or hs i d = get_or-set_other hs k i w d other in omega (arith, kept)
  ];
  here = λ i d low high within.
      let same : i ≡ k = omega (arith, low, high) in
      let now : get_or (set hs k w) i d ≡ w = ap (λ (j : ℕ). get_or (set hs k w) j d) same ∙ get_or-set_same hs k w d lt in
      omega (arith, now);
}

pub raised_not : (hs : List ℕ) (k v w : ℕ) → k < length hs → v ≡ get_or hs k v → w ≤ v → Raised hs hs k (k + 1) w
raised_not hs k v w lt read le = record {
  len = refl;
  kept = λ i d within. omega arith;
  here = λ i d low high within.
      let same : i ≡ k = omega (arith, low, high) in
      let was : get_or hs i d ≡ v = ap (λ (j : ℕ). get_or hs j d) same ∙ sym (get_or_read hs k v lt read d) in
      omega (arith, was, le);
}

-- runs that reach into a range
pub begins_there : (us : List Bool) (at first a m : ℕ) → FreeBefore us at first → at < first + 32 → Run us a m → at < a + m → first ≤ a
begins_there us at first a m before near run over = elim (cases_lt a first) [
  | inl lt ↦ absurd (before.ends (omega (arith, lt)) near (run (first - 1) (omega (arith, lt)) (omega (arith, lt, over, before.order))))
  | inr ge ↦ ge
]

pub ends_there : (us : List Bool) (stop last a m : ℕ) → FreeBehind us stop last → last < stop + 32 → Run us a m → a < stop → a + m ≤ last
ends_there us stop last a m behind near run low = elim (cases_lt last (a + m)) [
  | inl past ↦ absurd (behind.ends near (run last (omega (arith, low, behind.order)) past))
  | inr ends ↦ ends
]

-- units from `at` to before `stop` are free now
module _ (old new : List Bool) (at stop first w : ℕ) (marked : Marked old new at stop true) (reaches : Reaches new at stop first w) where
  untouched : (a m : ℕ) → Run new a m → (stop ≤ a) ⊎ (a + m ≤ at) → Run old a m
  untouched a m run apart u low high = elim apart [
    | inl above ↦ sym (marked.high u (omega (arith, above, low))) ∙ run u low high
    | inr below ↦ sym (marked.low u (omega (arith, below, high))) ∙ run u low high
  ]

  pub bounds_given : (size lo hi : ℕ) (hs ks : List ℕ) → ((k a : ℕ) → size * k ≤ a → a < size * (k + 1) → first ≤ a → a < stop → (lo ≤ k) × (k < hi)) → Bounds size old hs → Raised hs ks lo hi w → Bounds size new ks
  bounds_given size lo hi hs ks place bounds raised k d lt a m low high few run =
      let within : k < length hs = subst (λ (n : ℕ). k < n) raised.len lt in
      elim (cases_lt a stop) [
        | inl less ↦ elim (cases_lt at (a + m)) [
          | inl over ↦
              let there = reaches a m few run less over in
              let in_range = place k a low high there.0 less in
              omega (arith, there.1, raised.here k d in_range.0 in_range.1 within)
          | inr ends ↦ omega (arith, bounds k d within a m low high few (untouched a m run (inr ends)), raised.kept k d within)
        ]
        | inr above ↦ omega (arith, bounds k d within a m low high few (untouched a m run (inl above)), raised.kept k d within)
      ]

pub resized : (us : List Bool) (n m c : ℕ) → n ≡ length us + c → m ≡ c → take n us ++ replicate m false ≡ us ++ replicate c false
resized us n m c all more = ap (λ (l : List Bool). l ++ replicate m false) (take_all n us (omega (arith, all))) ∙ ap (λ (k : ℕ). us ++ replicate k false) more

pub bounds_grown_to : (size : ℕ) (us vs : List Bool) (hs gs ks : List ℕ) (c e : ℕ) → vs ≡ us ++ replicate c false → gs ≡ hs → ks ≡ gs ++ replicate e 0 → ((k : ℕ) → length hs ≤ k → length us ≤ size * k) → Bounds size us hs → Bounds size vs ks
bounds_grown_to size us vs hs gs ks c e units_are same are reach bounds =
    let old : Bounds size (us ++ replicate c false) (hs ++ replicate e 0) = bounds_grown size us hs c e reach bounds in
    let with_hs : ks ≡ hs ++ replicate e 0 = are ∙ ap (λ (l : List ℕ). l ++ replicate e 0) same in
    subst (λ (l : List Bool). Bounds size l ks) (sym units_are) (subst (λ (l : List ℕ). Bounds size (us ++ replicate c false) l) (sym with_hs) old)

-- how many there are then
pub length_grown : (hs gs ks : List ℕ) (e n : ℕ) → gs ≡ hs → ks ≡ gs ++ replicate e 0 → n ≡ length hs + e → length ks ≡ n
length_grown hs gs ks e n same are all =
    let long : length ks ≡ length hs + e = ap length are ∙ length-append gs (replicate e 0) ∙ ap (λ (k : ℕ). length gs + k) (length-replicate e 0) ∙ ap (λ (l : List ℕ). length l + e) same in
    omega (arith, long, all)

-- units marked as in use
pub free_less : (old new : List Bool) (from to : ℕ) → Marked old new from to false → (u : ℕ) → IsFreeUnit new u → IsFreeUnit old u
free_less old new from to marked u free = elim (cases_lt u from) [
  | inl low ↦ sym (marked.low u low) ∙ free
  | inr ge ↦ elim (cases_lt u to) [
    | inl here ↦ absurd (false≢true (sym (marked.here u ge here) ∙ free))
    | inr high ↦ sym (marked.high u high) ∙ free
  ]
]

-- the first units
pub free_taken : (us : List Bool) (n u : ℕ) → IsFreeUnit (take n us) u → (u < n) × IsFreeUnit us u
free_taken us n u free = elim (cases_lt u n) [
  | inl lt ↦ (lt, sym (get_or-take n us u false lt) ∙ free)
  | inr ge ↦ absurd (false≢true (sym (get_or_past (take n us) u false (omega (arith, ge, length-take n us))) ∙ free))
]

pub bounds_shrunk : (size : ℕ) (us : List Bool) (hs : List ℕ) (n k : ℕ) → Bounds size us hs → Bounds size (take n us) (take k hs)
bounds_shrunk size us hs n k bounds i d lt a m low high few run =
    let in_front : i < k = omega (arith, lt, length-take k hs) in
    let within : i < length hs = omega (arith, lt, length-take k hs) in
    subst (λ (v : ℕ). m ≤ v) (sym (get_or-take k hs i d in_front)) (bounds i d within a m low high few (λ u from to. (free_taken us n u (run u from to)).1))

pub bounds_same : (size : ℕ) (us vs : List Bool) (hs ks : List ℕ) → vs ≡ us → ks ≡ hs → Bounds size us hs → Bounds size vs ks
bounds_same size us vs hs ks same_us same_hs bounds = subst (λ (l : List Bool). Bounds size l ks) (sym same_us) (subst (λ (l : List ℕ). Bounds size us l) (sym same_hs) bounds)
