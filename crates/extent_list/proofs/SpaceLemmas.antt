-- Bytes and the units that they lie in.
use Rattle.std.specs.Prelude.{◌≡◌, ℕ, ◌+◌, ◌-◌, ◌*◌, ◌/◌, ◌<◌, ◌≤◌, Bool, true, false, List, length, get_or, refl, take, ◌++◌, replicate}
use Rattle.std.proofs.Common.{inl, inr, sym, ◌∙◌, ap, subst, arith}
use Rattle.std.proofs.lemmas.Bool.{cases_lt, false≢true}
use Rattle.std.proofs.lemmas.List.{get_or_append_left, length-append, length-replicate, length-take-le, get_or-take, ext_get_or}
use Rattle.extent_list.specs.Units.{IsFreeUnit, Run, Marked}
use Rattle.extent_list.specs.Space.{Space, space_of, end_of, IsFree, Fits, NothingFits, IsLowestRange, Took, Taken, Gave, PutBack}
use Rattle.extent_list.proofs.RunLemmas.{free_within}
use Rattle.extent_list.proofs.BoundLemmas.{free_appended, free_taken}

-- a run of units is a range of bytes
pub range_free : (us : List Bool) (a c n at : ℕ) → n ≡ 4096 * c → at ≡ 8192 + 4096 * a → Run us a c → Fits (space_of us) at n
range_free us a c n at size place run b low high = (
  omega (arith, low, place),
  run ((b - 8192) / 4096) (omega (arith, low, place)) (omega (arith, low, high, place, size)),
)

-- a free range of bytes has a run of units from the unit of its first byte on
pub run_free : (us : List Bool) (c n at : ℕ) → n ≡ 4096 * c → 1 ≤ n → Fits (space_of us) at n → Run us ((at - 8192) / 4096) c
run_free us c n at size some fits u low high =
    let behind : 8192 ≤ at = (fits at (omega arith) (omega (arith, some))).0 in
    elim (cases_lt at (8192 + 4096 * u)) [
      | inl before ↦
          let is_u : (8192 + 4096 * u - 8192) / 4096 ≡ u = omega arith in
          subst (λ (k : ℕ). get_or us k false ≡ true) is_u (fits (8192 + 4096 * u) (omega (arith, before)) (omega (arith, behind, high, size))).1
      | inr ge ↦
          let is_u : (at - 8192) / 4096 ≡ u = omega (arith, ge, low, behind) in
          subst (λ (k : ℕ). get_or us k false ≡ true) is_u (fits at (omega arith) (omega (arith, some))).1
    ]

pub lowest_range : (us : List Bool) (a c n at : ℕ) → n ≡ 4096 * c → 1 ≤ n → at ≡ 8192 + 4096 * a → Run us a c → ((e : ℕ) → Run us e c → a ≤ e) → IsLowestRange (space_of us) at n
lowest_range us a c n at size some place run lowest = record {
  fits = range_free us a c n at size place run;
  lowest = λ b fits.
      let behind : 8192 ≤ b = (fits b (omega arith) (omega (arith, some))).0 in
      omega (arith, lowest ((b - 8192) / 4096) (run_free us c n b size some fits), place, behind);
}

pub nothing_fits : (us : List Bool) (c n : ℕ) → n ≡ 4096 * c → 1 ≤ n → ((e : ℕ) → Run us e c → ⊥) → NothingFits (space_of us) n
nothing_fits us c n size some none at fits = none ((at - 8192) / 4096) (run_free us c n at size some fits)

-- the units of a range marked as in use
pub took_marked : (us new : List Bool) (a c n at : ℕ) → n ≡ 4096 * c → at ≡ 8192 + 4096 * a → a + c ≤ length us → Marked us new a (a + c) false → Took (space_of us) (space_of new) at n
took_marked us new a c n at size place within marked = record {
  held = λ b low high free. false≢true (sym (marked.here ((b - 8192) / 4096) (omega (arith, low, place)) (omega (arith, low, high, place, size))) ∙ free.1);
  low = λ b lt. (
    λ free. (free.0, sym (marked.low ((b - 8192) / 4096) (omega (arith, free.0, lt, place))) ∙ free.1),
    λ free. (free.0, marked.low ((b - 8192) / 4096) (omega (arith, free.0, lt, place)) ∙ free.1),
  );
  high = λ b ge. (
    λ free. (free.0, sym (marked.high ((b - 8192) / 4096) (omega (arith, ge, place, size))) ∙ free.1),
    λ free. (free.0, marked.high ((b - 8192) / 4096) (omega (arith, ge, place, size)) ∙ free.1),
  );
  within = omega (arith, within, marked.len, place, size);
}

-- units in use behind the last one
pub end_more : (us : List Bool) (c n : ℕ) → n ≡ 4096 * c → 8192 + 4096 * length (us ++ replicate c false) ≡ 8192 + 4096 * length us + n
end_more us c n size = let more : length (us ++ replicate c false) ≡ length us + c = length-append us (replicate c false) ∙ ap (λ (k : ℕ). length us + k) (length-replicate c false) in omega (arith, more, size)

free_kept : (us : List Bool) (c u : ℕ) → IsFreeUnit us u → IsFreeUnit (us ++ replicate c false) u
free_kept us c u free = get_or_append_left us (replicate c false) false u (free_within us u free) ∙ free

pub took_end : (us : List Bool) (c n at : ℕ) → n ≡ 4096 * c → at ≡ 8192 + 4096 * length us → Took (space_of us) (space_of (us ++ replicate c false)) at n
took_end us c n at size place = record {
  held = λ b low high free. omega (arith, free_within us ((b - 8192) / 4096) (free_appended us c ((b - 8192) / 4096) free.1), low, place);
  low = λ b lt. (
    λ free. (free.0, free_appended us c ((b - 8192) / 4096) free.1),
    λ free. (free.0, free_kept us c ((b - 8192) / 4096) free.1),
  );
  high = λ b ge. (
    λ free. (free.0, free_appended us c ((b - 8192) / 4096) free.1),
    λ free. (free.0, free_kept us c ((b - 8192) / 4096) free.1),
  );
  within = omega (arith, end_more us c n size, place);
}

-- the units of a range marked as free
pub gave_marked : (us new : List Bool) (a stop n at : ℕ) → at ≡ 8192 + 4096 * a → at + n ≡ 8192 + 4096 * stop → Marked us new a stop true → Gave (space_of us) (space_of new) at n
gave_marked us new a stop n at place ends marked b = (
  λ free. elim (cases_lt b at) [
    | inl lt ↦ inl (free.0, sym (marked.low ((b - 8192) / 4096) (omega (arith, free.0, lt, place))) ∙ free.1)
    | inr ge ↦ elim (cases_lt b (at + n)) [
      | inl less ↦ inr (ge, less)
      | inr past ↦ inl (free.0, sym (marked.high ((b - 8192) / 4096) (omega (arith, past, ends))) ∙ free.1)
    ]
  ],
  λ was. elim was [
    | inl free ↦ elim (cases_lt b at) [
      | inl lt ↦ (free.0, marked.low ((b - 8192) / 4096) (omega (arith, free.0, lt, place)) ∙ free.1)
      | inr ge ↦ elim (cases_lt b (at + n)) [
        | inl less ↦ (free.0, marked.here ((b - 8192) / 4096) (omega (arith, ge, place)) (omega (arith, ge, less, place, ends)))
        | inr past ↦ (free.0, marked.high ((b - 8192) / 4096) (omega (arith, past, ends)) ∙ free.1)
      ]
    ]
    | inr here ↦ (omega (arith, here.0, place), marked.here ((b - 8192) / 4096) (omega (arith, here.0, place)) (omega (arith, here.0, here.1, place, ends)))
  ],
)

-- a free byte lies before the end
pub free_before_end : (space : Space) (b : ℕ) → IsFree space b → b < end_of space
free_before_end space b free = omega (arith, free_within space.units ((b - 8192) / 4096) free.1, free.0)

-- bytes given back, with the end where it was
pub given_back : (old new : Space) (at n end : ℕ) → at + n ≤ end → end ≡ end_of old → end_of new ≡ end_of old → Gave old new at n → PutBack old new at n end
given_back old new at n end within is same gave = record {
  free = λ b. (
    λ free. (omega (arith, free_before_end new b free, is, same), (gave b).0 free),
    λ was. (gave b).1 was.1,
  );
  ends = omega (arith, is, same);
}

-- the last units left out
pub cut_back : (us : List Bool) (a n at : ℕ) → at ≡ 8192 + 4096 * a → a ≤ length us → PutBack (space_of us) (space_of (take a us)) at n at
cut_back us a n at place within = record {
  free = λ b. (
    λ free.
        let was = free_taken us a ((b - 8192) / 4096) free.1 in
        (omega (arith, was.0, free.0, place), inl (free.0, was.1)),
    λ was. elim was.1 [
      | inl free ↦ (free.0, get_or-take a us ((b - 8192) / 4096) false (omega (arith, was.0, free.0, place)) ∙ free.1)
      | inr here ↦ absurd (omega (arith, was.0, here.0))
    ],
  );
  ends = omega (arith, length-take-le a us within, place);
}

same_flag : (x y : Bool) → (x ≡ true → y ≡ true) → (y ≡ true → x ≡ true) → x ≡ y
same_flag true y to from = sym (to refl)
same_flag false true to from = from refl
same_flag false false to from = refl

pub undone : (old mid new : Space) (n capacity at : ℕ) → Taken old mid n capacity at → PutBack mid new at n (end_of old) → new ≡ old
undone old mid new n capacity at taken back = ap space_of (ext_get_or false new.units old.units lengths flags)
  where
    lengths : length new.units ≡ length old.units
    lengths = omega (arith, back.ends)

    was_free : (b : ℕ) → at ≤ b → b < at + n → b < end_of old → IsFree old b
    was_free b low high before = elim taken.0 [
      | inl lowest ↦ lowest.fits b low high
      | inr behind ↦ absurd (omega (arith, behind.1, low, before))
    ]

    is_free : (b : ℕ) → IsFree new b → IsFree old b
    is_free b free =
        let parts = (back.free b).0 free in
        elim parts.1 [
          | inl there ↦ elim (cases_lt b at) [
            | inl low ↦ (taken.1.low b low).0 there
            | inr ge ↦ elim (cases_lt b (at + n)) [
              | inl less ↦ absurd (taken.1.held b ge less there)
              | inr high ↦ (taken.1.high b high).0 there
            ]
          ]
          | inr here ↦ was_free b here.0 here.1 parts.0
        ]

    still_free : (b : ℕ) → IsFree old b → IsFree new b
    still_free b free = elim (cases_lt b at) [
      | inl low ↦ (back.free b).1 (free_before_end old b free, inl ((taken.1.low b low).1 free))
      | inr ge ↦ elim (cases_lt b (at + n)) [
        | inl less ↦ (back.free b).1 (free_before_end old b free, inr (ge, less))
        | inr high ↦ (back.free b).1 (free_before_end old b free, inl ((taken.1.high b high).1 free))
      ]
    ]

    is_unit : (i : ℕ) → (8192 + 4096 * i - 8192) / 4096 ≡ i
    is_unit i = omega arith

    byte_of : (us : List Bool) (i : ℕ) → get_or us i false ≡ true → IsFree (space_of us) (8192 + 4096 * i)
    byte_of us i free = (omega arith, subst (λ (k : ℕ). get_or us k false ≡ true) (sym (is_unit i)) free)

    unit_of : (us : List Bool) (i : ℕ) → IsFree (space_of us) (8192 + 4096 * i) → get_or us i false ≡ true
    unit_of us i free = subst (λ (k : ℕ). get_or us k false ≡ true) (is_unit i) free.1

    flags : (i : ℕ) → i < length new.units → get_or new.units i false ≡ get_or old.units i false
    flags i lt = same_flag (get_or new.units i false) (get_or old.units i false) (λ t. unit_of old.units i (is_free (8192 + 4096 * i) (byte_of new.units i t))) (λ t. unit_of new.units i (still_free (8192 + 4096 * i) (byte_of old.units i t)))

-- the first byte of a unit that is not free
pub unit_held : (us : List Bool) (u : ℕ) → get_or us u false ≡ false → IsFree (space_of us) (8192 + 4096 * u) → ⊥
unit_held us u held free = let is_unit : (8192 + 4096 * u - 8192) / 4096 ≡ u = omega arith in false≢true (sym held ∙ subst (λ (k : ℕ). get_or us k false ≡ true) is_unit free.1)
