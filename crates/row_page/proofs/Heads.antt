-- A cell is its head, and then its key and value.
use Rattle.std.proofs.Common.{◌≡◌, ℕ, ◌+◌, ◌<◌, ◌≤◌, Bool, true, false, cond, ltb, List, [], length, take, drop, Option, Some, None, refl, ap, ◌∙◌, inl, inr, arith}
use Rattle.std.specs.Prelude.{◌&&◌, nat_le}
use Rattle.std.specs.Int.{Width, w8, w16, w32, w64, byte_len, from_le_bytes}
use Rattle.std.proofs.lemmas.Bool.{cases_lt, cases_Bool, ltb-false, le-ltb, lt-ltb}
use Rattle.std.proofs.lemmas.List.{length-drop, length-take, drop-drop, drop-take, take-take}
use Rattle.le_codec.specs.Fields.{◌>>=◌, number_at, slice_at}
use Rattle.le_codec.specs.Combine.{then_at, as_at, try_at}
use Rattle.le_codec.proofs.Laws.{bind_some, some_is}
use Rattle.row_page.specs.declared.head.Head.{Head}
use Rattle.row_page.specs.Rows.{Row, Raw, key_most, value_of}
use Rattle.row_page.specs.Changes.{PageChange}
use Rattle.row_page.specs.Reading.{window_of, window_at, raw_of, raw_at, change_of, window_fits, row_fits, row_under, cell_at}
use Rattle.row_page.specs.Heads.{head_of, head_at, raw_with, raw_fits, behind_at}
use Rattle.row_page.proofs.Fields.{change_takes}

-- ---- where there are bytes enough, and where not

guarded : {A : Type 0} (b : Bool) (x y : A) → cond b None (Some x) ≡ Some y → (b ≡ false) × (x ≡ y)
guarded true x y e = absurd cc
guarded false x y e = (refl, cc)

slice_there : (n : ℕ) (bytes : List ℕ) → n ≤ length bytes → slice_at n bytes ≡ Some (take n bytes, drop n bytes)
unfolding slice_at
slice_there n bytes le = let long : ltb (length bytes) n ≡ false = le-ltb _ _ le in rw long refl

slice_none : (n : ℕ) (bytes : List ℕ) → length bytes < n → slice_at n bytes ≡ None
unfolding slice_at
slice_none n bytes lt = let short : ltb (length bytes) n ≡ true = lt-ltb _ _ lt in rw short refl

-- what a slice tells of the bytes
pub slice_is : (n : ℕ) (bytes : List ℕ) (y : List ℕ × List ℕ) → slice_at n bytes ≡ Some y → (n ≤ length bytes) × (length y.0 ≡ n)
unfolding slice_at
slice_is n bytes y e =
    let g = guarded (ltb (length bytes) n) (take n bytes, drop n bytes) y e in
    let long : n ≤ length bytes = ltb-false _ _ g.0 in
    let front : length (take n bytes) ≡ length y.0 = ap (λ (p : List ℕ × List ℕ). length p.0) g.1 in
    (long, omega (arith, front, long, length-take n bytes))

-- a number behind some bytes
number_there : (w : Width) (at : ℕ) (bytes : List ℕ) → at + byte_len w ≤ length bytes → number_at w (drop at bytes) ≡ Some (from_le_bytes w (take (byte_len w) (drop at bytes)), drop (at + byte_len w) bytes)
unfolding number_at
number_there w at bytes le =
    let long : ltb (length (drop at bytes)) (byte_len w) ≡ false = le-ltb _ _ (omega (arith, le, length-drop at bytes)) in
    rw (long, drop-drop (byte_len w) at bytes) refl

-- ---- no head in fewer bytes

-- what is read has at least n bytes
abbrev IsLong : {A : Type 0} → ℕ → (List ℕ → Option (A × List ℕ)) → Type 0
IsLong {A} n f = (bytes : List ℕ) (y : A × List ℕ) → f bytes ≡ Some y → n + length y.1 ≤ length bytes

number_long : (w : Width) → IsLong (byte_len w) (number_at w)
unfolding number_at
number_long w bytes y e =
    let g = guarded (ltb (length bytes) (byte_len w)) (from_le_bytes w (take (byte_len w) bytes), drop (byte_len w) bytes) y e in
    let long : byte_len w ≤ length bytes = ltb-false _ _ g.0 in
    let left : length (drop (byte_len w) bytes) ≡ length y.1 = ap (λ (p : ℕ × List ℕ). length p.1) g.1 in
    omega (arith, long, left, length-drop (byte_len w) bytes)

slice_long : (n : ℕ) → IsLong 0 (slice_at n)
unfolding slice_at
slice_long n bytes y e =
    let g = guarded (ltb (length bytes) n) (take n bytes, drop n bytes) y e in
    let left : length (drop n bytes) ≡ length y.1 = ap (λ (p : List ℕ × List ℕ). length p.1) g.1 in
    omega (arith, left, length-drop n bytes)

then_long : {A B : Type 0} (n m : ℕ) (f : List ℕ → Option (A × List ℕ)) (g : A → List ℕ → Option (B × List ℕ)) → IsLong n f → ((a : A) → IsLong m (g a)) → IsLong (n + m) (then_at f g)
unfolding then_at
then_long {A} {B} n m f g hf hg bytes y e =
    let a = bind_some (f bytes) (λ a. g a.0 a.1 >>= λ b. Some ((a.0, b.0), b.1)) y e in
    let b = bind_some (g a.0.0 a.0.1) (λ b. Some ((a.0.0, b.0), b.1)) y a.2 in
    let left : length b.0.1 ≡ length y.1 = ap (λ (p : (A × B) × List ℕ). length p.1) (some_is ((a.0.0, b.0.0), b.0.1) y b.2) in
    omega (arith, hf bytes a.0 a.1, hg a.0.0 a.0.1 b.0 b.1, left)

as_long : {A B : Type 0} (n : ℕ) (to : A → B) (f : List ℕ → Option (A × List ℕ)) → IsLong n f → IsLong n (as_at to f)
unfolding as_at
as_long {A} {B} n to f hf bytes y e =
    let a = bind_some (f bytes) (λ a. Some (to a.0, a.1)) y e in
    let left : length a.0.1 ≡ length y.1 = ap (λ (p : B × List ℕ). length p.1) (some_is (to a.0.0, a.0.1) y a.2) in
    omega (arith, hf bytes a.0 a.1, left)

try_long : {A B : Type 0} (n : ℕ) (to : A → Option B) (f : List ℕ → Option (A × List ℕ)) → IsLong n f → IsLong n (try_at to f)
unfolding try_at
try_long {A} {B} n to f hf bytes y e =
    let a = bind_some (f bytes) (λ a. to a.0 >>= λ b. Some (b, a.1)) y e in
    let b = bind_some (to a.0.0) (λ b. Some (b, a.0.1)) y a.2 in
    let left : length a.0.1 ≡ length y.1 = ap (λ (p : B × List ℕ). length p.1) (some_is (b.0, a.0.1) y b.2) in
    omega (arith, hf bytes a.0 a.1, left)

window_long : IsLong 32 window_at
unfolding window_at
window_long = as_long 32 window_of _ (then_long 8 24 _ _ (number_long w64) (λ run. then_long 8 16 _ _ (number_long w64) (λ id. then_long 8 8 _ _ (number_long w64) (λ commit. number_long w64))))

raw_long : IsLong 39 raw_at
unfolding raw_at
raw_long = try_long 39 raw_of _ (then_long 2 37 _ _ (number_long w16) (λ k. then_long 1 36 _ _ (number_long w8) (λ c. then_long 4 32 _ _ (number_long w32) (λ v. then_long 32 0 _ _ window_long (λ w. then_long 0 0 _ _ (slice_long k) (λ key. slice_long v))))))

no_raw : (bytes : List ℕ) → length bytes < 39 → raw_at bytes ≡ None
no_raw bytes short = by (raw_at bytes) refl where
  by : (o : Option (Raw × List ℕ)) → raw_at bytes ≡ o → raw_at bytes ≡ None
  by None e = e
  by (Some y) e = absurd (let long = raw_long bytes y e in omega (arith, long, short))

-- ---- in two steps

-- the key and the value
abbrev text_at : Head → List ℕ → Option (Raw × List ℕ)
text_at h bytes = slice_at (h.key_len + h.value_len) bytes >>= λ t. Some (raw_with h t.0, t.1)

whole_raw : (bytes : List ℕ) → 39 ≤ length bytes → raw_at bytes ≡ text_at (head_of bytes) (drop 39 bytes)
unfolding raw_at window_at then_at as_at try_at
whole_raw bytes le =
    let h : Head = head_of bytes in
    let rest : List ℕ = drop 39 bytes in
    rw (number_there w16 0 bytes (omega (arith, le)), number_there w8 2 bytes (omega (arith, le)), number_there w32 3 bytes (omega (arith, le)), number_there w64 7 bytes (omega (arith, le)), number_there w64 15 bytes (omega (arith, le)), number_there w64 23 bytes (omega (arith, le)), number_there w64 31 bytes (omega (arith, le)))
    (elim (cases_lt (length rest) (h.key_len + h.value_len)) [
      | inl short ↦ elim (cases_lt (length rest) h.key_len) [
        | inl none ↦ rw (slice_none h.key_len rest none, slice_none (h.key_len + h.value_len) rest short) refl
        | inr some ↦ rw (slice_there h.key_len rest some, slice_none h.value_len (drop h.key_len rest) (omega (arith, short, length-drop h.key_len rest)), slice_none (h.key_len + h.value_len) rest short) refl
      ]
      | inr enough ↦
          rw (
            slice_there h.key_len rest (omega (arith, enough)),
            slice_there h.value_len (drop h.key_len rest) (omega (arith, enough, length-drop h.key_len rest)),
            slice_there (h.key_len + h.value_len) rest enough,
            take-take h.key_len (h.key_len + h.value_len) rest (omega arith),
            drop-take h.key_len h.value_len rest,
            drop-drop h.value_len h.key_len rest,
          ) refl
    ])

raw_in_two : (bytes : List ℕ) → raw_at bytes ≡ (slice_at 39 bytes >>= λ s. text_at (head_of bytes) s.1)
raw_in_two bytes = elim (cases_lt (length bytes) 39) [
  | inl short ↦ rw (slice_none 39 bytes short) (no_raw bytes short)
  | inr long ↦ rw (slice_there 39 bytes long) (whole_raw bytes long)
]

and_false : (b : Bool) → (b && false) ≡ false
and_false true = refl
and_false false = refl

-- a row, where there is one, and what is left
abbrev rowed : Option (Raw × List ℕ) → Option (Row × List ℕ)
rowed o = o >>= λ x. row_under [] key_most x.0 >>= λ row. Some (row, x.1)

abbrev made : Raw → PageChange → Row
made x change = (x.key, record { window = x.window; change = change })

-- a row is what fits, with its change
pub under_is : (x : Raw) → row_under [] key_most x ≡ cond (raw_fits x) (change_of x.code x.value >>= λ change. Some (made x change)) None
under_is x = by (change_of x.code x.value) refl where
  by : (o : Option PageChange) → change_of x.code x.value ≡ o → (o >>= λ change. cond (row_fits key_most (made x change)) (Some (made x change)) None) ≡ cond (raw_fits x) (o >>= λ change. Some (made x change)) None
  by None e = elim (cases_Bool (raw_fits x)) [ inl is ↦ rw is refl | inr isnt ↦ rw isnt refl ]
  by (Some change) e = let same : value_of change ≡ x.value = (change_takes x.code x.value change e).1 in rw same refl

-- a window that does not fit is none of a row
under_none : (x : Raw) → window_fits x.window ≡ false → row_under [] key_most x ≡ None
under_none x isnt = by (change_of x.code x.value) where
  by : (o : Option PageChange) → (o >>= λ change. cond (row_fits key_most (made x change)) (Some (made x change)) None) ≡ None
  by None = refl
  by (Some change) = rw (isnt, and_false (nat_le (length x.key) key_most && nat_le (length (value_of change)) 16384)) refl

abbrev texts : Head → Option (List ℕ × List ℕ) → Option (Raw × List ℕ)
texts h o = o >>= λ t. Some (raw_with h t.0, t.1)

row_again : (h : Head) (o : Option (List ℕ × List ℕ)) → rowed (texts h o) ≡ (o >>= λ t. row_under [] key_most (raw_with h t.0) >>= λ row. Some (row, t.1))
row_again h None = refl
row_again h (Some t) = refl

row_none : (h : Head) (o : Option (List ℕ × List ℕ)) → window_fits h.window ≡ false → rowed (texts h o) ≡ None
row_none h None isnt = refl
row_none h (Some t) isnt = rw (under_none (raw_with h t.0) isnt) refl

abbrev heads : Head → Option (List ℕ × List ℕ) → Option (Head × List ℕ)
heads h o = o >>= λ s. cond (window_fits h.window) (Some (h, s.1)) None

two_steps : (h : Head) (o : Option (List ℕ × List ℕ)) → rowed (o >>= λ s. text_at h s.1) ≡ (heads h o >>= λ p. behind_at p.0 p.1)
two_steps h None = refl
two_steps h (Some s) = elim (cases_Bool (window_fits h.window)) [
  | inl fits ↦ rw fits (row_again h (slice_at (h.key_len + h.value_len) s.1))
  | inr isnt ↦ rw isnt (row_none h (slice_at (h.key_len + h.value_len) s.1) isnt)
]

-- a cell is a head, and the row behind it
pub cell_in_two : (bytes : List ℕ) → cell_at [] key_most bytes ≡ (head_at bytes >>= λ h. behind_at h.0 h.1)
unfolding cell_at try_at
cell_in_two bytes = ap rowed (raw_in_two bytes) ∙ two_steps (head_of bytes) (slice_at 39 bytes)
