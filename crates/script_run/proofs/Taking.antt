-- What a reader takes from its buffer to its line.
use Rattle.std.proofs.Common.{◌≡◌, ◌≢◌, ◌∙◌, ◌++◌, ◌+◌, ◌-◌, ◌≤◌, ◌<◌, ℕ, suc, List, ◌∷◌, length, take, drop, refl, sym, ap, subst, inl, inr, get_or, append_assoc, take-append-drop, drop-cons, length-append, length-drop, arith}
use Rattle.std.specs.Prelude.{Bool, true, false}
use Rattle.std.proofs.lemmas.List.{take-take, take_all, drop-take, drop-drop, length-take-le, nil_from_length}
use Rattle.script_text.specs.declared.parse.TheConstants.{LINE_MAX}
use Rattle.script_run.specs.Lines.{EndsSo, Held, IsCut, Takes, TakesUpTo, is_unbroken}
use Rattle.script_run.proofs.Cutting.{unbroken-both, unbroken-take}

abbrev pub held : List ℕ → ℕ → ℕ → List ℕ → Bool → Held
held bytes at end line ended = record { behind = drop at (take end bytes); line = line; ended = ended }

-- the bytes that are not taken yet, as a slice of the buffer
slice_is : (bytes : List ℕ) (at end : ℕ) → at ≤ end → drop at (take end bytes) ≡ take (end - at) (drop at bytes)
slice_is bytes at end le = let e : end ≡ at + (end - at) = omega (arith, le) in
    ap (λ (n : ℕ). drop at (take n bytes)) e ∙ drop-take at (end - at) bytes

front_unbroken : (line p : List ℕ) (n count : ℕ) → is_unbroken line ≡ true → is_unbroken (take n p) ≡ true → count ≤ n → is_unbroken (line ++ take count p) ≡ true
front_unbroken line p n count u v le =
    unbroken-both line (take count p) u (subst (λ (l : List ℕ). is_unbroken l ≡ true) (take-take count n p le) (unbroken-take count (take n p) v))

parted : (line p : List ℕ) (count : ℕ) → line ++ p ≡ (line ++ take count p) ++ drop count p
parted line p count = ap (λ (l : List ℕ). line ++ l) (sym (take-append-drop count p)) ∙ sym (append_assoc line (take count p) (drop count p))

pub length_front : (line p : List ℕ) (count : ℕ) → count ≤ length p → length (line ++ take count p) ≡ length line + count
length_front line p count le = length-append line (take count p) ∙ ap (λ (n : ℕ). length line + n) (length-take-le count p le)

next_byte : (p : List ℕ) (n : ℕ) → n < length p → get_or p n 0 ≡ 10 → drop n p ≡ 10 ∷ drop (n + 1) p
next_byte p n lt is = let e : suc n ≡ n + 1 = omega arith in
    drop-cons p n 0 lt ∙ ap (λ (b : ℕ). b ∷ drop (suc n) p) is ∙ ap (λ (k : ℕ). 10 ∷ drop k p) e

-- ---- over what is not taken yet

long_in : (p line : List ℕ) (n count : ℕ) (ended : Bool) → is_unbroken line ≡ true → is_unbroken (take n p) ≡ true → n ≤ length p → count ≤ n → length line + count ≤ LINE_MAX + 1
    → LINE_MAX < length (line ++ take count p)
    → Takes true (record { behind = p; line = line; ended = ended }) (record { behind = drop count p; line = line ++ take count p; ended = ended })
long_in p line n count ended u v within le room long =
    let short : count ≤ length p = omega (arith, within, le) in
    let size = length_front line p count short in
    record {
      unbroken = front_unbroken line p n count u v le;
      ended = refl;
      taken = inr (omega (arith, size, room, long), parted line p count);
    }

none_in : (p line : List ℕ) (n count : ℕ) (ended : Bool) → is_unbroken line ≡ true → is_unbroken (take n p) ≡ true → count ≤ n → count ≡ length p → length (line ++ take count p) ≤ LINE_MAX
    → Takes false (record { behind = p; line = line; ended = ended }) (record { behind = drop count p; line = line ++ take count p; ended = ended })
none_in p line n count ended u v le all short =
    let none : length (drop count p) ≡ 0 = length-drop count p ∙ omega (arith, all) in
    record {
      unbroken = front_unbroken line p n count u v le;
      ended = refl;
      taken = (short, nil_from_length (drop count p) none, ap (λ (l : List ℕ). line ++ l) (take_all count p (omega (arith, all))));
    }

newline_in : (p line : List ℕ) (count : ℕ) (ended : Bool) → is_unbroken line ≡ true → is_unbroken (take count p) ≡ true → count < length p → get_or p count 0 ≡ 10 → length (line ++ take count p) ≤ LINE_MAX
    → Takes true (record { behind = p; line = line; ended = ended }) (record { behind = drop (count + 1) p; line = line ++ take count p; ended = ended })
newline_in p line count ended u v lt is short = record {
  unbroken = unbroken-both line (take count p) u v;
  ended = refl;
  taken = inl (short, parted line p count ∙ ap (λ (l : List ℕ). (line ++ take count p) ++ l) (next_byte p count lt is));
}

-- ---- over the buffer

-- by the slice that was looked at
along : (whole : Bool) (bytes line line' : List ℕ) (at end count after : ℕ) (ended : Bool) → at ≤ end → line' ≡ line ++ take count (take (end - at) (drop at bytes))
    → Takes whole (record { behind = take (end - at) (drop at bytes); line = line; ended = ended }) (record { behind = drop after (take (end - at) (drop at bytes)); line = line ++ take count (take (end - at) (drop at bytes)); ended = ended })
    → Takes whole (held bytes at end line ended) (held bytes (at + after) end line' ended)
along whole bytes line line' at end count after ended le is takes =
    let p : List ℕ = take (end - at) (drop at bytes) in
    let before : p ≡ drop at (take end bytes) = sym (slice_is bytes at end le) in
    let behind : drop after p ≡ drop (at + after) (take end bytes) = ap (λ (l : List ℕ). drop after l) before ∙ drop-drop after at (take end bytes) in
    subst (λ (l : List ℕ). Takes whole (record { behind = l; line = line; ended = ended }) (held bytes (at + after) end line' ended)) before
    (subst (λ (l : List ℕ). Takes whole (record { behind = p; line = line; ended = ended }) (record { behind = l; line = line'; ended = ended })) behind
    (subst (λ (l : List ℕ). Takes whole (record { behind = p; line = line; ended = ended }) (record { behind = drop after p; line = l; ended = ended })) (sym is) takes))

-- the line has got too long
pub takes-long : (bytes line line' : List ℕ) (at end n count : ℕ) (ended : Bool) → at ≤ end → is_unbroken line ≡ true → is_unbroken (take n (take (end - at) (drop at bytes))) ≡ true
    → n ≤ length (take (end - at) (drop at bytes)) → count ≤ n → length line + count ≤ LINE_MAX + 1 → line' ≡ line ++ take count (take (end - at) (drop at bytes)) → LINE_MAX < length line'
    → Takes true (held bytes at end line ended) (held bytes (at + count) end line' ended)
takes-long bytes line line' at end n count ended order u v within le room is long =
    along true bytes line line' at end count count ended order is
    (long_in (take (end - at) (drop at bytes)) line n count ended u v within le room (subst (λ (l : List ℕ). LINE_MAX < length l) is long))

-- all is taken
pub takes-all : (bytes line line' : List ℕ) (at end n count : ℕ) (ended : Bool) → at ≤ end → end ≤ length bytes → is_unbroken line ≡ true → is_unbroken (take n (take (end - at) (drop at bytes))) ≡ true
    → count ≤ n → at + count ≡ end → line' ≡ line ++ take count (take (end - at) (drop at bytes)) → length line' ≤ LINE_MAX
    → Takes false (held bytes at end line ended) (held bytes (at + count) end line' ended)
takes-all bytes line line' at end n count ended order fits u v le all is short =
    let size : length (take (end - at) (drop at bytes)) ≡ end - at = length-take-le (end - at) (drop at bytes) (let l = length-drop at bytes in omega (arith, l, order, fits)) in
    along false bytes line line' at end count count ended order is
    (none_in (take (end - at) (drop at bytes)) line n count ended u v le (omega (arith, size, all, order)) (subst (λ (l : List ℕ). length l ≤ LINE_MAX) is short))

-- the line ends at its newline
pub takes-newline : (bytes line line' : List ℕ) (at end n count : ℕ) (ended : Bool) → at ≤ end → end ≤ length bytes → is_unbroken line ≡ true → is_unbroken (take n (take (end - at) (drop at bytes))) ≡ true
    → (n < length (take (end - at) (drop at bytes)) → get_or (take (end - at) (drop at bytes)) n 0 ≡ 10)
    → n ≤ length (take (end - at) (drop at bytes)) → count ≡ n → at + count ≢ end → line' ≡ line ++ take count (take (end - at) (drop at bytes)) → length line' ≤ LINE_MAX
    → Takes true (held bytes at end line ended) (held bytes (at + (count + 1)) end line' ended)
takes-newline bytes line line' at end n count ended order fits u v newline within same other is short =
    let p : List ℕ = take (end - at) (drop at bytes) in
    let size : length p ≡ end - at = length-take-le (end - at) (drop at bytes) (let l = length-drop at bytes in omega (arith, l, order, fits)) in
    let before : n < length p = omega (arith, size, within, same, other, order) in
    along true bytes line line' at end count (count + 1) ended order is
    (newline_in p line count ended u (subst (λ (k : ℕ). is_unbroken (take k p) ≡ true) (sym same) v) (omega (arith, same, before)) (subst (λ (k : ℕ). get_or p k 0 ≡ 10) (sym same) (newline before)) (subst (λ (l : List ℕ). length l ≤ LINE_MAX) is short))

-- ---- the line of a call

-- what was read before, what is read now, and the line that ends in it
pub cut-after : (old filled new : Held) (line given : List ℕ) → old.behind ++ given ≡ line → filled.line ≡ line → Takes true filled new → IsCut new.ended (old.behind ++ (given ++ filled.behind)) new.line new.behind
cut-after old filled new line given read same takes =
    let whole : old.behind ++ (given ++ filled.behind) ≡ filled.line ++ filled.behind =
    sym (append_assoc old.behind given filled.behind) ∙ ap (λ (l : List ℕ). l ++ filled.behind) (read ∙ sym same) in
    (takes.unbroken, ends takes.taken whole)
  where
    ends : TakesUpTo true filled new → old.behind ++ (given ++ filled.behind) ≡ filled.line ++ filled.behind → EndsSo new.ended (old.behind ++ (given ++ filled.behind)) new.line new.behind
    ends (inl (short, is)) whole = inl (short, whole ∙ is)
    ends (inr (long, is)) whole = inr (inr (long, whole ∙ is))
