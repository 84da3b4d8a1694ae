-- A header has one spelling, and so has an image that is filled up with zeros.
use Rattle.std.proofs.Common.{◌≡◌, ℕ, ◌+◌, ◌-◌, ◌^◌, ◌<◌, List, [], ◌∷◌, ◌++◌, length, take, replicate, slice_index_or, refl, sym, ap, ◌∙◌, append_assoc, arith}
use Rattle.std.proofs.lemmas.List.{length-append, take_at}
use Rattle.std.specs.Int.{w8, w16, w32, w64, to_le_bytes}
use Rattle.le_codec.specs.Fields.{IsField, le}
use Rattle.le_codec.specs.Images.{header, framed, padded, Head, head_text, HeadFits, HeadParts, head_of, head_at}
use Rattle.le_codec.proofs.Laws.{byte_field, field16, field32, field64, length_8, length_16, length_32, length_64}
use Rattle.le_codec.proofs.Combined.{then_field, as_field, again_field, one_value}

abbrev parts_of : Head → HeadParts
parts_of h = (h.kind, (h.format, (h.count, (h.used, h.level))))

pub head_field : IsField head_text head_at HeadFits
unfolding head_at
head_field =
    again_field head_text HeadFits (λ h. simp append_assoc refl) (λ h fits. record { kind = fits.0; format = fits.1.0; count = fits.1.1.0; used = fits.1.1.1.0; level = fits.1.1.1.1 }) (λ h fits. (fits.kind, (fits.format, (fits.count, (fits.used, fits.level)))))
    (as_field head_of parts_of (λ p. refl) (λ h. refl) (then_field byte_field (λ kind. then_field byte_field (λ format. then_field field16 (λ count. then_field field32 (λ used. field64))))))

pub length-head : (h : Head) → length (head_text h) ≡ 16
length-head h = simp (length-append, length_8, length_16, length_32, length_64) refl

pub length-header : (kind format count used level : ℕ) → length (header kind format count used level) ≡ 16
length-header kind format count used level = simp (length-append, length_8, length_16, length_32, length_64) refl

pub length-framed : (kind format count level : ℕ) (text : List ℕ) → length (framed kind format count level text) ≡ 16 + length text
length-framed kind format count level text = length-append (header kind format count (16 + length text) level) text ∙ ap (λ (k : ℕ). k + length text) (length-header kind format count (16 + length text) level)

-- what a header says
abbrev pub head_with : ℕ → ℕ → ℕ → ℕ → ℕ → Head
head_with kind format count used level = record { kind = kind; format = format; count = count; used = used; level = level }

-- two images of a kind and a format that are filled up to the same bytes have the same count, level and text
pub same_framed : (kind format j k c d : ℕ) (x y : List ℕ) (size other : ℕ) → kind < 2 ^ 8 → format < 2 ^ 8 → j < 2 ^ 64 → k < 2 ^ 64 → c < 2 ^ 16 → d < 2 ^ 16 → 16 + length x < 2 ^ 32 → 16 + length y < 2 ^ 32
    → padded (framed kind format c j x) size ≡ padded (framed kind format d k y) other → (c ≡ d) × (j ≡ k) × (x ≡ y)
same_framed kind format j k c d x y size other hk hf hj hl hc hd hx hy same =
    let a = head_with kind format c (16 + length x) j in
    let b = head_with kind format d (16 + length y) k in
    let ends : List ℕ = replicate (size - length (framed kind format c j x)) 0 in
    let others : List ℕ = replicate (other - length (framed kind format d k y)) 0 in
    let texts : head_text a ++ (x ++ ends) ≡ head_text b ++ (y ++ others) = sym (append_assoc (head_text a) x ends) ∙ same ∙ append_assoc (head_text b) y others in
    let both = one_value head_field a b (x ++ ends) (y ++ others) (record { kind = hk; format = hf; count = hc; used = hx; level = hj }) (record { kind = hk; format = hf; count = hd; used = hy; level = hl }) texts in
    let long : length y ≡ length x = omega (arith, ap (λ (h : Head). h.used) both.0) in
    let front : take (length x) (x ++ ends) ≡ x = take_at x ends (length x) refl in
    let back : take (length x) (y ++ others) ≡ y = take_at y others (length x) long in
    (ap (λ (h : Head). h.count) both.0, ap (λ (h : Head). h.level) both.0, sym front ∙ ap (λ (l : List ℕ). take (length x) l) both.1 ∙ back)

-- sixteen bytes that are the numbers' bytes are a header
pub header_from : (kind format count used level : ℕ) (cs us ls : List ℕ) → kind < 256 → format < 256 → cs ≡ to_le_bytes w16 count → us ≡ to_le_bytes w32 used → ls ≡ to_le_bytes w64 level
    → kind ∷ format ∷ slice_index_or cs 0 0 ∷ slice_index_or cs 1 0 ∷ slice_index_or us 0 0 ∷ slice_index_or us 1 0 ∷ slice_index_or us 2 0 ∷ slice_index_or us 3 0
    ∷ slice_index_or ls 0 0 ∷ slice_index_or ls 1 0 ∷ slice_index_or ls 2 0 ∷ slice_index_or ls 3 0 ∷ slice_index_or ls 4 0 ∷ slice_index_or ls 5 0 ∷ slice_index_or ls 6 0 ∷ slice_index_or ls 7 0 ∷ []
    ≡ header kind format count used level
unfolding le
header_from kind format count used level cs us ls hk hf ec eu el =
    let tail : List ℕ → List ℕ → List ℕ → List ℕ = λ c u l. slice_index_or c 0 0 ∷ slice_index_or c 1 0 ∷ slice_index_or u 0 0 ∷ slice_index_or u 1 0 ∷ slice_index_or u 2 0 ∷ slice_index_or u 3 0
    ∷ slice_index_or l 0 0 ∷ slice_index_or l 1 0 ∷ slice_index_or l 2 0 ∷ slice_index_or l 3 0 ∷ slice_index_or l 4 0 ∷ slice_index_or l 5 0 ∷ slice_index_or l 6 0 ∷ slice_index_or l 7 0 ∷ [] in
    let first : kind ∷ [] ≡ to_le_bytes w8 kind = ap (λ (k : ℕ). k ∷ []) (omega (arith, hk)) in
    let second : format ∷ [] ≡ to_le_bytes w8 format = ap (λ (k : ℕ). k ∷ []) (omega (arith, hf)) in
    ap (λ (c : List ℕ). kind ∷ format ∷ tail c us ls) ec
    ∙ ap (λ (u : List ℕ). kind ∷ format ∷ tail (to_le_bytes w16 count) u ls) eu
    ∙ ap (λ (l : List ℕ). kind ∷ format ∷ tail (to_le_bytes w16 count) (to_le_bytes w32 used) l) el
    ∙ ap (λ (k : List ℕ). k ++ format ∷ tail (to_le_bytes w16 count) (to_le_bytes w32 used) (to_le_bytes w64 level)) first
    ∙ ap (λ (f : List ℕ). (to_le_bytes w8 kind ++ f) ++ tail (to_le_bytes w16 count) (to_le_bytes w32 used) (to_le_bytes w64 level)) second
