-- What is escaped reads as itself.
use Rattle.std.proofs.Common.{◌≡◌, ◌≢◌, ◌<◌, ◌≤◌, ◌+◌, ◌-◌, ◌*◌, ◌/◌, ◌%◌, ℕ, refl, ap, sym, subst, ◌∙◌, false, List, [], ◌∷◌, ◌++◌, inl, inr, arith}
use Rattle.std.specs.Prelude.{Option, Some, None, IfSome, length, option_map, option_and_then, nat_lt, nat_le, ◌==◌, slice_index_or}
use Rattle.std.proofs.Common.{take, drop, drop-cons, suc, take-append-drop}
use Rattle.std.proofs.lemmas.List.{take_more}
use Rattle.std.proofs.lemmas.Bool.{cases_Bool, both_ways, and_parts, le-leb, leb-true, lt-ltb, ltb-true, eqb-true, ne_eqb}
use Rattle.item.specs.Escapes.{digit, digit_value, is_printable, escape_byte, escaped, bytes_of, step_to, read_on, reads_on, unescaped, EscapesReadBack}
use Rattle.item.specs.declared.escapes.Reading.{Reading}
use Rattle.item.specs.declared.escapes.Reading.TheVariants.{AtByte, AfterBackslash, AfterDigit}

false-le : (x y : ℕ) → y < x → nat_le x y ≡ false
false-le x y over = elim (cases_Bool (nat_le x y)) [ inl is ↦ let l = leb-true x y is in absurd (omega arith) | inr isnt ↦ isnt ]

false-lt : (x y : ℕ) → y ≤ x → nat_lt x y ≡ false
false-lt x y over = elim (cases_Bool (nat_lt x y)) [ inl is ↦ let l = ltb-true x y is in absurd (omega arith) | inr isnt ↦ isnt ]

lt-from : (x y : ℕ) → nat_lt x y ≡ false → y ≤ x
lt-from x y isnt = le (λ l. both_ways (nat_lt x y) isnt (lt-ltb x y l)) where
  le : (x < y → ⊥) → y ≤ x
  le f = omega (arith, f)

-- a digit reads as its number
digit-reads : (d : ℕ) → d < 16 → digit_value (digit d) ≡ Some d
digit-reads d small = elim (cases_Bool (nat_lt d 10)) [
  | inl low ↦ let l = ltb-true d 10 low in
      rw (low, le-leb 48 (48 + d) (omega arith), le-leb (48 + d) 57 (omega arith)) (ap Some (same (48 + d) 48 d (omega arith)))
  | inr high ↦ let l = lt-from d 10 high in
      rw (high, le-leb 48 (87 + d) (omega arith), false-le (87 + d) 57 (omega arith), le-leb 97 (87 + d) (omega arith), le-leb (87 + d) 102 (omega arith)) (ap Some (same (87 + d) 87 d (omega arith)))
] where
  same : (x y z : ℕ) → x ≡ y + z → x - y ≡ z
  same x y z e = omega arith

-- and is no backslash
digit-other : (d : ℕ) → d < 16 → (digit d == 92) ≡ false
digit-other d small = elim (cases_Bool (nat_lt d 10)) [
  | inl low ↦ let l = ltb-true d 10 low in rw low (ne_eqb (48 + d) 92 (apart (48 + d) (omega arith)))
  | inr high ↦ let l = lt-from d 10 high in rw high (ne_eqb (87 + d) 92 (apart-high (87 + d) (omega arith)))
] where
  apart : (x : ℕ) → x < 92 → x ≢ 92
  apart x less e = omega arith

  apart-high : (x : ℕ) → 92 < x → x ≢ 92
  apart-high x more e = omega arith

halves : (b : ℕ) → 16 * (b / 16) + b % 16 ≡ b
halves b = omega arith

byte-reads : (b : ℕ) (rest : List ℕ) → b < 256 → bytes_of AtByte (escape_byte b ++ rest) ≡ option_map (λ bytes. b ∷ bytes) (bytes_of AtByte rest)
byte-reads b rest small = elim (cases_Bool (b == 92)) [
  | inl is ↦ let e = eqb-true b 92 is in rw is (ap (λ n. option_map (λ bytes. n ∷ bytes) (bytes_of AtByte rest)) (sym e))
  | inr other ↦ elim (cases_Bool (is_printable b)) [
    | inl plain ↦ let p = and_parts (nat_le 32 b) (nat_le b 126) plain in let l = leb-true 32 b p.0 in
        rw (other, plain, ne_eqb b 10 (apart b l), other) refl
    | inr hidden ↦ rw (other, hidden, digit-other (b / 16) (omega arith), digit-reads (b / 16) (omega arith), digit-reads (b % 16) (omega arith))
        (ap (λ n. option_map (λ bytes. n ∷ bytes) (bytes_of AtByte rest)) (halves b))
  ]
] where
  apart : (x : ℕ) → 32 ≤ x → x ≢ 10
  apart x more e = omega arith

pub append-after : (l m n : List ℕ) → (l ++ m) ++ n ≡ l ++ (m ++ n)
append-after [] m n = refl
append-after (x ∷ l) m n = ap (λ t. x ∷ t) (append-after l m n)

pub reads-back : EscapesReadBack
reads-back [] small = refl
reads-back (b ∷ bytes) small = byte-reads b (escaped bytes) small.0 ∙ ap (option_map (λ t. b ∷ t)) (reads-back bytes small.1)

-- one byte more
pub escaped-more : (bytes : List ℕ) (b : ℕ) → escaped (bytes ++ b ∷ []) ≡ escaped bytes ++ escape_byte b
escaped-more [] b = right (escape_byte b) where
  right : (l : List ℕ) → l ++ [] ≡ l
  right [] = refl
  right (x ∷ l) = ap (λ t. x ∷ t) (right l)
escaped-more (c ∷ bytes) b = ap (λ t. escape_byte c ++ t) (escaped-more bytes b) ∙ sym (append-after (escape_byte c) (escaped bytes) (escape_byte b))

-- nothing in front
map-none : (o : Option (List ℕ)) → option_map (λ bytes. [] ++ bytes) o ≡ o
map-none None = refl
map-none (Some bytes) = refl

-- one byte of a text, then the rest
pub step-reads : (reading : Reading) (b : ℕ) (rest : List ℕ) → bytes_of reading (b ∷ rest) ≡ option_and_then (λ now. read_on now rest) (step_to reading b)
step-reads AtByte b rest = elim (cases_Bool (b == 10)) [
  | inl is ↦ rw is refl
  | inr isnt ↦ elim (cases_Bool (b == 92)) [ inl slash ↦ rw (isnt, slash) (sym (map-none (bytes_of AfterBackslash rest))) | inr plain ↦ rw (isnt, plain) refl ]
]
step-reads AfterBackslash b rest = elim (cases_Bool (b == 92)) [
  | inl is ↦ rw is refl
  | inr isnt ↦ rw isnt (by (digit_value b))
] where
  by : (o : Option ℕ) → option_and_then (λ high. bytes_of (AfterDigit high) rest) o ≡ option_and_then (λ now. read_on now rest) (option_map (λ high. (AfterDigit high, [])) o)
  by None = refl
  by (Some high) = sym (map-none (bytes_of (AfterDigit high) rest))
step-reads (AfterDigit high) b rest = by (digit_value b) where
  by : (o : Option ℕ) → option_and_then (λ low. option_map (λ bytes. (16 * high + low) ∷ bytes) (bytes_of AtByte rest)) o ≡ option_and_then (λ now. read_on now rest) (option_map (λ low. (AtByte, (16 * high + low) ∷ [])) o)
  by None = refl
  by (Some low) = refl

joined : (out more : List ℕ) (o : Option (List ℕ)) → option_map (λ bytes. out ++ bytes) (option_map (λ bytes. more ++ bytes) o) ≡ option_map (λ bytes. (out ++ more) ++ bytes) o
joined out more None = refl
joined out more (Some bytes) = ap Some (sym (append-after out more bytes))

-- a byte was taken: what stands before it, then what the rest gives
pub taken : (out new : List ℕ) (reading next : Reading) (b : ℕ) (rest : List ℕ)
    → (Some next ≡ option_map (λ now. now.0) (step_to reading b)) → IfSome (step_to reading b) (λ now. new ≡ out ++ now.1)
    → reads_on out reading (b ∷ rest) ≡ reads_on new next rest
taken out new reading next b rest to more =
    ap (option_map (λ bytes. out ++ bytes)) (step-reads reading b rest) ∙ go (step_to reading b) to more where
      go : (o : Option (Reading × List ℕ)) → Some next ≡ option_map (λ now. now.0) o → IfSome o (λ now. new ≡ out ++ now.1)
          → option_map (λ bytes. out ++ bytes) (option_and_then (λ now. read_on now rest) o) ≡ reads_on new next rest
      go None to more = absurd (cc)
      go (Some now) to more = let same : next ≡ now.0 = cc in
          joined out now.1 (bytes_of now.0 rest)
          ∙ (ap (λ l. option_map (λ bytes. l ++ bytes) (bytes_of now.0 rest)) (sym more)
          ∙ ap (λ r. option_map (λ bytes. new ++ bytes) (bytes_of r rest)) (sym same))

drop-next : (text : List ℕ) (i : ℕ) → i < length text → drop i text ≡ slice_index_or text i 0 ∷ drop (i + 1) text
drop-next text i inside = drop-cons text i 0 inside ∙ ap (λ n. slice_index_or text i 0 ∷ drop n text) (one-more i) where
  one-more : (n : ℕ) → suc n ≡ n + 1
  one-more n = omega arith

-- one plain byte more of a text
pub text-more : (text : List ℕ) (i : ℕ) → i < length text → slice_index_or text i 0 ≢ 10 → slice_index_or text i 0 ≢ 92
    → unescaped text ≡ reads_on (take i text) AtByte (drop i text) → unescaped text ≡ reads_on (take (i + 1) text) AtByte (drop (i + 1) text)
text-more text i inside line slash before =
    let b : ℕ = slice_index_or text i 0 in
    let step : step_to AtByte b ≡ Some (AtByte, b ∷ []) = rw (ne_eqb b 10 line, ne_eqb b 92 slash) refl in
    before ∙ (ap (λ (l : List ℕ). reads_on (take i text) AtByte l) (drop-next text i inside)
    ∙ taken (take i text) (take (i + 1) text) AtByte AtByte b (drop (i + 1) text) (sym (ap (option_map (λ now. now.0)) step)) (subst (λ o. IfSome o (λ now. take (i + 1) text ≡ take i text ++ now.1)) (sym step) (take_more text i 0 inside)))

pub nothing-read : (text : List ℕ) → unescaped text ≡ reads_on [] AtByte text
nothing-read text = sym (map-none (unescaped text))

-- a plain front was copied
pub text-past : (out text : List ℕ) (n : ℕ) → unescaped text ≡ reads_on (take n text) AtByte (drop n text) → reads_on out AtByte text ≡ reads_on (out ++ take n text) AtByte (drop n text)
text-past out text n plain = ap (option_map (λ bytes. out ++ bytes)) plain ∙ joined out (take n text) (bytes_of AtByte (drop n text))

-- ---- plain runs

plain-byte : (b : ℕ) → 32 ≤ b → b ≤ 126 → b ≢ 92 → escape_byte b ≡ b ∷ []
plain-byte b low high other = rw (ne_eqb b 92 other, le-leb 32 b low, le-leb b 126 high) refl

pub plain-more : (bytes : List ℕ) (i : ℕ) → i < length bytes → 32 ≤ slice_index_or bytes i 0 → slice_index_or bytes i 0 ≤ 126 → slice_index_or bytes i 0 ≢ 92 → escaped (take i bytes) ≡ take i bytes → escaped (take (i + 1) bytes) ≡ take (i + 1) bytes
plain-more bytes i inside low high other before =
    let b : ℕ = slice_index_or bytes i 0 in
    ap escaped (take_more bytes i 0 inside) ∙ (escaped-more (take i bytes) b ∙ (ap (λ (l : List ℕ). l ++ escape_byte b) before ∙ (ap (λ (l : List ℕ). take i bytes ++ l) (plain-byte b low high other) ∙ sym (take_more bytes i 0 inside))))

escaped-append : (xs ys : List ℕ) → escaped (xs ++ ys) ≡ escaped xs ++ escaped ys
escaped-append [] ys = refl
escaped-append (x ∷ xs) ys = ap (λ (l : List ℕ). escape_byte x ++ l) (escaped-append xs ys) ∙ sym (append-after (escape_byte x) (escaped xs) (escaped ys))

-- what is written, then the escapes of the rest: a plain run is written as it is
pub escaped-past : (out rest : List ℕ) (n : ℕ) → escaped (take n rest) ≡ take n rest → out ++ escaped rest ≡ (out ++ take n rest) ++ escaped (drop n rest)
escaped-past out rest n plain =
    let parts : escaped rest ≡ take n rest ++ escaped (drop n rest) = ap escaped (sym (take-append-drop n rest)) ∙ (escaped-append (take n rest) (drop n rest) ∙ ap (λ (l : List ℕ). l ++ escaped (drop n rest)) plain) in
    ap (λ (l : List ℕ). out ++ l) parts ∙ sym (append-after out (take n rest) (escaped (drop n rest)))
