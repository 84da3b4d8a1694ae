-- Items as printable texts: a printable byte is itself, a backslash is two, any other byte is a backslash and two hexadecimal digits.
use Rattle.std.specs.Prelude.{◌≡◌, ℕ, ◌+◌, ◌-◌, ◌*◌, ◌/◌, ◌%◌, ◌<◌, Bool, ◌&&◌, ◌==◌, nat_lt, nat_le, List, [], ◌∷◌, ◌++◌, Option, Some, None, option_map, option_and_then, if◌then◌else◌}
use Rattle.std.specs.List.{AllByRecursion}
use Rattle.item.specs.declared.escapes.Reading.{Reading}
use Rattle.item.specs.declared.escapes.Reading.TheVariants.{AtByte, AfterBackslash, AfterDigit}

abbrev pub backslash : ℕ
backslash = 92

abbrev pub newline : ℕ
newline = 10

abbrev pub is_printable : ℕ → Bool
is_printable b = nat_le 32 b && nat_le b 126

-- the lower-case digit of a number below 16
abbrev pub digit : ℕ → ℕ
digit d = if nat_lt d 10 then 48 + d else 87 + d

-- the number of a digit of either case
abbrev pub digit_value : ℕ → Option ℕ
digit_value b =
    if nat_le 48 b && nat_le b 57 then Some (b - 48)
    else (if nat_le 97 b && nat_le b 102 then Some (b - 87)
    else (if nat_le 65 b && nat_le b 70 then Some (b - 55) else None))

abbrev pub escape_byte : ℕ → List ℕ
escape_byte b =
    if b == 92 then 92 ∷ 92 ∷ []
    else (if is_printable b then b ∷ [] else 92 ∷ digit (b / 16) ∷ digit (b % 16) ∷ [])

abbrev pub escaped : List ℕ → List ℕ
escaped [] = []
escaped (b ∷ bytes) = escape_byte b ++ escaped bytes

-- the bytes that the rest of a text stands for; none where a backslash is followed by neither form, or a newline stands
abbrev pub bytes_of : Reading → List ℕ → Option (List ℕ)
bytes_of AtByte [] = Some []
bytes_of AtByte (b ∷ rest) =
    if b == 10 then None else (if b == 92 then bytes_of AfterBackslash rest else option_map (λ bytes. b ∷ bytes) (bytes_of AtByte rest))
bytes_of AfterBackslash [] = None
bytes_of AfterBackslash (b ∷ rest) =
    if b == 92 then option_map (λ bytes. 92 ∷ bytes) (bytes_of AtByte rest) else option_and_then (λ high. bytes_of (AfterDigit high) rest) (digit_value b)
bytes_of (AfterDigit high) [] = None
bytes_of (AfterDigit high) (b ∷ rest) = option_and_then (λ low. option_map (λ bytes. (16 * high + low) ∷ bytes) (bytes_of AtByte rest)) (digit_value b)

abbrev pub unescaped : List ℕ → Option (List ℕ)
unescaped text = bytes_of AtByte text

-- what one byte makes of the reading: none where it may not stand there
abbrev pub step_to : Reading → ℕ → Option (Reading × List ℕ)
step_to AtByte b = if b == 10 then None else (if b == 92 then Some (AfterBackslash, []) else Some (AtByte, b ∷ []))
step_to AfterBackslash b = if b == 92 then Some (AtByte, 92 ∷ []) else option_map (λ high. (AfterDigit high, [])) (digit_value b)
step_to (AfterDigit high) b = option_map (λ low. (AtByte, (16 * high + low) ∷ [])) (digit_value b)

-- the bytes before, then those of the rest
abbrev pub read_on : Reading × List ℕ → List ℕ → Option (List ℕ)
read_on now rest = option_map (λ bytes. now.1 ++ bytes) (bytes_of now.0 rest)

-- these bytes, then those that the rest of a text stands for
abbrev pub reads_on : List ℕ → Reading → List ℕ → Option (List ℕ)
reads_on out reading rest = option_map (λ bytes. out ++ bytes) (bytes_of reading rest)

-- what is escaped reads as itself
abbrev pub EscapesReadBack : Type 0
EscapesReadBack = (bytes : List ℕ) → AllByRecursion (λ b. b < 256) bytes → unescaped (escaped bytes) ≡ Some bytes

-- the number of a digit is below 16
abbrev pub IsSmall : Reading → Type 0
IsSmall (AfterDigit high) = high < 16
IsSmall _ = Unit {0}
