-- Numbers in decimal, stamps in hexadecimal, and stamps behind their names.
use Rattle.std.specs.Prelude.{ℕ, ◌+◌, ◌-◌, ◌*◌, Bool, ◌&&◌, ◌==◌, nat_le, List, [], ◌∷◌, length, Option, Some, None, option_map, option_and_then, if◌then◌else◌}
use Rattle.script_text.specs.Words.{after_of, no_words, one_of, two_of}
use Rattle.script_text.specs.declared.numbers.Stamps.{Stamps}

abbrev pub is_digit : ℕ → Bool
is_digit b = nat_le 48 b && nat_le b 57

-- the number of digits so far and those that follow, none of whose fronts means more than the greatest
abbrev pub number_from : ℕ → ℕ → List ℕ → Option ℕ
number_from most n [] = Some n
number_from most n (b ∷ digits) =
    if is_digit b then (if nat_le (10 * n + (b - 48)) most then number_from most (10 * n + (b - 48)) digits else None) else None

abbrev pub from_least : ℕ → ℕ → Option ℕ
from_least least n = if nat_le least n then Some n else None

-- the number from the least to the greatest that is written in decimal, without a zero in front
abbrev pub number_of : ℕ → ℕ → List ℕ → Option ℕ
number_of least most [] = None
number_of least most (b ∷ digits) = if b == 48 then None else option_and_then (from_least least) (number_from most 0 (b ∷ digits))

-- the number of a lower-case hexadecimal digit
abbrev pub hex_value : ℕ → Option ℕ
hex_value b = if nat_le 48 b && nat_le b 57 then Some (b - 48) else (if nat_le 97 b && nat_le b 102 then Some (b - 87) else None)

abbrev pub stamp_from : ℕ → List ℕ → Option ℕ
stamp_from n [] = Some n
stamp_from n (b ∷ digits) = option_and_then (λ d. stamp_from (16 * n + d) digits) (hex_value b)

-- the stamp of 1 to 16 lower-case hexadecimal digits
abbrev pub stamp_of : List ℕ → Option ℕ
stamp_of [] = None
stamp_of (b ∷ digits) = if nat_le (length (b ∷ digits)) 16 then stamp_from 0 (b ∷ digits) else None

-- the stamp of a word that is a name and digits
abbrev pub given_of : List ℕ → List ℕ → Option ℕ
given_of name word = option_and_then stamp_of (after_of name word)

abbrev pub first_given : Option ℕ → Option ℕ → Option Stamps
first_given (Some stamp) other = Some (record { first = Some stamp; second = None })
first_given None other = option_map (λ stamp. record { first = None; second = Some stamp }) other

-- one word, with one of two names in front
abbrev pub either_of : List ℕ → List ℕ → List ℕ → Option Stamps
either_of a b word = first_given (given_of a word) (given_of b word)

-- two words, each with its name in front
abbrev pub both_of : List ℕ → List ℕ → List ℕ → List ℕ → Option Stamps
both_of a b one other = option_and_then (λ first. option_map (λ second. record { first = Some first; second = Some second }) (given_of b other)) (given_of a one)

abbrev pub one_or_two : List ℕ → List ℕ → Option (List ℕ) → Option (List ℕ × List ℕ) → Option Stamps
one_or_two a b (Some word) two = either_of a b word
one_or_two a b None two = option_and_then (λ words. both_of a b words.0 words.1) two

-- none, one or two words, with their names in front and in this order
abbrev pub stamps_of : List ℕ → List ℕ → List (List ℕ) → Option Stamps
stamps_of a b words = if no_words words then Some (record { first = None; second = None }) else one_or_two a b (one_of words) (two_of words)
