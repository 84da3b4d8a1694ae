-- The words of a line: what stands between single spaces.
use Rattle.std.specs.Prelude.{ℕ, Bool, true, false, ◌&&◌, not, ◌==◌, List, [], ◌++◌, ◌≡◌, ◌∷◌, Option, Some, None, option_map, if◌then◌else◌}

-- the byte stands in front of the first word
abbrev pub onto : ℕ → List (List ℕ) → List (List ℕ)
onto b [] = (b ∷ []) ∷ []
onto b (word ∷ words) = (b ∷ word) ∷ words

-- the words of a text, parted by single spaces: where two spaces stand side by side, or one at an end, a word is empty
abbrev pub words_of : List ℕ → List (List ℕ)
words_of [] = [] ∷ []
words_of (b ∷ rest) = if b == 32 then [] ∷ words_of rest else onto b (words_of rest)

abbrev pub is_word : List ℕ → Bool
is_word [] = false
is_word (b ∷ rest) = true

-- no word is empty
abbrev pub all_words : List (List ℕ) → Bool
all_words [] = true
all_words (word ∷ words) = is_word word && all_words words

-- the words of a text that may be absent
abbrev pub words_behind : Option (List ℕ) → List (List ℕ)
words_behind None = []
words_behind (Some text) = words_of text

-- what stands behind the space that a text begins with
abbrev pub behind_space : List ℕ → Option (List ℕ)
behind_space [] = None
behind_space (b ∷ rest) = Some rest

-- exactly one word, two, three
abbrev pub one_of : List (List ℕ) → Option (List ℕ)
one_of [] = None
one_of (a ∷ []) = Some a
one_of (a ∷ (b ∷ words)) = None

abbrev pub two_of : List (List ℕ) → Option (List ℕ × List ℕ)
two_of [] = None
two_of (a ∷ words) = option_map (λ b. (a, b)) (one_of words)

abbrev pub three_of : List (List ℕ) → Option (List ℕ × List ℕ × List ℕ)
three_of [] = None
three_of (a ∷ words) = option_map (λ rest. (a, rest.0, rest.1)) (two_of words)

-- what a word has behind a name that it begins with
abbrev pub after_of : List ℕ → List ℕ → Option (List ℕ)
after_of [] word = Some word
after_of (n ∷ name) [] = None
after_of (n ∷ name) (b ∷ word) = if b == n then after_of name word else None

abbrev pub no_words : List (List ℕ) → Bool
no_words [] = true
no_words (word ∷ words) = false

-- no byte is a space
abbrev pub is_unbroken : List ℕ → Bool
is_unbroken [] = true
is_unbroken (b ∷ rest) = not (b == 32) && is_unbroken rest

abbrev pub are_unbroken : List (List ℕ) → Bool
are_unbroken [] = true
are_unbroken (word ∷ words) = is_unbroken word && are_unbroken words

-- the words with a space between each and the next
abbrev pub joined : List (List ℕ) → List ℕ
joined [] = []
joined (word ∷ []) = word
joined (word ∷ (next ∷ words)) = word ++ 32 ∷ joined (next ∷ words)

-- there is a word, no word has a space in it, and the text is the words with a space between each and the next
pub record AreWordsOf (words : List (List ℕ)) (text : List ℕ) : Type 0 where
  pub some : no_words words ≡ false
  pub unbroken : are_unbroken words ≡ true
  pub whole : text ≡ joined words
