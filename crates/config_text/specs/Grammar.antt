-- The grammar of a configuration text: which items it has.
use Rattle.std.specs.Prelude.{◌≡◌, ℕ, true, List, [], ◌∷◌, ◌++◌}
use Rattle.std.specs.List.{list_all}
use Rattle.config_text.specs.Bytes.{is_plain, is_bare, is_of_key, is_quotable}

-- a key and a value
abbrev pub Pair : Type 0
Pair = List ℕ × List ℕ

-- what may stand between two brackets: plain bytes, quoted texts, and brackets that nest
pub data IsWithin : List ℕ → Type 0 where
  none : IsWithin []
  plain : (b : ℕ) (rest : List ℕ) → is_plain b ≡ true → IsWithin rest → IsWithin (b ∷ rest)
  quoted : (text rest : List ℕ) → list_all is_quotable text ≡ true → IsWithin rest → IsWithin (34 ∷ (text ++ 34 ∷ rest))
  round : (inner rest : List ℕ) → IsWithin inner → IsWithin rest → IsWithin (40 ∷ (inner ++ 41 ∷ rest))
  square : (inner rest : List ℕ) → IsWithin inner → IsWithin rest → IsWithin (91 ∷ (inner ++ 93 ∷ rest))

-- a value, and how it is written: bare, and then it may be empty; in double quotes, which are no part of it; or in round or square brackets, which are
pub data IsValue : List ℕ → List ℕ → Type 0 where
  bare : (value : List ℕ) → list_all is_bare value ≡ true → IsValue value value
  quoted : (value : List ℕ) → list_all is_quotable value ≡ true → IsValue value (34 ∷ (value ++ 34 ∷ []))
  round : (inner : List ℕ) → IsWithin inner → IsValue (40 ∷ (inner ++ 41 ∷ [])) (40 ∷ (inner ++ 41 ∷ []))
  square : (inner : List ℕ) → IsWithin inner → IsValue (91 ∷ (inner ++ 93 ∷ [])) (91 ∷ (inner ++ 93 ∷ []))

-- an item, and how it is written: a key, whose value is empty; or a key, an equals sign and a value. A key has a byte at least
pub data IsItem : Pair → List ℕ → Type 0 where
  alone : (b : ℕ) (key : List ℕ) → list_all is_of_key (b ∷ key) ≡ true → IsItem (b ∷ key, []) (b ∷ key)
  valued : (b : ℕ) (key value written : List ℕ) → list_all is_of_key (b ∷ key) ≡ true → IsValue value written → IsItem (b ∷ key, value) ((b ∷ key) ++ 61 ∷ written)

-- a comma comes next, or nothing
abbrev pub IsItemsEnd : List ℕ → Type 0
IsItemsEnd [] = Unit {0}
IsItemsEnd (b ∷ rest) = b ≡ 44

-- the items of a text, in order: each ends at a comma or at the end. Between two commas there may be none
pub data AreItems : List Pair → List ℕ → Type 0 where
  none : AreItems [] []
  comma : (items : List Pair) (rest : List ℕ) → AreItems items rest → AreItems items (44 ∷ rest)
  item : (first : Pair) (items : List Pair) (written rest : List ℕ) → IsItem first written → IsItemsEnd rest → AreItems items rest → AreItems (first ∷ items) (written ++ rest)
