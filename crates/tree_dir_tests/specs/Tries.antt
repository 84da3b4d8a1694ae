-- Entries that the tests make.
use Rattle.std.specs.Prelude.{◌≡◌, ℕ, List, [], ◌∷◌}
use Rattle.stored.specs.TableTree.{Entry}

-- one entry with this key
pub record IsKeyed (low : List ℕ) (es : List Entry) : Type 0 where
  pub entry : Entry
  pub key : entry.key ≡ low
  pub all : es ≡ entry ∷ []

-- three entries, from the empty key, from g and from p on
pub record AreThree (es : List Entry) : Type 0 where
  pub first : Entry
  pub second : Entry
  pub third : Entry
  pub first_key : first.key ≡ []
  pub second_key : second.key ≡ 103 ∷ []
  pub third_key : third.key ≡ 112 ∷ []
  pub all : es ≡ first ∷ second ∷ third ∷ []
