-- Items as they are written, and as a table of a format stores them.
use Rattle.std.specs.Prelude.{ℕ, ◌==◌, List, [], ◌∷◌, ◌++◌, if◌then◌else◌}
use Rattle.item.specs.declared.formats.Format.{Format}
use Rattle.item.specs.declared.formats.Format.TheVariants.{S, U}

-- an item as it is written, in a table of the format: one of the format S ends with a zero byte
abbrev pub stored_as : Format → List ℕ → List ℕ
stored_as S item = item ++ 0 ∷ []
stored_as U item = item

-- without its final byte, where that is zero
abbrev pub without_zero : List ℕ → List ℕ
without_zero [] = []
without_zero (b ∷ []) = if b == 0 then [] else b ∷ []
without_zero (b ∷ (c ∷ rest)) = b ∷ without_zero (c ∷ rest)

-- a stored item as it is written
abbrev pub written_as : Format → List ℕ → List ℕ
written_as S item = without_zero item
written_as U item = item
