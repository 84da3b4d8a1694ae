-- A text of a call: what was given, or a copy of what was lent.
use Rattle.std.specs.Prelude.{ℕ, List, Option, Some, None}

abbrev pub text_of : Option (List ℕ) → List ℕ → List ℕ
text_of None copied = copied
text_of (Some given) copied = given
