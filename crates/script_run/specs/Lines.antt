-- How an input is cut into lines.
use Rattle.std.specs.Prelude.{◌≡◌, ◌⊎◌, ◌≤◌, ◌+◌, ◌==◌, ◌&&◌, not, ℕ, Bool, true, false, List, [], ◌∷◌, ◌++◌, length, Option, IsTrue}
use Rattle.wt_io.specs.Streams.{Gave}
use Rattle.script_text.specs.declared.parse.TheConstants.{LINE_MAX}

-- no byte is a newline
abbrev pub is_unbroken : List ℕ → Bool
is_unbroken [] = true
is_unbroken (b ∷ rest) = not (b == 10) && is_unbroken rest

-- what a reader has: the bytes behind its line, the line, and whether it has met the end of the input
pub record Held : Type 0 where
  pub behind : List ℕ
  pub line : List ℕ
  pub ended : Bool

abbrev pub is_some_byte : List ℕ → Bool
is_some_byte [] = false
is_some_byte (b ∷ rest) = true

-- how a line ends: at its newline, at the end of the input, or at its byte behind the greatest length
abbrev pub EndsSo : Bool → List ℕ → List ℕ → List ℕ → Type 0
EndsSo ended bytes line behind =
    ((length line ≤ LINE_MAX) × (bytes ≡ line ++ 10 ∷ behind))
    ⊎ (((length line ≤ LINE_MAX) × (is_some_byte line ≡ true) × (ended ≡ true) × (behind ≡ []) × (bytes ≡ line))
    ⊎ ((length line ≡ LINE_MAX + 1) × (bytes ≡ line ++ behind)))

-- the line at the front of the bytes, and what is behind it; ended: the input has no more bytes
abbrev pub IsCut : Bool → List ℕ → List ℕ → List ℕ → Type 0
IsCut ended bytes line behind = (is_unbroken line ≡ true) × EndsSo ended bytes line behind

-- the lines at the front of the bytes, one after the other, and what is behind them
abbrev pub AreLines : Bool → List ℕ → List (List ℕ) → List ℕ → Type 0
AreLines ended bytes [] behind = bytes ≡ behind
AreLines ended bytes (line ∷ lines) behind = (middle : List ℕ) × IsCut ended bytes line middle × AreLines ended middle lines behind

-- ---- what a reader does

-- it reads into its empty buffer
abbrev pub IsFilled : Held → Held → Type 0
IsFilled old new = (new.line ≡ old.line) × (new.ended ≡ not (is_some_byte new.behind))

-- it takes bytes to its line: all that it has, or up to where the line ends
abbrev pub TakesUpTo : Bool → Held → Held → Type 0
TakesUpTo true old new =
    ((length new.line ≤ LINE_MAX) × (old.line ++ old.behind ≡ new.line ++ 10 ∷ new.behind))
    ⊎ ((length new.line ≡ LINE_MAX + 1) × (old.line ++ old.behind ≡ new.line ++ new.behind))
TakesUpTo false old new = (length new.line ≤ LINE_MAX) × (new.behind ≡ []) × (new.line ≡ old.line ++ old.behind)

pub record Takes (whole : Bool) (old new : Held) : Type 0 where
  pub unbroken : is_unbroken new.line ≡ true
  pub ended : new.ended ≡ old.ended
  pub taken : TakesUpTo whole old new

-- what the source gives to a reader, which reads no more behind the end
abbrev pub GaveMore : Bool → Option (List ℕ) → Option (List ℕ) → List ℕ → Type 0
GaveMore ended left left' given = Gave left left' given × (IsTrue ended → given ≡ [])

-- what it had and what the source gave begin with its line; or there is no line more
abbrev pub NextLine : Bool → Held → Held → List ℕ → Type 0
NextLine true old new given = IsCut new.ended (old.behind ++ given) new.line new.behind
NextLine false old new given = (old.behind ++ given ≡ []) × IsTrue new.ended × (new.behind ≡ [])
