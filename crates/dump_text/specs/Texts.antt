-- The dump that a text is, and the line at which one that is none is refused.
use Rattle.std.specs.Prelude.{◌≡◌, ◌⊎◌, ◌+◌, ℕ, Bool, true, false, List, [], ◌∷◌, ◌++◌, length}
use Rattle.wt_code.specs.declared.refusals.Refusal.{Refusal}
use Rattle.wt_code.specs.declared.refusals.Refusal.TheVariants.{NoMemory, Invalid}
use Rattle.wt_code.specs.declared.refusals.Invalid.TheVariants.{Text}
use Rattle.dump_text.specs.Cuts.{lines_in}
use Rattle.dump_text.specs.Grammar.{Dump, IsDump}
use Rattle.dump_text.specs.declared.whole.Dumped.{Dumped}

-- the lines go on to be a dump
abbrev pub GoesOn : List (List ℕ) → Type 0
GoesOn front = (more : List (List ℕ)) × (dump : Dump) × IsDump dump (front ++ more)

-- with the next of these lines behind it the front does not; or there is none, and it is no whole dump
abbrev pub StopsThere : (front rest : List (List ℕ)) → Type 0
StopsThere front [] = (dump : Dump) → IsDump dump front → ⊥
StopsThere front (line ∷ rest) = GoesOn (front ++ line ∷ []) → ⊥

-- the line of this number, counted from 1, is the first that is wrong or missing
abbrev pub IsWrongAt : List (List ℕ) → ℕ → Type 0
IsWrongAt lines number = (front rest : List (List ℕ)) × (lines ≡ front ++ rest) × (number ≡ length front + 1) × GoesOn front × StopsThere front rest

-- of lines that have not ended: the first that is wrong, or the last
abbrev pub IsOverAt : List (List ℕ) → ℕ → Type 0
IsOverAt lines number =
    (front rest : List (List ℕ)) × (line : List ℕ) × (lines ≡ front ++ line ∷ rest) × (number ≡ length front + 1) × GoesOn front
    × ((rest ≡ []) ⊎ (GoesOn (front ++ line ∷ []) → ⊥))

-- the line at which a text is refused, which is all of its input or has not ended
abbrev pub IsRefusedAt : (ended : Bool) → List ℕ → ℕ → Type 0
IsRefusedAt true text number = IsWrongAt (lines_in text) number
IsRefusedAt false text number = IsOverAt (lines_in text) number

-- why it is
abbrev pub IsRefused : (ended : Bool) → List ℕ → Refusal → Type 0
IsRefused ended text r = (r ≡ NoMemory) ⊎ ((number : ℕ) × (r ≡ Invalid (Text number)) × IsRefusedAt ended text number)

-- the lines are a dump, which tells this
pub record IsDumped (lines : List (List ℕ)) (d : Dumped) : Type 0 where
  pub dump : Dump
  pub is : IsDump dump lines
  pub table : d.table ≡ record { name = dump.name; formats = dump.formats }
  pub rows : d.rows ≡ dump.rows
