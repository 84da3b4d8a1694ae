-- An input that is taken as a whole.
use Rattle.std.specs.Prelude.{◌≡◌, ◌⊎◌, ◌++◌, ℕ, List, length}
use Rattle.wt_code.specs.declared.refusals.Refusal.TheVariants.{NoMemory}
use Rattle.script_run.specs.declared.script.End.{End}
use Rattle.script_run.specs.declared.script.End.TheVariants.{Stopped, InputFailed}
use Rattle.wt_tool.specs.Loads.{IsWhole}
use Rattle.wt_tool.specs.declared.input.Taken.{Taken}

-- these bytes are what was taken
abbrev pub IsTaken : (input_ended : Type 0) → List ℕ → Taken → Type 0
IsTaken input_ended taken t = (t.text.items ≡ taken) × IsWhole input_ended t.ended taken

-- so many bytes were put behind a text; none at the end of the input
abbrev pub IsPiece : (input_ended : Type 0) → List ℕ → ℕ → (old new : List ℕ) → Type 0
IsPiece input_ended piece n old new = (length piece ≡ n) × (new ≡ old ++ piece) × (n ≡ 0 → input_ended)

-- why an input is not taken: a read of it failed, or memory is wanted
abbrev pub IsUntaken : (input_failed : Type 0) → End → Type 0
IsUntaken input_failed end = ((end ≡ InputFailed) × input_failed) ⊎ (end ≡ Stopped NoMemory)
