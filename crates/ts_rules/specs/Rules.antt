-- What the checks of an engine's stamps answer, by the stamp rules of the model.
use Rattle.std.specs.Prelude.{ℕ, Bool, max, List, Option, Result, Ok, Err}
use Rattle.wt_code.specs.declared.refusals.Invalid.{Invalid}
use Rattle.kv_model.specs.Machine.{of_some}
use Rattle.kv_model.specs.Refusals.{first_of, stamp_of}
use Rattle.ts_rules.specs.declared.stamps.Stamps.{Stamps}

-- refused for the first check that holds, else accepted
abbrev pub answer_by : List (Bool × Invalid) → Result (Unit {0}) Invalid
answer_by rules = of_some (Ok tt) (λ reason. Err reason) (first_of rules)

-- the stamps as they would be: none falls
abbrev pub raised : Stamps → Option ℕ → Option ℕ → Stamps
raised s oldest stable = record { oldest = max s.oldest (stamp_of oldest); stable = max s.stable (stamp_of stable) }
