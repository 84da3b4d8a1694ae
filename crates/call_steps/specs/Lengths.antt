-- What is wrong with the lengths of a call's items.
use Rattle.std.specs.Prelude.{Bool, nat_lt, List, [], ◌∷◌, length}
use Rattle.wt_code.specs.declared.refusals.Invalid.{Invalid}
use Rattle.wt_code.specs.declared.refusals.Invalid.TheVariants as invalid
use Rattle.limits.specs.declared.TheConstants.{KEY_MAX, VALUE_MAX}
use Rattle.call_steps.specs.State.{State}

-- the checks of a call's items without that of the name
abbrev pub length_checks : State → List (Bool × Invalid)
length_checks s = (nat_lt KEY_MAX (length s.key), invalid.KeyLong (length s.key)) ∷ ((nat_lt VALUE_MAX (length s.value), invalid.ValueLong (length s.value)) ∷ [])
