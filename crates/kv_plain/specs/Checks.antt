-- What the plain checks and rules stand for.
use Rattle.std.specs.Prelude.{Bool}
use Rattle.wt_code.specs.declared.refusals.Refusal.{Refusal}
use Rattle.wt_code.specs.declared.refusals.Invalid.{Invalid}
use Rattle.kv_plain.specs.declared.checks.Check.{Check}
use Rattle.kv_plain.specs.declared.checks.Rule.{Rule}

abbrev pub check_in : Check → Bool × Refusal
check_in c = (c.holds, c.refusal)

abbrev pub rule_in : Rule → Bool × Invalid
rule_in r = (r.broken, r.reason)
