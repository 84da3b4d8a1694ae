use Rattle.std.proofs.Common.{◌<◌, ℕ, arith, subst}
use Rattle.std.specs.Prelude.{Option, IfSome}
use Rattle.script_text.proofs.NumberLemmas.{below-60}
use Rattle.script_text.proofs.numbers.stamp_from.Goals as goal

pub overflow_mul-value : goal.overflow_mul-value
overflow_mul-value c =
    let small = below-60 c.loop-digit.value c.loop-digit.digit-index c.loop-digit.invariant.small (omega (arith, c.requires, c.loop-digit-test.true)) in
    omega (arith, small)

pub overflow_add-value : goal.overflow_add-value
overflow_add-value c =
    let small = below-60 c.loop-digit.value c.loop-digit.digit-index c.loop-digit.invariant.small (omega (arith, c.requires, c.loop-digit-test.true)) in
    let low : c.in_ok-value.field-0 < 16 = subst (λ (o : Option ℕ). IfSome o (λ v. v < 16)) c.in_ok-value.was c.hex_value.ensures.small in
    omega (arith, small, low)
