use Rattle.std.proofs.Common.{sym, subst, refl, arith}
use Rattle.kv_model.specs.Holds.{Member}
use Rattle.kv_model.specs.History.{created}
use Rattle.kv_plain.specs.Plain.{history_in}
use Rattle.kv_plain.proofs.decisions.new_table.Goals as goal

pub returns-in-Some : goal.returns-in-Some
returns-in-Some c = (
  refl,
  refl,
  (
    (λ t there. let below = c.greatest_number.ensures t (subst (λ h. Member t (created (history_in h))) (sym c.deref.ensures.value) there) in omega (arith, below, c.in-Some.ensures)),
    omega (arith, c.in-Some.ensures),
  ),
)
