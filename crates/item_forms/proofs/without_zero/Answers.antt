use Rattle.std.proofs.Common.{◌++◌, ◌∷◌, ◌∙◌, ℕ, [], sym, ap}
use Rattle.item_forms.specs.Forms.{without_zero}
use Rattle.item_forms.proofs.ZeroLemmas.{zero-off, other-on}
use Rattle.item_forms.proofs.without_zero.Goals as goal

pub returns-then-last-eq0 : goal.returns-then-last-eq0
returns-then-last-eq0 c =
    let is = c.in-Some.ensures.cases.0 in
    sym (zero-off c.in-Some.front.now) ∙ ap without_zero (ap (λ (x : ℕ). c.in-Some.front.now ++ x ∷ []) (sym c.if-last-eq0.true) ∙ sym is)

pub returns-else-last-eq0 : goal.returns-else-last-eq0
returns-else-last-eq0 c =
    let is = c.in-Some.ensures.cases.0 in
    is ∙ sym (other-on c.in-Some.front.now c.in-Some.last.now c.if-last-eq0.false) ∙ ap without_zero (sym is)
