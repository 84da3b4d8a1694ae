use Rattle.std.proofs.Common.{◌∙◌, ◌++◌, refl, ap, List, ℕ}
use Rattle.std.proofs.lemmas.Bool.Decides.{Decides-eqb}
use Rattle.std.proofs.lemmas.Slice.Eq.{strip_prefix_is}
use Rattle.std.proofs.lemmas.Option.{MatchOption-at_some}
use Rattle.dump_text.proofs.taken.title.Goals as goal

pub returns-in-Some-clause-takes : goal.returns-in-Some-clause-takes
returns-in-Some-clause-takes c =
    let rest : List ℕ = c.in-Some.field-0.now in
    let is = strip_prefix_is Decides-eqb c.args.line.now c.as_slice.result.now c.strip_prefix.result c.strip_prefix.ensures.cases in
    ((rest, MatchOption-at_some _ _ c.in-Some.field-0 c.in-Some.is is ∙ ap (λ (l : List ℕ). l ++ rest) c.as_slice.ensures), refl, refl)
