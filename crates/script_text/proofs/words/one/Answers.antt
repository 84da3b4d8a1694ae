use Rattle.std.proofs.Common.{◌∙◌, ◌∷◌, ℕ, List, sym, ap, Bor}
use Rattle.std.specs.Prelude.{Option, option_map}
use Rattle.script_text.specs.Words.{words_behind, one_of}
use Rattle.script_text.proofs.WordLemmas.{more-than-one}
use Rattle.script_text.proofs.words.one.Goals as goal

pub returns-in-Some : goal.returns-in-Some
returns-in-Some c =
    sym (ap (λ (o : Option (Bor (List ℕ))). one_of (words_behind (option_map (λ t. t.now) o))) c.in_ok-text.was
    ∙ ap one_of c.cut.ensures.words
    ∙ ap (λ (o : Option (Bor (List ℕ))). one_of (c.cut.result.0.now ∷ words_behind (option_map (λ t. t.now) o))) c.in-Some.is
    ∙ more-than-one c.cut.result.0.now c.in-Some.field-0.now)
