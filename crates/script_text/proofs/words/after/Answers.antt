use Rattle.std.proofs.Common.{◌≡◌, ◌≢◌, ◌++◌, ℕ, List, sym, ◌∙◌, ap, Bor}
use Rattle.std.specs.Prelude.{Option, Some, None, option_map, MatchOption}
use Rattle.std.proofs.lemmas.Bool.Decides.{Decides-eqb}
use Rattle.std.proofs.lemmas.Slice.Eq.{strip_prefix_is}
use Rattle.script_text.specs.Words.{after_of}
use Rattle.script_text.proofs.WordLemmas.{after-append, after-none}
use Rattle.script_text.proofs.words.after.Goals as goal

stripped : (name word : List ℕ) (r : Option (Bor (List ℕ))) → MatchOption r ((rest : List ℕ) → word ≢ name ++ rest) (λ x. word ≡ name ++ x.now) → option_map (λ x. x.now) r ≡ after_of name word
stripped name word None never = sym (after-none name word never)
stripped name word (Some x) is = sym (ap (after_of name) is ∙ after-append name x.now)

pub returns : goal.returns
returns c = stripped c.args.name.now c.args.word.now c.strip_prefix.result (strip_prefix_is Decides-eqb c.args.word.now c.args.name.now c.strip_prefix.result c.strip_prefix.ensures.cases)
