use Rattle.std.proofs.Common.{◌≡◌, refl, sym, ℕ, List, Bool, Bor}
use Rattle.std.specs.Prelude.{Option, Some, None, option_map, true, false, not}
use Rattle.std.specs.Option.{is_some}
use Rattle.std.proofs.lemmas.Bool.{true≢false, false≢true}
use Rattle.script_text.specs.Words.{words_behind, no_words}
use Rattle.script_text.proofs.WordLemmas.{a-word-in}
use Rattle.script_text.proofs.words.none.Goals as goal

absent : (text : Option (Bor (List ℕ))) (r : Bool) → is_some text ≡ not r → r ≡ no_words (words_behind (option_map (λ t. t.now) text))
absent None true e = refl
absent None false e = absurd (false≢true e)
absent (Some text) true e = absurd (true≢false e)
absent (Some text) false e = sym (a-word-in text.now)

pub returns : goal.returns
returns c = absent c.args.text c.is_none.result c.is_none.ensures
