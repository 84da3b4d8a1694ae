use Rattle.std.proofs.Common.{◌≡◌, ◌∙◌, ◌↔◌, ℕ, List, sym}
use Rattle.std.specs.Prelude.{Option, Some, Result, Ok, Err, IfOk}
use Rattle.failure.specs.declared.NoMemory.{NoMemory}
use Rattle.script_text.specs.declared.line.Line.{Line}
use Rattle.script_text.specs.Lines.{line_in}
use Rattle.script_text.specs.Grammar.{IsLine}
use Rattle.script_text.proofs.SpokenLines.{read-is, read-back}
use Rattle.script_text.proofs.parse.parse_line.Goals as goal

exact : (bytes : List ℕ) (r : Result (Option Line) NoMemory) → IfOk r (λ o. o ≡ line_in bytes) → IfOk r (λ o. (asked : Line) → (o ≡ Some asked) ↔ IsLine bytes asked)
exact bytes (Err e) is = tt
exact bytes (Ok o) is = λ asked. (λ e. read-is bytes asked (sym is ∙ e), λ l. is ∙ read-back bytes asked l)

pub returns : goal.returns
returns c = exact c.args.line.now c.read_line.result c.read_line.ensures
