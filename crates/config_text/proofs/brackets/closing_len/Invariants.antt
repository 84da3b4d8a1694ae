use Rattle.std.proofs.Common.{◌≡◌, ◌+◌, ◌∷◌, [], reverse, false, drop}
use Rattle.std.specs.Prelude.{option_map}
use Rattle.config_text.specs.Reading.{closing_len}
use Rattle.config_text.proofs.ClosingBrackets.{IsAwaiting}
use Rattle.config_text.proofs.brackets.closing_len.Given as goal

abbrev pub invariant-loop-i : goal.invariant-loop-i
invariant-loop-i l = record {
  len : closing_len false (l.close ∷ []) l.text ≡ option_map (λ n. l.i + n) (closing_len l.nest.quoted (reverse l.nest.awaited.items) (drop l.i l.text));
  awaiting : IsAwaiting (reverse l.nest.awaited.items);
}
