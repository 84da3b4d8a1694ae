use Rattle.std.proofs.Common.{◌≡◌, ◌+◌, drop}
use Rattle.std.specs.List.{prefix_len}
use Rattle.config_text.specs.Bytes.{is_of_key}
use Rattle.config_text.proofs.bytes.key_len.Given as goal

abbrev pub invariant-loop-i : goal.invariant-loop-i
invariant-loop-i l = prefix_len is_of_key l.text ≡ l.i + prefix_len is_of_key (drop l.i l.text)
