use Rattle.std.proofs.Common.{◌≡◌, drop}
use Rattle.checkpoint_record.specs.Rules.{ids_ascend}
use Rattle.checkpoint_record.proofs.rules.ids_ascend.Given as goal

abbrev pub invariant-loop-id : goal.invariant-loop-id
invariant-loop-id l = ids_ascend l.least l.max (drop l.id-index l.ids) ≡ ids_ascend l.min l.max l.ids
