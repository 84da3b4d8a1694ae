use Rattle.std.proofs.Common.{◌≡◌, ◌++◌, take}
use Rattle.std.specs.List.{flat_map}
use Rattle.std.specs.Int.{w64}
use Rattle.le_codec.specs.Fields.{le}
use Rattle.checkpoint_record.proofs.writing.put_ids.Given as goal

abbrev pub invariant-loop-id : goal.invariant-loop-id
invariant-loop-id l = l.out ≡ l.fn.out ++ flat_map (le w64) (take l.id-index l.ids)
