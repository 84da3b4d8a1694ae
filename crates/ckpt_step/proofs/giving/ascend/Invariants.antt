use Rattle.std.proofs.Common.{◌≡◌, take}
use Rattle.std.specs.Prelude.{option_map}
use Rattle.std.specs.Borrow.{Bor}
use Rattle.stored.specs.TableTree.{Climbs, Entry}
use Rattle.ckpt_step.proofs.EntryKeys.{last_of}
use Rattle.ckpt_step.proofs.giving.ascend.Given as goal

abbrev pub invariant-loop-entry : goal.invariant-loop-entry
invariant-loop-entry l = record {
  climbs : Climbs (take l.entry-index l.entries);
  last : option_map (λ (x : Bor Entry). x.now) l.last ≡ last_of (take l.entry-index l.entries);
}
