use Rattle.std.proofs.Common.{◌≡◌, ◌*◌, take}
use Rattle.item.specs.Escapes.{escaped}
use Rattle.dump_text.proofs.escape.plain_eights.Given as goal

abbrev pub invariant-loop-chunk : goal.invariant-loop-chunk
invariant-loop-chunk l = record {
  place : l.front ≡ 8 * l.chunk-index;
  plain : escaped (take l.front l.bytes) ≡ take l.front l.bytes;
}
