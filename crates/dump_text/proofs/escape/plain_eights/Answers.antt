use Rattle.std.proofs.Common.{◌≡◌, ◌<◌, ◌/◌, ℕ, List, [], get_or, length, arith, subst}
use Rattle.item.specs.Escapes.{escaped}
use Rattle.dump_text.proofs.PlainLanes.{eight_more}
use Rattle.dump_text.proofs.escape.plain_eights.Goals as goal

pub loop-chunk-preserved : goal.loop-chunk-preserved
loop-chunk-preserved c =
    let bytes = c.args.bytes.now in
    let i = c.loop-chunk.chunk-index in
    let less : i < length bytes / 8 = omega (arith, c.loop-chunk-test.true, c.as_chunks.ensures.front_len) in
    let plain = c.are_plain.ensures c.if-not-are_plain.false in
    record {
      place = omega (arith, c.loop-chunk.invariant.place);
      plain = eight_more bytes c.loop-chunk.front i c.loop-chunk.invariant.place less c.loop-chunk.invariant.plain (subst (λ (chunks : List (List ℕ)). escaped (get_or chunks i []) ≡ get_or chunks i []) c.as_chunks.ensures.front plain);
    }
