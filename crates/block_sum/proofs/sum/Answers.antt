use Rattle.std.proofs.Common.{◌≡◌, ◌*◌, ◌%◌, ◌/◌, ◌^◌, length, ℕ, List, [], get_or, arith, drop, ap, ◌∙◌}
use Rattle.block_sum.specs.Sum.{sum_from}
use Rattle.block_sum.proofs.ChunkLemmas.{sum_on}
use Rattle.block_sum.proofs.sum.Goals as goal

pub loop-chunk-preserved : goal.loop-chunk-preserved
loop-chunk-preserved c =
    let start = c.loop-chunk.start in
    let i = c.loop-chunk.chunk-index in
    let bytes = c.args.bytes.now in
    let added = c.chunk_sum-total.ensures ∙ ap (λ (chunks : List (List ℕ)). sum_from start (get_or chunks i []) % 2 ^ 32) c.as_chunks.ensures.front in
    let on = sum_on start i bytes c.loop-chunk.invariant.place (omega arith) in
    record { place = omega arith; all = omega (arith, added, on) }

pub returns : goal.returns
returns c =
    let start = c.loop-chunk.start in
    let bytes = c.args.bytes.now in
    let place : length bytes / 64 * 64 ≡ start = omega arith in
    let added = c.tail_sum.ensures ∙ ap (λ (tail : List ℕ). sum_from start tail % 2 ^ 32) (c.as_chunks.ensures.back ∙ ap (λ (n : ℕ). drop n bytes) place) in
    omega (arith, added)
