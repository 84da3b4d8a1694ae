use Rattle.std.proofs.Common.{rules, Fits, w8}
use Rattle.std.specs.Simd.Lanes.{Each1}
use Rattle.std.proofs.lemmas.Simd.{dot4_Fits}
use Rattle.block_sum.proofs.ChunkLemmas.{chunk_sums}
use Rattle.block_sum.proofs.chunk_sum.Goals as goal

pub dot4 : goal.dot4
dot4 c =
    let bytes : Each1 (Fits w8) c.args.chunk.now = search rules in
    (dot4_Fits c.args.chunk.now _ bytes tt, tt)

pub dot4-2 : goal.dot4-2
dot4-2 c =
    let bytes : Each1 (Fits w8) c.args.chunk.now = search rules in
    (dot4_Fits c.args.chunk.now _ bytes tt, tt)

pub returns : goal.returns
returns c = chunk_sums c.args.start c.args.chunk.now c.told-chunk
