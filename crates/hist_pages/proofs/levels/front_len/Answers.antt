use Rattle.std.proofs.Common.{arith}
use Rattle.hist_pages.proofs.CutLevels.{page-more}
use Rattle.hist_pages.proofs.levels.front_len.Goals as goal

pub returns-then-len-used-clause-full : goal.returns-then-len-used-clause-full
returns-then-len-used-clause-full c lt =
    let more = page-more c.args.entries.now c.loop-i.i c.index-entries-i.result lt c.index-entries-i.is in
    omega (arith, more, c.loop-i.invariant.so_far, c.loop-i.invariant.room, c.entry_len-len.ensures, c.if-len-used.true)

pub loop-i-preserved : goal.loop-i-preserved
loop-i-preserved c =
    let more = page-more c.args.entries.now c.loop-i.i c.index-entries-i.result (omega arith) c.index-entries-i.is in
    record {
      so_far = omega (arith, more, c.loop-i.invariant.so_far, c.entry_len-len.ensures);
      room = omega (arith, c.loop-i.invariant.room, c.if-len-used.false);
    }
