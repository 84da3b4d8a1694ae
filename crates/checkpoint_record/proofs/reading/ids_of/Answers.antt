use Rattle.std.proofs.Common.{◌+◌, ◌-◌, ℕ, List, ap, ◌∙◌, arith}
use Rattle.std.specs.Int.{w64}
use Rattle.le_codec.specs.Fields.{number_at}
use Rattle.le_codec.specs.Combine.{many_at, with_front}
use Rattle.checkpoint_record.proofs.Many.{goes_on, ends, is_done}
use Rattle.checkpoint_record.proofs.reading.ids_of.Goals as goal

pub returns-in_default : goal.returns-in_default
returns-in_default c =
    ends (number_at w64) c.loop.ids.items c.args.count c.loop.counter c.loop.reader (many_at (number_at w64) c.args.count c.args.reader.now) c.loop-test.true c.in_default.ensures.read c.loop.invariant.read

pub loop-preserved : goal.loop-preserved
loop-preserved c = record {
  room = c.push_reserved.ensures.capacity ∙ c.loop.invariant.room;
  len = omega (arith, c.push_reserved.ensures.len, c.loop.invariant.len);
  read =
      ap (λ (l : List ℕ). with_front l (many_at (number_at w64) (c.args.count - (c.loop.counter + 1)) c.u64.new.self)) c.push_reserved.ensures.items
      ∙ goes_on (number_at w64) c.loop.ids.items c.args.count c.loop.counter c.loop.reader c.in-Some.id c.u64.new.self (many_at (number_at w64) c.args.count c.args.reader.now) c.loop-test.true c.in-Some.ensures.read c.loop.invariant.read;
}

pub returns : goal.returns
returns c = is_done (number_at w64) c.loop.ids.items c.args.count c.loop.counter c.loop.reader (many_at (number_at w64) c.args.count c.args.reader.now) c.loop-test.false c.loop.invariant.read
