use Rattle.std.proofs.Common.{◌≡◌, ◌≢◌, arith}
use Rattle.std.specs.Prelude.{Some, slice_get, slice_index_or}
use Rattle.std.proofs.lemmas.Option.{slice_get-get_or}
use Rattle.call_steps.specs.declared.written.WrittenKey.{WrittenKey}
use Rattle.engine_world.proofs.Fronts.{index-of}
use Rattle.engine_world.proofs.NotedSlots.{at-index}
use Rattle.engine.proofs.EachBelow.{each-all, each-more}
use Rattle.engine.proofs.evicting.has_written.Goals as goal

pub returns-then-key-frame-clause-yes : goal.returns-then-key-frame-clause-yes
returns-then-key-frame-clause-yes c = λ is. (slice_index_or c.args.keys.now c.loop-key.key-index none, at-index c.args.keys.now c.loop-key.key-index (slice_index_or c.args.keys.now c.loop-key.key-index none) at, c.if-key-frame.true) where
  none : WrittenKey
  none = record { frame = 0; slot = 0 }

  at : slice_get c.args.keys.now c.loop-key.key-index ≡ Some (slice_index_or c.args.keys.now c.loop-key.key-index none)
  at = slice_get-get_or c.args.keys.now c.loop-key.key-index none c.loop-key-test.true

pub loop-key-preserved : goal.loop-key-preserved
loop-key-preserved c = each-more (λ (k : WrittenKey). k.frame ≢ c.args.frame) c.args.keys.now c.loop-key.key-index (slice_index_or c.args.keys.now c.loop-key.key-index none) c.loop-key.invariant
    (slice_get-get_or c.args.keys.now c.loop-key.key-index none c.loop-key-test.true) c.if-key-frame.false where
      none : WrittenKey
      none = record { frame = 0; slot = 0 }

pub returns-clause-no : goal.returns-clause-no
returns-clause-no c = λ is k there. let i = index-of c.args.keys.now k there in
    each-all (λ (x : WrittenKey). x.frame ≢ c.args.frame) c.args.keys.now (λ j b less. c.loop-key.invariant j b (let end = c.loop-key-test.false in omega (arith, less, end))) i.0 k i.1
