use Rattle.std.proofs.Common.{◌≡◌, ◌∙◌, refl, sym, length, arith}
use Rattle.std.specs.Prelude.{Option, None, Some, slice_get}
use Rattle.std.proofs.lemmas.Option.{slice_get_read}
use Rattle.engine.specs.declared.turning.Evicting.{Evicting}
use Rattle.engine.proofs.EachBelow.{each-all, each-more}
use Rattle.engine.proofs.Lockers.{each-by, none-there}
use Rattle.engine.proofs.turning.are_any.Goals as goal

pub returns : goal.returns
returns c = λ is number. each-by (λ (x : Option Evicting). x ≡ None) refl c.args.evicting.now (each-all (λ (x : Option Evicting). x ≡ None) c.args.evicting.now (λ i b less. c.loop-at.invariant i b (let end = c.loop-at-test.false in omega (arith, less, end)))) number

pub loop-at-preserved : goal.loop-at-preserved
loop-at-preserved c = each-more (λ (x : Option Evicting). x ≡ None) c.args.evicting.now c.loop-at.at c.index-evicting-at.result c.loop-at.invariant at (none-there c.index-evicting-at.result (sym c.is_one.ensures ∙ c.if-is_one.false)) where
  at : slice_get c.args.evicting.now c.loop-at.at ≡ Some c.index-evicting-at.result
  at = slice_get_read c.args.evicting.now (length c.args.evicting.now) c.loop-at.at c.index-evicting-at.result refl c.loop-at-test.true c.index-evicting-at.is
