use Rattle.std.proofs.Common.{◌≡◌, ◌∙◌, refl, sym, length, arith}
use Rattle.std.specs.Prelude.{Option, None, Some, slice_get}
use Rattle.std.proofs.lemmas.Option.{slice_get_read}
use Rattle.engine.specs.declared.turning.Evicting.{Evicting}
use Rattle.engine.specs.Turning.{found_on}
use Rattle.engine.proofs.EachBelow.{each-all, each-more}
use Rattle.engine.proofs.Lockers.{each-by, found-at}
use Rattle.engine.proofs.turning.first_found.Goals as goal

pub returns-clause-none : goal.returns-clause-none
returns-clause-none c = λ is number. each-by (λ (x : Option Evicting). found_on x ≡ None) refl c.args.evicting.now (each-all (λ (x : Option Evicting). found_on x ≡ None) c.args.evicting.now (λ i b less. c.loop-at.invariant i b (let end = c.loop-at-test.false in omega (arith, less, end)))) number

pub loop-at-preserved : goal.loop-at-preserved
loop-at-preserved c = each-more (λ (x : Option Evicting). found_on x ≡ None) c.args.evicting.now c.loop-at.at c.index-evicting-at.result c.loop-at.invariant at (sym c.found_on.ensures ∙ c.in-None.is) where
  at : slice_get c.args.evicting.now c.loop-at.at ≡ Some c.index-evicting-at.result
  at = slice_get_read c.args.evicting.now (length c.args.evicting.now) c.loop-at.at c.index-evicting-at.result refl c.loop-at-test.true c.index-evicting-at.is

pub returns-in-Some-clause-some : goal.returns-in-Some-clause-some
returns-in-Some-clause-some c = (c.loop-at.at, c.in-Some.target, found-at c.args.evicting.now c.loop-at.at c.index-evicting-at.result c.in-Some.target at (sym c.found_on.ensures ∙ c.in-Some.is), refl) where
  at : slice_get c.args.evicting.now c.loop-at.at ≡ Some c.index-evicting-at.result
  at = slice_get_read c.args.evicting.now (length c.args.evicting.now) c.loop-at.at c.index-evicting-at.result refl c.loop-at-test.true c.index-evicting-at.is
