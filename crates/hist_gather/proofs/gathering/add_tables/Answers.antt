use Rattle.std.proofs.Common.{◌≡◌, ℕ, subst, arith}
use Rattle.hist_gather.specs.Added.{HasMore}
use Rattle.hist_gather.specs.Sources.{OfPlaces}
use Rattle.hist_gather.proofs.Places.{places_more, places_none}
use Rattle.hist_gather.proofs.gathering.add_tables.Goals as goal

pub loop-place-init : goal.loop-place-init
loop-place-init c = record { more = places_none c.args.from c.args.history.now; known = λ known among has. has; fit = λ fit. fit }

pub loop-place-preserved : goal.loop-place-preserved
loop-place-preserved c =
    let inv = c.loop-place.invariant in
    let own = c.in_ok-add_table.ensures in
    record {
      more = places_more c.args.from c.loop-place.place c.args.history.now c.loop-place.history c.add_table.new.history inv.more own.more;
      known = λ known among has. own.known known (among c.loop-place.place (omega arith)) (inv.known known (λ place low. among place (omega (arith, low))) has);
      fit = λ fit. own.fit (inv.fit fit);
    }

pub returns-clause-more : goal.returns-clause-more
returns-clause-more c =
    let count : c.loop-place.place ≡ c.args.tables = omega (arith, c.loop-place-test.false, c.loop-place.auto) in
    subst (λ (n : ℕ). HasMore (OfPlaces c.args.from n) c.args.history.now c.loop-place.history) count c.loop-place.invariant.more

pub returns-clause-known : goal.returns-clause-known
returns-clause-known c = λ known among has. c.loop-place.invariant.known known (λ place low. among place (omega (arith, low, c.loop-place-test.false, c.loop-place.auto))) has
