use Rattle.std.proofs.Common.{ℕ, List, length, ap, refl, arith}
use Rattle.row_page.specs.Rows.{cells}
use Rattle.reconcile.specs.Gathered.{rows_of, slots_at}
use Rattle.reconcile.proofs.Gathering.{way_captured}
use Rattle.reconcile.proofs.Measuring.{captured_size, way_size}
use Rattle.reconcile.proofs.fits.fits_a_leaf.Goals as goal

pub returns-then-size-gt-IMAGE_MAX-clause-fits : goal.returns-then-size-gt-IMAGE_MAX-clause-fits
returns-then-size-gt-IMAGE_MAX-clause-fits c = λ rows is.
    let s = c.args.snapshot.now.sight in
    let slots = c.args.chains.now in
    let way = ap (λ (way : List ℕ). length (cells (rows_of s (slots_at slots way)))) c.in-Some.ensures.after in
    let parts = way_size s slots c.in-Some.slot c.next_entry.new.self in
    let whole = captured_size s slots c.walk_above-walk.result rows c.walk_above-walk.ensures c.requires.fit is in
    (λ t. absurd cc, λ le. absurd (omega (arith, le, way, parts, whole, c.loop-slot.invariant.is, c.slot_len-size.ensures.is, c.if-size-gt-IMAGE_MAX.true)))

pub returns-then-size-gt-IMAGE_MAX-clause-some : goal.returns-then-size-gt-IMAGE_MAX-clause-some
returns-then-size-gt-IMAGE_MAX-clause-some c =
    let way = c.walk_above-walk.result in
    let s = c.args.snapshot.now.sight in
    (rows_of s (slots_at c.args.chains.now way), way_captured s c.args.chains.now way c.walk_above-walk.ensures c.requires.fit)

pub returns-clause-fits : goal.returns-clause-fits
returns-clause-fits c = λ rows is.
    let s = c.args.snapshot.now.sight in
    let slots = c.args.chains.now in
    let none = ap (λ (way : List ℕ). length (cells (rows_of s (slots_at slots way)))) c.in_default.ensures.ends in
    let whole = captured_size s slots c.walk_above-walk.result rows c.walk_above-walk.ensures c.requires.fit is in
    (λ t. omega (arith, none, whole, c.loop-slot.invariant.is, c.loop-slot.invariant.small), λ le. refl)

pub returns-clause-some : goal.returns-clause-some
returns-clause-some c =
    let way = c.walk_above-walk.result in
    let s = c.args.snapshot.now.sight in
    (rows_of s (slots_at c.args.chains.now way), way_captured s c.args.chains.now way c.walk_above-walk.ensures c.requires.fit)
