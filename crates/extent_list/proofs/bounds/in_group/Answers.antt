use Rattle.std.proofs.Common.{◌+◌, ◌*◌, ℕ, sym, subst, arith}
use Rattle.extent_list.specs.Units.{AtMost}
use Rattle.extent_list.proofs.RunLemmas.{too_short, capped}
use Rattle.extent_list.proofs.BoundLemmas.{bounds_set}
use Rattle.extent_list.proofs.bounds.in_group.Goals as goal

pub returns-then-bound-min-clause-none : goal.returns-then-bound-min-clause-none
returns-then-bound-min-clause-none c =
    too_short c.args.units.now (64 * c.args.g) (64 * (c.args.g + 1)) c.args.count c.min.result c.index.result.now (omega (arith, c.min.ensures)) (omega (arith, c.min.ensures)) c.if-bound-min.true (subst (λ (w : ℕ). AtMost c.args.units.now (64 * c.args.g) (64 * (c.args.g + 1)) w) (sym c.index.ensures) (c.requires.bounds c.args.g c.index.result.now c.requires.within))

pub returns-in-Err-clause-bounds : goal.returns-in-Err-clause-bounds
returns-in-Err-clause-bounds c =
    bounds_set 64 c.args.units.now c.args.groups.now.items c.args.g c.bound_of.result c.requires.bounds (capped c.args.units.now (64 * c.args.g) (64 * (c.args.g + 1)) c.in-Err.longest c.bound_of.result c.bound_of.ensures.whole c.bound_of.ensures.long c.in-Err.ensures.none.0.most)
