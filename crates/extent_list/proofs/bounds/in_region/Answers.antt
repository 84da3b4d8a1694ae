use Rattle.std.proofs.Common.{◌≡◌, ◌≤◌, ◌⊎◌, ◌+◌, ◌*◌, ℕ, length, sym, subst, arith, inl, inr}
use Rattle.std.proofs.lemmas.Bool.{cases_lt}
use Rattle.std.proofs.lemmas.List.{length-set}
use Rattle.extent_list.specs.Units.{AtMost, Misses}
use Rattle.extent_list.proofs.RunLemmas.{too_short, capped, whole_region}
use Rattle.extent_list.proofs.BoundLemmas.{bounds_set}
use Rattle.extent_list.proofs.bounds.in_region.Goals as goal

pub returns-then-bound-min-clause-none : goal.returns-then-bound-min-clause-none
returns-then-bound-min-clause-none c =
    too_short c.args.units.now (4096 * c.args.r) (4096 * (c.args.r + 1)) c.args.count c.min.result c.index.result.now (omega (arith, c.min.ensures)) (omega (arith, c.min.ensures)) c.if-bound-min.true (subst (λ (w : ℕ). AtMost c.args.units.now (4096 * c.args.r) (4096 * (c.args.r + 1)) w) (sym c.index.ensures) (c.requires.grouped.regions_bound c.args.r c.index.result.now c.requires.within))

pub returns-in-Err-clause-none : goal.returns-in-Err-clause-none
returns-in-Err-clause-none c =
    let rest : (length c.args.units.now ≤ 64 * c.min-to.result) ⊎ (c.min-to.result ≡ 64 * (c.args.r + 1)) = elim (cases_lt (length c.args.groups.now.items) (64 * (c.args.r + 1))) [
      | inl few ↦ inl (omega (arith, few, c.min-to.ensures, c.len.ensures, c.requires.grouped.has_groups))
      | inr all ↦ inr (omega (arith, all, c.min-to.ensures, c.len.ensures))
    ] in
    whole_region c.args.units.now c.args.r (64 * c.args.r) c.min-to.result c.args.count c.in-Err.longest (omega arith) c.requires.some rest c.in-Err.ensures.none

pub returns-in-Err-clause-grouped : goal.returns-in-Err-clause-grouped
returns-in-Err-clause-grouped c =
    let rest : (length c.args.units.now ≤ 64 * c.min-to.result) ⊎ (c.min-to.result ≡ 64 * (c.args.r + 1)) = elim (cases_lt (length c.args.groups.now.items) (64 * (c.args.r + 1))) [
      | inl few ↦ inl (omega (arith, few, c.min-to.ensures, c.len.ensures, c.requires.grouped.has_groups))
      | inr all ↦ inr (omega (arith, all, c.min-to.ensures, c.len.ensures))
    ] in
    let misses : Misses c.args.units.now (4096 * c.args.r) (4096 * (c.args.r + 1)) c.args.count c.in-Err.longest = whole_region c.args.units.now c.args.r (64 * c.args.r) c.min-to.result c.args.count c.in-Err.longest (omega arith) c.requires.some rest c.in-Err.ensures.none in
    let same = length-set c.args.regions.now.items c.args.r c.bound_of.result in
    record {
      groups_bound = c.in-Err.ensures.bounds;
      regions_bound = bounds_set 4096 c.args.units.now c.args.regions.now.items c.args.r c.bound_of.result c.requires.grouped.regions_bound (capped c.args.units.now (4096 * c.args.r) (4096 * (c.args.r + 1)) c.in-Err.longest c.bound_of.result c.bound_of.ensures.whole c.bound_of.ensures.long misses.most);
      has_groups = omega (arith, c.in-Err.ensures.len, c.requires.grouped.has_groups);
      few_groups = omega (arith, c.in-Err.ensures.len, c.requires.grouped.few_groups);
      has_regions = omega (arith, c.in-Err.ensures.len, c.requires.grouped.has_regions, same);
      few_regions = omega (arith, c.in-Err.ensures.len, c.requires.grouped.few_regions, same);
      small = c.requires.grouped.small;
    }
