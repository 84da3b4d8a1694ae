use Rattle.std.proofs.Common.{◌≡◌, ◌≤◌, ◌⊎◌, ◌+◌, ◌*◌, ℕ, length, sym, subst, arith, inl, inr}
use Rattle.std.proofs.lemmas.Bool.{cases_lt}
use Rattle.std.proofs.lemmas.List.{length-set}
use Rattle.extent_list.specs.Units.{AtMost, Misses}
use Rattle.extent_list.proofs.RunLemmas.{too_short, capped, whole_area}
use Rattle.extent_list.proofs.BoundLemmas.{bounds_set}
use Rattle.extent_list.proofs.bounds.in_area.Goals as goal

pub returns-then-bound-min-clause-none : goal.returns-then-bound-min-clause-none
returns-then-bound-min-clause-none c =
    too_short c.args.units.now (262144 * c.args.index) (262144 * (c.args.index + 1)) c.args.count c.min.result c.index.result.now (omega (arith, c.min.ensures)) (omega (arith, c.min.ensures)) c.if-bound-min.true (subst (λ (w : ℕ). AtMost c.args.units.now (262144 * c.args.index) (262144 * (c.args.index + 1)) w) (sym c.index.ensures) (c.requires.summed.areas_bound c.args.index c.index.result.now c.requires.within))

pub returns-in-Err-clause-none : goal.returns-in-Err-clause-none
returns-in-Err-clause-none c =
    let rest : (length c.args.units.now ≤ 4096 * c.min-to.result) ⊎ (c.min-to.result ≡ 64 * (c.args.index + 1)) = elim (cases_lt (length c.args.regions.now.items) (64 * (c.args.index + 1))) [
      | inl few ↦ inl (omega (arith, few, c.min-to.ensures, c.len.ensures, c.requires.summed.grouped.has_groups, c.requires.summed.grouped.has_regions))
      | inr all ↦ inr (omega (arith, all, c.min-to.ensures, c.len.ensures))
    ] in
    whole_area c.args.units.now c.args.index (64 * c.args.index) c.min-to.result c.args.count c.in-Err.longest (omega arith) c.requires.some rest c.in-Err.ensures.none

pub returns-in-Err-clause-summed : goal.returns-in-Err-clause-summed
returns-in-Err-clause-summed c =
    let rest : (length c.args.units.now ≤ 4096 * c.min-to.result) ⊎ (c.min-to.result ≡ 64 * (c.args.index + 1)) = elim (cases_lt (length c.args.regions.now.items) (64 * (c.args.index + 1))) [
      | inl few ↦ inl (omega (arith, few, c.min-to.ensures, c.len.ensures, c.requires.summed.grouped.has_groups, c.requires.summed.grouped.has_regions))
      | inr all ↦ inr (omega (arith, all, c.min-to.ensures, c.len.ensures))
    ] in
    let misses : Misses c.args.units.now (262144 * c.args.index) (262144 * (c.args.index + 1)) c.args.count c.in-Err.longest = whole_area c.args.units.now c.args.index (64 * c.args.index) c.min-to.result c.args.count c.in-Err.longest (omega arith) c.requires.some rest c.in-Err.ensures.none in
    let same = length-set c.args.areas.now.items c.args.index c.bound_of.result in
    record {
      grouped = c.in-Err.ensures.grouped;
      areas_bound = bounds_set 262144 c.args.units.now c.args.areas.now.items c.args.index c.bound_of.result c.requires.summed.areas_bound (capped c.args.units.now (262144 * c.args.index) (262144 * (c.args.index + 1)) c.in-Err.longest c.bound_of.result c.bound_of.ensures.whole c.bound_of.ensures.long misses.most);
      has_areas = omega (arith, c.in-Err.ensures.len, c.requires.summed.has_areas, same);
      few_areas = omega (arith, c.in-Err.ensures.len, c.requires.summed.few_areas, same);
    }
