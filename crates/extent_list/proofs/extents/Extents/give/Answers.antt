use Rattle.std.proofs.Common.{◌+◌, ◌-◌, ◌/◌, ℕ, List, Bool, subst, arith}
use Rattle.extent_list.specs.Units.{Reaches}
use Rattle.extent_list.proofs.BoundLemmas.{bounds_given}
use Rattle.extent_list.proofs.extents.Extents.give.Goals as goal

pub invariant_of-self : goal.invariant_of-self
invariant_of-self c =
    let us = c.self.inside.units.items in
    let new = c.mark.new.units.items in
    let unit : ℕ = (c.args.at - 8192) / 4096 in
    let stop : ℕ = unit + c.args.size / 4096 in
    let first = c.reach-first.result.0 in
    let w = c.reach-first.result.1 in
    let reaches : Reaches new unit stop first w = subst (λ (l : List Bool). Reaches l unit stop first w) c.deref.ensures.value c.reach-first.ensures.reaches in
    let was = c.self.invariant in
    record {
      grouped = record {
        groups_bound = bounds_given us new unit stop first w c.mark.ensures reaches 64 (first / 64) ((stop - 1) / 64 + 1) c.self.inside.groups.items c.raise.new.bounds.items (λ k a low high from to. (omega (arith, high, from), omega (arith, low, to))) was.grouped.groups_bound c.raise.ensures;
        regions_bound = bounds_given us new unit stop first w c.mark.ensures reaches 4096 (first / 64 / 64) (((stop - 1) / 64 + 1 - 1) / 64 + 1) c.self.inside.regions.items c.raise-2.new.bounds.items (λ k a low high from to. (omega (arith, high, from), omega (arith, low, to))) was.grouped.regions_bound c.raise-2.ensures;
        has_groups = omega (arith, was.grouped.has_groups, c.mark.ensures.len, c.raise.ensures.len);
        few_groups = omega (arith, was.grouped.few_groups, c.mark.ensures.len, c.raise.ensures.len);
        has_regions = omega (arith, was.grouped.has_regions, c.raise.ensures.len, c.raise-2.ensures.len);
        few_regions = omega (arith, was.grouped.few_regions, c.raise.ensures.len, c.raise-2.ensures.len);
        small = omega (arith, was.grouped.small, c.mark.ensures.len);
      };
      areas_bound = bounds_given us new unit stop first w c.mark.ensures reaches 262144 (first / 64 / 64 / 64) ((((stop - 1) / 64 + 1 - 1) / 64 + 1 - 1) / 64 + 1) c.self.inside.areas.items c.raise-3.new.bounds.items (λ k a low high from to. (omega (arith, high, from), omega (arith, low, to))) was.areas_bound c.raise-3.ensures;
      has_areas = omega (arith, was.has_areas, c.raise-2.ensures.len, c.raise-3.ensures.len);
      few_areas = omega (arith, was.few_areas, c.raise-2.ensures.len, c.raise-3.ensures.len);
    }
