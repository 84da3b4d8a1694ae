use Rattle.std.proofs.Common.{◌≡◌, ◌+◌, ◌-◌, ◌/◌, ℕ, length, arith}
use Rattle.extent_list.proofs.BoundLemmas.{bounds_shrunk, bounds_same}
use Rattle.extent_list.proofs.shrink.shrink.Goals as goal

pub returns-clause-summed : goal.returns-clause-summed
returns-clause-summed c =
    let us = c.args.units.now.items in
    let was = c.requires.summed in
    let total : ℕ = c.args.total in
    let group_count : ℕ = (total + 64 - 1) / 64 in
    let region_count : ℕ = (group_count + 64 - 1) / 64 in
    let area_count : ℕ = (region_count + 64 - 1) / 64 in
    let units_long : length c.truncate.new.self.items ≡ total = omega (arith, c.truncate.ensures.len, c.requires.fewer) in
    let groups_long : length c.truncate-2.new.self.items ≡ group_count = omega (arith, c.truncate-2.ensures.len, c.requires.fewer, was.grouped.has_groups) in
    let regions_long : length c.truncate-3.new.self.items ≡ region_count = omega (arith, c.truncate-3.ensures.len, c.requires.fewer, was.grouped.has_groups, was.grouped.has_regions) in
    let areas_long : length c.truncate-4.new.self.items ≡ area_count = omega (arith, c.truncate-4.ensures.len, c.requires.fewer, was.grouped.has_groups, was.grouped.has_regions, was.has_areas) in
    record {
      grouped = record {
        groups_bound = bounds_same 64 _ _ _ _ c.truncate.ensures.items c.truncate-2.ensures.items (bounds_shrunk 64 us c.args.groups.now.items total group_count was.grouped.groups_bound);
        regions_bound = bounds_same 4096 _ _ _ _ c.truncate.ensures.items c.truncate-3.ensures.items (bounds_shrunk 4096 us c.args.regions.now.items total region_count was.grouped.regions_bound);
        has_groups = omega (arith, groups_long, units_long);
        few_groups = omega (arith, groups_long, units_long);
        has_regions = omega (arith, groups_long, regions_long);
        few_regions = omega (arith, groups_long, regions_long);
        small = omega (arith, units_long, c.requires.fewer, was.grouped.small);
      };
      areas_bound = bounds_same 262144 _ _ _ _ c.truncate.ensures.items c.truncate-4.ensures.items (bounds_shrunk 262144 us c.args.areas.now.items total area_count was.areas_bound);
      has_areas = omega (arith, regions_long, areas_long);
      few_areas = omega (arith, regions_long, areas_long);
    }
