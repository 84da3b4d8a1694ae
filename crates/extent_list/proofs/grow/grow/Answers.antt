use Rattle.std.proofs.Common.{◌≡◌, ◌+◌, ◌-◌, ◌/◌, ◌++◌, ℕ, length, false, replicate, ◌∙◌, ap, arith}
use Rattle.extent_list.proofs.BoundLemmas.{bounds_grown_to, length_grown, resized}
use Rattle.extent_list.proofs.grow.grow.Goals as goal

pub returns-clause-summed : goal.returns-clause-summed
returns-clause-summed c =
    let us = c.args.units.now.items in
    let vs = c.resize.new.self.items in
    let old = c.requires.summed in
    let total : ℕ = c.len.result + c.args.count in
    let group_count : ℕ = (total + 64 - 1) / 64 in
    let region_count : ℕ = (group_count + 64 - 1) / 64 in
    let area_count : ℕ = (region_count + 64 - 1) / 64 in
    let units_are : vs ≡ us ++ replicate c.args.count false = c.in_ok-resize.ensures.items ∙ resized us _ _ c.args.count (omega (arith, c.len.ensures)) (omega (arith, c.len.ensures)) in
    let units_long : length vs ≡ length us + c.args.count = omega (arith, c.in_ok-resize.ensures.len, c.len.ensures) in
    let same_groups : length c.reserve.new.self.items ≡ length c.args.groups.now.items = ap length c.reserve.ensures.items in
    let same_regions : length c.reserve-2.new.self.items ≡ length c.args.regions.now.items = ap length c.reserve-2.ensures.items in
    let same_areas : length c.reserve-3.new.self.items ≡ length c.args.areas.now.items = ap length c.reserve-3.ensures.items in
    let groups_long : length c.fill_up.new.bounds.items ≡ group_count = length_grown c.args.groups.now.items c.reserve.new.self.items c.fill_up.new.bounds.items _ group_count c.reserve.ensures.items c.fill_up.ensures (omega (arith, same_groups, c.len.ensures, old.grouped.few_groups)) in
    let regions_long : length c.fill_up-2.new.bounds.items ≡ region_count = length_grown c.args.regions.now.items c.reserve-2.new.self.items c.fill_up-2.new.bounds.items _ region_count c.reserve-2.ensures.items c.fill_up-2.ensures (omega (arith, same_regions, c.len.ensures, old.grouped.few_groups, old.grouped.few_regions)) in
    let areas_long : length c.fill_up-3.new.bounds.items ≡ area_count = length_grown c.args.areas.now.items c.reserve-3.new.self.items c.fill_up-3.new.bounds.items _ area_count c.reserve-3.ensures.items c.fill_up-3.ensures (omega (arith, same_areas, c.len.ensures, old.grouped.few_groups, old.grouped.few_regions, old.few_areas)) in
    record {
      grouped = record {
        groups_bound = bounds_grown_to 64 us vs c.args.groups.now.items c.reserve.new.self.items c.fill_up.new.bounds.items c.args.count _ units_are c.reserve.ensures.items c.fill_up.ensures (λ k le. omega (arith, le, old.grouped.has_groups)) old.grouped.groups_bound;
        regions_bound = bounds_grown_to 4096 us vs c.args.regions.now.items c.reserve-2.new.self.items c.fill_up-2.new.bounds.items c.args.count _ units_are c.reserve-2.ensures.items c.fill_up-2.ensures (λ k le. omega (arith, le, old.grouped.has_groups, old.grouped.has_regions)) old.grouped.regions_bound;
        has_groups = omega (arith, groups_long, units_long, c.len.ensures);
        few_groups = omega (arith, groups_long, units_long, c.len.ensures);
        has_regions = omega (arith, groups_long, regions_long);
        few_regions = omega (arith, groups_long, regions_long);
        small = omega (arith, units_long, c.requires.small);
      };
      areas_bound = bounds_grown_to 262144 us vs c.args.areas.now.items c.reserve-3.new.self.items c.fill_up-3.new.bounds.items c.args.count _ units_are c.reserve-3.ensures.items c.fill_up-3.ensures (λ k le. omega (arith, le, old.grouped.has_groups, old.grouped.has_regions, old.has_areas)) old.areas_bound;
      has_areas = omega (arith, regions_long, areas_long);
      few_areas = omega (arith, regions_long, areas_long);
    }
