use Rattle.std.specs.Prelude.{get_or}
use Rattle.std.proofs.Common.{◌≡◌, ◌+◌, ◌-◌, ◌*◌, ◌/◌, ◌<◌, ◌≤◌, ℕ, List, Bool, false, sym, subst, arith}
use Rattle.extent_list.specs.Units.{Summed}
use Rattle.extent_list.specs.Space.{Space, IsFree}
use Rattle.extent_list.proofs.BoundLemmas.{bounds_less, free_less}
use Rattle.extent_list.proofs.SpaceLemmas.{unit_held}
use Rattle.extent_list.proofs.extents.Extents.take_at.Goals as goal

pub returns-then-not-are_free-clause-held : goal.returns-then-not-are_free-clause-held
returns-then-not-are_free-clause-held c is =
    let us = c.self.inside.units.items in
    let one = c.are_free.ensures.one c.if-not-are_free.true in
    let held : get_or us one.0 false ≡ false = subst (λ (l : List Bool). get_or l one.0 false ≡ false) c.deref.ensures.value one.3 in
    (8192 + 4096 * one.0, omega (arith, one.1, c.requires.place.behind, c.requires.place.whole), omega (arith, one.2, c.requires.whole, c.requires.place.behind, c.requires.place.whole), λ free. unit_held c.self.inside.units.items one.0 held (subst (λ (s : Space). IsFree s (8192 + 4096 * one.0)) (sym c.self.view_is) free))

pub invariant_of-self : goal.invariant_of-self
invariant_of-self c =
    let us = c.self.inside.units.items in
    let new = c.mark.new.units.items in
    let unit : ℕ = (c.args.at - 8192) / 4096 in
    let was = c.self.invariant in
    let fewer = free_less us new unit (unit + c.args.size / 4096) c.mark.ensures in
    record {
      grouped = record {
        groups_bound = bounds_less 64 us new c.self.inside.groups.items fewer was.grouped.groups_bound;
        regions_bound = bounds_less 4096 us new c.self.inside.regions.items fewer was.grouped.regions_bound;
        has_groups = omega (arith, was.grouped.has_groups, c.mark.ensures.len);
        few_groups = omega (arith, was.grouped.few_groups, c.mark.ensures.len);
        has_regions = was.grouped.has_regions;
        few_regions = was.grouped.few_regions;
        small = omega (arith, was.grouped.small, c.mark.ensures.len);
      };
      areas_bound = bounds_less 262144 us new c.self.inside.areas.items fewer was.areas_bound;
      has_areas = was.has_areas;
      few_areas = was.few_areas;
    }
