use Rattle.std.proofs.Common.{◌≡◌, ◌+◌, ◌*◌, ◌/◌, ◌<◌, ◌≤◌, ◌++◌, ℕ, List, Bool, false, replicate, length, sym, subst, arith, inl, inr, refl}
use Rattle.std.proofs.lemmas.Bool.{cases_lt, both_ways}
use Rattle.extent_list.specs.Units.{Summed, Run}
use Rattle.extent_list.specs.Space.{Space, space_of, end_of, IsSpot, NothingFits, HasNoRoom, Taken}
use Rattle.extent_list.proofs.RunLemmas.{run_within}
use Rattle.extent_list.proofs.BoundLemmas.{bounds_less, free_less}
use Rattle.extent_list.proofs.SpaceLemmas.{lowest_range, nothing_fits, took_marked, took_end, end_more}
use Rattle.extent_list.proofs.extents.Extents.take.Goals as goal

pub invariant_of-self : goal.invariant_of-self
invariant_of-self c =
    let us = c.self.inside.units.items in
    let new = c.mark.new.units.items in
    let was : Summed us c.in_areas-found.new.groups.items c.in_areas-found.new.regions.items c.in_areas-found.new.areas.items = subst (λ (l : List Bool). Summed l c.in_areas-found.new.groups.items c.in_areas-found.new.regions.items c.in_areas-found.new.areas.items) c.deref.ensures.value c.in_areas-found.ensures.summed in
    let fewer = free_less us new c.in-Some.unit (c.in-Some.unit + c.args.size / 4096) c.mark.ensures in
    record {
      grouped = record {
        groups_bound = bounds_less 64 us new c.in_areas-found.new.groups.items fewer was.grouped.groups_bound;
        regions_bound = bounds_less 4096 us new c.in_areas-found.new.regions.items fewer was.grouped.regions_bound;
        has_groups = omega (arith, was.grouped.has_groups, c.mark.ensures.len);
        few_groups = omega (arith, was.grouped.few_groups, c.mark.ensures.len);
        has_regions = was.grouped.has_regions;
        few_regions = was.grouped.few_regions;
        small = omega (arith, was.grouped.small, c.mark.ensures.len);
      };
      areas_bound = bounds_less 262144 us new c.in_areas-found.new.areas.items fewer was.areas_bound;
      has_areas = was.has_areas;
      few_areas = was.few_areas;
    }

pub returns-in-Some-clause-taken : goal.returns-in-Some-clause-taken
returns-in-Some-clause-taken c =
    let us = c.self.inside.units.items in
    let new = c.mark.new.units.items in
    let at : ℕ = 8192 + 4096 * c.in-Some.unit in
    let count : ℕ = c.args.size / 4096 in
    let whole : c.args.size ≡ 4096 * count = omega (arith, c.requires.whole) in
    let some : 1 ≤ count = omega (arith, c.requires.some, whole) in
    let run : Run us c.in-Some.unit count = subst (λ (l : List Bool). Run l c.in-Some.unit count) c.deref.ensures.value c.in-Some.ensures.found.0 in
    let spot : IsSpot (space_of us) c.args.size c.args.capacity at = subst (λ (l : List Bool). IsSpot (space_of l) c.args.size c.args.capacity at) c.deref.ensures.value (inl (lowest_range c.deref.result.now c.in-Some.unit count c.args.size at whole c.requires.some (omega arith) c.in-Some.ensures.found.0 c.in-Some.ensures.found.1)) in
    let same : end_of (space_of new) ≡ end_of (space_of us) = omega (arith, c.mark.ensures.len) in
    subst (λ (s : Space). Taken s (space_of new) c.args.size c.args.capacity at) c.self.view_is (spot, took_marked us new c.in-Some.unit count c.args.size at whole (omega arith) (run_within us c.in-Some.unit count some run) c.mark.ensures, inl same)

pub returns-then-not-has_end-clause-full : goal.returns-then-not-has_end-clause-full
returns-then-not-has_end-clause-full c none =
    let nothing : NothingFits (space_of c.self.inside.units.items) c.args.size = subst (λ (us : List Bool). NothingFits (space_of us) c.args.size) c.deref.ensures.value (nothing_fits c.deref.result.now (c.args.size / 4096) c.args.size (omega (arith, c.requires.whole)) c.requires.some (c.in_default.ensures.none refl)) in
    let past : c.args.capacity < 8192 + 4096 * c.len.result + c.args.size = elim (cases_lt c.args.capacity (8192 + 4096 * c.len.result + c.args.size)) [
      | inl past ↦ past
      | inr le ↦ absurd (both_ways c.has_end.result c.if-not-has_end.true (c.has_end.ensures.1 le))
    ] in
    (subst (λ (s : Space). HasNoRoom s c.args.size c.args.capacity) c.self.view_is (nothing, omega (arith, past, c.len.ensures)), c.self.view_is)

pub returns-clause-taken : goal.returns-clause-taken
returns-clause-taken c =
    let us = c.self.inside.units.items in
    let at : ℕ = 8192 + 4096 * c.len.result in
    let count : ℕ = c.args.size / 4096 in
    let whole : c.args.size ≡ 4096 * count = omega (arith, c.requires.whole) in
    let nothing : NothingFits (space_of us) c.args.size = subst (λ (l : List Bool). NothingFits (space_of l) c.args.size) c.deref.ensures.value (nothing_fits c.deref.result.now count c.args.size whole c.requires.some (c.in_default.ensures.none refl)) in
    let place : at ≡ 8192 + 4096 * length us = omega (arith, c.len.ensures) in
    let taken : Taken (space_of us) (space_of (us ++ replicate count false)) c.args.size c.args.capacity at = (inr (nothing, place, c.has_end.ensures.0 c.if-not-has_end.false), took_end us count c.args.size at whole place, inr (place, end_more us count c.args.size whole)) in
    subst (λ (s : Space). Taken s (space_of c.grow.new.units.items) c.args.size c.args.capacity at) c.self.view_is (subst (λ (l : List Bool). Taken (space_of us) (space_of l) c.args.size c.args.capacity at) (sym c.in_ok-grow.ensures.more) taken)
