use Rattle.std.proofs.Common.{◌+◌, ◌*◌, ◌/◌, ◌<◌, ℕ, List, Bool, subst, arith, inl, inr, refl}
use Rattle.std.proofs.lemmas.Bool.{cases_lt, both_ways}
use Rattle.extent_list.specs.Space.{Space, space_of, IsSpot, NothingFits, HasNoRoom}
use Rattle.extent_list.proofs.SpaceLemmas.{lowest_range, nothing_fits}
use Rattle.extent_list.proofs.extents.Extents.find.Goals as goal

pub returns-in-Some-clause-spot : goal.returns-in-Some-clause-spot
returns-in-Some-clause-spot c =
    let at : ℕ = 8192 + 4096 * c.in-Some.unit in
    subst (λ (s : Space). IsSpot s c.args.size c.args.capacity at) c.self.view_is (subst (λ (us : List Bool). IsSpot (space_of us) c.args.size c.args.capacity at) c.deref.ensures.value (inl (lowest_range c.deref.result.now c.in-Some.unit (c.args.size / 4096) c.args.size at (omega (arith, c.requires.whole)) c.requires.some (omega arith) c.in-Some.ensures.found.0 c.in-Some.ensures.found.1)))

pub returns-then-has_end-clause-spot : goal.returns-then-has_end-clause-spot
returns-then-has_end-clause-spot c =
    let at : ℕ = 8192 + 4096 * c.len.result in
    let nothing : NothingFits (space_of c.self.inside.units.items) c.args.size = subst (λ (us : List Bool). NothingFits (space_of us) c.args.size) c.deref.ensures.value (nothing_fits c.deref.result.now (c.args.size / 4096) c.args.size (omega (arith, c.requires.whole)) c.requires.some (c.in_default.ensures.none refl)) in
    subst (λ (s : Space). IsSpot s c.args.size c.args.capacity at) c.self.view_is (inr (nothing, omega (arith, c.len.ensures), c.has_end.ensures.0 c.if-has_end.true))

pub returns-clause-full : goal.returns-clause-full
returns-clause-full c none =
    let nothing : NothingFits (space_of c.self.inside.units.items) c.args.size = subst (λ (us : List Bool). NothingFits (space_of us) c.args.size) c.deref.ensures.value (nothing_fits c.deref.result.now (c.args.size / 4096) c.args.size (omega (arith, c.requires.whole)) c.requires.some (c.in_default.ensures.none refl)) in
    let past : c.args.capacity < 8192 + 4096 * c.len.result + c.args.size = elim (cases_lt c.args.capacity (8192 + 4096 * c.len.result + c.args.size)) [
      | inl past ↦ past
      | inr le ↦ absurd (both_ways c.has_end.result c.if-has_end.false (c.has_end.ensures.1 le))
    ] in
    subst (λ (s : Space). HasNoRoom s c.args.size c.args.capacity) c.self.view_is (nothing, omega (arith, past, c.len.ensures))
