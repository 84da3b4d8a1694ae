use Rattle.std.proofs.Common.{◌≡◌, ◌∙◌, ◌++◌, List, [], ◌∷◌, length, ap, sym, refl, arith}
use Rattle.std.proofs.lemmas.List.{append-nil, append_assoc, length-append, map-id}
use Rattle.std.proofs.lemmas.Iterator.Adapters.{YieldsList-from_vec}
use Rattle.std.proofs.lemmas.Iterator.Consumers.{YieldsList-end, YieldsList-turn}
use Rattle.evict_step.specs.declared.fresh.Fresh.{Fresh}
use Rattle.evict_step.proofs.fresh.put_over.Goals as goal

pub loop-other-init : goal.loop-other-init
loop-other-init c = record { items = sym (append-nil c.args.room.now.items); capacity = refl }

pub push_reserved-requires : goal.push_reserved-requires
push_reserved-requires c =
    let yielded = c.loop-other.yielded in
    let gives = c.into_iter-other-iterator.ensures.into_iter_gives in
    let e = YieldsList-from_vec c.args.others.items gives.0 (omega (arith, gives.1, c.args.others.ok.0)) in
    let t = YieldsList-turn e yielded _ c.loop-other.yielded_by _ c.next.new.self c.in-Some.other c.in-Some.is c.next.ensures.steps in
    let long = ap length c.loop-other.invariant.items ∙ length-append c.args.room.now.items yielded in
    let same = c.loop-other.invariant.capacity in
    let room = c.requires in
    let own = c.loop-other.room.ok.0 in
    let lt = t.0 in
    omega (arith, long, same, room, own, lt)

pub loop-other-preserved : goal.loop-other-preserved
loop-other-preserved c =
    let now = c.loop-other.invariant in
    record {
      items = c.push_reserved.ensures.items ∙ (ap (λ (l : List Fresh). l ++ c.in-Some.other ∷ []) now.items ∙ append_assoc c.args.room.now.items c.loop-other.yielded (c.in-Some.other ∷ []));
      capacity = c.push_reserved.ensures.capacity ∙ now.capacity;
    }

pub returns-clause-items : goal.returns-clause-items
returns-clause-items c =
    let yielded = c.loop-other.yielded in
    let gives = c.into_iter-other-iterator.ensures.into_iter_gives in
    let e = YieldsList-from_vec c.args.others.items gives.0 (omega (arith, gives.1, c.args.others.ok.0)) in
    let t = YieldsList-end e yielded _ c.loop-other.yielded_by _ c.next.new.self c.in-None.is c.next.ensures.steps in
    let all : yielded ≡ c.args.others.items = sym (map-id yielded) ∙ t.0 in
    c.loop-other.invariant.items ∙ ap (λ (l : List Fresh). c.args.room.now.items ++ l) all

pub returns-clause-capacity : goal.returns-clause-capacity
returns-clause-capacity c = c.loop-other.invariant.capacity
