use Rattle.std.proofs.Common.{◌≡◌, ◌∙◌, ◌++◌, List, [], ◌∷◌, ap, sym, refl, arith}
use Rattle.std.proofs.lemmas.List.{append-nil, append_assoc, length-append, map-id}
use Rattle.std.proofs.lemmas.Iterator.Adapters.{YieldsList-from_vec}
use Rattle.std.proofs.lemmas.Iterator.Consumers.{YieldsList-end, YieldsList-turn}
use Rattle.reconcile.specs.declared.image.Moved.{Moved}
use Rattle.evict_step.specs.Kept.{fresh_of, lying_in}
use Rattle.evict_step.proofs.FreshLists.{lying-append}
use Rattle.evict_step.proofs.fresh.put_moved.Goals as goal

pub loop-one-init : goal.loop-one-init
loop-one-init c = record { put = λ id. sym (append-nil (fresh_of c.args.room.now.items id)); few = omega arith; capacity = refl }

pub put_one-requires : goal.put_one-requires
put_one-requires c =
    let yielded = c.loop-one.yielded in
    let gives = c.into_iter-one-iterator.ensures.into_iter_gives in
    let e = YieldsList-from_vec c.args.moved.items gives.0 (omega (arith, gives.1, c.args.moved.ok.0)) in
    let t = YieldsList-turn e yielded _ c.loop-one.yielded_by _ c.next.new.self c.in-Some.one c.in-Some.is c.next.ensures.steps in
    let few = c.loop-one.invariant.few in
    let same = c.loop-one.invariant.capacity in
    let room = c.requires in
    let lt = t.0 in
    omega (arith, few, same, room, lt)

pub loop-one-preserved : goal.loop-one-preserved
loop-one-preserved c =
    let now = c.loop-one.invariant in
    let yielded = c.loop-one.yielded in
    let leaves = c.args.leaves.now.leaves in
    record {
      put = λ id.
          c.put_one.ensures.put id
          ∙ (ap (λ (l : List Moved). l ++ lying_in leaves c.args.table (c.in-Some.one ∷ []) id) (now.put id)
          ∙ (append_assoc (fresh_of c.args.room.now.items id) (lying_in leaves c.args.table yielded id) (lying_in leaves c.args.table (c.in-Some.one ∷ []) id)
          ∙ ap (λ (l : List Moved). fresh_of c.args.room.now.items id ++ l) (sym (lying-append leaves c.args.table yielded (c.in-Some.one ∷ []) id))));
      few = (let more = c.put_one.ensures.few in let few = now.few in let long = length-append yielded (c.in-Some.one ∷ []) in omega (arith, more, few, long));
      capacity = c.put_one.ensures.capacity ∙ now.capacity;
    }

pub returns : goal.returns
returns c = λ id.
    let yielded = c.loop-one.yielded in
    let gives = c.into_iter-one-iterator.ensures.into_iter_gives in
    let e = YieldsList-from_vec c.args.moved.items gives.0 (omega (arith, gives.1, c.args.moved.ok.0)) in
    let t = YieldsList-end e yielded _ c.loop-one.yielded_by _ c.next.new.self c.in-None.is c.next.ensures.steps in
    let all : yielded ≡ c.args.moved.items = sym (map-id yielded) ∙ t.0 in
    c.loop-one.invariant.put id ∙ ap (λ (l : List Moved). fresh_of c.args.room.now.items id ++ lying_in c.args.leaves.now.leaves c.args.table l id) all
