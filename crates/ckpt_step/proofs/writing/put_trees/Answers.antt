use Rattle.std.proofs.Common.{◌≡◌, ◌∙◌, ◌++◌, [], ◌∷◌, List, Option, Some, None, length, drop, suc, ap, sym, subst, refl, arith}
use Rattle.std.specs.Prelude.{slice_set, vec_capacity}
use Rattle.std.proofs.lemmas.List.{map-id}
use Rattle.std.proofs.lemmas.Iterator.Adapters.{YieldsList-from_vec}
use Rattle.std.proofs.lemmas.Iterator.Consumers.{YieldsList-end, YieldsList-so_far, YieldsList-turn}
use Rattle.tree_open.specs.declared.place.TreePlace.{TreePlace}
use Rattle.ckpt_step.specs.Trees.{AreKept}
use Rattle.ckpt_step.proofs.Places.{half_placed, left_here, length_more, put_all, put_kept, put_told, put_within}
use Rattle.ckpt_step.proofs.Told.{placed_empty}
use Rattle.ckpt_step.proofs.writing.put_trees.Goals as goal
use Rattle.ckpt_step.proofs.writing.put_trees.Goals.{in-Some-tree, in-None-tree}

pub loop-tree-init : goal.loop-tree-init
loop-tree-init c = record {
  place = refl;
  items = ap (λ (l : List TreePlace). l ++ c.args.places.now.items) (sym (placed_empty c.args.places.now.items));
  room = omega arith;
}

pub put_tree-requires-clause-within : goal.put_tree-requires-clause-within
put_tree-requires-clause-within c =
    let was = c.args.places.now.items in
    let yielded = c.loop-tree.yielded in
    let gives = c.into_iter-tree-iterator.ensures.into_iter_gives in
    let e = YieldsList-from_vec c.args.told.items gives.0 (omega (arith, gives.1, c.args.told.ok.0)) in
    let t = YieldsList-turn e yielded _ c.loop-tree.yielded_by _ c.next.new.self c.in-Some.tree c.in-Some.is c.next.ensures.steps in
    let so_far = sym (map-id yielded) ∙ YieldsList-so_far e yielded _ c.loop-tree.yielded_by in
    let rest : List (Option TreePlace) = drop (suc (length yielded)) c.args.told.items in
    let is = left_here c.args.told.items yielded c.in-Some.tree so_far t.0 t.1 in
    let within = put_within was yielded (c.in-Some.tree ∷ rest) c.loop-tree.places.items (subst (λ (l : List (Option TreePlace)). AreKept was l) is c.requires.kept) c.loop-tree.invariant.items in
    omega (arith, c.loop-tree.invariant.place, within)

pub put_tree-requires-clause-room : goal.put_tree-requires-clause-room
put_tree-requires-clause-room c =
    let yielded = c.loop-tree.yielded in
    let gives = c.into_iter-tree-iterator.ensures.into_iter_gives in
    let e = YieldsList-from_vec c.args.told.items gives.0 (omega (arith, gives.1, c.args.told.ok.0)) in
    let t = YieldsList-turn e yielded _ c.loop-tree.yielded_by _ c.next.new.self c.in-Some.tree c.in-Some.is c.next.ensures.steps in
    omega (arith, c.loop-tree.invariant.place, c.loop-tree.invariant.room, c.requires.room, t.0)

pub loop-tree-preserved : goal.loop-tree-preserved
loop-tree-preserved c =
    let now = c.loop-tree.invariant in
    let was = c.args.places.now.items in
    let items = c.loop-tree.places.items in
    let yielded = c.loop-tree.yielded in
    let gives = c.into_iter-tree-iterator.ensures.into_iter_gives in
    let e = YieldsList-from_vec c.args.told.items gives.0 (omega (arith, gives.1, c.args.told.ok.0)) in
    let t = YieldsList-turn e yielded _ c.loop-tree.yielded_by _ c.next.new.self c.in-Some.tree c.in-Some.is c.next.ensures.steps in
    let so_far = sym (map-id yielded) ∙ YieldsList-so_far e yielded _ c.loop-tree.yielded_by in
    let rest : List (Option TreePlace) = drop (suc (length yielded)) c.args.told.items in
    let is = left_here c.args.told.items yielded c.in-Some.tree so_far t.0 t.1 in
    let kept : AreKept was (yielded ++ c.in-Some.tree ∷ rest) = subst (λ (l : List (Option TreePlace)). AreKept was l) is c.requires.kept in
    let more = length_more yielded c.in-Some.tree in
    elim c.match-tree.branch [
      | in-Some-tree w ↦ (
          let p = w.in-Some-tree.tree in
          let told : AreKept was (yielded ++ Some p ∷ rest) = subst (λ (o : Option TreePlace). AreKept was (yielded ++ o ∷ rest)) w.in-Some-tree.is kept in
          let done = w.put_tree.ensures in
          let next = put_told was yielded rest p items w.put_tree.new.places.items told now.items
          (λ lt. subst (λ k. w.put_tree.new.places.items ≡ slice_set items k p) now.place (done.there (omega (arith, now.place, lt))))
          (λ end. done.behind (now.place ∙ end)) in
          record {
            place = omega (arith, now.place, more);
            items = ap (λ v. v.items) w.places-is ∙ (next ∙ ap (λ (o : Option TreePlace). half_placed was (yielded ++ o ∷ [])) (sym w.in-Some-tree.is));
            room = omega (arith, ap (λ v. vec_capacity v) w.places-is, done.capacity, now.room);
          })
      | in-None-tree w ↦ (
          let none : c.in-Some.tree ≡ None = w.in-None-tree.is in
          record {
            place = omega (arith, now.place, more);
            items = ap (λ v. v.items) w.places-is ∙ (put_kept was yielded rest items (subst (λ (o : Option TreePlace). AreKept was (yielded ++ o ∷ rest)) none kept) now.items ∙ ap (λ (o : Option TreePlace). half_placed was (yielded ++ o ∷ [])) (sym none));
            room = omega (arith, ap (λ v. vec_capacity v) w.places-is, now.room);
          })
    ]

pub returns : goal.returns
returns c =
    let was = c.args.places.now.items in
    let yielded = c.loop-tree.yielded in
    let gives = c.into_iter-tree-iterator.ensures.into_iter_gives in
    let e = YieldsList-from_vec c.args.told.items gives.0 (omega (arith, gives.1, c.args.told.ok.0)) in
    let t = YieldsList-end e yielded _ c.loop-tree.yielded_by _ c.next.new.self c.in-None.is c.next.ensures.steps in
    let all : yielded ≡ c.args.told.items = sym (map-id yielded) ∙ t.0 in
    c.loop-tree.invariant.items ∙ (ap (λ (l : List (Option TreePlace)). half_placed was l) all ∙ put_all was c.args.told.items c.requires.few)
