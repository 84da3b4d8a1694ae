use Rattle.std.proofs.Common.{◌∙◌, ◌∷◌, [], ap, subst, sym}
use Rattle.std.proofs.lemmas.Result.{on_err_weaker, on_ok_weaker}
use Rattle.std.specs.BTreeMap.{BTreeMap}
use Rattle.std.specs.Prelude.{Vec}
use Rattle.std.specs.declared.alloc.Global.{Global}
use Rattle.reconcile.specs.declared.image.Moved.{Moved}
use Rattle.evict_step.specs.Kept.{KeepsAt, KeepsMore, alone_in, lists_in}
use Rattle.evict_step.proofs.KeptLists.{ByLeaf, list_alone, list_longer, list_same}
use Rattle.evict_step.proofs.kept.push_in.Goals as goal

pub returns-in-Some-clause-kept : goal.returns-in-Some-clause-kept
returns-in-Some-clause-kept c =
    let es = c.args.by_leaf.now.entries in
    on_ok_weaker c.push_behind.result
    (λ is. subst (λ (l : ByLeaf). KeepsMore (lists_in es) (lists_in l) (alone_in c.args.leaf c.args.one)) (sym (c.get_mut.follows.holds c.push_behind.new.moved).0)
    (list_longer es c.args.leaf c.args.one c.in-Some.moved.now c.push_behind.new.moved (sym c.in-Some.ensures.value) is))
    c.push_behind.ensures.pushed

pub returns-in-Some-clause-same : goal.returns-in-Some-clause-same
returns-in-Some-clause-same c =
    let es = c.args.by_leaf.now.entries in
    on_err_weaker c.push_behind.result
    (λ is. ap (λ (l : ByLeaf). lists_in l) (c.get_mut.follows.holds c.push_behind.new.moved).0 ∙ list_same es c.args.leaf c.in-Some.moved.now c.push_behind.new.moved (sym c.in-Some.ensures.value) is)
    c.push_behind.ensures.same

pub returns-in-None-clause-kept : goal.returns-in-None-clause-kept
returns-in-None-clause-kept c =
    let es = c.args.by_leaf.now.entries in
    let next = lists_in c.put_alone.new.by_leaf.entries in
    on_ok_weaker c.put_alone.result
    (λ put. list_alone es next c.args.leaf c.args.one (sym c.in-None.ensures.value)
    (subst (λ (m : BTreeMap _ (Vec Moved Global)). KeepsAt (lists_in m.entries) next c.args.leaf (c.args.one ∷ [])) c.get_mut.follows.holds-at-none put))
    c.put_alone.ensures.put
