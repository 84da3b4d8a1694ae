use Rattle.std.proofs.Common.{◌≡◌, ◌∙◌, [], List, ap, subst, sym}
use Rattle.std.proofs.lemmas.Result.{on_err_weaker, on_ok_weaker}
use Rattle.evict_step.specs.declared.fresh.Fresh.{Fresh}
use Rattle.evict_step.specs.Kept.{AllListsFit, KeepsMore, Lists, alone_in, lists_in, with_fresh}
use Rattle.evict_step.proofs.FreshLists.{by_result, fit_one, one_behind, one_listed}
use Rattle.evict_step.proofs.KeptLists.{is_none}
use Rattle.evict_step.proofs.kept.Kept.push.Goals as goal

pub invariant_of-self : goal.invariant_of-self
invariant_of-self c =
    let fresh = c.self.inside.fresh in
    let lists = lists_in c.self.inside.by_leaf.entries in
    let next = lists_in c.push_in.new.by_leaf.entries in
    let none : fresh.items ≡ [] = is_none fresh.items fresh.len (sym fresh.ok.0) (sym c.is_empty.ensures ∙ c.if-is_empty.true) in
    by_result c.push_in.result c.push_in.ensures.kept c.push_in.ensures.same
    (λ more. fit_one (with_fresh fresh.items lists) (with_fresh fresh.items next) c.args.leaf c.args.one c.self.invariant c.requires.fit (one_listed fresh.items lists next c.args.leaf c.args.one none more))
    (λ same. subst (λ (l : Lists). AllListsFit (with_fresh fresh.items l)) (sym same) c.self.invariant)

pub invariant_of-self-else-is_empty : goal.invariant_of-self-else-is_empty
invariant_of-self-else-is_empty c =
    let fresh = c.self.inside.fresh.items in
    let next = c.put_behind.new.fresh.items in
    let lists = lists_in c.self.inside.by_leaf.entries in
    by_result c.put_behind.result c.put_behind.ensures.put c.put_behind.ensures.same
    (λ more. fit_one (with_fresh fresh lists) (with_fresh next lists) c.args.leaf c.args.one c.self.invariant c.requires.fit (one_behind fresh next lists c.args.leaf c.args.one more))
    (λ same. subst (λ (f : List Fresh). AllListsFit (with_fresh f lists)) (sym same) c.self.invariant)

pub returns-then-is_empty-clause-kept : goal.returns-then-is_empty-clause-kept
returns-then-is_empty-clause-kept c =
    let fresh = c.self.inside.fresh in
    let lists = lists_in c.self.inside.by_leaf.entries in
    let next = lists_in c.push_in.new.by_leaf.entries in
    let none : fresh.items ≡ [] = is_none fresh.items fresh.len (sym fresh.ok.0) (sym c.is_empty.ensures ∙ c.if-is_empty.true) in
    on_ok_weaker c.push_in.result
    (λ more. subst (λ (l : Lists). KeepsMore l (with_fresh fresh.items next) (alone_in c.args.leaf c.args.one)) c.self.view_is (one_listed fresh.items lists next c.args.leaf c.args.one none more))
    c.push_in.ensures.kept

pub returns-then-is_empty-clause-same : goal.returns-then-is_empty-clause-same
returns-then-is_empty-clause-same c =
    on_err_weaker c.push_in.result (λ same. ap (λ (l : Lists). with_fresh c.self.inside.fresh.items l) same ∙ c.self.view_is) c.push_in.ensures.same

pub returns-else-is_empty-clause-kept : goal.returns-else-is_empty-clause-kept
returns-else-is_empty-clause-kept c =
    let fresh = c.self.inside.fresh.items in
    let next = c.put_behind.new.fresh.items in
    let lists = lists_in c.self.inside.by_leaf.entries in
    on_ok_weaker c.put_behind.result
    (λ more. subst (λ (l : Lists). KeepsMore l (with_fresh next lists) (alone_in c.args.leaf c.args.one)) c.self.view_is (one_behind fresh next lists c.args.leaf c.args.one more))
    c.put_behind.ensures.put
