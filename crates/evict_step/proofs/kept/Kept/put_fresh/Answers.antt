use Rattle.std.proofs.Common.{◌≡◌, ◌+◌, ◌∙◌, ◌++◌, List, length, ap, sym, arith}
use Rattle.std.specs.Prelude.{Vec}
use Rattle.std.specs.declared.alloc.Global.{Global}
use Rattle.evict_step.specs.declared.fresh.Fresh.{Fresh}
use Rattle.evict_step.specs.Kept.{Lists, fresh_of, list_of, lists_in, lying_in, with_fresh}
use Rattle.evict_step.proofs.FreshLists.{count_fresh, fit_more, more_kept}
use Rattle.evict_step.proofs.kept.Kept.put_fresh.Goals as goal

pub put_over-requires : goal.put_over-requires
put_over-requires c =
    let fresh = c.self.inside.fresh.items in
    let es = c.self.inside.by_leaf.entries in
    let seen : length c.args.self.now ≡ length fresh + length (lists_in es) = sym (ap (λ (l : Lists). length l) c.self.view_is) ∙ count_fresh fresh (lists_in es) in
    let was : length c.replace-before.result.items ≡ length fresh = ap (λ (v : Vec Fresh Global). length v.items) c.replace-before.ensures.value in
    let none : length c.args.room.items ≡ 0 = ap (λ (l : List Fresh). length l) c.requires.none in
    let room = c.requires.room in
    omega (arith, seen, was, none, room)

pub put_moved-requires : goal.put_moved-requires
put_moved-requires c =
    let fresh = c.self.inside.fresh.items in
    let es = c.self.inside.by_leaf.entries in
    let seen : length c.args.self.now ≡ length fresh + length (lists_in es) = sym (ap (λ (l : Lists). length l) c.self.view_is) ∙ count_fresh fresh (lists_in es) in
    let now : length c.put_over.new.room.items ≡ length fresh = ap (λ (l : List Fresh). length l) (c.put_over.ensures.items ∙ (ap (λ (l : List Fresh). l ++ c.replace-before.result.items) c.requires.none ∙ ap (λ (v : Vec Fresh Global). v.items) c.replace-before.ensures.value)) in
    let same = c.put_over.ensures.capacity in
    let room = c.requires.room in
    omega (arith, seen, now, same, room)

pub invariant_of-self : goal.invariant_of-self
invariant_of-self c =
    let fresh = c.self.inside.fresh.items in
    let lists = lists_in c.self.inside.by_leaf.entries in
    let leaves = c.args.leaves.now.leaves in
    let now = c.put_over.ensures.items ∙ (ap (λ (l : List Fresh). l ++ c.replace-before.result.items) c.requires.none ∙ ap (λ (v : Vec Fresh Global). v.items) c.replace-before.ensures.value) in
    fit_more (with_fresh fresh lists) (with_fresh c.put_moved.new.room.items lists) leaves c.args.table c.args.moved.items c.self.invariant c.requires.fit
    (more_kept fresh c.put_moved.new.room.items lists (lying_in leaves c.args.table c.args.moved.items)
    (λ id. c.put_moved.ensures id ∙ ap (λ (l : List Fresh). fresh_of l id ++ lying_in leaves c.args.table c.args.moved.items id) now))

pub returns : goal.returns
returns c = λ id.
    let fresh = c.self.inside.fresh.items in
    let lists = lists_in c.self.inside.by_leaf.entries in
    let leaves = c.args.leaves.now.leaves in
    let now = c.put_over.ensures.items ∙ (ap (λ (l : List Fresh). l ++ c.replace-before.result.items) c.requires.none ∙ ap (λ (v : Vec Fresh Global). v.items) c.replace-before.ensures.value) in
    more_kept fresh c.put_moved.new.room.items lists (lying_in leaves c.args.table c.args.moved.items)
    (λ other. c.put_moved.ensures other ∙ ap (λ (l : List Fresh). fresh_of l other ++ lying_in leaves c.args.table c.args.moved.items other) now) id
    ∙ ap (λ (l : Lists). list_of l id ++ lying_in leaves c.args.table c.args.moved.items id) c.self.view_is
