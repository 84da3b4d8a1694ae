use Rattle.std.proofs.Common.{◌∙◌, ◌∷◌, [], ◌<◌, ap, subst, sym, refl, arith, length, List, ℕ}
use Rattle.std.proofs.lemmas.List.{length-append}
use Rattle.disk_model.proofs.Crash.{looked_then}
use Rattle.device_leaf.proofs.Opens.{rose_sooner}
use Rattle.tree_open.specs.Trees.{InnerIs}
use Rattle.tree_open.proofs.Steps.{looked_none}
use Rattle.recover_open.specs.Leaves.{TreeIs}
use Rattle.recover_open.specs.Recoveries.{placed_roots}
use Rattle.recover_open.proofs.UpperPlaces.{upper_left, upper_climbs, upper_within, upper_there}
use Rattle.recover_open.proofs.Steps.{trees_none, trees_more, roots_more, tree_later}
use Rattle.recover_open.proofs.trees.read_all.Goals as goal

pub loop-upper-init : goal.loop-upper-init
loop-upper-init g c = record {
  looked = looked_none g.D.Disk _;
  home = refl;
  left = c.into_iter-upper-iterator.ensures.into_iter_gives.0;
  at = refl;
  count = ap length c.new-leaves.ensures.items;
  roots = ap placed_roots c.new-places.ensures.items;
  are = λ h have. trees_none (g.D.Disk.seen c.args.disk.now) c.args.tables.now c.new-places.result.items c.new-leaves.result.items c.new-places.ensures.items c.new-leaves.ensures.items;
}

pub bounds-tables-i : goal.bounds-tables-i
bounds-tables-i g c =
    let lt = upper_within c.loop-upper.yielded c.next.new.self.rest.items c.loop-upper.upper-iterator.rest.items c.args.uppers.items c.in-Some.upper c.in-Some.ensures.steps.0 c.loop-upper.invariant.left (length c.args.tables.now) c.requires.count in
    omega (arith, lt, c.loop-upper.invariant.at)

pub returns-in-Err-clause-err : goal.returns-in-Err-clause-err
returns-in-Err-clause-err g c =
    let D = g.D.Disk in
    let now = c.loop-upper.invariant in
    let u = c.in-Some.upper in
    let lt : c.loop-upper.i < length c.args.tables.now = omega (arith, upper_within c.loop-upper.yielded c.next.new.self.rest.items c.loop-upper.upper-iterator.rest.items c.args.uppers.items u c.in-Some.ensures.steps.0 now.left (length c.args.tables.now) c.requires.count, now.at) in
    tree_later _ _ _ _ (D.seen c.args.disk.now) (D.seen c.loop-upper.disk) c.args.tables.now c.index-tables-i.result c.root_of.result _ (c.loop-upper.i, lt, c.index-tables-i.is) c.root_of.ensures
    c.in-Err.ensures.err (rose_sooner _ _ _ now.looked.count)
    (λ h. (
      now.looked.same ∙ h.0,
      subst (λ (l : List ℕ). InnerIs l c.root_of.result u.entries.items u.addrs.items) (sym now.looked.content)
          (upper_there c.loop-upper.yielded c.next.new.self.rest.items c.loop-upper.upper-iterator.rest.items c.args.uppers.items u c.in-Some.ensures.steps.0 now.left (D.seen c.args.disk.now) c.args.tables.now c.loop-upper.i c.index-tables-i.result c.root_of.result h.1 now.at c.index-tables-i.is c.root_of.ensures),
    )) now.looked.content

pub read_one-requires : goal.read_one-requires
read_one-requires g c = upper_climbs c.loop-upper.yielded c.next.new.self.rest.items c.loop-upper.upper-iterator.rest.items c.args.uppers.items c.in-Some.upper c.in-Some.ensures.steps.0 c.loop-upper.invariant.left c.requires.climb

pub loop-upper-preserved : goal.loop-upper-preserved
loop-upper-preserved g c =
    let D = g.D.Disk in
    let now = c.loop-upper.invariant in
    let u = c.in-Some.upper in
    let tree = c.in-Ok.tree in
    let lt : c.loop-upper.i < length c.args.tables.now = omega (arith, upper_within c.loop-upper.yielded c.next.new.self.rest.items c.loop-upper.upper-iterator.rest.items c.args.uppers.items u c.in-Some.ensures.steps.0 now.left (length c.args.tables.now) c.requires.count, now.at) in
    record {
      looked = looked_then D _ _ _ now.looked c.read_one.ensures.looked;
      home = c.read_one.ensures.home ∙ now.home;
      left = upper_left c.loop-upper.yielded c.next.new.self.rest.items c.loop-upper.upper-iterator.rest.items c.args.uppers.items u c.in-Some.ensures.steps.0 now.left;
      at = omega (arith, now.at, length-append c.loop-upper.yielded (u ∷ []));
      count = omega (arith, ap length c.in-Ok-put_tree.ensures.leaves, length-append c.loop-upper.leaves.items (tree.rows ∷ []), now.count);
      roots = roots_more c.args.tables.now c.loop-upper.i c.index-tables-i.result c.root_of.result c.loop-upper.places.items c.put_tree.new.places.items tree.place lt c.index-tables-i.is c.root_of.ensures now.roots c.in-Ok.ensures.root c.in-Ok-put_tree.ensures.places;
      are = λ h have.
          let inner : InnerIs (D.seen c.args.disk.now) c.root_of.result u.entries.items u.addrs.items =
          upper_there c.loop-upper.yielded c.next.new.self.rest.items c.loop-upper.upper-iterator.rest.items c.args.uppers.items u c.in-Some.ensures.steps.0 now.left (D.seen c.args.disk.now) c.args.tables.now c.loop-upper.i c.index-tables-i.result c.root_of.result have now.at c.index-tables-i.is c.root_of.ensures in
          let is : TreeIs (D.seen c.args.disk.now) c.root_of.result tree.place tree.rows = subst (λ (l : List ℕ). TreeIs l c.root_of.result tree.place tree.rows) now.looked.content
          (c.in-Ok.ensures.ok (now.looked.same ∙ h) (subst (λ (l : List ℕ). InnerIs l c.root_of.result u.entries.items u.addrs.items) (sym now.looked.content) inner)) in
          trees_more (D.seen c.args.disk.now) c.args.tables.now c.loop-upper.i c.index-tables-i.result c.root_of.result c.loop-upper.places.items c.put_tree.new.places.items c.loop-upper.leaves.items c.put_tree.new.leaves.items tree.place tree.rows
          lt c.index-tables-i.is c.root_of.ensures (now.are h have) is c.in-Ok-put_tree.ensures.places c.in-Ok-put_tree.ensures.leaves;
    }
