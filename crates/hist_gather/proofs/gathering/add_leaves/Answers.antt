use Rattle.std.proofs.Common.{◌≡◌, ◌∙◌, ◌++◌, ◌∷◌, [], List, ap, length, subst, sym, append_assoc, arith}
use Rattle.std.proofs.lemmas.List.{append-nil}
use Rattle.tree_dir.specs.declared.leaf.Leaf.{Leaf}
use Rattle.tree_dir.specs.Leaves.{Directory, leaves_of}
use Rattle.hist_gather.specs.Added.{HasMore}
use Rattle.hist_gather.specs.Sources.{OfLeaves}
use Rattle.hist_gather.proofs.Places.{leaves_more, leaves_none}
use Rattle.hist_gather.proofs.gathering.add_leaves.Goals as goal

pub loop-leaf-init : goal.loop-leaf-init
loop-leaf-init c = record {
  front = [];
  all = sym (c.leaves_of-leaves.ensures ∙ ap (λ (d : Directory). leaves_of c.args.table d.leaves) c.leaves.ensures.are);
  more = leaves_none c.args.from c.args.table c.args.history.now;
  known = λ tables has known. known;
  fit = λ fit. fit;
}

pub loop-leaf-smaller : goal.loop-leaf-smaller
loop-leaf-smaller c = omega (arith, ap (λ (l : List Leaf). length l) c.in-Some.ensures.after)

pub loop-leaf-preserved : goal.loop-leaf-preserved
loop-leaf-preserved c =
    let inv = c.loop-leaf.invariant in
    let own = c.in_ok-add_all.ensures in
    let leaf = c.in-Some.leaf.now in
    let rest = c.next_leaf.new.self in
    record {
      front = inv.front ++ leaf ∷ [];
      all = inv.all ∙ (ap (λ (l : List Leaf). inv.front ++ l) c.in-Some.ensures.after ∙ sym (append_assoc inv.front (leaf ∷ []) rest));
      more = leaves_more c.args.from c.args.table inv.front leaf c.in_ok-older.older.items c.args.history.now c.loop-leaf.history c.add_all.new.history c.in_ok-older.ensures.are inv.more own.more;
      known = λ tables has known. own.known tables has (inv.known tables has known);
      fit = λ fit. own.fit (inv.fit fit);
    }

pub returns-clause-more : goal.returns-clause-more
returns-clause-more c =
    let inv = c.loop-leaf.invariant in
    let whole : leaves_of c.args.table c.args.from.engine.now.hub.dir.leaves ≡ inv.front = inv.all ∙ (ap (λ (l : List Leaf). inv.front ++ l) c.in_default.ensures.ends ∙ append-nil inv.front) in
    subst (λ (l : List Leaf). HasMore (OfLeaves c.args.from c.args.table l) c.args.history.now c.loop-leaf.history) (sym whole) inv.more
