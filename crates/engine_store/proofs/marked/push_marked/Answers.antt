use Rattle.std.proofs.Common.{ℕ, ◌≡◌, ◌++◌, ◌∷◌, [], ◌∙◌, ap, inl, inr}
use Rattle.tree_dir.specs.Leaves.{leaves_of}
use Rattle.engine_store.proofs.MarkedIds.{done_all, done_next, more_all, more_has}
use Rattle.engine_store.proofs.marked.push_marked.Goals as goal

pub loop-leaf-preserved-in-Continue-1 : goal.loop-leaf-preserved-in-Continue-1
loop-leaf-preserved-in-Continue-1 c =
    let own = leaves_of c.args.table c.args.leaves.now.leaves in
    let ids = c.loop-leaf.marked.items in
    let more = c.push.new.marked.items in
    let x = c.in-Some.leaf.now in
    let added : more ≡ ids ++ x.id ∷ [] = c.in_ok-push.ensures ∙ ap (λ (id : ℕ). ids ++ id ∷ []) c.id_of.ensures in
    record {
      kept = λ id there. more_all ids more x.id added id (c.loop-leaf.invariant.kept id there);
      done = done_next c.args.marks.now own c.loop-leaf.left c.next_leaf.new.self x ids more c.in-Some.ensures.after (more_all ids more x.id added) (inl (more_has ids more x.id added)) c.loop-leaf.invariant.done;
    }

pub loop-leaf-preserved : goal.loop-leaf-preserved
loop-leaf-preserved c =
    let own = leaves_of c.args.table c.args.leaves.now.leaves in
    let ids = c.loop-leaf.marked.items in
    record {
      kept = c.loop-leaf.invariant.kept;
      done = done_next c.args.marks.now own c.loop-leaf.left c.next_leaf.new.self c.in-Some.leaf.now ids ids c.in-Some.ensures.after (λ id there. there) (inr (c.is_unmarked.ensures (cc))) c.loop-leaf.invariant.done;
    }

pub returns-clause-marked : goal.returns-clause-marked
returns-clause-marked c = done_all c.args.marks.now c.args.leaves.now.leaves c.args.table c.loop-leaf.left c.loop-leaf.marked.items c.in_default.ensures.ends c.loop-leaf.invariant.done
