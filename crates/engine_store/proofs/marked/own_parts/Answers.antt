use Rattle.std.proofs.Common.{ℕ, ap, get_or, inl, inr, arith}
use Rattle.std.proofs.lemmas.Bool.{cases_lt}
use Rattle.ckpt_step.specs.Rooms.{Rooms, known_in}
use Rattle.engine_store.proofs.MarkedParts.{all_more, own_more}
use Rattle.engine_store.proofs.marked.own_parts.Goals as goal

pub loop-leaf-init : goal.loop-leaf-init
loop-leaf-init c = record { own = λ id. inl (ap (λ (r : Rooms). known_in r id) c.new-parts.ensures); all = λ k lt. absurd (omega (arith, lt)) }

pub loop-leaf-preserved : goal.loop-leaf-preserved
loop-leaf-preserved c =
    let leaves = c.args.leaves.now.leaves in
    let before = known_in c.loop-leaf.parts in
    let after = known_in c.keep_own.new.parts in
    record {
      own = λ id. own_more leaves _ id before after c.in_ok-keep_own.ensures c.loop-leaf.invariant.own;
      all = λ k lt.
          all_more leaves (get_or c.args.ids.now c.loop-leaf.leaf-index 0) (get_or c.args.ids.now k 0) before after c.in_ok-keep_own.ensures c.loop-leaf.invariant.own
          (elim (cases_lt k c.loop-leaf.leaf-index) [ inl less ↦ inl (c.loop-leaf.invariant.all k less) | inr least ↦ inr (ap (λ (j : ℕ). get_or c.args.ids.now j 0) (omega (arith, least, lt))) ]);
    }
