use Rattle.std.proofs.Common.{◌≡◌, ◌∙◌, ◌+◌, ◌-◌, ℕ, List, Option, length, take, drop, arith, subst, sym, length-drop}
use Rattle.std.proofs.Math.Seq.{take-add}
use Rattle.std.proofs.lemmas.List.{take_all}
use Rattle.wt_io.specs.Streams.{Took}
use Rattle.wt_io.specs.StreamLemmas.{took_more}
use Rattle.wt_io.proofs.streams.write_all.Goals as goal

step : (a b c : Option (List ℕ)) (bs : List ℕ) (d n : ℕ) → Took a b (take d bs) → Took b c (take n (take (length bs - d) (drop d bs))) → Took a c (take (d + n) bs)
step a b c bs d n before now =
    let whole : take (length bs - d) (drop d bs) ≡ drop d bs = take_all _ _ (simp length-drop (omega arith)) in
    let both = took_more a b c (take d bs) (take n (drop d bs)) before (subst (λ (l : List ℕ). Took b c (take n l)) whole now) in
    subst (λ (l : List ℕ). Took a c l) (sym (take-add d n bs)) both

pub loop-done-preserved : goal.loop-done-preserved
loop-done-preserved g c = record {
  within = grind (arith, c.in_ok-done.ensures.bound);
  took = step _ _ _ c.args.bytes.now c.loop-done.done c.in_ok-done.field-0 c.loop-done.invariant.took c.in_ok-done.ensures.bytes;
  stands = c.in_ok-done.ensures.cause.stands ∙ c.loop-done.invariant.stands;
}
