-- Writes that were cut short, one within another.
use Rattle.std.specs.Prelude.{◌≡◌, ℕ, ◌+◌, ◌-◌, ◌≤◌, min, List, length, take, drop}
use Rattle.std.specs.declared.alloc.Global.{Global}
use Rattle.std.proofs.Common.{Vec, Result, Ok, Err, IfOk, sym, ◌∙◌, ap, arith}
use Rattle.std.proofs.lemmas.List.{drop-drop}
use Rattle.std.proofs.lemmas.Grind.{common_steps}
use Rattle.disk_model.specs.Disk.{Torn}

shorter : (n m : ℕ) (l : List ℕ) → n ≤ m → take n (take m l) ≡ take n l
shorter n m l le = grind (arith, common_steps)

-- what is torn in a part of a range is torn in the range
pub torn_within : (from m at n : ℕ) (old new : List ℕ) → Torn from m old new → at ≤ from → from + m ≤ at + n → Torn at n old new
torn_within from m at n old new torn low high = record {
  before = sym (shorter (min at (length old)) (min from (length old)) new (omega arith)) ∙ ap (λ (l : List ℕ). take (min at (length old)) l) torn.before ∙ shorter (min at (length old)) (min from (length old)) old (omega arith);
  after =
      let more : at + n ≡ (from + m) + (at + n - (from + m)) = omega arith in
      ap (λ k. drop k new) more ∙ sym (drop-drop (at + n - (from + m)) (from + m) new) ∙ ap (λ (l : List ℕ). drop (at + n - (from + m)) l) torn.after ∙ drop-drop (at + n - (from + m)) (from + m) old ∙ ap (λ k. drop k old) (sym more);
  no_shorter = torn.no_shorter;
  no_longer = omega (arith, torn.no_longer);
}

pub torn_within_ok : {E : Type 0} (r : Result (Vec ℕ Global) E) (from m at n : ℕ) (old : List ℕ) → IfOk r (λ v. Torn from m old v.items) → at ≤ from → from + m ≤ at + n → IfOk r (λ v. Torn at n old v.items)
torn_within_ok (Ok v) from m at n old torn low high = torn_within from m at n old v.items torn low high
torn_within_ok (Err e) from m at n old torn low high = tt
