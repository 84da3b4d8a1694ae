-- The last slot taken out again.
use Rattle.std.proofs.Common.{◌≡◌, ℕ, zero, suc, ◌+◌, ◌-◌, ◌<◌, List, [], ◌∷◌, length, get_or, take, refl, sym, ap, ◌∙◌, inl, inr, arith}
use Rattle.std.specs.List.{Contains, remove}
use Rattle.std.specs.Ordering.{nat_cmp}
use Rattle.std.specs.Cmp.Lexicographic.{slice_cmp}
use Rattle.std.proofs.lemmas.Bool.{cases_lt, cases_eq}
use Rattle.std.proofs.lemmas.List.{get_or_default, length-take-le}
use Rattle.std.proofs.lemmas.List.Edits.{length-remove, get_or-remove_below, get_or-remove_above}
use Rattle.std.proofs.lemmas.List.Elements.{at_from_Contains}
use Rattle.std.proofs.lemmas.List.Quantifiers.{all_pairs_remove}
use Rattle.tree_dir.specs.declared.leaf.Leaf.{Leaf}
use Rattle.tree_dir.specs.Order.{IsSlotBelow, IsWay, rank_at}
use Rattle.tree_dir.proofs.Index.{order-once}

rank-taken : (slots : List Leaf) (n i : ℕ) → i < n → rank_at (take n slots) i ≡ rank_at slots i
rank-taken [] zero i lt = refl
rank-taken [] (suc n) i lt = refl
rank-taken (x ∷ slots) zero i lt = absurd (omega (arith, lt))
rank-taken (x ∷ slots) (suc n) zero lt = refl
rank-taken (x ∷ slots) (suc n) (suc i) lt = rank-taken slots n i (omega (arith, lt))

below-taken : (slots : List Leaf) (n i j : ℕ) → i < n → j < n → IsSlotBelow slots i j → IsSlotBelow (take n slots) i j
below-taken slots n i j here there h =
    ap (λ (k : List ℕ). slice_cmp nat_cmp k (rank_at (take n slots) j)) (rank-taken slots n i here)
    ∙ (ap (λ (k : List ℕ). slice_cmp nat_cmp (rank_at slots i) k) (rank-taken slots n j there) ∙ h)

-- what is left is another slot
left : (slots : List Leaf) (order : List ℕ) (r n k d : ℕ) → IsWay slots order → r < length order → get_or order r 0 ≡ n → suc n ≡ length slots → k < length (remove order r) → get_or (remove order r) k d < n
left slots order r n k d ix lt is end within =
    let long = length-remove order r lt in
    elim (cases_lt k r) [
      | inl b ↦
          let at = get_or-remove_below order r d k b lt in
          let same = get_or_default order k d 0 (omega (arith, b, lt)) in
          let most = ix.within k 0 (omega (arith, b, lt)) in
          let other : get_or order k 0 ≡ n → ⊥ = λ e. order-once slots order k r ix b lt (e ∙ sym is) in
          omega (arith, at, same, most, end, other)
      | inr g ↦
          let at = get_or-remove_above order r d k g lt in
          let here : k + 1 < length order = omega (arith, within, long) in
          let same = get_or_default order (k + 1) d 0 here in
          let most = ix.within (k + 1) 0 here in
          let other : get_or order (k + 1) 0 ≡ n → ⊥ = λ e. order-once slots order r (k + 1) ix (omega (arith, g)) here (is ∙ sym e) in
          omega (arith, at, same, most, end, other)
    ]

stays : (order : List ℕ) (r i : ℕ) → r < length order → (get_or order r 0 ≡ i → ⊥) → Contains order i → Contains (remove order r) i
stays order r i lt other c =
    let long = length-remove order r lt in
    let a = at_from_Contains order i c in
    elim (cases_lt a.0 r) [
      | inl b ↦ (a.0, omega (arith, b, lt, long), get_or-remove_below order r i a.0 b lt ∙ a.2 i)
      | inr g ↦ elim (cases_eq a.0 r) [
        | inl e ↦ absurd (other (ap (λ (k : ℕ). get_or order k 0) (sym e) ∙ a.2 0))
        | inr n ↦
            let back : a.0 - 1 + 1 ≡ a.0 = omega (arith, g, n) in
            (a.0 - 1, omega (arith, a.1, long, back), get_or-remove_above order r i (a.0 - 1) (omega (arith, g, n)) lt ∙ (ap (λ (k : ℕ). get_or order k i) back ∙ a.2 i))
      ]
    ]

pub way-removed : (slots : List Leaf) (order : List ℕ) (r n : ℕ) → IsWay slots order → r < length order → get_or order r 0 ≡ n → suc n ≡ length slots → IsWay (take n slots) (remove order r)
way-removed slots order r n ix lt is end =
    let short = length-take-le n slots (omega (arith, end)) in
    record {
      within = λ k d within. let l = left slots order r n k d ix lt is end within in omega (arith, l, short);
      ascends = λ i j d less within.
          let long = length-remove order r lt in
          below-taken slots n (get_or (remove order r) i d) (get_or (remove order r) j d)
          (left slots order r n i d ix lt is end (omega (arith, less, within)))
          (left slots order r n j d ix lt is end within)
          (all_pairs_remove (IsSlotBelow slots) order r lt ix.ascends i j d less within);
      whole = λ i within. stays order r i lt (λ e. let same = sym is ∙ e in omega (arith, within, short, same)) (ix.whole i (omega (arith, within, short, end)));
    }
