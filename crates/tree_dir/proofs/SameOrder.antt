-- Slots have one order.
use Rattle.std.proofs.Common.{◌≡◌, ℕ, zero, suc, ◌<◌, ◌⊎◌, List, [], ◌∷◌, length, get_or, refl, sym, ap, subst, ◌∙◌, inl, inr, arith}
use Rattle.std.specs.List.{AllPairs, Contains}
use Rattle.std.proofs.lemmas.Cmp.{nat_list_cmp_total, tied_itself}
use Rattle.std.proofs.lemmas.List.Elements.{All-contains}
use Rattle.tree_dir.specs.declared.leaf.Leaf.{Leaf}
use Rattle.tree_dir.specs.Order.{IsSlotBelow, IsWay, rank_at}

never-below : (slots : List Leaf) (i : ℕ) → IsSlotBelow slots i i → ⊥
never-below slots i e = let clash = sym e ∙ tied_itself nat_list_cmp_total (rank_at slots i) in absurd cc

below-on : (slots : List Leaf) (i j k : ℕ) → IsSlotBelow slots i j → IsSlotBelow slots j k → IsSlotBelow slots i k
below-on slots i j k a b = nat_list_cmp_total.trans (rank_at slots i) (rank_at slots j) (rank_at slots k) a b

-- the head, or in the rest
split : (a x : ℕ) (more : List ℕ) → Contains (a ∷ more) x → (a ≡ x) ⊎ Contains more x
split a x more c = go c.0 c.1 c.2 where
  go : (k : ℕ) → k < suc (length more) → get_or (a ∷ more) k x ≡ x → (a ≡ x) ⊎ Contains more x
  go zero lt e = inl e
  go (suc k) lt e = inr (k, omega (arith, lt), e)

later : (a x : ℕ) (more : List ℕ) → Contains more x → Contains (a ∷ more) x
later a x more c = (suc c.0, omega (arith, c.1), c.2)

-- each of the rest is above the head
above : (slots : List Leaf) (a x : ℕ) (more : List ℕ) → AllPairs (IsSlotBelow slots) (a ∷ more) → Contains more x → IsSlotBelow slots a x
above slots a x more pairs c = subst (λ (y : ℕ). IsSlotBelow slots a y) c.2 (pairs 0 (suc c.0) x (omega arith) (omega (arith, c.1)))

rest-ascends : (slots : List Leaf) (a : ℕ) (more : List ℕ) → AllPairs (IsSlotBelow slots) (a ∷ more) → AllPairs (IsSlotBelow slots) more
rest-ascends slots a more pairs i j d lt within = pairs (suc i) (suc j) d (omega (arith, lt)) (omega (arith, within))

same-heads : (slots : List Leaf) (a b : ℕ) (more bs : List ℕ) → AllPairs (IsSlotBelow slots) (a ∷ more) → AllPairs (IsSlotBelow slots) (b ∷ bs) → Contains (b ∷ bs) a → Contains (a ∷ more) b → b ≡ a
same-heads slots a b more bs pa pb ca cb = elim (split b a bs ca) [
  | inl e ↦ e
  | inr i ↦ elim (split a b more cb) [
    | inl e ↦ sym e
    | inr j ↦ absurd (never-below slots a (below-on slots a b a (above slots a b more pa j) (above slots b a bs pb i)))
  ]
]

alike : (slots : List Leaf) (more bs : List ℕ) → AllPairs (IsSlotBelow slots) more → AllPairs (IsSlotBelow slots) bs → ((x : ℕ) → Contains more x → Contains bs x) → ((x : ℕ) → Contains bs x → Contains more x) → more ≡ bs
alike slots [] [] pa pb to from = refl
alike slots [] (b ∷ bs) pa pb to from = let c = from b (0, omega arith, refl) in absurd (omega (arith, c.1))
alike slots (a ∷ more) [] pa pb to from = let c = to a (0, omega arith, refl) in absurd (omega (arith, c.1))
alike slots (a ∷ more) (b ∷ bs) pa pb to from =
    let e = same-heads slots a b more bs pa pb (to a (0, omega arith, refl)) (from b (0, omega arith, refl)) in
    ap (λ (x : ℕ). x ∷ more) (sym e)
    ∙ ap (λ (xs : List ℕ). b ∷ xs) (alike slots more bs (rest-ascends slots a more pa) (rest-ascends slots b bs pb)
    (λ x c. elim (split b x bs (to x (later a x more c))) [
      | inl same ↦ absurd (never-below slots a (subst (λ (y : ℕ). IsSlotBelow slots a y) (sym same ∙ e) (above slots a x more pa c)))
      | inr here ↦ here
    ])
    (λ x c. elim (split a x more (from x (later b x bs c))) [
      | inl same ↦ absurd (never-below slots b (subst (λ (y : ℕ). IsSlotBelow slots b y) (sym same ∙ sym e) (above slots b x bs pb c)))
      | inr here ↦ here
    ]))

pub one-way : (slots : List Leaf) (more bs : List ℕ) → IsWay slots more → IsWay slots bs → more ≡ bs
one-way slots more bs a b =
    alike slots more bs a.ascends b.ascends
    (λ x c. b.whole x (All-contains (λ i. i < length slots) more x a.within c))
    (λ x c. a.whole x (All-contains (λ i. i < length slots) bs x b.within c))
