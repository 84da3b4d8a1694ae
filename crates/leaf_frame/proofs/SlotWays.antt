-- The slots that are left on a way, one behind the other.
use Rattle.std.proofs.Common.{◌≡◌, ◌≢◌, ◌∙◌, ℕ, zero, suc, ◌<◌, true, false, List, [], ◌∷◌, length, get_or, Option, Some, None, Bor, sym, ap, subst, inl, inr, arith}
use Rattle.std.specs.Prelude.{IfNone, IfSome, option_copied, slice_get}
use Rattle.std.specs.List.{Contains}
use Rattle.std.proofs.lemmas.Bool.{both_ways, cases_Bool}
use Rattle.kv_model.specs.Rows.{Way, Up, is_past, comes_after}
use Rattle.kv_model.proofs.KeyOrder.{after-trans, after-itself}
use Rattle.leaf_chains.specs.declared.slot.KeyChain.{KeyChain}
use Rattle.leaf_chains.specs.Slots.{key_at, key_of, slot_of}
use Rattle.leaf_chains.specs.Nearest.{IsNearest, IsWayUp}
use Rattle.leaf_frame.specs.declared.slot_way.SlotsAhead.{SlotsAhead}
use Rattle.leaf_frame.specs.declared.slot_way.SlotsAhead.TheVariants as along
use Rattle.leaf_frame.specs.Near.{NoSlotPast}
use Rattle.leaf_frame.specs.Walks.{AreThrough, SlotsFrom}
use Rattle.leaf_frame.proofs.Keys.{further}
use Rattle.leaf_frame.proofs.Slots.{key_read, near_slot, no_slot_past}

not_before : (a b : List ℕ) → comes_after Up a b ≡ true → comes_after Up b a ≡ false
not_before a b up = elim (cases_Bool (comes_after Up b a)) [
  | inl down ↦ absurd (both_ways (comes_after Up a a) (after-itself Up a) (after-trans Up a b a up down))
  | inr isnt ↦ isnt
]

no_slot_there : (slots : List KeyChain) (i : ℕ) → i < length slots → None ≡ slice_get slots i → ⊥
no_slot_there [] i lt is = omega (arith, lt)
no_slot_there (s ∷ slots) zero lt is = absurd cc
no_slot_there (s ∷ slots) (suc i) lt is = no_slot_there slots i (omega (arith, lt)) is

none_there : (j : ℕ) → Contains [] j → ⊥
none_there j (k, lt, is) = omega (arith, lt)

module _ (from : Option (List ℕ)) (slots : List KeyChain) (i : ℕ) (rest : List ℕ) (way : IsWayUp from slots (i ∷ rest)) where
  -- each other is further on
  behind : (k : ℕ) (d : ℕ) → k < length rest → comes_after Up (key_at slots i) (key_at slots (get_or rest k d)) ≡ true
  behind k d lt = way.ascends 0 (suc k) d (omega arith) (omega (arith, lt))

  not_nearer : (j : ℕ) → Contains (i ∷ rest) j → comes_after Up (key_at slots j) (key_at slots i) ≡ false
  not_nearer j (zero, lt, is) = subst (λ (n : ℕ). comes_after Up (key_at slots n) (key_at slots i) ≡ false) is (after-itself Up (key_at slots i))
  not_nearer j (suc k, lt, is) = not_before (key_at slots i) (key_at slots j) (subst (λ (n : ℕ). comes_after Up (key_at slots i) (key_at slots n) ≡ true) is (behind k j (omega (arith, lt))))

  -- the first is the nearest
  pub first_nearest : IsNearest Up from slots i
  first_nearest = record {
    is_slot = way.within 0 0 (omega arith);
    past = way.past 0 0 (omega arith);
    nearest = λ j d lt past.
        let is = key_read slots j d lt in
        subst (λ (k : List ℕ). comes_after Up k (key_at slots i) ≡ false) is (not_nearer j (way.whole j lt (subst (λ (k : List ℕ). is_past Up from k ≡ true) (sym is) past)));
  }

  further_on : (j : ℕ) → comes_after Up (key_at slots i) (key_at slots j) ≡ true → Contains (i ∷ rest) j → Contains rest j
  further_on j past (zero, lt, is) = absurd (both_ways (comes_after Up (key_at slots i) (key_at slots i)) (after-itself Up (key_at slots i)) (subst (λ (n : ℕ). comes_after Up (key_at slots i) (key_at slots n) ≡ true) (sym is) past))
  further_on j past (suc k, lt, is) = (k, omega (arith, lt), is)

  -- the others are those behind it
  pub rest_ahead : IsWayUp (Some (key_at slots i)) slots rest
  rest_ahead = record {
    within = λ k d lt. way.within (suc k) d (omega (arith, lt));
    past = λ k d lt. behind k d lt;
    ascends = λ a b d lt within. way.ascends (suc a) (suc b) d (omega (arith, lt)) (omega (arith, within));
    whole = λ j lt past. further_on j past (way.whole j lt (further Up from (key_at slots i) (key_at slots j) (way.past 0 0 (omega arith)) past));
  }

  -- one is taken
  pub taken : (o : Option (Bor KeyChain)) → option_copied o ≡ slice_get slots i → IfSome o (λ s. slot_of s.now.key slots ≡ Some i) → SlotsFrom (along.Up rest) from slots o × IfNone o (AreThrough (along.Up rest) from slots)
  taken None there own = absurd (no_slot_there slots i (way.within 0 0 (omega arith)) there)
  taken (Some s) there own = (
    (near_slot Up from slots i (Some s) first_nearest there own, subst (λ (k : List ℕ). IsWayUp (Some k) slots rest) (ap key_of (sym there)) rest_ahead),
    tt,
  )

-- ---- where none is left

pub none_left : (from : Option (List ℕ)) (slots : List KeyChain) → IsWayUp from slots [] → NoSlotPast Up from slots
none_left from slots way = no_slot_past Up from slots (λ j d lt. elim (cases_Bool (is_past Up from (get_or slots j d).key)) [
  | inl past ↦ absurd (none_there j (way.whole j lt (subst (λ (k : List ℕ). is_past Up from k ≡ true) (sym (key_read slots j d lt)) past)))
  | inr isnt ↦ isnt
])

pub none_left_on : (from : Option (List ℕ)) (slots : List KeyChain) (key : List ℕ) → is_past Up from key ≡ true → IsWayUp from slots [] → IsWayUp (Some key) slots []
none_left_on from slots key on way = record {
  within = λ k d lt. absurd (omega (arith, lt));
  past = λ k d lt. absurd (omega (arith, lt));
  ascends = λ a b d lt within. absurd (omega (arith, within));
  whole = λ j lt past. way.whole j lt (further Up from key (key_at slots j) on past);
}
