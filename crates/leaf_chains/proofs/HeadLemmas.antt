-- Heads of keys: how they compare, and what a change of the slots leaves of them.
use lib.Dec.{T, eqb_refl}
use Rattle.std.proofs.Common.{◌≡◌, ◌≢◌, ℕ, Bool, ◌+◌, ◌<◌, ◌≤◌, true, false, not, eqb, List, [], ◌∷◌, ◌++◌, length, length-append, get_or, take, Option, Some, None, refl, sym, ap, subst, ◌∙◌, inl, inr, arith, Fits, w8}
use Rattle.std.specs.Prelude.{IfSome}
use Rattle.std.specs.Ordering.{nat_cmp}
use Rattle.std.specs.Cmp.Lexicographic.{slice_cmp}
use Rattle.std.specs.Slice.Scan.{differ, HoldsNowhere}
use Rattle.std.proofs.lemmas.Bool.{cases_lt}
use Rattle.std.proofs.lemmas.List.{get_or-take, get_or_append_left}
use Rattle.std.proofs.lemmas.Option.{slice_get_within, slice_get-get_or, get_or_from_slice_get}
use Rattle.std.proofs.Math.Seq.{get_or-append_seam}
use Rattle.byte_order.proofs.Settled.{word}
use Rattle.update_chain.specs.declared.update.Update.{Update}
use Rattle.leaf_chains.specs.declared.slot.KeyChain.{KeyChain}
use Rattle.leaf_chains.specs.Slots.{key_at, slot_changed}
use Rattle.leaf_chains.specs.Heads.{AreHeads, IsHead}
use Rattle.leaf_chains.proofs.Changes.{length_changed, key_changed}
use Rattle.leaf_chains.proofs.Pushing.{key_pushed, key_new}

-- ---- heads that differ compare as their keys

equal_numbers : (x : ℕ) → not (eqb x x) ≡ false
equal_numbers x = by (eqb x x) (eqb_refl x)
  where
    by : (b : Bool) → T b → not b ≡ false
    by true p = refl
    by false p = absurd p

alike : (front a b : List ℕ) → take (length front) a ≡ front → take (length front) b ≡ front → HoldsNowhere (differ a b) 0 (length front)
alike front a b p q k from to =
    let x = sym (get_or-take (length front) a k 0 to) ∙ ap (λ (l : List ℕ). get_or l k 0) p in
    let y = sym (get_or-take (length front) b k 0 to) ∙ ap (λ (l : List ℕ). get_or l k 0) q in
    ap (λ (n : ℕ). not (eqb n (get_or b k 0))) (x ∙ sym y) ∙ equal_numbers (get_or b k 0)

fit : (key : List ℕ) → ((k : ℕ) → get_or key k 0 < 256) → (k : ℕ) → Fits w8 (get_or key k 0)
fit key small k = record { fits = small k }

pub by_heads : (front a b : List ℕ) (x y : ℕ) → IsHead front a x → IsHead front b y → x ≢ y → slice_cmp nat_cmp a b ≡ nat_cmp x y
by_heads front a b x y p q n =
    let read = word a b (fit a p.bytes) (fit b q.bytes) (length front) 8 x y p.long q.long p.spells q.spells (alike front a b p.begins q.begins) in
    read.apart n

-- ---- what is kept of them

pub no_heads : (front words : List ℕ) (slots : List KeyChain) → words ≡ [] → AreHeads front words slots
no_heads front words slots e = subst (λ (ws : List ℕ). AreHeads front ws slots) (sym e) (record { few = omega arith; heads = λ i h is. absurd cc })

pub heads_changed : (i : ℕ) (change : List Update → List Update) (front words : List ℕ) (slots : List KeyChain) → AreHeads front words slots → AreHeads front words (slot_changed i change slots)
heads_changed i change front words slots are = record {
  few = let l = are.few in omega (arith, l, length_changed i change slots);
  heads = λ k h is. subst (λ (key : List ℕ). IsHead front key h) (sym (key_changed i change slots k)) (are.heads k h is);
}

pub heads_pushed : (front words : List ℕ) (slots : List KeyChain) (s : KeyChain) → AreHeads front words slots → AreHeads front words (slots ++ s ∷ [])
heads_pushed front words slots s are = record {
  few = let l = are.few in omega (arith, l, length-append slots (s ∷ []));
  heads = λ k h is.
      let l = are.few in
      let lt = slice_get_within words k h is in
      subst (λ (key : List ℕ). IsHead front key h) (sym (key_pushed slots s k (omega (arith, l, lt)))) (are.heads k h is);
}

-- the head of the next key
pub one_more : (front words : List ℕ) (slots : List KeyChain) (head : ℕ) → AreHeads front words slots → length words + 1 ≤ length slots → IsHead front (key_at slots (length words)) head → AreHeads front (words ++ head ∷ []) slots
one_more front words slots head are le is_head = record {
  few = omega (arith, le, length-append words (head ∷ []));
  heads = λ k h is.
      let many = length-append words (head ∷ []) in
      let lt = slice_get_within (words ++ head ∷ []) k h is in
      let read = get_or_from_slice_get (words ++ head ∷ []) k h 0 is in
      elim (cases_lt k (length words)) [
        | inl l ↦
            let old = sym (get_or_append_left words (head ∷ []) 0 k l) ∙ read in
            are.heads k h (slice_get-get_or words k 0 l ∙ ap (λ (n : ℕ). Some n) old)
        | inr g ↦
            let e : k ≡ length words = omega (arith, g, lt, many) in
            let new = sym (get_or-append_seam words head [] 0) ∙ (ap (λ (n : ℕ). get_or (words ++ head ∷ []) n 0) (sym e) ∙ read) in
            subst (λ (n : ℕ). IsHead front (key_at slots n) h) (sym e) (subst (λ (n : ℕ). IsHead front (key_at slots (length words)) n) new is_head)
      ];
}

-- the head of a new key is that of the last slot
pub last_head : (front key : List ℕ) (slots after : List KeyChain) (s : KeyChain) (o : Option ℕ) → after ≡ slots ++ s ∷ [] → s.key ≡ key → IfSome o (IsHead front key) → IfSome o (λ h. (i : ℕ) → length after ≡ i + 1 → IsHead front (key_at after i) h)
last_head front key slots after s None are same head = tt
last_head front key slots after s (Some h) are same head = λ i e.
    let many = ap length are in
    let at : i ≡ length slots = omega (arith, e, many, length-append slots (s ∷ [])) in
    let its = ap (key_at after) at ∙ (ap (λ (xs : List KeyChain). key_at xs (length slots)) are ∙ (key_new slots s ∙ same)) in
    subst (λ (k : List ℕ). IsHead front k h) (sym its) head
