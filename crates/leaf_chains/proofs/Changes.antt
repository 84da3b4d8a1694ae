-- Slots by key, and a change in one.
use Rattle.std.proofs.Common.{◌≡◌, ◌≢◌, ℕ, zero, suc, ◌+◌, ◌<◌, ◌≤◌, true, false, cond, List, [], ◌∷◌, length, get_or, set, Option, Some, None, refl, sym, ap, subst, ◌∙◌, inl, inr, arith}
use Rattle.std.specs.Prelude.{bytes_eq, slice_get, option_map}
use Rattle.std.proofs.lemmas.Bool.{cases_Bool, false_from_ne_true}
use Rattle.std.proofs.lemmas.Option.{same_Some}
use Rattle.std.proofs.lemmas.Slice.Eq.{bytes_eq-Decides}
use Rattle.update_chain.specs.declared.update.Update.{Update}
use Rattle.leaf_chains.specs.declared.slot.KeyChain.{KeyChain}
use Rattle.leaf_chains.specs.Slots.{slot_of, chain_at, key_at, slot_changed}

abbrev pub with_chain : List ℕ → List Update → KeyChain
with_chain key chain = record { key = key; chain = chain }

pub key_self : (key : List ℕ) → bytes_eq key key ≡ true
key_self key = (bytes_eq-Decides key key).1 refl

pub same_key : (x y : List ℕ) → bytes_eq x y ≡ true → x ≡ y
same_key x y e = (bytes_eq-Decides x y).0 e

pub other_key : (x y : List ℕ) → x ≢ y → bytes_eq x y ≡ false
other_key x y n = false_from_ne_true (bytes_eq x y) (λ e. n (same_key x y e))

-- ---- the slot of a key, by the first slot and the others

abbrev pub next : Option ℕ → Option ℕ
next o = option_map (λ k. k + 1) o

next_of : (o : Option ℕ) (i : ℕ) → next o ≡ Some i → (j : ℕ) × (i ≡ suc j) × (o ≡ Some j)
next_of None i e = absurd cc
next_of (Some k) i e = let s = same_Some (k + 1) i e in (k, omega (arith, s), refl)

none_of : (o : Option ℕ) → next o ≡ None → o ≡ None
none_of None e = refl
none_of (Some k) e = absurd cc

pub found_first : (key : List ℕ) (s : KeyChain) (slots : List KeyChain) (i : ℕ) → bytes_eq s.key key ≡ true → slot_of key (s ∷ slots) ≡ Some i → i ≡ 0
found_first key s slots i t e = sym (same_Some 0 i (rw t at e))

pub found_later : (key : List ℕ) (s : KeyChain) (slots : List KeyChain) (i : ℕ) → bytes_eq s.key key ≡ false → slot_of key (s ∷ slots) ≡ Some i → (j : ℕ) × (i ≡ suc j) × (slot_of key slots ≡ Some j)
found_later key s slots i f e = next_of (slot_of key slots) i (rw f at e)

pub not_found : (key : List ℕ) (s : KeyChain) (slots : List KeyChain) → slot_of key (s ∷ slots) ≡ None → (bytes_eq s.key key ≡ false) × (slot_of key slots ≡ None)
not_found key s slots e = elim (cases_Bool (bytes_eq s.key key)) [
  | inl t ↦ let h = rw t at e in absurd cc
  | inr f ↦ (f, none_of (slot_of key slots) (rw f at e))
]

-- ---- a change in the slot of a key

pub changed_chain : (key : List ℕ) (change : List Update → List Update) (slots : List KeyChain) (i : ℕ) → slot_of key slots ≡ Some i → chain_at key (slot_changed i change slots) ≡ change (chain_at key slots)
changed_chain key change [] i e = absurd cc
changed_chain key change (s ∷ slots) i e = elim (cases_Bool (bytes_eq s.key key)) [
  | inl t ↦ subst (λ (k : ℕ). chain_at key (slot_changed k change (s ∷ slots)) ≡ change (chain_at key (s ∷ slots))) (sym (found_first key s slots i t e)) (rw t refl)
  | inr f ↦
      let n = found_later key s slots i f e in
      subst (λ (k : ℕ). chain_at key (slot_changed k change (s ∷ slots)) ≡ change (chain_at key (s ∷ slots))) (sym n.1) (rw f (changed_chain key change slots n.0 n.2))
]

pub kept_chain : (key other : List ℕ) (change : List Update → List Update) (slots : List KeyChain) (i : ℕ) → slot_of key slots ≡ Some i → other ≢ key → chain_at other (slot_changed i change slots) ≡ chain_at other slots
kept_chain key other change [] i e n = absurd cc
kept_chain key other change (s ∷ slots) i e n = elim (cases_Bool (bytes_eq s.key key)) [
  | inl t ↦
      let d : bytes_eq s.key other ≡ false = other_key s.key other (λ q. n (sym q ∙ same_key s.key key t)) in
      subst (λ (k : ℕ). chain_at other (slot_changed k change (s ∷ slots)) ≡ chain_at other (s ∷ slots)) (sym (found_first key s slots i t e)) (rw d refl)
  | inr f ↦
      let m = found_later key s slots i f e in
      let h = kept_chain key other change slots m.0 m.2 n in
      subst (λ (k : ℕ). chain_at other (slot_changed k change (s ∷ slots)) ≡ chain_at other (s ∷ slots)) (sym m.1) (ap (λ (c : List Update). cond (bytes_eq s.key other) s.chain c) h)
]

pub kept_slots : (other : List ℕ) (change : List Update → List Update) (slots : List KeyChain) (i : ℕ) → slot_of other (slot_changed i change slots) ≡ slot_of other slots
kept_slots other change [] i = refl
kept_slots other change (s ∷ slots) zero = refl
kept_slots other change (s ∷ slots) (suc i) = ap (λ (o : Option ℕ). cond (bytes_eq s.key other) (Some 0) (next o)) (kept_slots other change slots i)

pub held : (key : List ℕ) (slots : List KeyChain) (i : ℕ) → slot_of key slots ≡ Some i → slice_get slots i ≡ Some (with_chain key (chain_at key slots))
held key [] i e = absurd cc
held key (s ∷ slots) i e = elim (cases_Bool (bytes_eq s.key key)) [
  | inl t ↦ subst (λ (k : ℕ). slice_get (s ∷ slots) k ≡ Some (with_chain key (chain_at key (s ∷ slots)))) (sym (found_first key s slots i t e)) (rw t (ap (λ (k : List ℕ). Some (with_chain k s.chain)) (same_key s.key key t)))
  | inr f ↦
      let n = found_later key s slots i f e in
      subst (λ (k : ℕ). slice_get (s ∷ slots) k ≡ Some (with_chain key (chain_at key (s ∷ slots)))) (sym n.1) (rw f (held key slots n.0 n.2))
]

-- ---- what a change keeps, and as which write it comes

pub length_changed : (i : ℕ) (change : List Update → List Update) (slots : List KeyChain) → length (slot_changed i change slots) ≡ length slots
length_changed i change [] = refl
length_changed zero change (s ∷ slots) = refl
length_changed (suc i) change (s ∷ slots) = omega (arith, length_changed i change slots)

pub key_changed : (i : ℕ) (change : List Update → List Update) (slots : List KeyChain) (j : ℕ) → key_at (slot_changed i change slots) j ≡ key_at slots j
key_changed i change [] j = refl
key_changed zero change (s ∷ slots) zero = refl
key_changed zero change (s ∷ slots) (suc j) = refl
key_changed (suc i) change (s ∷ slots) zero = refl
key_changed (suc i) change (s ∷ slots) (suc j) = key_changed i change slots j

pub changed_set : (i : ℕ) (change : List Update → List Update) (slots : List KeyChain) (s : KeyChain) (chain : List Update) → i < length slots → s ≡ get_or slots i s → chain ≡ change s.chain → set slots i (with_chain s.key chain) ≡ slot_changed i change slots
changed_set i change [] s chain lt is e = absurd (omega (arith, lt))
changed_set zero change (x ∷ slots) s chain lt is e =
    subst (λ (y : KeyChain). (with_chain s.key chain ∷ slots) ≡ (with_chain y.key (change y.chain) ∷ slots)) is (ap (λ (d : List Update). with_chain s.key d ∷ slots) e)
changed_set (suc i) change (x ∷ slots) s chain lt is e = ap (λ (ys : List KeyChain). x ∷ ys) (changed_set i change slots s chain (omega (arith, lt)) is e)

pub changed_past : (i : ℕ) (change : List Update → List Update) (slots : List KeyChain) → length slots ≤ i → slots ≡ slot_changed i change slots
changed_past i change [] le = refl
changed_past zero change (x ∷ slots) le = absurd (omega (arith, le))
changed_past (suc i) change (x ∷ slots) le = ap (λ (ys : List KeyChain). x ∷ ys) (changed_past i change slots (omega (arith, le)))

-- ---- a slot is that of its key where it is the first with it

pub slot_of_is : (key : List ℕ) (slots : List KeyChain) (i : ℕ) → i < length slots → key_at slots i ≡ key → ((j : ℕ) → j < i → key_at slots j ≢ key) → slot_of key slots ≡ Some i
slot_of_is key [] i lt e first = absurd (omega (arith, lt))
slot_of_is key (s ∷ slots) zero lt e first = let t = (bytes_eq-Decides s.key key).1 e in rw t refl
slot_of_is key (s ∷ slots) (suc i) lt e first =
    let f = other_key s.key key (first 0 (omega arith)) in
    let h = slot_of_is key slots i (omega (arith, lt)) e (λ j l. first (suc j) (omega (arith, l))) in
    let n : i + 1 ≡ suc i = omega arith in
    rw f (ap next h ∙ ap (λ (k : ℕ). Some k) n)

pub slot_of_none : (key : List ℕ) (slots : List KeyChain) → ((i : ℕ) → i < length slots → key_at slots i ≢ key) → slot_of key slots ≡ None
slot_of_none key [] never = refl
slot_of_none key (s ∷ slots) never =
    let f = other_key s.key key (never 0 (omega arith)) in
    rw f (ap next (slot_of_none key slots (λ i l. never (suc i) (omega (arith, l)))))
