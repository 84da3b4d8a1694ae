-- The nearest slot of a way.
use Rattle.std.proofs.Common.{◌≡◌, ◌≢◌, ◌∙◌, ℕ, zero, suc, ◌<◌, true, false, List, [], ◌∷◌, length, map, get_or, Option, Some, None, Bor, refl, sym, ap, subst, inl, inr, arith}
use Rattle.std.specs.Prelude.{IfSome, MatchOption, option_copied, option_map, slice_get}
use Rattle.std.proofs.lemmas.Bool.{both_ways}
use Rattle.std.proofs.lemmas.Option.{same_Some}
use Rattle.kv_model.specs.Holds.{Member}
use Rattle.kv_model.specs.Rows.{Way, is_past, comes_after}
use Rattle.update_chain.specs.declared.update.Update.{Update}
use Rattle.update_chain.specs.Writing.{newest_of}
use Rattle.leaf_chains.specs.declared.slot.KeyChain.{KeyChain}
use Rattle.leaf_chains.specs.Slots.{chain_at, key_at, key_of, slot_of}
use Rattle.leaf_chains.specs.Nearest.{IsNearest, NonePast as NoSlot}
use Rattle.leaf_chains.proofs.Changes.{held, slot_of_none, with_chain}
use Rattle.leaf_chains.proofs.Installs.{no_chain}
use Rattle.leaf_frame.specs.Near.{IsNearSlot, NoSlotPast}

pub no_slot : KeyChain
no_slot = record { key = []; chain = [] }

pub key_read : (slots : List KeyChain) (i : ℕ) (d : KeyChain) → i < length slots → key_at slots i ≡ (get_or slots i d).key
key_read [] i d lt = absurd (omega (arith, lt))
key_read (s ∷ slots) zero d lt = refl
key_read (s ∷ slots) (suc i) d lt = key_read slots i d (omega (arith, lt))

bare : (slots : List KeyChain) (k : List ℕ) → ((i : ℕ) → i < length slots → key_at slots i ≢ k) → chain_at k slots ≡ []
bare slots k never = no_chain k slots (slot_of_none k slots never)

pub no_slot_past : (way : Way) (from : Option (List ℕ)) (slots : List KeyChain) → NoSlot way from slots → NoSlotPast way from slots
no_slot_past way from slots none k past = bare slots k (λ i lt is.
    both_ways (is_past way from k) (subst (λ (x : List ℕ). is_past way from x ≡ false) (sym (key_read slots i no_slot lt) ∙ is) (none i no_slot lt)) past)

none_nearer : (way : Way) (from : Option (List ℕ)) (slots : List KeyChain) (i : ℕ) → IsNearest way from slots i → (k : List ℕ) → is_past way from k ≡ true → comes_after way k (key_at slots i) ≡ true → chain_at k slots ≡ []
none_nearer way from slots i near k past before = bare slots k (λ j lt is.
    both_ways (comes_after way k (key_at slots i))
    (subst (λ (x : List ℕ). is_past way from x ≡ true → comes_after way x (key_at slots i) ≡ false) (sym (key_read slots j no_slot lt) ∙ is) (near.nearest j no_slot lt) past) before)

slot_member : (slots : List KeyChain) (i : ℕ) (s : KeyChain) → slice_get slots i ≡ Some s → Member s.key (map {A = KeyChain} (λ t. t.key) slots)
slot_member [] i s is = absurd cc
slot_member (x ∷ slots) zero s is = inl (ap (λ (t : KeyChain). t.key) (sym (same_Some x s is)))
slot_member (x ∷ slots) (suc i) s is = inr (slot_member slots i s is)

pub own_chain : (slots : List KeyChain) (i : ℕ) (s : KeyChain) → slot_of s.key slots ≡ Some i → slice_get slots i ≡ Some s → chain_at s.key slots ≡ s.chain
own_chain slots i s own there = ap (λ (t : KeyChain). t.chain) (same_Some (with_chain s.key (chain_at s.key slots)) s (sym (held s.key slots i own) ∙ there))

some_slot : (slots : List KeyChain) (i : ℕ) → i < length slots → (s : KeyChain) × (slice_get slots i ≡ Some s)
some_slot [] i lt = absurd (omega (arith, lt))
some_slot (s ∷ slots) zero lt = (s, refl)
some_slot (s ∷ slots) (suc i) lt = some_slot slots i (omega (arith, lt))

pub near_slot : (way : Way) (from : Option (List ℕ)) (slots : List KeyChain) (i : ℕ) (o : Option (Bor KeyChain)) → IsNearest way from slots i → option_copied o ≡ slice_get slots i → IfSome o (λ s. slot_of s.now.key slots ≡ Some i)
    → MatchOption o (NoSlotPast way from slots) (λ s. IsNearSlot way from slots s.now)
near_slot way from slots i None near there own = let s = some_slot slots i near.is_slot in let clash = there ∙ s.1 in absurd cc
near_slot way from slots i (Some s) near there own =
    let key : key_at slots i ≡ s.now.key = ap key_of (sym there) in
    record {
      past = subst (λ (k : List ℕ). is_past way from k ≡ true) key near.past;
      known = slot_member slots i s.now (sym there);
      chain = own_chain slots i s.now own (sym there);
      before = λ k past before. none_nearer way from slots i near k past (subst (λ (x : List ℕ). comes_after way k x ≡ true) (sym key) before);
    }

-- ---- the newest update

pub first_is_newest : (chain : List Update) → slice_get chain 0 ≡ newest_of chain None
first_is_newest [] = refl
first_is_newest (u ∷ older) = refl

pub newest_none : (key : List ℕ) (slots : List KeyChain) → slot_of key slots ≡ None → None ≡ newest_of (chain_at key slots) None
newest_none key slots e = ap (λ (c : List Update). newest_of c None) (sym (no_chain key slots e))

pub lent_chain : (key : List ℕ) (slots : List KeyChain) (i : ℕ) (chain : List Update) → slot_of key slots ≡ Some i → Some chain ≡ option_map (λ (s : KeyChain). s.chain) (slice_get slots i) → chain ≡ chain_at key slots
lent_chain key slots i chain own is = same_Some chain (chain_at key slots) (is ∙ ap (option_map (λ (s : KeyChain). s.chain)) (held key slots i own))

pub never_unlent : (key : List ℕ) (slots : List KeyChain) (i : ℕ) → slot_of key slots ≡ Some i → None ≡ option_map (λ (s : KeyChain). s.chain) (slice_get slots i) → ⊥
never_unlent key slots i own is = let clash = is ∙ ap (option_map (λ (s : KeyChain). s.chain)) (held key slots i own) in absurd cc
