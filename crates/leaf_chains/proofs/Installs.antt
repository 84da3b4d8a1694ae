-- What an install leaves of the chains of every key.
use Rattle.std.proofs.Common.{◌≡◌, ◌≢◌, ℕ, ◌+◌, cond, List, [], ◌∷◌, ◌++◌, length, Option, Some, None, Bor, refl, sym, ap, ◌∙◌, inl, inr, arith}
use Rattle.std.specs.Prelude.{bytes_eq, option_copied, MatchOption}
use Rattle.std.proofs.lemmas.Bool.{cases_Bool}
use Rattle.std.proofs.lemmas.Option.{same_Some}
use Rattle.update_chain.specs.declared.update.Update.{Update}
use Rattle.update_chain.specs.Updates.{installed}
use Rattle.leaf_chains.specs.declared.slot.KeyChain.{KeyChain}
use Rattle.leaf_chains.specs.Slots.{slot_of, chain_at, slot_changed, installed_in, with_update}
use Rattle.leaf_chains.specs.SlotLaws.{InstallsChange, InstallsKeep, InstallsKeepSlots}
use Rattle.leaf_chains.proofs.Changes.{with_chain, key_self, other_key, next, found_later, not_found, changed_chain, kept_chain, kept_slots}

pub no_chain : (key : List ℕ) (slots : List KeyChain) → slot_of key slots ≡ None → chain_at key slots ≡ []
no_chain key [] e = refl
no_chain key (s ∷ slots) e = let n = not_found key s slots e in let f = n.0 in rw f (no_chain key slots n.1)

pushed_chain : (key : List ℕ) (chain : List Update) (slots : List KeyChain) → slot_of key slots ≡ None → chain_at key (slots ++ with_chain key chain ∷ []) ≡ chain
pushed_chain key chain [] e = let t = key_self key in rw t refl
pushed_chain key chain (s ∷ slots) e = let n = not_found key s slots e in let f = n.0 in rw f (pushed_chain key chain slots n.1)

pushed_keeps : (key other : List ℕ) (chain : List Update) (slots : List KeyChain) → other ≢ key → chain_at other (slots ++ with_chain key chain ∷ []) ≡ chain_at other slots
pushed_keeps key other chain [] n = let d = other_key key other (λ q. n (sym q)) in rw d refl
pushed_keeps key other chain (s ∷ slots) n = ap (λ (c : List Update). cond (bytes_eq s.key other) s.chain c) (pushed_keeps key other chain slots n)

pushed_slots : (other : List ℕ) (x : KeyChain) (slots : List KeyChain) (i : ℕ) → slot_of other slots ≡ Some i → slot_of other (slots ++ x ∷ []) ≡ Some i
pushed_slots other x [] i e = absurd cc
pushed_slots other x (s ∷ slots) i e = elim (cases_Bool (bytes_eq s.key other)) [
  | inl t ↦ let h = rw t at e in rw t h
  | inr f ↦
      let n = found_later other s slots i f e in
      let h = rw f at e in
      rw f (ap next (pushed_slots other x slots n.0 n.2 ∙ sym n.2) ∙ h)
]

-- the slot of a new key
pub pushed_slot : (key : List ℕ) (chain : List Update) (slots : List KeyChain) → slot_of key slots ≡ None → slot_of key (slots ++ with_chain key chain ∷ []) ≡ Some (length slots)
pushed_slot key chain [] e = let t = key_self key in rw t refl
pushed_slot key chain (s ∷ slots) e =
    let n = not_found key s slots e in
    let f = n.0 in
    let m : length slots + 1 ≡ length (s ∷ slots) = omega arith in
    rw f (ap next (pushed_slot key chain slots n.1) ∙ ap (λ (k : ℕ). Some k) m)

pub installs_change : InstallsChange
installs_change key u slots = by (slot_of key slots) refl where
  by : (o : Option ℕ) → slot_of key slots ≡ o → chain_at key (installed_in o key u slots) ≡ installed u (chain_at key slots)
  by None e = pushed_chain key (installed u []) slots e ∙ ap (installed u) (sym (no_chain key slots e))
  by (Some i) e = changed_chain key (installed u) slots i e

pub installs_keep : InstallsKeep
installs_keep key other u slots n = by (slot_of key slots) refl where
  by : (o : Option ℕ) → slot_of key slots ≡ o → chain_at other (installed_in o key u slots) ≡ chain_at other slots
  by None e = pushed_keeps key other (installed u []) slots n
  by (Some i) e = kept_chain key other (installed u) slots i e n

pub installs_keep_slots : InstallsKeepSlots
installs_keep_slots key other u slots i e = by (slot_of key slots) where
  by : (o : Option ℕ) → slot_of other (installed_in o key u slots) ≡ Some i
  by None = pushed_slots other (with_chain key (installed u [])) slots i e
  by (Some j) = kept_slots other (installed u) slots j ∙ e

-- a chain that is lent, by what it holds
pub read_chain : (o : Option (Bor (List Update))) (chain : List Update) → option_copied o ≡ Some chain → MatchOption o (chain ≡ []) (λ c. c.now ≡ chain)
read_chain None chain e = absurd cc
read_chain (Some c) chain e = same_Some c.now chain e

-- an install over a chain, and that of a new key
pub installed_over : (key : List ℕ) (u : Update) (slots : List KeyChain) (i : ℕ) → slot_of key slots ≡ Some i → slot_changed i (installed u) slots ≡ with_update key u slots
installed_over key u slots i e = ap (λ (o : Option ℕ). installed_in o key u slots) (sym e)

pub installed_new : (key : List ℕ) (u : Update) (slots : List KeyChain) → slot_of key slots ≡ None → slots ++ with_chain key (installed u []) ∷ [] ≡ with_update key u slots
installed_new key u slots e = ap (λ (o : Option ℕ). installed_in o key u slots) (sym e)
