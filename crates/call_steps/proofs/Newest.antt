-- The newest update of a key, by its slot.
use Rattle.std.proofs.Common.{◌≡◌, ◌∙◌, ℕ, List, [], ◌∷◌, Option, Some, None, refl, ap}
use Rattle.std.specs.Prelude.{slice_get}
use Rattle.kv_model.specs.Machine.{of_some}
use Rattle.update_chain.specs.declared.update.Update.{Update}
use Rattle.update_chain.specs.Writing.{newest_of}
use Rattle.leaf_chains.specs.declared.slot.KeyChain.{KeyChain}
use Rattle.leaf_chains.specs.Slots.{slot_of, chain_at}
use Rattle.leaf_chains.proofs.Changes.{held, not_found}
use Rattle.call_steps.specs.Leaves.{chain_in}

pub first_is_newest : (chain : List Update) → slice_get chain 0 ≡ newest_of chain None
first_is_newest [] = refl
first_is_newest (u ∷ older) = refl

pub chain_in_slot : (key : List ℕ) (slots : List KeyChain) (i : ℕ) → slot_of key slots ≡ Some i → chain_in slots i ≡ chain_at key slots
chain_in_slot key slots i e = ap (λ (o : Option KeyChain). of_some [] (λ (s : KeyChain). s.chain) o) (held key slots i e)

pub no_chain : (key : List ℕ) (slots : List KeyChain) → slot_of key slots ≡ None → chain_at key slots ≡ []
no_chain key [] e = refl
no_chain key (s ∷ slots) e = let n = not_found key s slots e in rw n.0 (no_chain key slots n.1)

pub own_chain : (slots : List KeyChain) (i : ℕ) (s : KeyChain) → slot_of s.key slots ≡ Some i → Some s ≡ slice_get slots i → s.chain ≡ chain_at s.key slots
own_chain slots i s own there = ap (λ (o : Option KeyChain). of_some [] (λ (k : KeyChain). k.chain) o) there ∙ chain_in_slot s.key slots i own
