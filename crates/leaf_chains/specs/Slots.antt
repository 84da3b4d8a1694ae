-- The chains of a leaf as the list of its slots, each with a key and the chain of that key.
use Rattle.std.specs.Prelude.{ℕ, zero, suc, ◌+◌, List, [], ◌∷◌, ◌++◌, bytes_eq, slice_get, Option, Some, None, option_map, if◌then◌else◌}
use Rattle.leaf_chains.specs.declared.slot.KeyChain.{KeyChain}
use Rattle.update_chain.specs.declared.update.Update.{Update}
use Rattle.update_chain.specs.Updates.{installed}

-- the first slot with this key
abbrev pub slot_of : List ℕ → List KeyChain → Option ℕ
slot_of key [] = None
slot_of key (s ∷ slots) = if bytes_eq s.key key then Some 0 else option_map (λ i. i + 1) (slot_of key slots)

-- the updates of this key: those of its slot, and none where it has no slot
abbrev pub chain_at : List ℕ → List KeyChain → List Update
chain_at key [] = []
chain_at key (s ∷ slots) = if bytes_eq s.key key then s.chain else chain_at key slots

abbrev pub key_of : Option KeyChain → List ℕ
key_of None = []
key_of (Some s) = s.key

-- the key in a slot, the empty one where there is no such slot
abbrev pub key_at : List KeyChain → ℕ → List ℕ
key_at slots i = key_of (slice_get slots i)

-- the chain in this slot is changed, if there is such a slot
abbrev pub slot_changed : ℕ → (List Update → List Update) → List KeyChain → List KeyChain
slot_changed i change [] = []
slot_changed zero change (s ∷ slots) = record { key = s.key; chain = change s.chain } ∷ slots
slot_changed (suc i) change (s ∷ slots) = s ∷ slot_changed i change slots

-- an update on top of the chain in its key's slot; a key without a slot gets one behind all others
abbrev pub installed_in : Option ℕ → List ℕ → Update → List KeyChain → List KeyChain
installed_in None key u slots = slots ++ record { key = key; chain = installed u [] } ∷ []
installed_in (Some i) key u slots = slot_changed i (installed u) slots

abbrev pub with_update : List ℕ → Update → List KeyChain → List KeyChain
with_update key u slots = installed_in (slot_of key slots) key u slots
