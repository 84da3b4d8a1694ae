-- What calls on one key leave of the chains of every key.
use Rattle.std.specs.Prelude.{◌≡◌, ◌≢◌, ℕ, List, slice_get, Some}
use Rattle.leaf_chains.specs.declared.slot.KeyChain.{KeyChain}
use Rattle.leaf_chains.specs.Slots.{slot_of, chain_at, slot_changed, with_update}
use Rattle.update_chain.specs.declared.update.Update.{Update}
use Rattle.update_chain.specs.Updates.{installed}

-- the slot of a key holds it, with its chain
abbrev pub SlotsHold : Type 0
SlotsHold = (key : List ℕ) (slots : List KeyChain) (i : ℕ) → slot_of key slots ≡ Some i → slice_get slots i ≡ Some (record { key = key; chain = chain_at key slots })

-- an install leaves its key with the installed chain, and every other key with the chain that it had
abbrev pub InstallsChange : Type 0
InstallsChange = (key : List ℕ) (u : Update) (slots : List KeyChain) → chain_at key (with_update key u slots) ≡ installed u (chain_at key slots)

abbrev pub InstallsKeep : Type 0
InstallsKeep = (key other : List ℕ) (u : Update) (slots : List KeyChain) → other ≢ key → chain_at other (with_update key u slots) ≡ chain_at other slots

-- a key that has a slot keeps it
abbrev pub InstallsKeepSlots : Type 0
InstallsKeepSlots = (key other : List ℕ) (u : Update) (slots : List KeyChain) (i : ℕ) → slot_of other slots ≡ Some i → slot_of other (with_update key u slots) ≡ Some i

-- a change in the slot of a key changes its chain, and no other key's
abbrev pub ChangesChange : Type 0
ChangesChange = (key : List ℕ) (change : List Update → List Update) (slots : List KeyChain) (i : ℕ) → slot_of key slots ≡ Some i → chain_at key (slot_changed i change slots) ≡ change (chain_at key slots)

abbrev pub ChangesKeep : Type 0
ChangesKeep = (key other : List ℕ) (change : List Update → List Update) (slots : List KeyChain) (i : ℕ) → slot_of key slots ≡ Some i → other ≢ key → chain_at other (slot_changed i change slots) ≡ chain_at other slots

-- and each key keeps its slot
abbrev pub ChangesKeepSlots : Type 0
ChangesKeepSlots = (other : List ℕ) (change : List Update → List Update) (slots : List KeyChain) (i : ℕ) → slot_of other (slot_changed i change slots) ≡ slot_of other slots
