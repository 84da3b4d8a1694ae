-- What an add of the first update of a key makes of the slots.
use Rattle.std.specs.Prelude.{◌≡◌, ℕ, List, Some, None}
use Rattle.update_chain.specs.declared.update.Update.{Update}
use Rattle.leaf_chains.specs.declared.slot.KeyChain.{KeyChain}
use Rattle.leaf_chains.specs.declared.added.Added.{Added}
use Rattle.leaf_chains.specs.declared.added.Added.TheVariants as added
use Rattle.leaf_chains.specs.Slots.{slot_of, with_update}

-- a key without a slot gets one; where it has one, nothing is changed, and the update comes back
abbrev pub IsAdded : List ℕ → Update → List KeyChain → List KeyChain → Added → Type 0
IsAdded key u slots slots' (added.New i) = (slot_of key slots ≡ None) × (slots' ≡ with_update key u slots) × (slot_of key slots' ≡ Some i)
IsAdded key u slots slots' (added.There i v) = (slot_of key slots ≡ Some i) × (slots' ≡ slots) × (v ≡ u)
