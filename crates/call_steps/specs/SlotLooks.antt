-- What a look at one slot of a leaf's chains makes.
use Rattle.std.specs.Prelude.{◌≡◌, ℕ, false, List, Some, None}
use Rattle.stamp.specs.declared.Name.{Name}
use Rattle.update_chain.specs.declared.update.Update.{Update}
use Rattle.leaf_chains.specs.declared.added.Added.{Added}
use Rattle.leaf_chains.specs.declared.added.Added.TheVariants as added
use Rattle.leaf_chains.specs.Slots.{slot_of, with_update}
use Rattle.leaf_frame.specs.Leaf.{HeldLeaf}
use Rattle.call_steps.specs.State.{State}
use Rattle.call_steps.specs.Looks.{noted, update_by}

-- the update is as a write of this name makes it: not committed, and not marked
abbrev pub IsBy : Name → Update → Type 0
IsBy name u = u ≡ update_by name u.version.change

-- a key without a slot gets one; where it has one, nothing is changed, and the update comes back
abbrev pub IsAddedTo : List ℕ → Update → HeldLeaf → HeldLeaf → Added → Type 0
IsAddedTo key u leaf leaf' (added.New slot) = (slot_of key leaf.chains ≡ None) × (leaf' ≡ record leaf { chains = with_update key u leaf.chains }) × (slot_of key leaf'.chains ≡ Some slot)
IsAddedTo key u leaf leaf' (added.There slot v) = (slot_of key leaf.chains ≡ Some slot) × (leaf' ≡ leaf) × (v ≡ u)

-- a key that was added is noted
abbrev pub IsNoted : ℕ → State → State → Added → Type 0
IsNoted frame s s' (added.New slot) = s' ≡ noted false (record { frame = frame; slot = slot }) s
IsNoted frame s s' (added.There slot u) = s' ≡ s
