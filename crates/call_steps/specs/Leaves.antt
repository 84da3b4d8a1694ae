-- What is done to a leaf that a transaction wrote.
use Rattle.std.specs.Prelude.{ℕ, zero, suc, ◌==◌, max, List, [], if◌then◌else◌, slice_get}
use Rattle.stamp.specs.declared.Name.{Name}
use Rattle.kv_model.specs.Machine.{of_some}
use Rattle.kv_model.specs.Refusals.{stamp_of, or_stamp}
use Rattle.txn_table.specs.declared.phase.Phase.{Phase}
use Rattle.txn_table.specs.declared.phase.Phase.TheVariants as phase
use Rattle.update_chain.specs.declared.update.Update.{Update}
use Rattle.update_chain.specs.Updates.{front_changed, stamped, marked, undone}
use Rattle.leaf_chains.specs.declared.slot.KeyChain.{KeyChain}
use Rattle.leaf_chains.specs.Slots.{slot_changed}
use Rattle.leaf_frame.specs.Leaf.{HeldLeaf, durable_under}
use Rattle.call_steps.specs.declared.edit.Edit.{Edit}
use Rattle.call_steps.specs.declared.edit.Edit.TheVariants as edit
use Rattle.call_steps.specs.declared.stage.CommitStamps.{CommitStamps}
use Rattle.call_steps.specs.declared.written.WrittenKey.{WrittenKey}
use Rattle.call_steps.specs.Written.{frame_at, slot_at}

-- the chain of each of these keys is changed
abbrev pub leaf_changed : (List Update → List Update) → List WrittenKey → ℕ → ℕ → List KeyChain → List KeyChain
leaf_changed change keys frame zero slots = slots
leaf_changed change keys frame (suc n) slots =
    if frame_at keys (suc n) == frame then leaf_changed change keys frame n (slot_changed (slot_at keys (suc n)) change slots) else slots

-- what is done to the newest update, where it is of this name
abbrev pub edited : Name → Edit → List Update → List Update
edited name (edit.Mark stamp) = front_changed name (marked stamp)
edited name (edit.Stamp commit durable) = front_changed name (stamped commit durable)
edited name edit.Undo = undone name

abbrev pub chain_in : List KeyChain → ℕ → List Update
chain_in slots i = of_some [] (λ (s : KeyChain). s.chain) (slice_get slots i)

-- the greatest durable stamp below one of these keys, or the one from before
abbrev pub leaf_prev : List WrittenKey → ℕ → ℕ → HeldLeaf → ℕ → ℕ
leaf_prev keys frame zero leaf prev = prev
leaf_prev keys frame (suc n) leaf prev =
    if frame_at keys (suc n) == frame then leaf_prev keys frame n leaf (max prev (durable_under leaf.page (slice_get leaf.chains (slot_at keys (suc n))))) else prev

-- the durable stamp of a commit: a transaction that is not prepared gives none
abbrev pub durable_of : Phase → CommitStamps → ℕ
durable_of phase.Running stamps = stamp_of stamps.commit
durable_of _ stamps = or_stamp (stamp_of stamps.durable) (stamp_of stamps.commit)
