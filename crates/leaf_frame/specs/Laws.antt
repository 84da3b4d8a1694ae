-- What is done to chains leaves of what a leaf holds, and how a leaf without a page reads.
use Rattle.std.specs.Prelude.{◌≡◌, ◌≢◌, ℕ, List, [], drop, slice_get, Some, None}
use Rattle.stamp.specs.declared.View.{View}
use Rattle.row_page.specs.Rows.{Row}
use Rattle.reconcile.specs.Shows.{shown_at}
use Rattle.update_chain.specs.declared.update.Update.{Update}
use Rattle.update_chain.specs.FrameLaws.{durable_of}
use Rattle.update_chain.specs.Updates.{installed, read_of}
use Rattle.update_chain.specs.Writing.{judgement_of, newest_of}
use Rattle.leaf_chains.specs.declared.slot.KeyChain.{KeyChain}
use Rattle.leaf_chains.specs.Slots.{chain_at, slot_changed, slot_of, with_update}
use Rattle.reconcile.specs.Held.{held_at, versions}
use Rattle.leaf_frame.specs.Leaf.{HeldLeaf, durable_under}
use Rattle.leaf_frame.specs.Looks.{judgement_at, read_at}
use Rattle.leaf_frame.specs.Next.{held_of}

-- an install leaves its key with the installed chain over its row, and every other key with what it had
abbrev pub InstallsChangeHeld : Type 0
InstallsChangeHeld = (key : List ℕ) (u : Update) (page : List Row) (slots : List KeyChain) → held_at key page (with_update key u slots) ≡ held_of (installed u (chain_at key slots)) (shown_at key page)

abbrev pub InstallsKeepHeld : Type 0
InstallsKeepHeld = (key other : List ℕ) (u : Update) (page : List Row) (slots : List KeyChain) → other ≢ key → held_at other page (with_update key u slots) ≡ held_at other page slots

-- a change in the slot of a key leaves it with the changed chain over its row, and every other key with what it had
abbrev pub ChangesChangeHeld : Type 0
ChangesChangeHeld = (key : List ℕ) (change : List Update → List Update) (page : List Row) (slots : List KeyChain) (i : ℕ) → slot_of key slots ≡ Some i
    → held_at key page (slot_changed i change slots) ≡ held_of (change (chain_at key slots)) (shown_at key page)

abbrev pub ChangesKeepHeld : Type 0
ChangesKeepHeld = (key other : List ℕ) (change : List Update → List Update) (page : List Row) (slots : List KeyChain) (i : ℕ) → slot_of key slots ≡ Some i → other ≢ key
    → held_at other page (slot_changed i change slots) ≡ held_at other page slots

-- ---- without rows

abbrev pub without_rows : List KeyChain → HeldLeaf
without_rows slots = record { page = []; chains = slots }

-- a leaf without rows reads, judges, holds and orders as its chains alone
pub record ReadsByChains (view : View) (key : List ℕ) (slots : List KeyChain) : Type 0 where
  pub read : read_at view key (without_rows slots) ≡ read_of view (chain_at key slots)
  pub judged : judgement_at view key (without_rows slots) ≡ judgement_of view (chain_at key slots)
  pub held : held_at key [] slots ≡ versions (chain_at key slots)
  pub durable : (i : ℕ) → slot_of key slots ≡ Some i → durable_under [] (slice_get slots i) ≡ durable_of (newest_of (drop 1 (chain_at key slots)) None)

abbrev pub EmptyPagesReadByChains : Type 0
EmptyPagesReadByChains = (view : View) (key : List ℕ) (slots : List KeyChain) → ReadsByChains view key slots
