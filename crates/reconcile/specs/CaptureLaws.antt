-- What a checkpoint's snapshot picks, where chains stand for their keys.
use Rattle.std.specs.Prelude.{◌≡◌, ℕ, false, List, [], length, None}
use Rattle.row_page.specs.Rows.{Row}
use Rattle.kv_model.specs.AgreementLaws.{head_of}
use Rattle.kv_model.specs.History.{line, committed}
use Rattle.kv_model.specs.Machine.{Machine, Transaction, Resolving, name_of}
use Rattle.kv_model.specs.Reads.{Wrote}
use Rattle.kv_model.specs.Valid.{Valid}
use Rattle.snapshot.specs.Matters.{NoneResolves, SeesCommitted}
use Rattle.snapshot.specs.Sight.{Sight}
use Rattle.update_chain.specs.declared.update.Update.{Update}
use Rattle.update_chain.specs.EventLaws.{StandsFor}
use Rattle.leaf_chains.specs.declared.slot.KeyChain.{KeyChain}
use Rattle.leaf_chains.specs.Slots.{chain_at}
use Rattle.reconcile.specs.Shows.{shown_at}
use Rattle.reconcile.specs.Capture.{captured, IsCaptured}

-- Of who wrote the key and is resolving none is committed. Until it is stamped, the update of one that is has not the stamps of its version.
abbrev pub NoCommitResolves : Machine → ℕ → List ℕ → Type 0
NoCommitResolves m table key = (session : ℕ) (t : Transaction) → Wrote m session table key t → t.phase ≡ Resolving → committed m.history (length m.history) (name_of m t) ≡ false

-- what is captured of the chain of a key is the newest version that stands
abbrev pub CapturesAreNewest : Type 0
CapturesAreNewest = (m : Machine) (table : ℕ) (key : List ℕ) (chain : List Update) (s : Sight)
    → Valid m → NoCommitResolves m table key → SeesCommitted m (length m.history) s → StandsFor m table key chain None []
    → captured s chain ≡ head_of (line m.history table key)

-- so the rows have each key's newest version
abbrev pub CapturedRowsAreNewest : Type 0
CapturedRowsAreNewest = (m : Machine) (table : ℕ) (chains : List KeyChain) (s : Sight) (rows : List Row)
    → Valid m → NoneResolves m → SeesCommitted m (length m.history) s → ((key : List ℕ) → StandsFor m table key (chain_at key chains) None []) → IsCaptured s chains rows
    → (key : List ℕ) → head_of (line m.history table key) ≡ shown_at key rows
