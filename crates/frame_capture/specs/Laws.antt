-- What a checkpoint's snapshot sees of a leaf, where chains and rows stand for their keys.
use Rattle.std.specs.Prelude.{◌≡◌, ℕ, List, [], length, Option}
use Rattle.item.specs.declared.change.Change.{Change}
use Rattle.stamp.specs.declared.Window.{Window}
use Rattle.stamp.specs.declared.version.Version.{Version}
use Rattle.row_page.specs.Rows.{Row}
use Rattle.kv_model.specs.AgreementLaws.{head_of}
use Rattle.kv_model.specs.History.{line}
use Rattle.kv_model.specs.Machine.{Machine}
use Rattle.kv_model.specs.Valid.{Valid}
use Rattle.reconcile.specs.Shows.{shown_at}
use Rattle.snapshot.specs.Matters.{NoneResolves, SeesCommitted}
use Rattle.snapshot.specs.Sight.{Sight, is_seen}
use Rattle.update_chain.specs.declared.update.Update.{Update}
use Rattle.update_chain.specs.EventLaws.{StandsFor}
use Rattle.leaf_chains.specs.Slots.{chain_at}
use Rattle.reconcile.specs.CaptureLaws.{NoCommitResolves}
use Rattle.reconcile.specs.declared.live.Live.{Live}
use Rattle.reconcile.specs.Held.{IsReconciled, is_live, lives}
use Rattle.leaf_frame.specs.Leaf.{HeldLeaf}
use Rattle.frame_capture.specs.Capture.{captured_over, IsCaptured}

-- what is captured of the chain of a key over its row is the newest version that stands
abbrev pub CapturesAreNewest : Type 0
CapturesAreNewest = (m : Machine) (table : ℕ) (key : List ℕ) (chain : List Update) (row : Option (Version Change)) (s : Sight)
    → Valid m → NoCommitResolves m table key → SeesCommitted m (length m.history) s → StandsFor m table key chain row []
    → captured_over s chain row ≡ head_of (line m.history table key)

-- so the rows have each key's newest version
abbrev pub CapturedRowsAreNewest : Type 0
CapturedRowsAreNewest = (m : Machine) (table : ℕ) (leaf : HeldLeaf) (s : Sight) (rows : List Row)
    → Valid m → NoneResolves m → SeesCommitted m (length m.history) s → ((key : List ℕ) → StandsFor m table key (chain_at key leaf.chains) (shown_at key leaf.page) []) → IsCaptured s leaf rows
    → (key : List ℕ) → head_of (line m.history table key) ≡ shown_at key rows

-- where the versions that the snapshot sees are live, the newest live one of each key is what is captured of it
abbrev pub ReconciledRowsAreCaptured : Type 0
ReconciledRowsAreCaptured = (live : Live) (s : Sight) (leaf : HeldLeaf) (rows : List Row)
    → ((w : Window) → lives live w ≡ is_seen s w.name) → IsReconciled (is_live live) leaf.page leaf.chains rows → IsCaptured s leaf rows
