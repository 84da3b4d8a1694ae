-- What a device that holds captured rows opens as.
use Rattle.std.specs.Prelude.{◌≡◌, ℕ, List, [], length}
use Rattle.row_page.specs.Rows.{Row}
use Rattle.kv_model.specs.Content.{Content, base}
use Rattle.kv_model.specs.History.{line, core, cut}
use Rattle.kv_model.specs.Machine.{Machine}
use Rattle.kv_model.specs.Valid.{Valid}
use Rattle.reconcile.specs.Shows.{shown_at}
use Rattle.snapshot.specs.Matters.{SeesCommitted}
use Rattle.snapshot.specs.Sight.{Sight}
use Rattle.update_chain.specs.EventLaws.{StandsFor}
use Rattle.leaf_chains.specs.Slots.{chain_at}
use Rattle.reconcile.specs.CutLaws.{HoldsRows, NewestSuffices}
use Rattle.reconcile.specs.CaptureLaws.{NoCommitResolves}
use Rattle.leaf_frame.specs.Leaf.{HeldLeaf}
use Rattle.frame_capture.specs.Capture.{IsCaptured}

-- Of the key an opening keeps what a checkpoint of the whole history cuts: from oldest on they agree.
abbrev pub CapturesAreCut : Type 0
CapturesAreCut = (m : Machine) (table : ℕ) (key : List ℕ) (leaf : HeldLeaf) (s : Sight) (rows : List Row) (c : Content)
    → Valid m → NoCommitResolves m table key → SeesCommitted m (length m.history) s → StandsFor m table key (chain_at key leaf.chains) (shown_at key leaf.page) [] → IsCaptured s leaf rows
    → NewestSuffices m table key → HoldsRows m.stable table key s rows c
    → core m.oldest (line (base c) table key) ≡ core m.oldest (line (cut m.history (length m.history) m.stable) table key)
