-- What a device that holds captured rows opens as.
use Rattle.std.specs.Prelude.{◌≡◌, ℕ, true, List, [], length, None}
use Rattle.std.specs.Option.{option_to_list}
use Rattle.row_page.specs.Rows.{Row}
use Rattle.stored.specs.Stored.{placed_in}
use Rattle.kv_model.specs.AgreementLaws.{head_of}
use Rattle.kv_model.specs.Content.{Content, base}
use Rattle.kv_model.specs.History.{line, of_key, core, cut, has_table}
use Rattle.kv_model.specs.Machine.{Machine}
use Rattle.kv_model.specs.Valid.{Valid}
use Rattle.snapshot.specs.Matters.{SeesCommitted}
use Rattle.snapshot.specs.Sight.{Sight}
use Rattle.update_chain.specs.EventLaws.{StandsFor}
use Rattle.leaf_chains.specs.declared.slot.KeyChain.{KeyChain}
use Rattle.leaf_chains.specs.Slots.{chain_at}
use Rattle.reconcile.specs.Capture.{IsCaptured}
use Rattle.reconcile.specs.CaptureLaws.{NoCommitResolves}

-- of a key the content has what the rows have, in a leaf of its table, under the sight as its snapshot, and at this stable stamp
pub record HoldsRows (stable table : ℕ) (key : List ℕ) (s : Sight) (rows : List Row) (c : Content) : Type 0 where
  pub run : c.run ≡ s.run
  pub snapshot : c.snapshot ≡ record { min = s.min; max = s.max; ids = s.list }
  pub stable_stamp : c.stable ≡ stable
  pub known : has_table c.tables table ≡ true
  pub cells : of_key table key c.cells ≡ of_key table key (placed_in table rows)
  pub records : of_key table key c.records ≡ []

-- no read from oldest on reaches more of a key than its newest version
pub record NewestSuffices (m : Machine) (table : ℕ) (key : List ℕ) : Type 0 where
  pub reached : core m.oldest (line m.history table key) ≡ option_to_list (head_of (line m.history table key))

-- Of the key an opening keeps what a checkpoint of the whole history cuts: from oldest on they agree.
abbrev pub CapturesAreCut : Type 0
CapturesAreCut = (m : Machine) (table : ℕ) (key : List ℕ) (chains : List KeyChain) (s : Sight) (rows : List Row) (c : Content)
    → Valid m → NoCommitResolves m table key → SeesCommitted m (length m.history) s → StandsFor m table key (chain_at key chains) None [] → IsCaptured s chains rows
    → NewestSuffices m table key → HoldsRows m.stable table key s rows c
    → core m.oldest (line (base c) table key) ≡ core m.oldest (line (cut m.history (length m.history) m.stable) table key)
