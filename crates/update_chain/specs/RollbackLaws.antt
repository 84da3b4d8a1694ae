-- What a rollback to stable leaves of a chain that stands for its key.
use Rattle.std.specs.Prelude.{◌≡◌, ℕ, List, [], map, filter, Option, Some, None, if◌then◌else◌}
use Rattle.std.specs.Option.{option_to_list}
use Rattle.item.specs.declared.Change.{Change}
use Rattle.stamp.specs.declared.Version.{Version}
use Rattle.kv_model.specs.Holds.{Picks}
use Rattle.kv_model.specs.Ordered.{Older}
use Rattle.kv_model.specs.History.{is_stable}
use Rattle.kv_model.specs.Machine.{Machine, RollbackToStable, after}
use Rattle.kv_model.specs.Allowed.{Allowed}
use Rattle.kv_model.specs.StoreLaws.{Held}
use Rattle.kv_model.specs.Valid.{Valid}
use Rattle.update_chain.specs.declared.update.Update.{Update}
use Rattle.update_chain.specs.Updates.{rolled_back, unmarked_update}
use Rattle.update_chain.specs.Writing.{newest_of}
use Rattle.update_chain.specs.EventLaws.{StandsFor}

-- the cell, where it is durable at the stable stamp
abbrev pub cell_rolled_back : ℕ → Option (Version Change) → Option (Version Change)
cell_rolled_back stable None = None
cell_rolled_back stable (Some v) = if is_stable stable v then Some v else None

abbrev pub records_rolled_back : ℕ → List (Version Change) → List (Version Change)
records_rolled_back stable records = filter (is_stable stable) records

-- where anything stays in the frame, what stays stands for the key
abbrev pub RollbacksKeep : Type 0
RollbacksKeep = (m : Machine) (table : ℕ) (key : List ℕ) (chain : List Update) (cell : Option (Version Change)) (records : List (Version Change)) (u : Update)
    → Valid m → Allowed m RollbackToStable → StandsFor m table key chain cell records
    → newest_of (rolled_back m.stable chain) (cell_rolled_back m.stable cell) ≡ Some u
    → StandsFor (after m RollbackToStable) table key (rolled_back m.stable chain) (cell_rolled_back m.stable cell) (records_rolled_back m.stable records)

-- where nothing stays, the newest record that stays comes back, as the cell or as an update
abbrev pub RollbacksBringBack : Type 0
RollbacksBringBack = (m : Machine) (table : ℕ) (key : List ℕ) (chain : List Update) (cell : Option (Version Change)) (records : List (Version Change)) (back : Option (Version Change))
    → Valid m → Allowed m RollbackToStable → StandsFor m table key chain cell records
    → newest_of (rolled_back m.stable chain) (cell_rolled_back m.stable cell) ≡ None → Picks Older (Held records) (is_stable m.stable) back
    → StandsFor (after m RollbackToStable) table key [] back (records_rolled_back m.stable records)
    × StandsFor (after m RollbackToStable) table key (map unmarked_update (option_to_list back)) None (records_rolled_back m.stable records)
