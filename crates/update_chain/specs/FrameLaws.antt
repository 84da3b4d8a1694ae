-- What a frame tells of a key besides its reads: the stamp that a commit is ordered by, what a view admits, and what is there under a write.
use Rattle.std.specs.Prelude.{◌≡◌, ℕ, ◌&&◌, List, ◌∷◌, Option, Some, None}
use Rattle.item.specs.declared.Change.{Change}
use Rattle.stamp.specs.declared.Version.{Version}
use Rattle.stamp.specs.declared.View.{View}
use Rattle.kv_model.specs.Holds.{Member}
use Rattle.kv_model.specs.History.{Write, line, reads_at}
use Rattle.kv_model.specs.Machine.{Machine, Transaction, transaction_of}
use Rattle.kv_model.specs.Reads.{own_write, IsEnding, ReadAnswer, Value, present}
use Rattle.kv_model.specs.Refusals.{newest_durable}
use Rattle.kv_model.specs.Valid.{Valid}
use Rattle.snapshot.specs.Sight.{is_seen, sight_of}
use Rattle.update_chain.specs.declared.update.Update.{Update}
use Rattle.update_chain.specs.Answers.{ViewStands, is_admitted}
use Rattle.update_chain.specs.Writing.{newest_of}
use Rattle.update_chain.specs.EventLaws.{StandsFor}

abbrev pub durable_of : Option Update → ℕ
durable_of None = 0
durable_of (Some u) = u.version.window.durable

-- below the update of a transaction that is not ending, the next of the chain, or else the cell, has the durable stamp of the newest version that stands
abbrev pub OrdersStand : Type 0
OrdersStand = (m : Machine) (s : ℕ) (t : Transaction) (w : Write) (table : ℕ) (key : List ℕ) (u : Update) (older : List Update) (cell : Option (Version Change)) (records : List (Version Change))
    → Valid m → transaction_of m s ≡ Some t → (IsEnding t.phase → ⊥) → own_write t table key ≡ Some w → StandsFor m table key (u ∷ older) cell records
    → durable_of (newest_of older cell) ≡ newest_durable (line m.history table key)

-- a version that stands is admitted by the transaction where its view sees and admits it
abbrev pub ViewsAdmit : Type 0
ViewsAdmit = (m : Machine) (t : Transaction) (view : View) (table : ℕ) (key : List ℕ) (v : Version Change) → Valid m → ViewStands m t view → Member v (line m.history table key)
    → (is_seen (sight_of view) v.window.name && reads_at view.read v.window.commit) ≡ is_admitted m t v

-- a value that is read is what a write finds
abbrev pub ReadsArePresent : Type 0
ReadsArePresent = (m : Machine) (s : ℕ) (t : Transaction) (table : ℕ) (key : List ℕ) (v : Option (List ℕ)) → ReadAnswer m s t table key (Value v) → v ≡ present m t table key
