-- How a read of a chain is the model's read of its key.
use Rattle.std.specs.Prelude.{◌≡◌, ℕ, Bool, true, false, List, map, Option, Some, None, option_and_then}
use Rattle.item.specs.declared.Change.{Change}
use Rattle.stamp.specs.declared.Version.{Version}
use Rattle.stamp.specs.declared.View.{View}
use Rattle.kv_model.specs.Holds.{Picks}
use Rattle.kv_model.specs.History.{admits, put_of}
use Rattle.kv_model.specs.Ordered.{Older}
use Rattle.kv_model.specs.Machine.{Machine, Transaction, Running, transaction_of}
use Rattle.kv_model.specs.Reads.{ReadAnswer, Value, Conflict, Meets, IsEnding}
use Rattle.kv_model.specs.Valid.{Valid}
use Rattle.kv_model.specs.Pending.{KeyStands}
use Rattle.kv_model.specs.StoreLaws.{Held}
use Rattle.snapshot.specs.Sight.{sight_of}
use Rattle.snapshot.specs.Matters.{SeesFirst}
use Rattle.update_chain.specs.declared.update.Update.{Update}
use Rattle.update_chain.specs.Updates.{update_in, Reply, Gives, IsRemoved, Conflicts, IsOlder, read_of}

-- what a transaction lends to its reads: its id, its read stamp, and a snapshot of the entries before it began
pub record ViewStands (m : Machine) (t : Transaction) (view : View) : Type 0 where
  pub own : view.own ≡ t.id
  pub read : view.read ≡ t.read
  pub sees : SeesFirst m t.start (sight_of view)

-- the transaction's snapshot and read stamp admit the version
abbrev pub is_admitted : Machine → Transaction → Version Change → Bool
is_admitted m t v = admits m.history t.start t.read v

-- what a version gives, where there is one
abbrev pub content_of : Option (Version Change) → Option (List ℕ)
content_of found = option_and_then (λ v. put_of v.change) found

-- where the chain gives nothing, the answer is the cell, if it is admitted, or else the newest record of the history that is
pub record GoesOn (m : Machine) (session : ℕ) (t : Transaction) (table : ℕ) (key : List ℕ) (cell : Option (Version Change)) (records : List (Version Change)) : Type 0 where
  pub in_cell : (v : Version Change) → cell ≡ Some v → is_admitted m t v ≡ true → ReadAnswer m session t table key (Value (put_of v.change))
  pub in_history : ((v : Version Change) → cell ≡ Some v → is_admitted m t v ≡ false) → (found : Option (Version Change)) → Picks Older (Held records) (is_admitted m t) found
      → ReadAnswer m session t table key (Value (content_of found))

-- what the reply of a chain says of the model's answer
abbrev pub ReplyStands : Machine → ℕ → Transaction → ℕ → List ℕ → Option (Version Change) → List (Version Change) → Reply → Type 0
ReplyStands m session t table key cell records (Gives value) = ReadAnswer m session t table key (Value (Some value))
ReplyStands m session t table key cell records IsRemoved = ReadAnswer m session t table key (Value None)
ReplyStands m session t table key cell records (Conflicts id) = ReadAnswer m session t table key (Conflict id)
ReplyStands m session t table key cell records IsOlder = GoesOn m session t table key cell records

pub record ReadStands (m : Machine) (session : ℕ) (t : Transaction) (table : ℕ) (key : List ℕ) (cell : Option (Version Change)) (records : List (Version Change)) (reply : Reply) : Type 0 where
  pub answers : ReplyStands m session t table key cell records reply
  -- a transaction that is met and is not ending makes a conflict
  pub conflicts : (other : ℕ) (x : Transaction) → Meets m session t table key other x → (IsEnding x.phase → ⊥) → reply ≡ Conflicts x.id

-- a chain that stands for its key is read as the model reads it
abbrev pub ReadsStand : Type 0
ReadsStand = (m : Machine) (session : ℕ) (t : Transaction) (view : View) (table : ℕ) (key : List ℕ) (chain : List Update) (cell : Option (Version Change)) (records : List (Version Change))
    → Valid m → transaction_of m session ≡ Some t → t.phase ≡ Running → ViewStands m t view
    → KeyStands m table key (map update_in chain) cell (Held records)
    → ReadStands m session t table key cell records (read_of view chain)
