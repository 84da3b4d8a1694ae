-- A read of what a leaf holds of a key is the model's read of it.
use Rattle.std.specs.Prelude.{◌≡◌, ℕ, List, map, Option, Some, None}
use Rattle.item.specs.declared.Change.{Change}
use Rattle.stamp.specs.declared.Version.{Version}
use Rattle.stamp.specs.declared.View.{View}
use Rattle.kv_model.specs.Holds.{Picks}
use Rattle.kv_model.specs.Machine.{Machine, Transaction, Running, transaction_of}
use Rattle.kv_model.specs.Ordered.{Older}
use Rattle.kv_model.specs.Pending.{KeyStands}
use Rattle.kv_model.specs.Reads.{ReadAnswer, Value, Conflict}
use Rattle.kv_model.specs.StoreLaws.{Held}
use Rattle.kv_model.specs.Valid.{Valid}
use Rattle.update_chain.specs.declared.update.Update.{Update}
use Rattle.update_chain.specs.Answers.{ViewStands, content_of, is_admitted}
use Rattle.update_chain.specs.Updates.{Reply, Gives, IsRemoved, Conflicts, IsOlder, update_in}
use Rattle.leaf_frame.specs.Looks.{read_held}

-- what the reply says of the model's answer; where it is none, the answer is the newest record of the history that the transaction admits
abbrev pub ReplyStands : Machine → ℕ → Transaction → ℕ → List ℕ → List (Version Change) → Reply → Type 0
ReplyStands m session t table key records (Gives value) = ReadAnswer m session t table key (Value (Some value))
ReplyStands m session t table key records IsRemoved = ReadAnswer m session t table key (Value None)
ReplyStands m session t table key records (Conflicts id) = ReadAnswer m session t table key (Conflict id)
ReplyStands m session t table key records IsOlder = (found : Option (Version Change)) → Picks Older (Held records) (is_admitted m t) found → ReadAnswer m session t table key (Value (content_of found))

-- a chain over a row that stand for their key, with records of the history, are read as the model reads it
abbrev pub HeldReadsStand : Type 0
HeldReadsStand = (m : Machine) (session : ℕ) (t : Transaction) (view : View) (table : ℕ) (key : List ℕ) (chain : List Update) (row : Option (Version Change)) (records : List (Version Change))
    → Valid m → transaction_of m session ≡ Some t → t.phase ≡ Running → ViewStands m t view → KeyStands m table key (map update_in chain) row (Held records)
    → ReplyStands m session t table key records (read_held view chain row)
