-- The next key on a way whose read gives something.
use Rattle.std.specs.Prelude.{◌≡◌, ◌≢◌, ◌⊎◌, ℕ, true, List, [], ◌++◌, Option}
use Rattle.std.specs.Option.{option_to_list}
use Rattle.item.specs.declared.Change.{Change}
use Rattle.stamp.specs.declared.Version.{Version}
use Rattle.stamp.specs.declared.View.{View}
use Rattle.kv_model.specs.Rows.{Way, is_past, comes_after}
use Rattle.update_chain.specs.declared.update.Update.{Update}
use Rattle.update_chain.specs.Updates.{IsRemoved}
use Rattle.reconcile.specs.Held.{held_at, versions}
use Rattle.leaf_frame.specs.declared.near.HeldRow.{HeldRow}
use Rattle.leaf_frame.specs.Leaf.{HeldLeaf}
use Rattle.leaf_frame.specs.Looks.{read_at, read_held, reply_in}

-- a way passes over the key: the leaf holds nothing of it, or it reads as removed
abbrev pub IsPassed : View → List ℕ → HeldLeaf → Type 0
IsPassed view key leaf = (held_at key leaf.page leaf.chains ≡ []) ⊎ (read_at view key leaf ≡ IsRemoved)

-- the nearest key past where the way starts that is held and does not read as removed, with its read
pub record IsNextHeld (way : Way) (from : Option (List ℕ)) (view : View) (leaf : HeldLeaf) (row : HeldRow) : Type 0 where
  pub past : is_past way from row.key.now ≡ true
  pub held : held_at row.key.now leaf.page leaf.chains ≢ []
  pub reads : reply_in row.read ≡ read_at view row.key.now leaf
  pub stays : reply_in row.read ≢ IsRemoved
  pub before : (k : List ℕ) → is_past way from k ≡ true → comes_after way k row.key.now ≡ true → IsPassed view k leaf

-- each key past where the way starts is passed
abbrev pub NoneHeld : Way → Option (List ℕ) → View → HeldLeaf → Type 0
NoneHeld way from view leaf = (k : List ℕ) → is_past way from k ≡ true → IsPassed view k leaf

-- ---- of one key, by its chain and its row

abbrev pub held_of : List Update → Option (Version Change) → List (Version Change)
held_of chain row = versions chain ++ option_to_list row

abbrev pub PassedBy : View → List Update → Option (Version Change) → Type 0
PassedBy view chain row = (held_of chain row ≡ []) ⊎ (read_held view chain row ≡ IsRemoved)

pub record StaysBy (view : View) (key : List ℕ) (chain : List Update) (row : Option (Version Change)) (next : HeldRow) : Type 0 where
  pub is : next.key.now ≡ key
  pub held : held_of chain row ≢ []
  pub reads : reply_in next.read ≡ read_held view chain row
  pub stays : reply_in next.read ≢ IsRemoved
