-- What an eviction and a capture ask of one key of a leaf.
use Rattle.std.specs.Prelude.{◌≡◌, ℕ, Bool, true, List, ◌++◌, map, Option}
use Rattle.std.specs.Option.{option_to_list}
use Rattle.item.specs.declared.Change.{Change}
use Rattle.stamp.specs.declared.Version.{Version}
use Rattle.kv_model.specs.Holds.{Member}
use Rattle.kv_model.specs.Ordered.{Older}
use Rattle.kv_model.specs.History.{line}
use Rattle.kv_model.specs.Machine.{Machine, Checkpoint}
use Rattle.kv_model.specs.Droppable.{covers}
use Rattle.kv_model.specs.Captures.{UpTo, is_in}
use Rattle.kv_model.specs.Pending.{Update, HasEnded}

-- what a frame holds of a key: its chain's updates, then its cell, newest first
abbrev pub held_in : List Update → Option (Version Change) → List (Version Change)
held_in chain cell = map {A = Update} (λ u. u.version) chain ++ option_to_list cell

-- each of the list that passes is of an ended transaction
abbrev pub EndedWhere : Machine → (Version Change → Bool) → List (Version Change) → Type 0
EndedWhere m p l = (v : Version Change) → Member v l → p v ≡ true → HasEnded m v.window.name

-- what an eviction looks at: each version
abbrev pub each_one : Version Change → Bool
each_one v = true

-- what is durable at the pin stamp and of a name below the floor covers, of the versions of a line
abbrev pub PastCovers : Machine → (Version Change → Bool) → List (Version Change) → Type 0
PastCovers m past l = (v : Version Change) → Member v l → past v ≡ true → covers m v ≡ true

-- each record has one at or above it in the list that passes
abbrev pub LiesUnder : (Version Change → Bool) → List (Version Change) → List (Version Change) → Type 0
LiesUnder p l records = (v : Version Change) → Member v records → (w : Version Change) × Member w l × (p w ≡ true) × UpTo Older v w

-- whose versions the running checkpoint sees have ended
abbrev pub PrefixHasEnded : Machine → Checkpoint → Type 0
PrefixHasEnded m c = (table : ℕ) (key : List ℕ) (v : Version Change) → Member v (line m.history table key) → is_in m.history c.prefix v ≡ true → HasEnded m v.window.name
