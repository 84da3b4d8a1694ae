-- Slots by table and key, and a change in one.
use Rattle.std.specs.Prelude.{ℕ, zero, suc, ◌+◌, List, [], ◌∷◌, Option, Some, None, option_map, if◌then◌else◌}
use Rattle.item.specs.declared.Change.{Change}
use Rattle.stamp.specs.declared.Version.{Version}
use Rattle.kv_model.specs.Holds.{Descends}
use Rattle.kv_model.specs.Ordered.{Older}
use Rattle.hist_store.specs.declared.key_history.KeyHistory.{KeyHistory}
use Rattle.hist_store.specs.Versions.{is_of}

-- the first slot of this key of this table
abbrev pub slot_of : ℕ → List ℕ → List KeyHistory → Option ℕ
slot_of table key [] = None
slot_of table key (h ∷ slots) = if is_of table key h then Some 0 else option_map (λ i. i + 1) (slot_of table key slots)

-- the versions in this slot are changed, if there is such a slot
abbrev pub slot_changed : ℕ → (List (Version Change) → List (Version Change)) → List KeyHistory → List KeyHistory
slot_changed i change [] = []
slot_changed zero change (h ∷ slots) = record { table = h.table; key = h.key; versions = change h.versions } ∷ slots
slot_changed (suc i) change (h ∷ slots) = h ∷ slot_changed i change slots

-- in each slot names descend strictly
abbrev pub AreDescending : List KeyHistory → Type 0
AreDescending [] = Unit {0}
AreDescending (h ∷ slots) = Descends Older h.versions × AreDescending slots
