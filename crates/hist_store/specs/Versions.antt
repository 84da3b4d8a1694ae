-- The older versions of keys, by table and key: what is there of a key, what adds and sweeps make of it, and what a look-up picks.
use Rattle.std.specs.Prelude.{ℕ, Bool, ◌&&◌, ◌==◌, nat_le, List, [], ◌∷◌, bytes_eq, if◌then◌else◌}
use Rattle.item.specs.declared.Change.{Change}
use Rattle.stamp.specs.declared.Name.{Name}
use Rattle.stamp.specs.declared.Version.{Version}
use Rattle.stamp.specs.declared.View.{View}
use Rattle.kv_model.specs.History.{name_eq, reads_at, down_to}
use Rattle.snapshot.specs.Past.{is_below}
use Rattle.snapshot.specs.Sight.{is_seen, sight_of}
use Rattle.hist_store.specs.declared.key_history.KeyHistory.{KeyHistory}

abbrev pub is_of : ℕ → List ℕ → KeyHistory → Bool
is_of table key h = (h.table == table) && bytes_eq h.key key

-- the versions of a key of a table, newest first: those of its slot, none where it has no slot
abbrev pub versions_of : ℕ → List ℕ → List KeyHistory → List (Version Change)
versions_of table key [] = []
versions_of table key (h ∷ slots) = if is_of table key h then h.versions else versions_of table key slots

-- ---- adds

-- with this version among others, newest first; unchanged where its name is there
abbrev pub with_version : Version Change → List (Version Change) → List (Version Change)
with_version v [] = v ∷ []
with_version v (w ∷ older) = if is_below w.window.name v.window.name then v ∷ (w ∷ older) else (if name_eq w.window.name v.window.name then w ∷ older else w ∷ with_version v older)

-- the slots with this version of a key more: in the key's slot, or in one behind all others
abbrev pub added : ℕ → List ℕ → Version Change → List KeyHistory → List KeyHistory
added table key v [] = record { table = table; key = key; versions = v ∷ [] } ∷ []
added table key v (h ∷ slots) = if is_of table key h then record { table = h.table; key = h.key; versions = with_version v h.versions } ∷ slots else h ∷ added table key v slots

-- ---- sweeps

-- durable at the pin, and of a name below the floor: no look-up needs what is older
abbrev pub is_past : ℕ → Name → Version Change → Bool
is_past pin floor v = nat_le v.window.durable pin && is_below v.window.name floor

-- what a sweep leaves of a key: down to the newest version that is past, or all
abbrev pub swept_versions : ℕ → Name → List (Version Change) → List (Version Change)
swept_versions pin floor versions = down_to (is_past pin floor) versions

abbrev pub swept_slot : ℕ → Name → KeyHistory → KeyHistory
swept_slot pin floor h = record { table = h.table; key = h.key; versions = swept_versions pin floor h.versions }

-- ---- look-ups

-- seen by the snapshot, and not later than the read stamp
abbrev pub is_admitted : View → Version Change → Bool
is_admitted view v = is_seen (sight_of view) v.window.name && reads_at view.read v.window.commit
