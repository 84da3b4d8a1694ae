-- What a reader finds in one leaf, whatever the others are.
use Rattle.std.specs.Prelude.{◌≡◌, ℕ, List, Option, IsTrue}
use Rattle.failure.specs.Counts.{Rose}
use Rattle.disk_model.specs.declared.disk.Disk.{Ghosts}
use Rattle.wt_code.specs.declared.refusals.Refusal.{Refusal}
use Rattle.row_page.specs.Rows.{Row}
use Rattle.leaf_frame.specs.Leaf.{HeldLeaf}
use Rattle.tree_open.specs.Damage.{Refused}
use Rattle.device_read.specs.Merging.{merged}
use Rattle.device_read.specs.Newest.{record_at, rows_of}
use Rattle.device_read.specs.Readers.{Held, entries_at, newest_on, number_at}
use Rattle.device_read.specs.Steps.{IsLeafAt, IsValueOf, KeySpoilsAt, LeafSpoilsAt}

-- the device has the i-th leaf of the table at a place, and this is what an opening keeps of its rows
abbrev pub HasLeaf : List ℕ → Held → (place i : ℕ) → HeldLeaf → Type 0
HasLeaf bytes h place i leaf = IsLeafAt bytes (entries_at h place) i h.marks h.ids leaf

-- the device has it, and this is the page that an opening makes of it
abbrev pub HasPage : List ℕ → Held → (place i : ℕ) → List Row → Type 0
HasPage bytes h place i page = (leaf : HeldLeaf) × HasLeaf bytes h place i leaf × (page ≡ merged leaf.page (rows_of (newest_on h place i)))

-- The device has the leaf in which the key would stand, and an opening keeps this value of the key: of the leaf's version and the newest record's that of the later one. A table without leaves has no value.
abbrev pub HasValue : List ℕ → Held → (place : ℕ) → (key : List ℕ) → Option (List ℕ) → Type 0
HasValue bytes h place key v = IsValueOf bytes (entries_at h place) key h.marks h.ids (record_at (number_at h place) key h.newest) v

-- ---- where it is not there

-- the i-th leaf of the table at a place is at fault: its block, with the sum that it should have and the one that it has
abbrev pub HasNoLeaf : List ℕ → Held → (place i : ℕ) → (at want found : ℕ) → Type 0
HasNoLeaf bytes h place i at want found = LeafSpoilsAt bytes (entries_at h place) i at want found

-- the leaf in which the key would stand is at fault
abbrev pub HasNoLeafOf : List ℕ → Held → (place : ℕ) → (key : List ℕ) → (at want found : ℕ) → Type 0
HasNoLeafOf bytes h place key at want found = KeySpoilsAt bytes (entries_at h place) key at want found

-- why this leaf is not read: a fault of the disk, want of memory, or that it is at fault
abbrev pub RefusesLeaf : {D : Type 0} → Ghosts D → Held → (place i : ℕ) → D → D → Refusal → Type 0
RefusesLeaf g h place i old new r = Refused (Rose (g.faults old) (g.faults new)) (IsTrue (g.honest old)) (HasNoLeaf (g.seen old) h place i) r

-- the same of the leaf in which the key would stand
abbrev pub RefusesKey : {D : Type 0} → Ghosts D → Held → (place : ℕ) → (key : List ℕ) → D → D → Refusal → Type 0
RefusesKey g h place key old new r = Refused (Rose (g.faults old) (g.faults new)) (IsTrue (g.honest old)) (HasNoLeafOf (g.seen old) h place key) r
