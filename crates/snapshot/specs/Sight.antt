-- What a snapshot sees: by run, and in its run by the ids that were running.
use Rattle.std.specs.Prelude.{ℕ, ◌+◌, ◌≤◌, Bool, not, ◌&&◌, ◌||◌, ◌==◌, nat_lt, List, [], ◌∷◌, if◌then◌else◌}
use Rattle.std.specs.List.{list_any}
use Rattle.stamp.specs.declared.Name.{Name}
use Rattle.stamp.specs.declared.View.{View}

-- min is the least running id, or max where none is; max is the next id; list has the running ids
pub record Sight : Type 0 where
  pub run : ℕ
  pub min : ℕ
  pub max : ℕ
  pub list : List ℕ

-- what a snapshot is seen as: its sight, and how many running ids it has room for
pub record SnapshotValue : Type 0 where
  pub sight : Sight
  pub room : ℕ

-- strictly ascending, from low on and below high
abbrev pub Ascends : ℕ → List ℕ → ℕ → Type 0
Ascends low [] high = low ≤ high
Ascends low (id ∷ ids) high = (low ≤ id) × Ascends (id + 1) ids high

-- ids begin at 1, and those that were running ascend from min on and below max
pub record IsSight (s : Sight) : Type 0 where
  pub from_one : 1 ≤ s.min
  pub ascending : Ascends s.min s.list s.max

abbrev pub is_listed : List ℕ → ℕ → Bool
is_listed ids id = list_any (λ other. other == id) ids

-- an ascending list with one id more, where it is not there
abbrev pub with_id : List ℕ → ℕ → List ℕ
with_id [] id = id ∷ []
with_id (other ∷ ids) id = if nat_lt id other then id ∷ (other ∷ ids) else (if other == id then other ∷ ids else other ∷ with_id ids id)

-- the least of an ascending list, or this number where it is empty
abbrev pub least_or : ℕ → List ℕ → ℕ
least_or next [] = next
least_or next (id ∷ ids) = id

-- of an earlier run; of this one below min, or below max and not listed
abbrev pub is_seen : Sight → Name → Bool
is_seen s x = nat_lt x.run s.run || ((x.run == s.run) && (nat_lt x.id s.min || (nat_lt x.id s.max && not (is_listed s.list x.id))))

-- taken in a run, with its next id and the running ones
abbrev pub sight_at : ℕ → ℕ → List ℕ → Sight
sight_at run next running = record { run = run; min = least_or next running; max = next; list = running }

-- the same, with one id more that counts as running
abbrev pub counting : Sight → ℕ → Sight
counting s id = sight_at s.run s.max (with_id s.list id)

-- the snapshot that a view lends
abbrev pub sight_of : View → Sight
sight_of v = record { run = v.run; min = v.min; max = v.max; list = v.list.now }
