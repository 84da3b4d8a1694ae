-- The next and the previous row of a cursor, and where calls leave a cursor.
use Rattle.std.specs.Prelude.{◌≡◌, ℕ, Bool, true, ◌==◌, List, Option, Some, None, if◌then◌else◌}
use Rattle.std.specs.Ordering.{nat_cmp, is_lt}
use Rattle.std.specs.Cmp.Lexicographic.{slice_cmp}
use Rattle.wt_code.specs.declared.refusals.Refusal.TheVariants.{NotFound, PrepareConflict}
use Rattle.kv_model.specs.Machine.{Machine, Transaction, Position, cursor_of, Event, PlaceCursor, Nothing}
use Rattle.kv_model.specs.Reads.{Found, Value, Conflict, ReadAnswer}
use Rattle.kv_model.specs.Decisions.{Outcome, Done, Gives, GivesRow, Refused, GetAnswer, running_session}

-- by unsigned bytes, a proper prefix first
abbrev pub key_lt : List ℕ → List ℕ → Bool
key_lt a b = is_lt (slice_cmp nat_cmp a b)

-- to greater keys, or to smaller ones
pub data Way : Type 0 where
  Up : Way
  Down : Way

-- on this way b comes after a
abbrev pub comes_after : Way → List ℕ → List ℕ → Bool
comes_after Up a b = key_lt a b
comes_after Down a b = key_lt b a

-- on this way the key comes after where it starts; each does where it starts at the end
abbrev pub is_past : Way → Option (List ℕ) → List ℕ → Bool
is_past way None key = true
is_past way (Some from) key = comes_after way from key

-- where a cursor starts on a table: at its position, if it has one on this table
abbrev pub starts_at : ℕ → Option Position → Option (List ℕ)
starts_at table None = None
starts_at table (Some p) = if p.table == table then Some p.key else None

-- each key of a range before this one reads as absent; Reads: the answers that a read of a key may give
abbrev pub AbsentBefore : (List ℕ → Found → Type 0) → Way → (List ℕ → Bool) → List ℕ → Type 0
AbsentBefore Reads way within key = (k : List ℕ) → within k ≡ true → comes_after way k key ≡ true → Reads k (Value None)

-- the nearest key of a range whose read is not absent: its row or its conflict, or not found where there is none
abbrev pub RangeAnswer : (List ℕ → Found → Type 0) → Way → (List ℕ → Bool) → Outcome → Type 0
RangeAnswer Reads way within (GivesRow key v) = (within key ≡ true) × Reads key (Value (Some v)) × AbsentBefore Reads way within key
RangeAnswer Reads way within (Refused (PrepareConflict id)) = (key : List ℕ) × (within key ≡ true) × Reads key (Conflict id) × AbsentBefore Reads way within key
RangeAnswer Reads way within (Refused NotFound) = (k : List ℕ) → within k ≡ true → Reads k (Value None)
RangeAnswer Reads way within _ = ⊥

-- of all keys that come after the start
abbrev pub RowAnswer : (List ℕ → Found → Type 0) → Way → Option (List ℕ) → Outcome → Type 0
RowAnswer Reads way from outcome = RangeAnswer Reads way (is_past way from) outcome

-- a row takes the cursor to it, not found leaves it unpositioned, a conflict where it was
abbrev pub row_event : ℕ → ℕ → ℕ → Outcome → Event
row_event session cursor table (GivesRow key v) = PlaceCursor session cursor (Some (record { table = table; key = key }))
row_event session cursor table (Refused NotFound) = PlaceCursor session cursor None
row_event session cursor table _ = Nothing

-- to NextRow and PrevRow, with the event that it makes
abbrev pub NextAnswer : Machine → ℕ → Transaction → ℕ → ℕ → Way → Outcome → Event → Type 0
NextAnswer m session t cursor table way outcome event =
    RowAnswer (ReadAnswer m session t table) way (starts_at table (cursor_of m session cursor)) outcome × (event ≡ row_event session cursor table outcome)

-- a value takes the cursor to its key, not found leaves it unpositioned, a conflict where it was
abbrev pub seek_event : ℕ → ℕ → ℕ → List ℕ → Outcome → Event
seek_event session cursor table key (Gives v) = PlaceCursor session cursor (Some (record { table = table; key = key }))
seek_event session cursor table key (Refused NotFound) = PlaceCursor session cursor None
seek_event session cursor table key _ = Nothing

-- to Seek, with the event that it makes
abbrev pub SeekAnswer : Machine → ℕ → Transaction → ℕ → ℕ → List ℕ → Outcome → Event → Type 0
SeekAnswer m session t cursor table key outcome event = GetAnswer m session t table key outcome × (event ≡ seek_event session cursor table key outcome)

-- Reset asks nothing of the store, so a machine that is down does not refuse it
abbrev pub reset_decision : Machine → ℕ → ℕ → Outcome × Event
reset_decision m session cursor = running_session m session (λ t. (Done, PlaceCursor session cursor None))
