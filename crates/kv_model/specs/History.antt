-- Histories, newest entry first: which versions stand, who sees them, and what a read gives.
use Rattle.std.specs.Prelude.{◌≡◌, ℕ, Bool, false, ◌&&◌, ◌||◌, ◌==◌, nat_lt, nat_le, List, [], ◌∷◌, ◌++◌, length, map, filter, find, bytes_eq, Option, Some, None, if◌then◌else◌, option_and_then}
use Rattle.std.specs.List.{list_any}
use Rattle.item.specs.declared.Change.{Change}
use Rattle.item.specs.declared.Change.TheVariants.{Put, Remove}
use Rattle.item.specs.declared.Formats.{Formats}
use Rattle.stamp.specs.declared.Name.{Name}
use Rattle.stamp.specs.declared.Version.{Version}

pub record Table : Type 0 where
  pub number : ℕ
  pub name : List ℕ
  pub formats : Formats

-- one key's change by a transaction, with its own stamps; 0 is no stamp
pub record Write : Type 0 where
  pub table : ℕ
  pub key : List ℕ
  pub change : Change
  pub commit : ℕ
  pub durable : ℕ

pub data Entry : Type 0 where
  Create : (table : Table) → Entry
  Commit : (name : Name) (writes : List Write) → Entry
  Prepare : (name : Name) (stamp : ℕ) → Entry
  -- the commit of a prepared transaction
  Resolve : (name : Name) (writes : List Write) → Entry
  -- the rollback of a prepared transaction
  Undo : (name : Name) → Entry
  -- a rollback to stable
  Rts : (stable : ℕ) → Entry

abbrev pub name_eq : Name → Name → Bool
name_eq x y = (x.run == y.run) && (x.id == y.id)

-- a version of a key of a table
pub record Placed : Type 0 where
  pub table : ℕ
  pub key : List ℕ
  pub version : Version Change

abbrev pub version_of : Name → Write → Version Change
version_of name w = record { window = record { name = name; commit = w.commit; durable = w.durable }; change = w.change }

abbrev pub placed_of : Name → Write → Placed
placed_of name w = record { table = w.table; key = w.key; version = version_of name w }

-- durable at this stamp
abbrev pub is_by : ℕ → Version Change → Bool
is_by stamp v = nat_le v.window.durable stamp

-- the versions that stand, newest first
abbrev pub standing : List Entry → List Placed
standing [] = []
standing (Commit name writes ∷ older) = map (placed_of name) writes ++ standing older
standing (Resolve name writes ∷ older) = map (placed_of name) writes ++ standing older
standing (Rts stable ∷ older) = filter (λ p. is_by stable p.version) (standing older)
standing (_ ∷ older) = standing older

abbrev pub is_at : ℕ → List ℕ → Placed → Bool
is_at table key p = (p.table == table) && bytes_eq p.key key

abbrev pub writes_at : ℕ → List ℕ → Write → Bool
writes_at table key w = (w.table == table) && bytes_eq w.key key

-- the versions of one key among those placed
abbrev pub of_key : ℕ → List ℕ → List Placed → List (Version Change)
of_key table key placed = map {A = Placed} (λ p. p.version) (filter (is_at table key) placed)

-- the versions of one key that stand, newest first
abbrev pub line : List Entry → ℕ → List ℕ → List (Version Change)
line history table key = of_key table key (standing history)

-- the tables, newest first
abbrev pub tables : List Entry → List Table
tables [] = []
tables (Create table ∷ older) = table ∷ tables older
tables (_ ∷ older) = tables older

-- each table that was ever made, newest first
abbrev pub created : List Entry → List Table
created [] = []
created (Create table ∷ older) = table ∷ created older
created (_ ∷ older) = created older

-- a table of this number is among them
abbrev pub has_table : List Table → ℕ → Bool
has_table known number = list_any (λ (t : Table). t.number == number) known

-- the table of this name, if there is one
abbrev pub named : List ℕ → List Table → Option Table
named name known = find (λ t. bytes_eq t.name name) known

-- a transaction is released where it is prepared, or else where it is committed
abbrev pub releases : Entry → Name → Bool
releases (Commit name writes) x = name_eq name x
releases (Prepare name stamp) x = name_eq name x
releases _ x = false

-- x was released in the first n entries
abbrev pub released : List Entry → ℕ → Name → Bool
released [] n x = false
released (entry ∷ older) n x = (releases entry x && nat_lt (length older) n) || released older n x

abbrev pub ends : Entry → Name → Bool
ends (Commit name writes) x = name_eq name x
ends (Resolve name writes) x = name_eq name x
ends _ x = false

-- x was committed in the first n entries, at once or after it was prepared
abbrev pub committed : List Entry → ℕ → Name → Bool
committed [] n x = false
committed (entry ∷ older) n x = (ends entry x && nat_lt (length older) n) || committed older n x

-- any commit stamp where there is no read stamp
abbrev pub reads_at : ℕ → ℕ → Bool
reads_at read commit = (read == 0) || nat_le commit read

-- a snapshot of the first n entries sees the version, at this read stamp
abbrev pub admits : List Entry → ℕ → ℕ → Version Change → Bool
admits history n read v = released history n v.window.name && reads_at read v.window.commit

abbrev pub put_of : Change → Option (List ℕ)
put_of (Put value) = Some value
put_of Remove = None

-- the value that the newest admitted version gives; None is absent
abbrev pub value : List Entry → ℕ → ℕ → ℕ → List ℕ → Option (List ℕ)
value history n read table key = option_and_then (λ v. put_of v.change) (find (admits history n read) (line history table key))

-- the first n entries
abbrev pub first : ℕ → List Entry → List Entry
first n [] = []
first n (entry ∷ older) = if nat_lt (length older) n then entry ∷ older else first n older

abbrev pub write_of : Placed → Write
write_of p = record { table = p.table; key = p.key; change = p.version.change; commit = p.version.window.commit; durable = p.version.window.durable }

abbrev pub commit_of : Placed → Entry
commit_of p = Commit p.version.window.name (write_of p ∷ [])

-- durable at the stable stamp, where there is one
abbrev pub is_stable : ℕ → Version Change → Bool
is_stable stable v = (stable == 0) || is_by stable v

-- tables, and above them one commit for each version
abbrev pub history_of : List Table → List Placed → List Entry
history_of known placed = map commit_of placed ++ map Create known

-- what a checkpoint of the first n entries keeps at this stable stamp
abbrev pub cut : List Entry → ℕ → ℕ → List Entry
cut history n stable = history_of (tables (first n history)) (filter (λ p. is_stable stable p.version) (standing (first n history)))

-- down to the newest that passes, or all
abbrev pub down_to : {A : Type 0} → (A → Bool) → List A → List A
down_to p [] = []
down_to p (v ∷ older) = if p v then v ∷ [] else v ∷ down_to p older

-- what reads from the oldest stamp on can reach
abbrev pub core : ℕ → List (Version Change) → List (Version Change)
core oldest versions = down_to (is_by oldest) versions

-- alike for each read at no stamp or at one not before oldest
pub record Agree (history other : List Entry) (oldest : ℕ) : Type 0 where
  pub same_tables : tables history ≡ tables other
  pub cores : (table : ℕ) (key : List ℕ) → core oldest (line history table key) ≡ core oldest (line other table key)
