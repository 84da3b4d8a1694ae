-- What a catalog says of a machine, whose tables stand the newest first.
use Rattle.std.specs.Prelude.{◌≡◌, ◌↔◌, ℕ, List, reverse, option_and_then, slice_get}
use Rattle.item.specs.declared.Formats.{Formats}
use Rattle.kv_model.specs.Holds.{Member}
use Rattle.kv_model.specs.History.{Table, tables, named}
use Rattle.kv_model.specs.Machine.{Machine}
use Rattle.kv_model.specs.Decisions.{CreateCall, judged}
use Rattle.kv_model.specs.Calls.{IsTableFor}
use Rattle.catalog.specs.Known.{Known, AreDistinct, AreTables, NamesAscend, by_name, place_of}
use Rattle.catalog.specs.Creates.{asked, decided}

-- a name has the same table the other way round
abbrev pub NamesTurn : Type 0
NamesTurn = (tables : List Table) → AreDistinct tables → (name : List ℕ) → named name (reverse tables) ≡ named name tables

-- the table of a name stands at its place
abbrev pub PlacesAreNamed : Type 0
PlacesAreNamed = (tables : List Table) (name : List ℕ) → named name tables ≡ option_and_then (λ place. slice_get tables place) (place_of name tables)

-- what is decided of a create is what the machine judges
abbrev pub CreatesAreJudged : Type 0
CreatesAreJudged = (m : Machine) (session : ℕ) (known : List Table) (t : Table) → AreDistinct known → reverse known ≡ tables m.history
    → judged m session (CreateCall t) ≡ decided known t

-- the table that a create would make has a number above all that were made
abbrev pub CreatesSuit : Type 0
CreatesSuit = (m : Machine) (known : Known) (name : List ℕ) (formats : Formats) → AreTables known → reverse known.tables ≡ tables m.history
    → IsTableFor m name formats (asked known name formats)

-- ---- the order of names

-- it ascends
abbrev pub OrdersAscend : Type 0
OrdersAscend = (tables : List Table) → AreDistinct tables → NamesAscend (by_name tables)

-- it has the same tables
abbrev pub OrdersKeep : Type 0
OrdersKeep = (tables : List Table) (t : Table) → Member t (by_name tables) ↔ Member t tables

-- and it is the only one
abbrev pub OrdersAreOne : Type 0
OrdersAreOne = (tables others : List Table) → AreDistinct tables → NamesAscend others → ((t : Table) → Member t others ↔ Member t tables) → by_name tables ≡ others
