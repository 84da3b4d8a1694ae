-- What may stand behind the tables of a catalog.
use Rattle.std.specs.Prelude.{◌≡◌, ◌+◌, ◌-◌, ◌^◌, ◌<◌, ◌≤◌, ℕ, true, List, ◌++◌, length, None, reverse}
use Rattle.std.specs.List.{AllByRecursion}
use Rattle.kv_model.specs.Holds.{Descends}
use Rattle.kv_model.specs.History.{Table, named}
use Rattle.kv_model.specs.Decisions.{is_name}
use Rattle.catalog.specs.Known.{Known, AreDistinct}

-- a table of a new name, whose number is not below the next one
pub record MayFollow (known : Known) (t : Table) : Type 0 where
  pub new : named t.name known.tables ≡ None
  pub few : length known.tables < 1024
  pub name : is_name t.name ≡ true
  pub above : known.next ≤ t.number
  pub last : t.number < 2 ^ 32 - 1

abbrev pub IsUnder : Table → Table → Type 0
IsUnder t u = t.number < u.number

-- tables of which the last may follow, then the one before it, and so on, with the number of the next one after them
pub record MayAllFollow (known : Known) (rest : List Table) (next : ℕ) : Type 0 where
  pub distinct : AreDistinct (rest ++ reverse known.tables)
  pub few : length rest + length known.tables ≤ 1024
  pub names : AllByRecursion (λ (t : Table). is_name t.name ≡ true) rest
  pub above : AllByRecursion (λ (t : Table). known.next ≤ t.number) rest
  pub below : AllByRecursion (λ (t : Table). t.number < next) rest
  pub descend : Descends IsUnder rest
  pub upto : known.next ≤ next
