-- What a device's tables are for an opening.
use Rattle.std.specs.Prelude.{◌≡◌, ℕ, ◌<◌, ◌≤◌, true, List, length}
use Rattle.std.specs.List.{AllByRecursion}
use Rattle.kv_model.specs.History.{Table}
use Rattle.kv_model.specs.Regular.{AllApart, SameNumber}
use Rattle.kv_model.specs.Decisions.{is_name}
use Rattle.catalog.specs.Known.{NamesAscend}

-- tables as a record has them, in the order of their names, with the number of the next one
pub record AreRecorded (tables : List Table) (next : ℕ) : Type 0 where
  pub few : length tables ≤ 1024
  pub names : AllByRecursion (λ (t : Table). is_name t.name ≡ true) tables
  pub ascend : NamesAscend tables
  pub from_one : AllByRecursion (λ (t : Table). 1 ≤ t.number) tables
  pub below_next : AllByRecursion (λ (t : Table). t.number < next) tables
  pub once : AllApart SameNumber tables
