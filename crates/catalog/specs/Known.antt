-- The tables of an engine: which there are, where each stands, and their order by name.
use Rattle.std.specs.Prelude.{◌≡◌, ℕ, ◌+◌, ◌^◌, ◌<◌, ◌≤◌, Bool, true, IsTrue, List, [], ◌∷◌, ◌++◌, length, Option, Some, None, option_map, bytes_eq, fold, if◌then◌else◌}
use Rattle.std.specs.List.{AllByRecursion}
use Rattle.std.specs.Ordering.{nat_cmp, is_lt}
use Rattle.std.specs.Cmp.Lexicographic.{slice_cmp}
use Rattle.kv_model.specs.History.{Table, named}
use Rattle.kv_model.specs.Decisions.{is_name}

-- the tables in the order in which they were made, and the number of the next one
pub record Known : Type 0 where
  pub tables : List Table
  pub next : ℕ

-- the place of the table of this name, if there is one
abbrev pub place_of : List ℕ → List Table → Option ℕ
place_of name [] = None
place_of name (t ∷ later) = if bytes_eq t.name name then Some 0 else option_map (λ place. place + 1) (place_of name later)

-- no two have one name
abbrev pub AreDistinct : List Table → Type 0
AreDistinct [] = Unit {0}
AreDistinct (t ∷ later) = (named t.name later ≡ None) × AreDistinct later

-- the numbers ascend, from low on and below next
abbrev pub NumbersAscend : ℕ → List Table → ℕ → Type 0
NumbersAscend low [] next = low ≤ next
NumbersAscend low (t ∷ later) next = (low ≤ t.number) × NumbersAscend (t.number + 1) later next

-- what holds of every catalog
pub record AreTables (known : Known) : Type 0 where
  pub few : length known.tables ≤ 1024
  pub names : AllByRecursion (λ (t : Table). is_name t.name ≡ true) known.tables
  pub distinct : AreDistinct known.tables
  pub numbers : NumbersAscend 1 known.tables known.next
  pub next : known.next < 2 ^ 32

-- with one table more, after whose number the next one comes
abbrev pub with_new : Known → Table → Known
with_new known t = record { tables = known.tables ++ t ∷ []; next = t.number + 1 }

-- ---- by name

-- names by their bytes, a proper prefix first
abbrev pub is_below : List ℕ → List ℕ → Bool
is_below x y = is_lt (slice_cmp nat_cmp x y)

-- with one table more, where its name belongs
abbrev pub put_by_name : List Table → Table → List Table
put_by_name [] t = t ∷ []
put_by_name (other ∷ later) t = if is_below other.name t.name then other ∷ put_by_name later t else t ∷ (other ∷ later)

-- the tables in the order of their names
abbrev pub by_name : List Table → List Table
by_name tables = fold put_by_name [] tables

-- each name is below the next one
abbrev pub NamesAscend : List Table → Type 0
NamesAscend [] = Unit {0}
NamesAscend (t ∷ []) = Unit {0}
NamesAscend (t ∷ u ∷ later) = IsTrue (is_below t.name u.name) × NamesAscend (u ∷ later)
