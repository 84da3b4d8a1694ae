-- What every content has that is read from a device.
use Rattle.std.specs.Prelude.{◌≡◌, ◌⊎◌, ◌≤◌, List, [], ◌∷◌}
use Rattle.kv_model.specs.Holds.{Member}
use Rattle.kv_model.specs.History.{Table, Placed}
use Rattle.kv_model.specs.Content.{Content}
use Rattle.kv_model.specs.Allowed.{StampsFit}

-- no two of a list clash
abbrev pub AllApart : {A : Type 0} → (A → A → Type 0) → List A → Type 0
AllApart Clash [] = Unit {0}
AllApart {A} Clash (x ∷ xs) = ((y : A) → Member y xs → Clash x y → ⊥) × AllApart Clash xs

abbrev pub SameNumber : Table → Table → Type 0
SameNumber t u = t.number ≡ u.number

abbrev pub SameKey : Placed → Placed → Type 0
SameKey p q = (p.table ≡ q.table) × (p.key ≡ q.key)

-- the same key, and one name
abbrev pub SameVersion : Placed → Placed → Type 0
SameVersion p q = SameKey p q × (p.version.window.name.run ≡ q.version.window.name.run) × (p.version.window.name.id ≡ q.version.window.name.id)

abbrev pub IsVersionOf : Content → Placed → Type 0
IsVersionOf c p = Member p c.cells ⊎ Member p c.records

pub record IsRegular (c : Content) : Type 0 where
  pub numbers : AllApart SameNumber c.tables
  pub names : (t u : Table) → Member t c.tables → Member u c.tables → t.name ≡ u.name → t.number ≡ u.number
  -- one cell at most of each key
  pub cells : AllApart SameKey c.cells
  -- a name stands once for each key
  pub records : AllApart SameVersion c.records
  pub stamps : (p : Placed) → IsVersionOf c p → p.version.window.commit ≤ p.version.window.durable
  pub fit : StampsFit c.oldest c.stable
