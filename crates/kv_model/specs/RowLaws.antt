-- How the answers of a walk over one range after the other make that of the whole walk.
use Rattle.std.specs.Prelude.{◌≡◌, ◌≢◌, ◌⊎◌, ◌↔◌, ℕ, Bool, true, not, ◌&&◌, List, Some}
use Rattle.wt_code.specs.declared.refusals.Refusal.TheVariants.{NotFound}
use Rattle.kv_model.specs.Machine.{Machine, Transaction, Event, transaction_of}
use Rattle.kv_model.specs.Reads.{ReadAnswer}
use Rattle.kv_model.specs.Decisions.{Outcome, Refused}
use Rattle.kv_model.specs.Rows.{Way, Up, Down, key_lt, comes_after, RangeAnswer}
use Rattle.kv_model.specs.Closing.{after_all}
use Rattle.kv_model.specs.DecisionLaws.{EachMayCome}
use Rattle.kv_model.specs.Elsewhere.{AllOfOthers}
use Rattle.kv_model.specs.Valid.{Valid}

-- a range in two parts, the first of which comes before the second on this way
pub record IsParted (way : Way) (whole first second : List ℕ → Bool) : Type 0 where
  pub covers : (k : List ℕ) → whole k ≡ true → (first k ≡ true) ⊎ (second k ≡ true)
  pub first_in : (k : List ℕ) → first k ≡ true → whole k ≡ true
  pub second_in : (k : List ℕ) → second k ≡ true → whole k ≡ true
  pub ordered : (a b : List ℕ) → first a ≡ true → second b ≡ true → comes_after way a b ≡ true

-- of a range, the keys before the cut on this way; the cut itself is of the greater keys
abbrev pub before_cut : Way → List ℕ → (List ℕ → Bool) → List ℕ → Bool
before_cut Up cut within key = within key && key_lt key cut
before_cut Down cut within key = within key && not (key_lt key cut)

-- and the keys behind it
abbrev pub behind_cut : Way → List ℕ → (List ℕ → Bool) → List ℕ → Bool
behind_cut Up cut within key = within key && not (key_lt key cut)
behind_cut Down cut within key = within key && key_lt key cut

-- a range that is cut at a key is in two parts
abbrev pub CutsPartRanges : Type 0
CutsPartRanges = (way : Way) (cut : List ℕ) (within : List ℕ → Bool) → IsParted way within (before_cut way cut within) (behind_cut way cut within)

-- the answer of the first part, or, where no row is there, of the second; Answer: what a part may answer
abbrev pub PartsAnswer : ((List ℕ → Bool) → Outcome → Type 0) → (first second : List ℕ → Bool) → Outcome → Type 0
PartsAnswer Answer first second outcome = (Answer first outcome × (outcome ≢ Refused NotFound)) ⊎ (Answer first (Refused NotFound) × Answer second outcome)

-- the answer over a range in two parts is that
abbrev pub RowsCompose : Type 0
RowsCompose = (m : Machine) (session : ℕ) (t : Transaction) (table : ℕ) (way : Way) (whole first second : List ℕ → Bool) (outcome : Outcome) → IsParted way whole first second
    → (RangeAnswer (ReadAnswer m session t table) way whole outcome ↔ PartsAnswer (RangeAnswer (ReadAnswer m session t table) way) first second outcome)

-- a range without a row goes on to have none, whatever the others do
abbrev pub AbsencesGoOn : Type 0
AbsencesGoOn = (m : Machine) (events : List Event) (session : ℕ) (t : Transaction) (table : ℕ) (way : Way) (within : List ℕ → Bool) → Valid m → transaction_of m session ≡ Some t
    → EachMayCome m events → AllOfOthers session events → RangeAnswer (ReadAnswer m session t table) way within (Refused NotFound)
    → RangeAnswer (ReadAnswer (after_all m events) session t table) way within (Refused NotFound)
