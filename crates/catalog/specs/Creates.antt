-- What a create answers, and what it leaves.
use Rattle.std.specs.Prelude.{◌≡◌, ◌⊎◌, ℕ, ◌-◌, ◌≤◌, ◌^◌, not, List, [], ◌∷◌, length, Some}
use Rattle.item.specs.declared.Formats.{Formats}
use Rattle.wt_code.specs.declared.refusals.Refusal.{Refusal}
use Rattle.wt_code.specs.declared.refusals.Refusal.TheVariants as told
use Rattle.wt_code.specs.declared.refusals.Invalid.TheVariants as why
use Rattle.wt_code.specs.declared.refusals.Limit.TheVariants as counted
use Rattle.kv_model.specs.History.{Table, named}
use Rattle.kv_model.specs.Machine.{Event, CreateTable, Nothing}
use Rattle.kv_model.specs.Decisions.{Outcome, Done, Refused, checked, create_decision, is_name}
use Rattle.catalog.specs.Known.{Known, place_of, with_new}
use Rattle.catalog.specs.declared.created.Created.{Created}
use Rattle.catalog.specs.declared.created.Created.TheVariants.{New, Same}

-- the table that a create would make
abbrev pub asked : Known → List ℕ → Formats → Table
asked known name formats = record { number = known.next; name = name; formats = formats }

-- what the machine decides of a create of this table
abbrev pub decided : List Table → Table → Outcome × Event
decided tables t = checked ((not (is_name t.name), told.Invalid why.BadName) ∷ []) (create_decision tables t (named t.name tables))

-- the numbers of tables are used up: the one after the next has no room in 32 bits
abbrev pub AreUsedUp : Known → Type 0
AreUsedUp known = 2 ^ 32 - 1 ≤ known.next

-- what a create that is done tells and leaves
abbrev pub IsCreated : Known → Table → Known → Created → Type 0
IsCreated old t new (New place) = (decided old.tables t ≡ (Done, CreateTable t)) × (place ≡ length old.tables) × (new ≡ with_new old t)
IsCreated old t new (Same place) = (decided old.tables t ≡ (Done, Nothing)) × (place_of t.name old.tables ≡ Some place) × (new ≡ old)

-- why a create is refused: want of memory, as the machine decides, or for want of a number
abbrev pub IsRefused : Known → Table → Refusal → Type 0
IsRefused old t refusal =
    (refusal ≡ told.NoMemory) ⊎ (decided old.tables t ≡ (Refused refusal, Nothing)) ⊎
    ((refusal ≡ told.Limit counted.Tables) × (decided old.tables t ≡ (Done, CreateTable t)) × AreUsedUp old)
