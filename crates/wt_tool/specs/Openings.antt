-- How a command comes to its machine, its table and its formats.
use Rattle.std.specs.Prelude.{◌≡◌, ◌≢◌, ◌⊎◌, ℕ, ◌+◌, List, Option, MatchOption}
use Rattle.std.specs.Option.{option_map_or}
use Rattle.failure.specs.Counts.{Rose}
use Rattle.item.specs.declared.formats.Formats.{Formats}
use Rattle.wt_code.specs.declared.refusals.Refusal.{Refusal}
use Rattle.wt_code.specs.declared.refusals.Refusal.TheVariants.{NoMemory, DiskFault, Invalid as Refusal_Invalid, Limit as Refusal_Limit}
use Rattle.wt_code.specs.declared.refusals.Invalid.TheVariants.{BadName, BadConfig}
use Rattle.wt_code.specs.declared.refusals.Limit.TheVariants.{Tables, Checkpoints}
use Rattle.kv_model.specs.History.{tables, named}
use Rattle.kv_model.specs.Machine.{Machine}
use Rattle.wt_tool.specs.Words.{AsksFor, name_in, plain_formats}
use Rattle.wt_tool.specs.Points.{Point, Ran, stops}
use Rattle.engine_store.specs.Devices.{Device, IsLater, last_number, IsUsedUp}

-- why an opening of a device that reads is refused
abbrev pub RefusesOpening : Point → Device → Refusal → Type 0
RefusesOpening p now r =
    ((r ≡ DiskFault) × Rose p.device.faults now.faults)
    ⊎ ((r ≡ NoMemory)
    ⊎ (((r ≡ Refusal_Limit Tables) × IsUsedUp p.device.seen)
    ⊎ ((r ≡ Refusal_Limit Checkpoints) × (p.machine.run ≡ last_number + 1))))

-- an opening that is not refused for what the device holds
pub record MayOpen (p : Point) : Type 0 where
  pub numbers : IsUsedUp p.device.seen → ⊥
  pub run : p.machine.run ≢ last_number + 1

-- an opening changes neither the machine nor what a read gives
pub record Opens (p q : Point) : Type 0 where
  pub later : IsLater p.device q.device
  pub machine : q.machine ≡ p.machine
  pub seen : q.device.seen ≡ p.device.seen
  pub capacity : q.device.capacity ≡ p.device.capacity

-- the device is opened, and the run goes on
abbrev pub Opened : (Point → Ran → Type 0) → Point → Ran → Type 0
Opened Goes p ran =
    ((r : Refusal) × (q : Point) × Opens p q × RefusesOpening p q.device r × (ran ≡ stops r q))
    ⊎ ((q : Point) × Opens p q × MayOpen p × Goes q ran)

-- the table that a word names, where it names one
abbrev pub Named : List ℕ → (List ℕ → Point → Ran → Type 0) → Point → Ran → Type 0
Named uri Goes p ran = MatchOption (name_in uri) (ran ≡ stops (Refusal_Invalid BadName) p) (λ name. Goes name p ran)

-- The formats that a configuration asks for. One that is outside the grammar, or names other formats, ends the run; so may want of memory for its items.
abbrev pub Configured : Option (List ℕ) → (Formats → Point → Ran → Type 0) → Point → Ran → Type 0
Configured config Goes p ran =
    ((formats : Formats) × AsksFor config formats × Goes formats p ran)
    ⊎ ((((formats : Formats) → AsksFor config formats → ⊥) × (ran ≡ stops (Refusal_Invalid BadConfig) p)) ⊎ (ran ≡ stops NoMemory p))

-- the formats of the table of this name; where there is none, words are taken as they are
abbrev pub formats_at : Machine → List ℕ → Formats
formats_at m name = option_map_or (λ t. t.formats) (named name (tables m.history)) plain_formats
