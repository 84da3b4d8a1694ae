-- What gives a reader nothing goes on to give it nothing.
use Rattle.std.specs.Prelude.{◌≡◌, ◌≢◌, ℕ, List, Option, Some}
use Rattle.item.specs.declared.Change.{Change}
use Rattle.stamp.specs.declared.Name.{Name}
use Rattle.stamp.specs.declared.Version.{Version}
use Rattle.stamp.specs.declared.View.{View}
use Rattle.kv_model.specs.Holds.{Member}
use Rattle.kv_model.specs.History.{Write, line}
use Rattle.kv_model.specs.Machine.{Machine, Transaction, Running, Resolving, Event, transaction_of, name_of, after}
use Rattle.kv_model.specs.Allowed.{Allowed}
use Rattle.kv_model.specs.Reads.{own_write}
use Rattle.kv_model.specs.Valid.{Valid}
use Rattle.update_chain.specs.declared.update.Update.{Update}
use Rattle.update_chain.specs.Updates.{IsOlder, front_changed, installed, marked, stamped, undone, trimmed, read_of}
use Rattle.update_chain.specs.Answers.{ViewStands, is_admitted}
use Rattle.update_chain.specs.EventLaws.{StandsFor, outcome}

-- a read of the chain gives nothing
abbrev pub IsSilent : View → List Update → Type 0
IsSilent view chain = read_of view chain ≡ IsOlder

-- what another running transaction does to a chain: an install, a mark, stamps
pub record RunningStaySilent (m : Machine) (view : View) (other : ℕ) (x : Transaction) (chain : List Update) : Type 0 where
  pub installs : (u : Update) → u.version.window.name ≡ name_of m x → IsSilent view (installed u chain)
  pub marks : (prepare : ℕ) → IsSilent view (front_changed (name_of m x) (marked prepare) chain)
  pub stamps : (commit durable : ℕ) → IsSilent view (front_changed (name_of m x) (stamped commit durable) chain)

-- a chain that gives a running transaction nothing goes on to, whatever others do to it
pub record StaysSilent (m : Machine) (s : ℕ) (t : Transaction) (view : View) (table : ℕ) (key : List ℕ) (chain : List Update) (cell : Option (Version Change)) (records : List (Version Change)) : Type 0 where
  pub running : (other : ℕ) (x : Transaction) → other ≢ s → transaction_of m other ≡ Some x → x.phase ≡ Running → x.id ≢ 0 → RunningStaySilent m view other x chain
  -- the stamps of a resolving commit
  pub resolving : (other : ℕ) (x : Transaction) (w : Write) (commit durable : ℕ) → other ≢ s → transaction_of m other ≡ Some x → x.phase ≡ Resolving → own_write x table key ≡ Some w
      → Member (outcome m x w commit durable) (line m.history table key) → IsSilent view (front_changed (name_of m x) (stamped commit durable) chain)
  pub undoes : (name : Name) → IsSilent view (undone name chain)
  pub trims : (pin : ℕ) (floor : Name) → IsSilent view (trimmed pin floor chain)

abbrev pub ChainsStaySilent : Type 0
ChainsStaySilent = (m : Machine) (s : ℕ) (t : Transaction) (view : View) (table : ℕ) (key : List ℕ) (chain : List Update) (cell : Option (Version Change)) (records : List (Version Change))
    → Valid m → transaction_of m s ≡ Some t → t.phase ≡ Running → ViewStands m t view → StandsFor m table key chain cell records → IsSilent view chain
    → StaysSilent m s t view table key chain cell records

-- a version that stands, as a cell does, is admitted after an event as before it
abbrev pub AdmittedGoOn : Type 0
AdmittedGoOn = (m : Machine) (event : Event) (s : ℕ) (t : Transaction) (v : Version Change) → Valid m → Allowed m event → transaction_of m s ≡ Some t → is_admitted (after m event) t v ≡ is_admitted m t v
