-- A read that finds nothing in the frame, and looks in the history later.
use Rattle.std.specs.Prelude.{◌≡◌, ℕ, false, List, Option, Some}
use Rattle.item.specs.declared.Change.{Change}
use Rattle.stamp.specs.declared.Version.{Version}
use Rattle.stamp.specs.declared.View.{View}
use Rattle.kv_model.specs.Holds.{Picks}
use Rattle.kv_model.specs.Ordered.{Older}
use Rattle.kv_model.specs.Machine.{Machine, Transaction, Running, Event, transaction_of}
use Rattle.kv_model.specs.Closing.{after_all}
use Rattle.kv_model.specs.DecisionLaws.{EachMayCome}
use Rattle.kv_model.specs.Elsewhere.{AllOfOthers}
use Rattle.kv_model.specs.Reads.{ReadAnswer, Value}
use Rattle.kv_model.specs.Valid.{Valid}
use Rattle.kv_model.specs.StoreLaws.{Held}
use Rattle.update_chain.specs.declared.update.Update.{Update}
use Rattle.update_chain.specs.Updates.{IsOlder, read_of}
use Rattle.update_chain.specs.Answers.{ViewStands, is_admitted, content_of}
use Rattle.update_chain.specs.EventLaws.{StandsFor}

-- neither chain nor cell gives the transaction anything
pub record GivesNothing (m : Machine) (t : Transaction) (view : View) (chain : List Update) (cell : Option (Version Change)) : Type 0 where
  pub in_chain : read_of view chain ≡ IsOlder
  pub in_cell : (v : Version Change) → cell ≡ Some v → is_admitted m t v ≡ false

-- what the newest admitted record gives after events of others is the answer of the first look, where the frame gives nothing at either
abbrev pub LaterLooksAnswer : Type 0
LaterLooksAnswer = (m : Machine) (events : List Event) (s : ℕ) (t : Transaction) (view : View) (table : ℕ) (key : List ℕ)
    (chain : List Update) (cell : Option (Version Change)) (records : List (Version Change)) (now : List Update) (now_cell : Option (Version Change)) (now_records : List (Version Change)) (found : Option (Version Change))
    → Valid m → EachMayCome m events → AllOfOthers s events → transaction_of m s ≡ Some t → t.phase ≡ Running → ViewStands m t view
    → StandsFor m table key chain cell records → GivesNothing m t view chain cell
    → StandsFor (after_all m events) table key now now_cell now_records → GivesNothing (after_all m events) t view now now_cell
    → Picks Older (Held now_records) (is_admitted (after_all m events) t) found
    → ReadAnswer m s t table key (Value (content_of found))
