-- A machine that has just started: with the session and the transaction of `read`, and what its gets answer there.
use Rattle.std.specs.Prelude.{◌≡◌, ◌⊎◌, ℕ, ◌≤◌, nat_lt, not, IsTrue, List, length, Option, Some, None, Result, Ok, Err, if◌then◌else◌}
use Rattle.limits.specs.declared.TheConstants.{KEY_MAX}
use Rattle.failure.specs.Counts.{Rose}
use Rattle.wt_code.specs.declared.answers.Answer.{Answer}
use Rattle.wt_code.specs.declared.answers.Answer.TheVariants.{Value, Refused}
use Rattle.wt_code.specs.declared.refusals.Refusal.{Refusal}
use Rattle.wt_code.specs.declared.refusals.Refusal.TheVariants.{NotFound, NoMemory, NoTable, DiskFault, Invalid as Refusal_Invalid}
use Rattle.wt_code.specs.declared.refusals.Invalid.TheVariants.{BadName, KeyLong}
use Rattle.kv_model.specs.Content.{Content, start}
use Rattle.kv_model.specs.History.{Table, tables, named}
use Rattle.kv_model.specs.Machine.{Machine, OpenSession, BeginAt, after}
use Rattle.kv_model.specs.Decisions.{is_name}
use Rattle.item_forms.specs.Forms.{stored_as}
use Rattle.wt_tool.specs.Openings.{formats_at}
use Rattle.device_read.specs.Rows.{value_in}

-- ---- the machine

-- the machine that an opening makes, with a session
abbrev pub opened_fresh : Content → Machine
opened_fresh c = after (start c) OpenSession

-- and with its transaction begun, which reads all that is there
abbrev pub begun_fresh : Content → Machine
begun_fresh c = after (opened_fresh c) (BeginAt 0 0)

-- ---- what a get answers

-- a word as the table of this name stores a key; where there is no table, as it is
abbrev pub key_in : Content → List ℕ → List ℕ → List ℕ
key_in c name word = stored_as (formats_at (start c) name).key word

-- by the value of the key
abbrev pub answer_of : Option (List ℕ) → Answer (List ℕ)
answer_of None = Refused NotFound
answer_of (Some value) = Value value

-- by the table of the name
abbrev pub answer_at : Content → List ℕ → Option Table → Answer (List ℕ)
answer_at c key None = Refused NoTable
answer_at c key (Some t) = answer_of (value_in c t.number key)

-- Where nothing holds it up. The name is looked at first, then the length of the key, as it is stored, then the table, and the value last.
abbrev pub answer_in : Content → (name key : List ℕ) → Answer (List ℕ)
answer_in c name key =
    if not (is_name name) then Refused (Refusal_Invalid BadName)
    else if nat_lt KEY_MAX (length key) then Refused (Refusal_Invalid (KeyLong (length key)))
    else answer_at c key (named name (tables (start c).history))

-- the get comes as far as the rows of this table
pub record Reaches (c : Content) (name key : List ℕ) (t : Table) : Type 0 where
  pub named_so : IsTrue (is_name name)
  pub short : length key ≤ KEY_MAX
  pub there : named name (tables (start c).history) ≡ Some t

-- Want of memory may hold it up at any time, a fault of the disk only once it comes to the rows.
abbrev pub MayGive : Content → (name key : List ℕ) → (faults faults_now : ℕ) → Answer (List ℕ) → Type 0
MayGive c name key faults faults_now answer =
    (answer ≡ answer_in c name key)
    ⊎ ((answer ≡ Refused NoMemory)
    ⊎ ((answer ≡ Refused DiskFault) × Rose faults faults_now × ((t : Table) × Reaches c name key t)))

-- what a get that was made gives
abbrev pub given_by : Result (List ℕ) Refusal → Answer (List ℕ)
given_by (Ok value) = Value value
given_by (Err r) = Refused r
