-- What the event that finds the table of a call checks, by the model and by the engine.
use Rattle.std.proofs.Common.{◌≡◌, ◌⊎◌, ◌<◌, ◌≤◌, ◌+◌, ◌*◌, ◌^◌, ℕ, refl, ap, sym, ◌∙◌, Bool, true, false, ◌&&◌, List, [], ◌∷◌, length, inl, inr, subst, arith}
use Rattle.std.specs.Prelude.{Option, Some, None, option_and_then, slice_get, nat_lt, not, ◌==◌, if◌then◌else◌, reverse, option_map}
use Rattle.std.specs.List.{Contains}
use Rattle.std.proofs.lemmas.Bool.{cases_eq, both_ways, eqb-true, eq-eqb}
use Rattle.limits.specs.declared.TheConstants.{KEY_MAX, VALUE_MAX, NUMBER_MAX}
use Rattle.item.specs.declared.Change.TheVariants.{Put as PutOf, Remove as RemoveOf}
use Rattle.wt_code.specs.declared.answers.Answer.TheVariants as answers
use Rattle.wt_code.specs.declared.refusals.Refusal.{Refusal}
use Rattle.wt_code.specs.declared.refusals.Refusal.TheVariants as told
use Rattle.wt_code.specs.declared.refusals.Invalid.{Invalid}
use Rattle.wt_code.specs.declared.refusals.Invalid.TheVariants as why
use Rattle.wt_code.specs.declared.refusals.Limit.TheVariants as counted
use Rattle.kv_model.specs.History.{Table as KnownTable, tables, named}
use Rattle.kv_model.specs.Machine.{Machine, Transaction, of_some, Event, DrawId, Nothing, after}
use Rattle.kv_model.specs.Refusals.{first_of}
use Rattle.kv_model.specs.Decisions.{Outcome, Done, Request, FindKey, FindToWrite, FindRow, refused, invalid, checked, running_session, judged, is_on_page, is_name, is_there, table_checks, key_checks, write_checks, id_drawn}
use Rattle.kv_model.specs.Calls.{Call}
use Rattle.tree_dir.specs.declared.leaf.Leaf.{Leaf}
use Rattle.tree_dir.specs.Leaves.{Directory, IsDirectory}
use Rattle.txn_table.specs.SessionData.{SessionData}
use Rattle.txn_table.specs.Tabled.{Table, session_of, drawn}
use Rattle.catalog.specs.Known.{Known, AreTables, place_of}
use Rattle.catalog.proofs.Turning.{turn_named, places_named}
use Rattle.wt_calls.specs.Calls.{way_in}
use Rattle.call_steps.specs.declared.reply.Reply.TheVariants as reply
use Rattle.call_steps.specs.declared.stage.KeyCall.{KeyCall}
use Rattle.call_steps.specs.declared.stage.KeyCall.TheVariants as key_call
use Rattle.call_steps.specs.declared.stage.Stage.{Stage}
use Rattle.call_steps.specs.Stages.{is_write}
use Rattle.call_steps.specs.HubEvents.{item_checks, draws}
use Rattle.call_steps.specs.State.{State, at_stage}
use Rattle.call_steps.specs.Tables.{leaf_for, leaf_sought, sought, stage_for, stage_of}
use Rattle.engine_world.specs.Walks.{leaves_on}
use Rattle.engine_world.specs.Worlds.{Resting, Placed}
use Rattle.engine_world.specs.Doings.{call_in, find_left, further_from}
use Rattle.engine_world.specs.Leaves.{TablesBegun}
use Rattle.engine_world.specs.Steps.{Finds, FoundBy, Judges, Made as Left}
use Rattle.engine_world.specs.Stages.{NamesOnly}
use Rattle.engine_world.proofs.HubMoves.{SetsSeat}
use Rattle.engine_world.proofs.Seeking.{sought-some}
use Rattle.engine_world.proofs.WalkCounts.{leaves-few}
use Rattle.engine_world.proofs.WalkKeys.{sought-there}

-- ---- the checks

-- a call's first event, as the model asks for it
abbrev pub request_in : KeyCall → State → Request
request_in key_call.Get a = FindKey a.name a.key
request_in (key_call.Put demand) a = FindToWrite a.name a.key (PutOf a.value)
request_in key_call.Remove a = FindToWrite a.name a.key RemoveOf
request_in (key_call.Seek cursor) a = FindKey a.name a.key
request_in (key_call.Step cursor way) a = FindRow a.name

-- what is judged of a transaction that runs
abbrev pub judged_in : KeyCall → State → Machine → ℕ → Transaction → Outcome × Event
judged_in key_call.Get a m session t = checked (key_checks m a.name a.key) (Done, Nothing)
judged_in (key_call.Put demand) a m session t = checked (write_checks m a.name a.key (PutOf a.value)) (id_drawn m session t)
judged_in key_call.Remove a m session t = checked (write_checks m a.name a.key RemoveOf) (id_drawn m session t)
judged_in (key_call.Seek cursor) a m session t = checked (key_checks m a.name a.key) (Done, Nothing)
judged_in (key_call.Step cursor way) a m session t = checked ((not (is_name a.name), told.Invalid why.BadName) ∷ table_checks m a.name) (Done, Nothing)

abbrev pub draw_by : Bool → Bool → ℕ → Outcome × Event
draw_by draws full session = if draws then checked ((full, told.Limit counted.Ids) ∷ []) (Done, DrawId session) else (Done, Nothing)

-- where no check refuses: a write draws its id
abbrev pub goes_in : KeyCall → Machine → ℕ → Transaction → Outcome × Event
goes_in call m session t = draw_by (is_write call && (t.id == 0)) (nat_lt NUMBER_MAX m.next) session

abbrev pub named_by : Option KnownTable → Outcome × Event → Outcome × Event
named_by o go = checked ((not (is_there o), told.NoTable) ∷ []) go

abbrev pub named_then : Machine → List ℕ → Outcome × Event → Outcome × Event
named_then m name go = named_by (named name (tables m.history)) go

abbrev pub checked_then : Option Invalid → Outcome × Event → Outcome × Event
checked_then o go = of_some go (λ (reason : Invalid). invalid reason) o

-- the checks of the name, the key and the value
abbrev pub items : List ℕ → List ℕ → List ℕ → List (Bool × Invalid)
items name key value =
    (not (is_name name), why.BadName) ∷ ((nat_lt KEY_MAX (length key), why.KeyLong (length key))
    ∷ ((nat_lt VALUE_MAX (length value), why.ValueLong (length value)) ∷ []))

pub judged-as : (call : KeyCall) (a : State) (m : Machine) (session : ℕ) → judged m session (request_in call a) ≡ running_session m session (judged_in call a m session)
judged-as key_call.Get a m session = refl
judged-as (key_call.Put demand) a m session = refl
judged-as key_call.Remove a m session = refl
judged-as (key_call.Seek cursor) a m session = refl
judged-as (key_call.Step cursor way) a m session = refl

pub off-page : (call : KeyCall) (a : State) (m : Machine) (session : ℕ) → is_on_page m session (request_in call a) ≡ false
off-page key_call.Get a m session = refl
off-page (key_call.Put demand) a m session = refl
off-page key_call.Remove a m session = refl
off-page (key_call.Seek cursor) a m session = refl
off-page (key_call.Step cursor way) a m session = refl

-- a value that is put
pub puts-checked : (m : Machine) (name key value : List ℕ) (go : Outcome × Event) → checked (write_checks m name key (PutOf value)) go ≡ checked_then (first_of (items name key value)) (named_then m name go)
puts-checked m name key value go = three (not (is_name name)) (nat_lt KEY_MAX (length key)) (nat_lt VALUE_MAX (length value)) where
  three : (b c d : Bool)
      → checked ((b, told.Invalid why.BadName) ∷ ((c, told.Invalid (why.KeyLong (length key))) ∷ ((d, told.Invalid (why.ValueLong (length value))) ∷ table_checks m name))) go
      ≡ checked_then (first_of ((b, why.BadName) ∷ ((c, why.KeyLong (length key)) ∷ ((d, why.ValueLong (length value)) ∷ [])))) (named_then m name go)
  three true c d = refl
  three false true d = refl
  three false false true = refl
  three false false false = refl

-- there is no value
pub removes-checked : (m : Machine) (name key : List ℕ) (go : Outcome × Event) → checked (write_checks m name key RemoveOf) go ≡ checked_then (first_of (items name key [])) (named_then m name go)
removes-checked m name key go = two (not (is_name name)) (nat_lt KEY_MAX (length key)) where
  two : (b c : Bool)
      → checked ((b, told.Invalid why.BadName) ∷ ((c, told.Invalid (why.KeyLong (length key))) ∷ ((nat_lt VALUE_MAX 0, told.Invalid (why.ValueLong 0)) ∷ table_checks m name))) go
      ≡ checked_then (first_of ((b, why.BadName) ∷ ((c, why.KeyLong (length key)) ∷ ((nat_lt VALUE_MAX 0, why.ValueLong 0) ∷ [])))) (named_then m name go)
  two true c = refl
  two false true = refl
  two false false = refl

pub keys-checked : (m : Machine) (name key : List ℕ) (go : Outcome × Event) → checked (key_checks m name key) go ≡ checked_then (first_of (items name key [])) (named_then m name go)
keys-checked m name key go = two (not (is_name name)) (nat_lt KEY_MAX (length key)) where
  two : (b c : Bool)
      → checked ((b, told.Invalid why.BadName) ∷ ((c, told.Invalid (why.KeyLong (length key))) ∷ table_checks m name)) go
      ≡ checked_then (first_of ((b, why.BadName) ∷ ((c, why.KeyLong (length key)) ∷ ((nat_lt VALUE_MAX 0, why.ValueLong 0) ∷ [])))) (named_then m name go)
  two true c = refl
  two false true = refl
  two false false = refl

-- there is no key either
pub rows-checked : (m : Machine) (name : List ℕ) (go : Outcome × Event)
    → checked ((not (is_name name), told.Invalid why.BadName) ∷ table_checks m name) go ≡ checked_then (first_of (items name [] [])) (named_then m name go)
rows-checked m name go = one (not (is_name name)) where
  one : (b : Bool)
      → checked ((b, told.Invalid why.BadName) ∷ table_checks m name) go
      ≡ checked_then (first_of ((b, why.BadName) ∷ ((nat_lt KEY_MAX 0, why.KeyLong 0) ∷ ((nat_lt VALUE_MAX 0, why.ValueLong 0) ∷ [])))) (named_then m name go)
  one true = refl
  one false = refl

-- the same order of checks, where a call has no more than it names
pub checks-agree : (call : KeyCall) (a : State) (m : Machine) (session : ℕ) (t : Transaction) → NamesOnly call a
    → judged_in call a m session t ≡ checked_then (first_of (item_checks a)) (named_then m a.name (goes_in call m session t))
checks-agree key_call.Get a m session t only = keys-checked m a.name a.key (Done, Nothing)
    ∙ ap (λ (v : List ℕ). checked_then (first_of (items a.name a.key v)) (named_then m a.name (Done, Nothing))) (sym only)
checks-agree (key_call.Put demand) a m session t only = puts-checked m a.name a.key a.value (id_drawn m session t)
checks-agree key_call.Remove a m session t only = removes-checked m a.name a.key (id_drawn m session t)
    ∙ ap (λ (v : List ℕ). checked_then (first_of (items a.name a.key v)) (named_then m a.name (id_drawn m session t))) (sym only)
checks-agree (key_call.Seek cursor) a m session t only = keys-checked m a.name a.key (Done, Nothing)
    ∙ ap (λ (v : List ℕ). checked_then (first_of (items a.name a.key v)) (named_then m a.name (Done, Nothing))) (sym only)
checks-agree (key_call.Step cursor way) a m session t only = rows-checked m a.name (Done, Nothing)
    ∙ (ap (λ (k : List ℕ). checked_then (first_of (items a.name k [])) (named_then m a.name (Done, Nothing))) (sym only.0)
    ∙ ap (λ (v : List ℕ). checked_then (first_of (items a.name a.key v)) (named_then m a.name (Done, Nothing))) (sym only.1))

-- ---- the table of a name

-- there is none
pub record NotThere (known : Known) (leaves : List Leaf) (m : Machine) (call : KeyCall) (a : State) : Type 0 where
  pub to : stage_of known leaves call a ≡ None
  pub table : named a.name (tables m.history) ≡ None

-- it stands at a place, and has a leaf at which the call begins
pub record StandsAt (known : Known) (leaves : List Leaf) (m : Machine) (call : KeyCall) (a : State) : Type 0 where
  pub of : KnownTable
  pub leaf : Leaf
  pub there : Contains leaves leaf
  pub number : leaf.table ≡ of.number
  pub sought : leaf_sought leaves leaf.table (sought call a leaf.table) ≡ Some leaf
  pub to : stage_of known leaves call a ≡ Some (stage_for call leaf)
  pub table : named a.name (tables m.history) ≡ Some of

abbrev stage_in : List Leaf → KeyCall → State → Option KnownTable → Option Stage
stage_in leaves call a o = option_map (stage_for call) (option_and_then (leaf_for leaves call a) o)

module _ (known : Known) (d : Directory) (m : Machine) (call : KeyCall) (a : State) where
  -- the leaf of a table that is known
  found-leaf : (t : KnownTable) → IsDirectory d → (l : Leaf) → Contains d.leaves l → l.table ≡ t.number → (n : Leaf) → leaf_sought d.leaves t.number (sought call a t.number) ≡ Some n
      → stage_of known d.leaves call a ≡ stage_in d.leaves call a (Some t) → named a.name (tables m.history) ≡ Some t → StandsAt known d.leaves m call a
  found-leaf t is l l_there own n begins to named = record {
    of = t;
    leaf = n;
    there = has.0;
    number = has.1;
    sought = ap (λ k. leaf_sought d.leaves k (sought call a k)) has.1 ∙ begins;
    to = to ∙ ap (option_map (stage_for call)) begins;
    table = named;
  } where
    has : Contains d.leaves n × (n.table ≡ t.number)
    has = sought-there d t.number (sought call a t.number) n is begins

  pub find-name : AreTables known → reverse known.tables ≡ tables m.history → IsDirectory d → TablesBegun known.tables d.leaves
      → NotThere known d.leaves m call a ⊎ StandsAt known d.leaves m call a
  find-name are made is begun = by-place (place_of a.name known.tables) refl where
    table-is : named a.name (tables m.history) ≡ option_and_then (λ place. slice_get known.tables place) (place_of a.name known.tables)
    table-is = ap (λ l. named a.name l) (sym made) ∙ (turn_named known.tables are.distinct a.name ∙ places_named known.tables a.name)

    by-table : (place : ℕ) → place_of a.name known.tables ≡ Some place → (o : Option KnownTable) → slice_get known.tables place ≡ o → NotThere known d.leaves m call a ⊎ StandsAt known d.leaves m call a
    by-table place at None none = inl (record {
      to = ap (λ (o : Option ℕ). stage_in d.leaves call a (option_and_then (λ place. slice_get known.tables place) o)) at ∙ ap (stage_in d.leaves call a) none;
      table = table-is ∙ (ap (λ (o : Option ℕ). option_and_then (λ place. slice_get known.tables place) o) at ∙ none);
    })
    by-table place at (Some t) there =
        let l = begun place t there in
        let n = sought-some d l.0 (sought call a t.number) is l.1 in
        inr (found-leaf t is l.0 l.1 l.2 n.0 (ap (λ k. leaf_sought d.leaves k (sought call a t.number)) (sym l.2) ∙ n.1)
        (ap (λ (o : Option ℕ). stage_in d.leaves call a (option_and_then (λ place. slice_get known.tables place) o)) at ∙ ap (stage_in d.leaves call a) there)
        (table-is ∙ (ap (λ (o : Option ℕ). option_and_then (λ place. slice_get known.tables place) o) at ∙ there)))

    by-place : (o : Option ℕ) → place_of a.name known.tables ≡ o → NotThere known d.leaves m call a ⊎ StandsAt known d.leaves m call a
    by-place None none = inl (record {
      to = ap (λ (o : Option ℕ). stage_in d.leaves call a (option_and_then (λ place. slice_get known.tables place) o)) none;
      table = table-is ∙ ap (λ (o : Option ℕ). option_and_then (λ place. slice_get known.tables place) o) none;
    })
    by-place (Some place) at = by-table place at (slice_get known.tables place) refl

-- ---- ids

-- a call that draws none writes nothing, or has its id
pub has-id : (b : Bool) (n : ℕ) → (b && (n == 0)) ≡ false → b ≡ true → 0 < n
has-id true n none is = elim (cases_eq n 0) [ inl zero ↦ absurd (both_ways (n == 0) none (eq-eqb n 0 zero)) | inr other ↦ omega arith ]
has-id false n none is = absurd (cc)

pub has-none : (b : Bool) (n : ℕ) → (b && (n == 0)) ≡ true → n ≡ 0
has-none true n is = eqb-true n 0 is
has-none false n is = absurd (cc)

abbrev pub drawn_seat : Table → ℕ → SessionData
drawn_seat t session = record (session_of t session) { id = t.next }

pub drawn-seat : (t : Table) (session : ℕ) → SetsSeat t (drawn t session) session (drawn_seat t session)
drawn-seat t session = record { run = refl; sessions = refl }

-- ---- the world's step

pub call-kept : (call : KeyCall) (g : Stage) (a : State) → call_in call (at_stage g a) ≡ call_in call a
call-kept key_call.Get g a = refl
call-kept (key_call.Put demand) g a = refl
call-kept key_call.Remove g a = refl
call-kept (key_call.Seek cursor) g a = refl
call-kept (key_call.Step cursor way) g a = refl

pub judges : (call : KeyCall) (a : State) (m : Machine) (session left : ℕ) (made : Left) → Finds m session (request_in call a) (call_in call a) a.name left made → Judges (call_in call a) m session left made
judges key_call.Get a m session left made found = found
judges (key_call.Put demand) a m session left made found = found
judges key_call.Remove a m session left made found = found
judges (key_call.Seek cursor) a m session left made found = found
judges (key_call.Step cursor way) a m session left made found = found

pub found-refused : (d : Outcome × Event) (r : Refusal) (m : Machine) (call : Call) (name : List ℕ) (left : ℕ) → d ≡ refused r
    → FoundBy d.0 d.1 m call name left (record { told = reply.Answer (answers.Refused r); machine = m; doing = Resting })
found-refused d r m call name left is =
    subst (λ (d : Outcome × Event). FoundBy d.0 d.1 m call name left (record { told = reply.Answer (answers.Refused r); machine = m; doing = Resting })) (sym is) refl

abbrev pub placed : Machine → Call → ℕ → ℕ → Left
placed next call left table = record { told = reply.More; machine = next; doing = Placed call table left }

pub found-done : (d : Outcome × Event) (event : Event) (m : Machine) (call now : Call) (name : List ℕ) (table : KnownTable) (number fewer : ℕ) → d ≡ (Done, event) → now ≡ call → named name (tables (after m event).history) ≡ Some table
    → number ≡ table.number → fewer < find_left → FoundBy d.0 d.1 m call name find_left (placed (after m event) now fewer number)
found-done d event m call now name table number fewer is same there of less =
    subst (λ (d : Outcome × Event). FoundBy d.0 d.1 m call name find_left (placed (after m event) now fewer number)) (sym is)
    (table, there, (fewer, less, ap (λ (c : Call). placed (after m event) c fewer number) same ∙ ap (placed (after m event) call fewer) of))

-- a call that goes to a leaf has fewer steps left
less-left : (k n : ℕ) → k ≤ n → n ≤ 2 ^ 28 → 7 + 5 * k < 8 + 5 * 2 ^ 28
less-left k n less few = omega (arith, less, few)

none-left : 7 + 5 * 0 < 8 + 5 * 2 ^ 28
none-left = omega arith

pub placed-less : (call : KeyCall) (table id : ℕ) (leaves : List Leaf) → length leaves ≤ 2 ^ 28 → 7 + further_from call table id leaves < find_left
placed-less (key_call.Step cursor way) table id leaves few = less-left (leaves_on (way_in way) table id leaves) (length leaves) (leaves-few (way_in way) table id leaves) few
placed-less key_call.Get table id leaves few = none-left
placed-less (key_call.Put demand) table id leaves few = none-left
placed-less key_call.Remove table id leaves few = none-left
placed-less (key_call.Seek cursor) table id leaves few = none-left
