-- What a look at a leaf makes of it and of the session.
use Rattle.std.specs.Prelude.{◌≡◌, ◌⊎◌, ℕ, ◌==◌, Bool, true, false, List, [], ◌∷◌, ◌++◌, Option, Some, None, if◌then◌else◌, slice_get}
use Rattle.item.specs.declared.Change.{Change}
use Rattle.item.specs.declared.Change.TheVariants.{Put, Remove}
use Rattle.stamp.specs.declared.Name.{Name}
use Rattle.stamp.specs.declared.Version.{Version}
use Rattle.stamp.specs.declared.View.{View}
use Rattle.wt_code.specs.declared.answers.Answer.{Answer}
use Rattle.wt_code.specs.declared.answers.Answer.TheVariants as answer
use Rattle.wt_code.specs.declared.refusals.Refusal.{Refusal}
use Rattle.wt_code.specs.declared.refusals.Refusal.TheVariants as refusal
use Rattle.kv_model.specs.Machine.{of_some}
use Rattle.kv_model.specs.Rows.{Way, is_past, comes_after}
use Rattle.reconcile.specs.Shows.{shown_at}
use Rattle.txn_table.specs.declared.phase.Phase.TheVariants as phase
use Rattle.update_chain.specs.declared.look.Judgement.{Judgement}
use Rattle.update_chain.specs.declared.look.Judgement.TheVariants as judgement
use Rattle.update_chain.specs.declared.update.Update.{Update}
use Rattle.update_chain.specs.Updates.{Reply, Gives, IsRemoved, Conflicts, IsOlder, is_led_by, is_named, unmarked_update}
use Rattle.update_chain.specs.Writing.{judgement_by}
use Rattle.leaf_chains.specs.Slots.{chain_at, slot_of, with_update}
use Rattle.leaf_frame.specs.Leaf.{HeldLeaf}
use Rattle.leaf_frame.specs.Looks.{read_at}
use Rattle.leaf_frame.specs.Walks.{Walked, onward}
use Rattle.wt_calls.specs.declared.demand.Demand.{Demand}
use Rattle.wt_calls.specs.declared.demand.Demand.TheVariants as demand
use Rattle.wt_calls.specs.Calls.{way_in}
use Rattle.call_steps.specs.declared.cursor.Cursor.{Cursor}
use Rattle.call_steps.specs.declared.cursor.Position.{Position}
use Rattle.call_steps.specs.declared.looks.Found.{Found}
use Rattle.call_steps.specs.declared.looks.Found.TheVariants as found
use Rattle.call_steps.specs.declared.rows.RowFound.{RowFound}
use Rattle.call_steps.specs.declared.rows.RowFound.TheVariants as row
use Rattle.call_steps.specs.declared.rows.Stepped.{Stepped}
use Rattle.call_steps.specs.declared.rows.Stepped.TheVariants as stepped
use Rattle.call_steps.specs.declared.stage.KeyCall.{KeyCall}
use Rattle.call_steps.specs.declared.stage.KeyCall.TheVariants as call
use Rattle.call_steps.specs.declared.stage.Stage.TheVariants as stage
use Rattle.call_steps.specs.declared.stage.Target.{Target}
use Rattle.call_steps.specs.declared.written.WrittenKey.{WrittenKey}
use Rattle.call_steps.specs.State.{State, at_stage, answered, clears}

abbrev pub refused : Refusal → Answer (List ℕ)
refused r = answer.Refused r

abbrev pub no_memory : Answer (List ℕ)
no_memory = refused refusal.NoMemory

abbrev pub own_name : View → Name
own_name view = record { run = view.run; id = view.own }

-- ---- reads

-- what the leaf gives: a copy of the value, or want of memory for it
abbrev pub ReadBy : Reply → KeyCall → Target → State → State → Type 0
ReadBy (Gives v) call target s s' = (s' ≡ answered call target (answer.Value v) s) ⊎ (s' ≡ answered call target no_memory s)
ReadBy IsRemoved call target s s' = s' ≡ answered call target (refused refusal.NotFound) s
ReadBy (Conflicts id) call target s s' = s' ≡ answered call target (refused (refusal.PrepareConflict id)) s
ReadBy IsOlder call target s s' = s' ≡ at_stage (stage.History call target) s

-- ---- writes

abbrev pub is_put : Change → Bool
is_put (Put value) = true
is_put Remove = false

-- by the demand, and whether the key has a value
abbrev pub free_or_unmet : Demand → Bool → Bool → Found
free_or_unmet demand.Vacant true led = found.Unmet refusal.DuplicateKey
free_or_unmet demand.Occupied false led = found.Unmet refusal.NotFound
free_or_unmet _ there led = found.Free led

abbrev pub found_by : Judgement → View → Demand → Update → Found
found_by judgement.Allowed view demand u = free_or_unmet demand (is_put u.version.change) (is_named (own_name view) u)
found_by (judgement.Refused name) view demand u = found.Conflict name

abbrev pub found_over : View → Demand → Update → Found
found_over view demand u = found_by (judgement_by view u) view demand u

-- what a write finds at a key without updates, by its row
abbrev pub found_under : Judgement → Demand → Version Change → Found
found_under judgement.Allowed demand v = free_or_unmet demand (is_put v.change) false
found_under (judgement.Refused name) demand v = found.Conflict name

-- what a write finds at a key with this chain over this row
abbrev pub write_found : View → Demand → List Update → Option (Version Change) → Found
write_found view demand (u ∷ older) row = found_over view demand u
write_found view demand [] None = free_or_unmet demand false false
write_found view demand [] (Some v) = found_under (judgement_by view (unmarked_update v)) demand v

abbrev pub update_by : Name → Change → Update
update_by name change = record { version = record { window = record { name = name; commit = 0; durable = 0 }; change = change }; prepared = 0 }

-- a key is noted with the first update of the transaction
abbrev pub noted : Bool → WrittenKey → State → State
noted true k s = s
noted false k s = record s { written = s.written ++ k ∷ [] }

-- the update stands on top of the chain of its key, which is noted
pub record IsInstalled (name : Name) (frame : ℕ) (change : Change) (led : Bool) (leaf : HeldLeaf) (s : State) (leaf' : HeldLeaf) (s' : State) : Type 0 where
  pub slot : ℕ
  pub leaf_is : leaf' ≡ record leaf { chains = with_update s.key (update_by name change) leaf.chains }
  pub there : slot_of s.key leaf'.chains ≡ Some slot
  pub state : s' ≡ noted led (record { frame = frame; slot = slot }) s

-- it is installed, or memory was too short
abbrev pub AcceptedBy : Name → KeyCall → Target → Change → HeldLeaf → State → HeldLeaf → State → Type 0
AcceptedBy name call target change leaf s leaf' s' =
    ((middle : State) × IsInstalled name target.frame change (is_led_by name (chain_at s.key leaf.chains)) leaf s leaf' middle × (s' ≡ clears call target answer.Done middle))
    ⊎ ((leaf' ≡ leaf) × (s' ≡ clears call target no_memory s))

-- the transaction can be rolled back, no more
abbrev pub conflicts : KeyCall → Target → Name → State → State
conflicts call target name s = clears call target (refused (refusal.Rollback name.run name.id)) (record s { phase = phase.Failed })

abbrev pub FoundBy : Found → Name → KeyCall → Target → Change → HeldLeaf → State → HeldLeaf → State → Type 0
FoundBy (found.Conflict other) name call target change leaf s leaf' s' = (leaf' ≡ leaf) × (s' ≡ conflicts call target other s)
FoundBy (found.Unmet r) name call target change leaf s leaf' s' = (leaf' ≡ leaf) × (s' ≡ clears call target (refused r) s)
FoundBy (found.Free led) name call target change leaf s leaf' s' = AcceptedBy name call target change leaf s leaf' s'

abbrev pub WrittenBy : View → KeyCall → Target → Demand → Change → HeldLeaf → State → HeldLeaf → State → Type 0
WrittenBy view call target demand change leaf s leaf' s' = FoundBy (write_found view demand (chain_at s.key leaf.chains) (shown_at s.key leaf.page)) (own_name view) call target change leaf s leaf' s'

-- ---- rows

-- a read of the key gives neither a value nor a conflict
abbrev pub IsSilent : View → List ℕ → HeldLeaf → Type 0
IsSilent view key leaf = (read_at view key leaf ≡ IsRemoved) ⊎ (read_at view key leaf ≡ IsOlder)

abbrev pub SilentBefore : View → Way → Option (List ℕ) → List ℕ → HeldLeaf → Type 0
SilentBefore view way from key leaf = (k : List ℕ) → is_past way from k ≡ true → comes_after way k key ≡ true → IsSilent view k leaf

-- the nearest key on the way that is not silent, which gives this
pub record IsNearestRow (view : View) (way : Way) (from : Option (List ℕ)) (leaf : HeldLeaf) (key : List ℕ) (reply : Reply) : Type 0 where
  pub past : is_past way from key ≡ true
  pub reads : read_at view key leaf ≡ reply
  pub before : SilentBefore view way from key leaf

abbrev pub NoRow : View → Way → Option (List ℕ) → HeldLeaf → Type 0
NoRow view way from leaf = (k : List ℕ) → is_past way from k ≡ true → IsSilent view k leaf

-- where a cursor starts on a table
abbrev pub starts_from : ℕ → Option Position → Option (List ℕ)
starts_from table None = None
starts_from table (Some p) = if p.table == table then Some p.key else None

abbrev pub start_in : List Cursor → ℕ → ℕ → Option (List ℕ)
start_in cursors cursor table = of_some None (λ (k : Cursor). starts_from table k.position) (slice_get cursors cursor)

abbrev pub from_of : State → ℕ → ℕ → Option (List ℕ)
from_of s cursor table = start_in s.cursors cursor table

-- what a search for a row finds
abbrev pub RowFoundBy : View → Way → Option (List ℕ) → HeldLeaf → RowFound → Type 0
RowFoundBy view way from leaf (row.Row key v) = IsNearestRow view way from leaf key.now (Gives v.now)
RowFoundBy view way from leaf (row.Conflict id) = (key : List ℕ) × IsNearestRow view way from leaf key (Conflicts id)
RowFoundBy view way from leaf row.End = NoRow view way from leaf

-- the way goes on behind the key that gave it, or has no row further on
abbrev pub GoesBehind : View → RowFound → Walked → Walked → Type 0
GoesBehind view (row.Row key v) w w' = w' ≡ onward key.now w
GoesBehind view (row.Conflict id) w w' = (key : List ℕ) × IsNearestRow view w.way w.from w.leaf key (Conflicts id) × (w' ≡ onward key w)
GoesBehind view row.End w w' = (w'.way ≡ w.way) × (w'.leaf ≡ w.leaf) × NoRow view w.way w'.from w.leaf

-- a row that is found, copied, with its key once more for the cursor
abbrev pub StepsAs : RowFound → Stepped → Type 0
StepsAs (row.Row key v) (stepped.Row k w kept) = (k ≡ key.now) × (w ≡ v.now) × (kept ≡ key.now)
StepsAs (row.Conflict id) (stepped.Conflict other) = other ≡ id
StepsAs row.End stepped.End = Unit {0}
StepsAs _ _ = ⊥

-- the key of the row is kept for the cursor; without a row the next leaf is to be looked at
abbrev pub SteppedBy : View → Way → Option (List ℕ) → KeyCall → Target → HeldLeaf → State → State → Type 0
SteppedBy view way from call target leaf s s' =
    ((key v : List ℕ) × IsNearestRow view way from leaf key (Gives v) × (s' ≡ answered call target (answer.Row key v) (record s { key = key })))
    ⊎ (((key : List ℕ) × (id : ℕ) × IsNearestRow view way from leaf key (Conflicts id) × (s' ≡ answered call target (refused (refusal.PrepareConflict id)) s))
    ⊎ ((NoRow view way from leaf × (s' ≡ at_stage (stage.Pass call target) s))
    ⊎ (s' ≡ answered call target no_memory s)))

-- ---- any of them

abbrev pub without_value : State → State
without_value s = record s { value = [] }

abbrev pub LookedBy : KeyCall → View → Target → HeldLeaf → State → HeldLeaf → State → Type 0
LookedBy call.Get view target leaf s leaf' s' = (leaf' ≡ leaf) × ReadBy (read_at view s.key leaf) call.Get target s s'
LookedBy (call.Seek cursor) view target leaf s leaf' s' = (leaf' ≡ leaf) × ReadBy (read_at view s.key leaf) (call.Seek cursor) target s s'
LookedBy (call.Put demand) view target leaf s leaf' s' = WrittenBy view (call.Put demand) target demand (Put s.value) leaf (without_value s) leaf' s'
LookedBy call.Remove view target leaf s leaf' s' = WrittenBy view call.Remove target demand.Occupied Remove leaf s leaf' s'
LookedBy (call.Step cursor way) view target leaf s leaf' s' =
    (leaf' ≡ leaf) × SteppedBy view (way_in way) (from_of s cursor target.table) (call.Step cursor way) target leaf s s'
