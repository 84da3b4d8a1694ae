-- What stands at each stage of a session's call.
use Rattle.std.specs.Prelude.{◌≡◌, ◌⊎◌, ◌<◌, ◌≤◌, ◌+◌, ◌*◌, ℕ, Bool, true, List, [], length, Some, None}
use Rattle.std.specs.List.{Contains}
use Rattle.wt_code.specs.declared.refusals.Refusal.TheVariants.{NotFound}
use Rattle.kv_model.specs.History.{Write, line}
use Rattle.kv_model.specs.Holds.{Member}
use Rattle.kv_model.specs.Machine.{Machine, Transaction, Phase, Running, Failed, Prepared, Resolving, Leaving, transaction_of, name_of, cursor_of}
use Rattle.kv_model.specs.Allowed.{HasTransaction}
use Rattle.kv_model.specs.Decisions.{Refused, is_there}
use Rattle.kv_model.specs.Pending.{NoneOf}
use Rattle.kv_model.specs.Reads.{IsEnding, ReadAnswer}
use Rattle.kv_model.specs.Refusals.{stamp_of, or_stamp}
use Rattle.kv_model.specs.Rows.{Way, RangeAnswer, is_past, starts_at}
use Rattle.tree_dir.specs.declared.leaf.Leaf.{Leaf}
use Rattle.tree_dir.specs.Leaves.{leaf_under}
use Rattle.update_chain.specs.EventLaws.{outcome}
use Rattle.wt_calls.specs.Calls.{way_in}
use Rattle.call_steps.specs.declared.edit.Edit.{Edit}
use Rattle.call_steps.specs.declared.edit.Edit.TheVariants as edit
use Rattle.call_steps.specs.declared.frame.FramePiece.{FramePiece}
use Rattle.call_steps.specs.declared.stage.KeyCall.{KeyCall}
use Rattle.call_steps.specs.declared.stage.KeyCall.TheVariants as key_call
use Rattle.call_steps.specs.declared.stage.CommitStamps.{CommitStamps}
use Rattle.call_steps.specs.declared.stage.Stage.{Stage}
use Rattle.call_steps.specs.declared.stage.Stage.TheVariants as stage
use Rattle.call_steps.specs.declared.stage.Target.{Target}
use Rattle.call_steps.specs.declared.stage.Wanted.{Wanted}
use Rattle.call_steps.specs.Stages.{is_write, cursor_in}
use Rattle.call_steps.specs.State.{State, is_pinned_at}
use Rattle.call_steps.specs.Tables.{target_in}
use Rattle.engine_world.specs.Leaves.{EditedDownTo, OrderedDownTo, generation_at}
use Rattle.engine_world.specs.Walks.{passed, passed_with}

-- of the session's transaction, where it has one
abbrev pub ForTransaction : Machine → ℕ → (Transaction → Type 0) → Type 0
ForTransaction m session P = (t : Transaction) → transaction_of m session ≡ Some t → P t

-- the leaf is there, in this frame
abbrev pub IsLeafOf : List Leaf → Target → Type 0
IsLeafOf leaves target = (l : Leaf) × Contains leaves l × (target_in l ≡ Some target)

-- it is there, in whatever frame or in none
abbrev pub IsLeafAt : List Leaf → Wanted → Type 0
IsLeafAt leaves wanted = (l : Leaf) × Contains leaves l × (l.id ≡ wanted.leaf) × (l.table ≡ wanted.table)

-- the transaction of a call on a leaf runs, and has drawn its id where the call writes
abbrev pub IsOnLeaf : Machine → List Leaf → ℕ → KeyCall → Target → Type 0
IsOnLeaf m leaves session call target =
    HasTransaction m session (λ t. (t.phase ≡ Running) × (is_write call ≡ true → 0 < t.id)) × IsLeafOf leaves target

-- where a walk of a cursor starts on a table, and which keys lie on its way
abbrev pub way_of : Machine → ℕ → ℕ → ℕ → Way → List ℕ → Bool
way_of m session table cursor way = is_past way (starts_at table (cursor_of m session cursor))

-- the keys of a range that a walk has passed have no row
abbrev pub NoneAmong : Machine → ℕ → ℕ → Way → (List ℕ → Bool) → Type 0
NoneAmong m session table way range = ForTransaction m session (λ t. RangeAnswer (ReadAnswer m session t table) way range (Refused NotFound))

-- the leaf is the one that has the key of the call; before that of a walk there is no row
abbrev pub IsSought : Machine → List Leaf → ℕ → State → KeyCall → Leaf → Type 0
IsSought m leaves session a (key_call.Step cursor way) l = NoneAmong m session l.table (way_in way) (passed (way_in way) leaves l (way_of m session l.table cursor (way_in way)))
IsSought m leaves session a call l = leaf_under l.table a.key leaves ≡ Some l

-- the call is to look at its leaf
abbrev pub Seeks : Machine → List Leaf → ℕ → KeyCall → Target → State → Type 0
Seeks m leaves session call target a = (on : IsOnLeaf m leaves session call target) × IsSought m leaves session a call on.1.0

-- the call waits for its leaf
abbrev pub Awaits : Machine → List Leaf → ℕ → KeyCall → Wanted → State → Type 0
Awaits m leaves session call wanted a =
    HasTransaction m session (λ t. (t.phase ≡ Running) × (is_write call ≡ true → 0 < t.id)) × ((at : IsLeafAt leaves wanted) × IsSought m leaves session a call at.0)

-- the leaf that a target names, in whatever frame
abbrev pub wanted_in : Target → Wanted
wanted_in target = record { table = target.table; leaf = target.leaf }

-- the leaf has gone out of this frame, which has no more the state word that was found
abbrev pub IsPast : List FramePiece → Target → Type 0
IsPast pieces target = target.word + 2 < 4 * generation_at pieces target.frame

-- the call has found its leaf, which is where it was found, or has gone out since
abbrev pub HasFound : Machine → List Leaf → List FramePiece → ℕ → KeyCall → Target → State → Type 0
HasFound m leaves pieces session call target a =
    (awaits : Awaits m leaves session call (wanted_in target) a) × ((target_in awaits.1.0.0 ≡ Some target) ⊎ IsPast pieces target)

-- a walk found no row in its leaf either
abbrev pub IsPassed : Machine → List Leaf → ℕ → KeyCall → Leaf → Type 0
IsPassed m leaves session (key_call.Step cursor way) l = NoneAmong m session l.table (way_in way) (passed_with (way_in way) leaves l (way_of m session l.table cursor (way_in way)))
IsPassed m leaves session call l = ⊥

abbrev pub GoesPast : Machine → List Leaf → ℕ → KeyCall → Target → Type 0
GoesPast m leaves session call target = (on : IsOnLeaf m leaves session call target) × IsPassed m leaves session call on.1.0

-- the call has looked: its transaction runs, or was refused a write
abbrev pub HasLooked : Machine → ℕ → KeyCall → Type 0
HasLooked m session call = HasTransaction m session (λ t. (t.phase ≡ Running) ⊎ ((t.phase ≡ Failed) × (cursor_in call ≡ None)))

-- a call has no more than it names
abbrev pub NamesOnly : KeyCall → State → Type 0
NamesOnly (key_call.Put demand) a = Unit {0}
NamesOnly (key_call.Step cursor way) a = (a.key ≡ []) × (a.value ≡ [])
NamesOnly _ a = a.value ≡ []

-- a transaction whose end a fault kept from it
abbrev pub EndsOnlyDown : Machine → ℕ → Type 0
EndsOnlyDown m session = (t : Transaction) → transaction_of m session ≡ Some t → IsEnding t.phase → is_there m.fault ≡ true

-- some of the keys are left
abbrev pub IsLeft : ℕ → State → Type 0
IsLeft left a = (1 ≤ left) × (left ≤ length a.written)

-- what was done to the writes of this transaction, but those of the first keys that are left
abbrev pub IsEdited : Edit → Machine → List FramePiece → Transaction → State → ℕ → Type 0
IsEdited e m pieces t a left = EditedDownTo e (name_of m t) pieces a.written left

abbrev pub IsOrdered : CommitStamps → Machine → List FramePiece → Transaction → State → ℕ → Type 0
IsOrdered stamps m pieces t a left = OrderedDownTo m pieces t.writes a.written stamps.prev left

-- the stamps of a commit, by the phase: a transaction that runs has one
abbrev pub stamps_in : Phase → CommitStamps → Edit
stamps_in Running stamps = edit.Stamp (stamp_of stamps.commit) (stamp_of stamps.commit)
stamps_in _ stamps = edit.Stamp (stamp_of stamps.commit) (or_stamp (stamp_of stamps.durable) (stamp_of stamps.commit))

-- ---- by the phase

abbrev pub MarksStand : Phase → ℕ → Machine → List FramePiece → Transaction → State → Type 0
MarksStand Running stamp m pieces t a = IsEdited (edit.Mark stamp) m pieces t a 0
MarksStand _ stamp m pieces t a = Unit {0}

abbrev pub OrdersStand : Phase → CommitStamps → Machine → List FramePiece → Transaction → State → ℕ → Type 0
OrdersStand Running stamps m pieces t a left = IsOrdered stamps m pieces t a left
OrdersStand (Prepared at) stamps m pieces t a left = IsOrdered stamps m pieces t a left
OrdersStand _ stamps m pieces t a left = ⊥

-- the versions that the commit made stand
abbrev pub AreCommitted : CommitStamps → Machine → Transaction → Type 0
AreCommitted stamps m t =
    (w : Write) → Member w t.writes → Member (outcome m t w (stamp_of stamps.commit) (or_stamp (stamp_of stamps.durable) (stamp_of stamps.commit))) (line m.history w.table w.key)

abbrev pub StampsStand : Phase → CommitStamps → Machine → List FramePiece → Transaction → State → ℕ → Type 0
StampsStand Running stamps m pieces t a left = IsOrdered stamps m pieces t a 0 × IsEdited (stamps_in Running stamps) m pieces t a left
StampsStand Resolving stamps m pieces t a left = AreCommitted stamps m t × IsEdited (stamps_in Resolving stamps) m pieces t a left
StampsStand _ stamps m pieces t a left = ⊥

abbrev pub DecidesStand : Phase → CommitStamps → Machine → List FramePiece → Transaction → State → Type 0
DecidesStand Running stamps m pieces t a = IsOrdered stamps m pieces t a 0 × IsEdited (stamps_in Running stamps) m pieces t a 0
DecidesStand (Prepared at) stamps m pieces t a = IsOrdered stamps m pieces t a 0
DecidesStand _ stamps m pieces t a = Unit {0}

-- a rollback that is decided without an undo before it has nothing to take out
abbrev pub ResolvesStand : Phase → Transaction → Type 0
ResolvesStand Running t = t.writes ≡ []
ResolvesStand Failed t = t.writes ≡ []
ResolvesStand _ t = Unit {0}

-- the versions of a rollback do not stand
abbrev pub NoneStands : Machine → Transaction → Type 0
NoneStands m t = (w : Write) → Member w t.writes → NoneOf (name_of m t) (line m.history w.table w.key)

-- the first undo begins the rollback
abbrev pub UndoesStand : Phase → Machine → List FramePiece → Transaction → State → ℕ → Type 0
UndoesStand Running m pieces t a left = left ≡ length a.written
UndoesStand Failed m pieces t a left = left ≡ length a.written
UndoesStand Leaving m pieces t a left = IsEdited edit.Undo m pieces t a left
UndoesStand Resolving m pieces t a left = NoneStands m t × IsEdited edit.Undo m pieces t a left
UndoesStand _ m pieces t a left = ⊥

-- nothing is left to change
abbrev pub DoneStands : Phase → Machine → List FramePiece → Transaction → State → Type 0
DoneStands Leaving m pieces t a = IsEdited edit.Undo m pieces t a 0
DoneStands Resolving m pieces t a = IsEdited edit.Undo m pieces t a 0 ⊎ ((commit : ℕ) × (durable : ℕ) × IsEdited (edit.Stamp commit durable) m pieces t a 0)
DoneStands _ m pieces t a = ⊥

-- ---- by the stage

abbrev pub StageStands : Stage → Machine → List Leaf → List FramePiece → ℕ → State → Type 0
StageStands stage.Rest m leaves pieces session a = EndsOnlyDown m session
StageStands (stage.Begin read) m leaves pieces session a = EndsOnlyDown m session
StageStands (stage.Find call) m leaves pieces session a = EndsOnlyDown m session × NamesOnly call a
StageStands (stage.Fill call wanted) m leaves pieces session a = Awaits m leaves session call wanted a
StageStands (stage.Publish call target) m leaves pieces session a = HasFound m leaves pieces session call target a
StageStands (stage.Validate call target) m leaves pieces session a = HasFound m leaves pieces session call target a
StageStands (stage.Look call target) m leaves pieces session a = Seeks m leaves session call target a
StageStands (stage.Pass call target) m leaves pieces session a = GoesPast m leaves session call target
StageStands (stage.History call target) m leaves pieces session a = IsOnLeaf m leaves session call target
StageStands (stage.ClearCursor call target) m leaves pieces session a = IsOnLeaf m leaves session call target
StageStands (stage.Clear call target) m leaves pieces session a = HasLooked m session call
StageStands (stage.Reset cursor) m leaves pieces session a = EndsOnlyDown m session
StageStands (stage.Mark stamp left) m leaves pieces session a =
    IsLeft left a × HasTransaction m session (λ t. (t.phase ≡ Running) × IsEdited (edit.Mark stamp) m pieces t a left)
StageStands (stage.Release stamp) m leaves pieces session a = EndsOnlyDown m session × ForTransaction m session (λ t. MarksStand t.phase stamp m pieces t a)
StageStands (stage.Order stamps left) m leaves pieces session a = IsLeft left a × HasTransaction m session (λ t. OrdersStand t.phase stamps m pieces t a left)
StageStands (stage.Stamp stamps left) m leaves pieces session a = IsLeft left a × HasTransaction m session (λ t. StampsStand t.phase stamps m pieces t a left)
StageStands (stage.Decide stamps) m leaves pieces session a = EndsOnlyDown m session × ForTransaction m session (λ t. DecidesStand t.phase stamps m pieces t a)
StageStands stage.Resolve m leaves pieces session a = EndsOnlyDown m session × ForTransaction m session (λ t. ResolvesStand t.phase t)
StageStands (stage.Undo left) m leaves pieces session a = IsLeft left a × HasTransaction m session (λ t. UndoesStand t.phase m pieces t a left)
StageStands stage.Done m leaves pieces session a = HasTransaction m session (λ t. DoneStands t.phase m pieces t a)
StageStands (stage.Unpin cursor) m leaves pieces session a = (transaction_of m session ≡ None) × (is_pinned_at a.cursors cursor ≡ true)

-- where the leaf that was found has gone out, the call may be told so
abbrev pub IsNoticed : Stage → List FramePiece → Bool → Type 0
IsNoticed (stage.Publish call target) pieces again = IsPast pieces target → again ≡ true
IsNoticed (stage.Validate call target) pieces again = IsPast pieces target → again ≡ true
IsNoticed _ pieces again = Unit {0}
