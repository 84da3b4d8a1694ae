-- What a session keeps of its transaction and of its call.
use Rattle.std.specs.Prelude.{ℕ, zero, suc, Bool, true, false, List, [], ◌∷◌, length, map, Option, Some, None, if◌then◌else◌, slice_get}
use Rattle.wt_code.specs.declared.answers.Answer.{Answer}
use Rattle.wt_code.specs.declared.answers.Answer.TheVariants as answer
use Rattle.wt_code.specs.declared.refusals.Refusal.{Refusal}
use Rattle.wt_code.specs.declared.refusals.Refusal.TheVariants as refusal
use Rattle.kv_model.specs.Machine.{of_some}
use Rattle.txn_table.specs.declared.phase.Phase.{Phase}
use Rattle.txn_table.specs.declared.phase.Phase.TheVariants as phase
use Rattle.txn_table.specs.declared.phase.Phase.TheVariants.{Idle}
use Rattle.call_steps.specs.declared.cursor.Cursor.{Cursor}
use Rattle.call_steps.specs.declared.cursor.Position.{Position}
use Rattle.call_steps.specs.declared.reply.Reply.{Reply}
use Rattle.call_steps.specs.declared.reply.Reply.TheVariants as reply
use Rattle.call_steps.specs.declared.stage.KeyCall.{KeyCall}
use Rattle.call_steps.specs.declared.stage.Stage.{Stage}
use Rattle.call_steps.specs.declared.stage.Stage.TheVariants as stage
use Rattle.call_steps.specs.declared.stage.Target.{Target}
use Rattle.call_steps.specs.declared.written.WrittenKey.{WrittenKey}
use Rattle.call_steps.specs.Stages.{cursor_in, undoes}

pub record State : Type 0 where
  -- exact, where that of the table of transactions may lag
  pub phase : Phase
  pub stage : Stage
  -- the name of the table, the key and the value of the call; empty where it has none
  pub name : List ℕ
  pub key : List ℕ
  pub value : List ℕ
  -- what the call answers, once that is decided
  pub answer : Answer (List ℕ)
  -- each key that the transaction wrote, once
  pub written : List WrittenKey
  pub cursors : List Cursor
  -- which of the hazard words is the call's
  pub word : ℕ

abbrev pub fresh_cursor : ℕ → Cursor
fresh_cursor word = record { word = word; pinned = None; position = None }

-- of a session that was opened and has not begun
abbrev pub opened : State
opened = record {
  phase = Idle;
  stage = stage.Rest;
  name = [];
  key = [];
  value = [];
  answer = answer.Done;
  written = [];
  cursors = fresh_cursor 0 ∷ (fresh_cursor 1 ∷ (fresh_cursor 2 ∷ (fresh_cursor 3 ∷ [])));
  word = 4;
}

-- ---- cursors

-- one cursor changed, where it is there
abbrev pub changed_at : List Cursor → ℕ → (Cursor → Cursor) → List Cursor
changed_at [] cursor change = []
changed_at (k ∷ ks) zero change = change k ∷ ks
changed_at (k ∷ ks) (suc n) change = k ∷ changed_at ks n change

abbrev pub unpinned : Cursor → Cursor
unpinned k = record { word = k.word; pinned = None; position = k.position }

abbrev pub placed : Option Position → Cursor → Cursor
placed position k = record { word = k.word; pinned = k.pinned; position = position }

-- it takes over the call's word, which names the frame of this leaf
abbrev pub takes_word : ℕ → Target → Cursor → Cursor
takes_word word target k = record { word = word; pinned = Some target; position = k.position }

abbrev pub is_pinned : Cursor → Bool
is_pinned k = of_some false (λ target. true) k.pinned

-- the word of a cursor, or the call's where the cursor is not there
abbrev pub cursor_word : State → ℕ → ℕ
cursor_word s cursor = of_some s.word (λ k. k.word) (slice_get s.cursors cursor)

abbrev pub is_pinned_at : List Cursor → ℕ → Bool
is_pinned_at cursors cursor = of_some false is_pinned (slice_get cursors cursor)

-- the first pinned one of the four cursors
abbrev pub first_pinned : List Cursor → Option ℕ
first_pinned cursors =
    if is_pinned_at cursors 0 then Some 0 else (if is_pinned_at cursors 1 then Some 1 else (if is_pinned_at cursors 2 then Some 2 else (if is_pinned_at cursors 3 then Some 3 else None)))

-- ---- what an event makes of the state

abbrev pub at_stage : Stage → State → State
at_stage stage s = record s { stage = stage }

-- refused, with nothing to clear
abbrev pub refuses : Refusal → State → Reply × State
refuses r s = (reply.Answer (answer.Refused r), at_stage stage.Rest s)

-- answered, with the call's word to be cleared
abbrev pub clears : KeyCall → Target → Answer (List ℕ) → State → State
clears call target a s = record s { stage = stage.Clear call target; answer = a }

-- the cursor stands on a row: it exchanges its word with the call's, and its old one is to be cleared
abbrev pub lands : ℕ → KeyCall → Target → Answer (List ℕ) → State → State
lands cursor call target a s = record s {
  stage = stage.Clear call target;
  answer = a;
  cursors = changed_at s.cursors cursor (takes_word s.word target);
  word = cursor_word s cursor;
}

-- the cursor found no row: its word is to be cleared too
abbrev pub misses : KeyCall → Target → Answer (List ℕ) → State → State
misses call target a s = record s { stage = stage.ClearCursor call target; answer = a }

-- the answer of a look by which a cursor goes
abbrev pub moves : ℕ → KeyCall → Target → Answer (List ℕ) → State → State
moves cursor call target (answer.Value v) s = lands cursor call target (answer.Value v) s
moves cursor call target (answer.Row key v) s = lands cursor call target (answer.Row key v) s
moves cursor call target (answer.Refused refusal.NotFound) s = misses call target (answer.Refused refusal.NotFound) s
moves cursor call target a s = clears call target a s

-- a look at the leaf or the history answers
abbrev pub answered : KeyCall → Target → Answer (List ℕ) → State → State
answered call target a s = of_some (clears call target a s) (λ cursor. moves cursor call target a s) (cursor_in call)

-- without a transaction: no cursor is positioned
abbrev pub forgotten : State → State
forgotten s = record s { phase = Idle; written = []; cursors = map (placed None) s.cursors }

-- the transaction has ended with this answer, and the words of its cursors are to be cleared
abbrev pub finished : Answer (List ℕ) → State → Reply × State
finished a s = of_some (reply.Answer a, at_stage stage.Rest (forgotten s)) (λ cursor. (reply.More, record (forgotten s) { stage = stage.Unpin cursor; answer = a })) (first_pinned s.cursors)

-- the transaction is rolled back with this answer: what it wrote is to be taken out
abbrev pub leaves : Answer (List ℕ) → State → State
leaves a s = record s { phase = phase.Leaving; stage = undoes (length s.written); answer = a }

-- the answer is taken out
abbrev pub without_answer : State → State
without_answer s = record s { answer = answer.Done }

-- the first undo of a transaction that is not prepared begins its rollback
abbrev pub leaving_in : Phase → State → State
leaving_in phase.Running s = record s { phase = phase.Leaving; answer = answer.Done }
leaving_in phase.Failed s = record s { phase = phase.Leaving; answer = answer.Done }
leaving_in _ s = s
