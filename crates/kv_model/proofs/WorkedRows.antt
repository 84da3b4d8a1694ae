-- Short runs of the machine, with their answers written out.
use Rattle.std.proofs.Common.{◌≡◌, ◌≢◌, ℕ, refl, ap, sym, subst, inl, inr, zero, suc, Bool, true, false, List, [], ◌∷◌, ◌++◌, map}
use Rattle.std.specs.Prelude.{Option, Some, None, ◌^◌, ◌-◌, bytes_eq}
use Rattle.std.proofs.lemmas.Bool.{cases_Bool}
use Rattle.std.proofs.lemmas.Slice.Eq.{bytes_eq-Decides}
use Rattle.item.specs.declared.Change.{Change}
use Rattle.item.specs.declared.Change.TheVariants.{Put}
use Rattle.stamp.specs.declared.Name.{Name}
use Rattle.stamp.specs.declared.Version.{Version}
use Rattle.item.specs.declared.Format.TheVariants.{S, U}
use Rattle.wt_code.specs.declared.answers.Answer.TheVariants as answers
use Rattle.failure.specs.declared.Fault.TheVariants.{Sync}
use Rattle.wt_code.specs.declared.refusals.Refusal.TheVariants.{Exists, Panic, NoSpace, DiskFault, NotFound, PrepareConflict}
use Rattle.wt_code.specs.declared.refusals.Refusal.TheVariants as told
use Rattle.wt_code.specs.declared.refusals.Invalid.TheVariants as why
use Rattle.wt_code.specs.declared.refusals.Busy.TheVariants as who
use Rattle.wt_code.specs.declared.refusals.Limit.TheVariants as counted
use Rattle.kv_model.specs.History.{Entry, Create, Commit, Prepare, Resolve, Undo, Rts, Write, value, line, cut, Placed, Table}
use Rattle.kv_model.specs.Machine.{Machine, after, Event, OpenSession, BeginAt, DrawId, AcceptWrite, PrepareAt, CommitAt, StartLeaving, EndTransaction, PlaceCursor, CreateTable, SetStamps, RollbackToStable, CheckpointStart, CheckpointFinish, CheckpointDrop, GoDown, Nothing, Transaction, Position, begun, transaction_of, of_some}
use Rattle.kv_model.specs.Outside.{Stored, NoPlace, ReadFailed, WriteFailed, Unfinished}
use Rattle.kv_model.specs.Reads.{Value, Meets, ReadAnswer, Wrote, IsEnding, is_own, own_write, prepared_in, may_follow}
use Rattle.kv_model.specs.Decisions.{Done, GivesRow, Left, End, Refused, decision, OpenCall, BeginCall, CommitCall, RollbackCall, EndCall, HistoryCall, CreateCall, RtsCall, StartCall, StepCall, CaptureCall, FinishCall}
use Rattle.kv_model.specs.Closing.{close_decision, after_all}
use Rattle.kv_model.specs.Rows.{Up, Down, key_lt, NextAnswer, reset_decision}
use Rattle.kv_model.specs.Calls.{Around, Session, Rollback, Answers}
use Rattle.kv_model.specs.Content.{nothing, start, Content, base, kept}

abbrev pub run : Machine → List Event → Machine
run m [] = m
run m (event ∷ later) = run (after m event) later

abbrev pub a : List ℕ
a = 97 ∷ []

-- four sessions and the table 1, named t
abbrev pub ready : Machine
ready = run (start nothing) (OpenSession ∷ OpenSession ∷ OpenSession ∷ OpenSession ∷ CreateTable (record { number = 1; name = 116 ∷ []; formats = record { key = U; value = U } }) ∷ [])

-- a transaction of session 0 that puts v under a, and its commit
abbrev pub set : ℕ → ℕ → List Event
set v commit = BeginAt 0 0 ∷ DrawId 0 ∷ AcceptWrite 0 1 a (Put (v ∷ [])) ∷ CommitAt 0 commit commit ∷ []

-- what a session reads of a
abbrev sees : Machine → ℕ → Option (List ℕ)
sees m session = of_some None (λ t. value m.history t.start t.read 1 a) (transaction_of m session)

-- what session 3 reads of a where it begins at a stamp
abbrev sees_at : Machine → ℕ → Option (List ℕ)
sees_at m read = sees (after m (BeginAt 3 read)) 3

-- a reader does not see a later commit
abbrev later : Machine
later = run ready (set 1 0 ++ BeginAt 1 0 ∷ [] ++ set 2 0)

reader-keeps : sees later 1 ≡ Some (1 ∷ [])
reader-keeps = refl

next-sees : sees_at later 0 ≡ Some (2 ∷ [])
next-sees = refl

-- and its write of the key is refused
reader-stale : of_some true (λ t. may_follow later t (line later.history 1 a)) (transaction_of later 1) ≡ false
reader-stale = refl

-- a = 8 at 10, a = 9 at 20
abbrev pub stamped : Machine
stamped = run ready (set 8 10 ++ set 9 20)

before-both : sees_at stamped 9 ≡ None
before-both = refl

at-first : sees_at stamped 10 ≡ Some (8 ∷ [])
at-first = refl

before-second : sees_at stamped 19 ≡ Some (8 ∷ [])
before-second = refl

at-second : sees_at stamped 20 ≡ Some (9 ∷ [])
at-second = refl

at-none : sees_at stamped 0 ≡ Some (9 ∷ [])
at-none = refl

-- a reader at 19 may not write
not-at-19 : of_some true (λ t. may_follow stamped t (line stamped.history 1 a)) (transaction_of (after stamped (BeginAt 3 19)) 3) ≡ false
not-at-19 = refl

-- prepared at 30: met by a reader that begins later, not by one that began before, nor at read stamp 29
abbrev prepared : Machine
prepared = run ready (set 1 0 ++ BeginAt 2 0 ∷ BeginAt 0 0 ∷ DrawId 0 ∷ AcceptWrite 0 1 a (Put (2 ∷ [])) ∷ PrepareAt 0 30 ∷ BeginAt 1 0 ∷ BeginAt 3 29 ∷ [])

abbrev meets : Machine → ℕ → Bool
meets m session = of_some false (λ t. prepared_in m.history t.start t.read (record { run = 1; id = 2 })) (transaction_of m session)

meets-later : meets prepared 1 ≡ true
meets-later = refl

meets-earlier : meets prepared 2 ≡ false
meets-earlier = refl

meets-at-29 : meets prepared 3 ≡ false
meets-at-29 = refl

meets-at-30 : meets (after prepared (BeginAt 3 30)) 3 ≡ true
meets-at-30 = refl

-- its commit at 30, durable 35, is seen by the reader that met it, and not by the earlier one
abbrev resolved : Machine
resolved = run prepared (CommitAt 0 30 35 ∷ [])

resolved-later : sees resolved 1 ≡ Some (2 ∷ [])
resolved-later = refl

resolved-earlier : sees resolved 2 ≡ Some (1 ∷ [])
resolved-earlier = refl

-- a rollback to stable at 10 brings 8 back
rolled-back : sees_at (run stamped (SetStamps 0 10 ∷ RollbackToStable ∷ [])) 0 ≡ Some (8 ∷ [])
rolled-back = refl

-- without stable it removes nothing
unset-keeps : sees_at (run stamped (RollbackToStable ∷ [])) 0 ≡ Some (9 ∷ [])
unset-keeps = refl

-- a checkpoint keeps by the durable stamp: committed at 10, durable at 30, stable 20
abbrev half_durable : Machine
half_durable = run ready (BeginAt 0 0 ∷ DrawId 0 ∷ AcceptWrite 0 1 a (Put (1 ∷ [])) ∷ PrepareAt 0 10 ∷ CommitAt 0 10 30 ∷ [])

cut-by-durable : line (cut half_durable.history 3 20) 1 a ≡ []
cut-by-durable = refl

cut-at-30 : value (cut half_durable.history 3 30) 2 0 1 a ≡ Some (1 ∷ [])
cut-at-30 = refl

-- the order rule: after 20, no commit at 19 and none without a stamp, until oldest is 20
abbrev writing : Machine
writing = run stamped (BeginAt 0 0 ∷ DrawId 0 ∷ AcceptWrite 0 1 a (Put (7 ∷ [])) ∷ [])

order-at-19 : (decision writing 0 (CommitCall (Some 19) None)).0 ≡ Refused (told.Invalid (why.Order 19 20))
order-at-19 = refl

order-at-none : (decision writing 0 (CommitCall None None)).0 ≡ Refused (told.Invalid (why.NoStampAfterStamp 20))
order-at-none = refl

order-at-20 : decision writing 0 (CommitCall (Some 20) None) ≡ (Done, CommitAt 0 20 20)
order-at-20 = refl

order-at-oldest : (decision (after writing (SetStamps 20 20)) 0 (CommitCall None None)).0 ≡ Done
order-at-oldest = refl

-- a read stamp before oldest; a session that has a transaction; a rollback to stable under way of one
begin-old : (decision (after stamped (SetStamps 5 0)) 1 (BeginCall (Some 4))).0 ≡ Refused (told.Invalid (why.BeforeOldest 4 5))
begin-old = refl

begin-twice : (decision writing 0 (BeginCall None)).0 ≡ Refused (told.Invalid why.InTxn)
begin-twice = refl

rts-active : (decision writing 0 RtsCall).0 ≡ Refused (told.Busy (who.Active 0))
rts-active = refl

-- a table of the same name: the same formats are no fault
create-again : decision ready 0 (CreateCall (record { number = 2; name = 116 ∷ []; formats = record { key = U; value = U } })) ≡ (Done, Nothing)
create-again = refl

create-other : (decision ready 0 (CreateCall (record { number = 2; name = 116 ∷ []; formats = record { key = S; value = U } }))).0 ≡ Refused Exists
create-other = refl

-- the start of a checkpoint: the last number is a limit, and comes after a checkpoint that runs
start-last : (decision ready 0 (StartCall (2 ^ 62 - 1))).0 ≡ Refused (told.Limit counted.Checkpoints)
start-last = refl

start-before : decision ready 0 (StartCall (2 ^ 62 - 2)) ≡ (Done, CheckpointStart)
start-before = refl

abbrev started : Machine
started = after ready CheckpointStart

start-again : (decision started 0 (StartCall (2 ^ 62 - 1))).0 ≡ Refused (told.Busy who.Checkpoint)
start-again = refl

-- a step and a finish without a checkpoint, a finish with a leaf that is left
step-none : decision ready 0 (StepCall true) ≡ (Refused (told.Invalid why.NoCkpt), Nothing)
step-none = refl

finish-none : (decision ready 0 (FinishCall true Stored)).0 ≡ Refused (told.Invalid why.NoCkpt)
finish-none = refl

finish-left : decision started 0 (FinishCall true Stored) ≡ (Refused (told.Invalid why.CkptLeft), Nothing)
finish-left = refl

-- steps, with two leaves
step-on : decision started 0 (StepCall true) ≡ (Done, Nothing)
step-on = refl

capture-first : decision started 0 (CaptureCall true Stored) ≡ (Left, Nothing)
capture-first = refl

capture-last : decision started 0 (CaptureCall false Stored) ≡ (End, Nothing)
capture-last = refl

step-end : decision started 0 (StepCall false) ≡ (End, Nothing)
step-end = refl

finish-done : decision started 0 (FinishCall false Stored) ≡ (Done, CheckpointFinish)
finish-done = refl

-- without room the checkpoint ends; a failed sync takes the machine down, and a failed read does not
capture-full : decision started 0 (CaptureCall true NoPlace) ≡ (Refused NoSpace, CheckpointDrop)
capture-full = refl

finish-fault : decision started 0 (FinishCall false (WriteFailed Sync)) ≡ (Refused DiskFault, GoDown Sync)
finish-fault = refl

finish-unread : decision started 0 (FinishCall false ReadFailed) ≡ (Refused DiskFault, Nothing)
finish-unread = refl

finish-down : (decision (after started (GoDown Sync)) 0 (FinishCall true Stored)).0 ≡ Refused (Panic Sync)
finish-down = refl

-- nothing outside the machine is in the way
abbrev calm : Around
calm = record {
  in_call = false;
  unfinished = record { eviction = None; calls = [] };
  IsNumber = λ n. ⊥;
  uncaptured = 0;
  MayTake = λ m storing. ⊥;
  MayKeepOut = λ refusal. ⊥;
}

-- a machine that is down refuses the event that opens a session, and one that looks in the history
abbrev down : Machine
down = after writing (GoDown Sync)

open-down : decision down 0 OpenCall ≡ (Refused (Panic Sync), Nothing)
open-down = refl

history-down : decision down 0 HistoryCall ≡ (Refused (Panic Sync), Nothing)
history-down = refl

-- A rollback there takes the updates out of their pages before it meets the fault, and leaves its transaction failed.
rollback-down : decision down 0 RollbackCall ≡ (Done, StartLeaving 0)
rollback-down = refl

end-down : (decision (after down (StartLeaving 0)) 0 (EndCall Done)).0 ≡ Refused (Panic Sync)
end-down = refl

rolls-back-down : Answers calm down (Session 0) Rollback (answers.Refused (Panic Sync)) (after down (StartLeaving 0))
rolls-back-down = inl (Refused (Panic Sync), refl, refl)

reset-down : reset_decision (after down (StartLeaving 0)) 0 0 ≡ (Refused (told.Invalid why.FailedTxn), Nothing)
reset-down = refl

-- one without writes has nothing to take out, and stays as it is
unwritten-down : decision (run ready (BeginAt 0 0 ∷ GoDown Sync ∷ [])) 0 RollbackCall ≡ (Refused (Panic Sync), Nothing)
unwritten-down = refl

-- Close: session 0 is prepared, session 1 runs
abbrev idle : Unfinished
idle = record { eviction = None; calls = [] }

abbrev two_open : Machine
two_open = run ready (BeginAt 1 0 ∷ BeginAt 0 0 ∷ DrawId 0 ∷ AcceptWrite 0 1 a (Put (1 ∷ [])) ∷ PrepareAt 0 5 ∷ [])

close-done : close_decision two_open idle 0 Stored ≡ (Done, StartLeaving 0 ∷ EndTransaction 0 ∷ StartLeaving 1 ∷ EndTransaction 1 ∷ CheckpointStart ∷ CheckpointFinish ∷ [])
close-done = refl

abbrev closed : Machine
closed = after_all two_open (close_decision two_open idle 0 Stored).1

-- both are rolled back, and the checkpoint has the table alone
close-rolls : closed.history ≡ Undo (record { run = 1; id = 1 }) ∷ two_open.history
close-rolls = refl

close-sessions : closed.sessions ≡ None ∷ None ∷ None ∷ None ∷ []
close-sessions = refl

close-content : closed.completed.content ≡ Create (record { number = 1; name = 116 ∷ []; formats = record { key = U; value = U } }) ∷ []
close-content = refl

-- one that finds no room has rolled back too
close-full : close_decision two_open idle 0 NoPlace ≡ (Refused NoSpace, StartLeaving 0 ∷ EndTransaction 0 ∷ StartLeaving 1 ∷ EndTransaction 1 ∷ [])
close-full = refl

close-last : (close_decision two_open idle (2 ^ 62 - 1) Stored).0 ≡ Refused (told.Limit counted.Checkpoints)
close-last = refl

-- busy: a checkpoint, then an eviction, then the lowest session with a call
close-checkpoint : close_decision started (record { eviction = Some 7; calls = true ∷ [] }) 0 Stored ≡ (Refused (told.Busy who.Checkpoint), [])
close-checkpoint = refl

close-eviction : (close_decision two_open (record { eviction = Some 7; calls = true ∷ [] }) 0 Stored).0 ≡ Refused (told.Busy (who.Evicting 7))
close-eviction = refl

close-call : (close_decision two_open (record { eviction = None; calls = false ∷ true ∷ [] }) 0 Stored).0 ≡ Refused (told.Busy (who.Resolving 1))
close-call = refl

close-ending : (close_decision (after two_open (StartLeaving 1)) idle 0 Stored).0 ≡ Refused (told.Busy (who.Resolving 1))
close-ending = refl

close-down : close_decision (after started (GoDown Sync)) idle 0 Stored ≡ (Refused (Panic Sync), [])
close-down = refl

-- the next row and the previous one: a = 1 and b = 2
abbrev b : List ℕ
b = 98 ∷ []

-- with cursor 0 of session 0 there
abbrev rows : Option Position → Machine
rows p = run ready (set 1 0 ++ BeginAt 0 0 ∷ DrawId 0 ∷ AcceptWrite 0 1 b (Put (2 ∷ [])) ∷ CommitAt 0 0 0 ∷ BeginAt 0 0 ∷ PlaceCursor 0 0 p ∷ [])

abbrev at : List ℕ → Option Position
at key = Some (record { table = 1; key = key })

abbrev reader : Transaction
reader = begun (rows None) 0

differs : (x k : List ℕ) → (x ≡ k → ⊥) → bytes_eq x k ≡ false
differs x k never = elim (cases_Bool (bytes_eq x k)) [ inl is ↦ absurd (never ((bytes_eq-Decides x k).0 is)) | inr isnt ↦ isnt ]

-- a key below another, or above it, is another
not-below : (x k : List ℕ) → key_lt k x ≡ true → key_lt x x ≡ false → bytes_eq x k ≡ false
not-below x k lt irreflexive = differs x k (λ same. let e = subst (λ y. key_lt y x ≡ true) (sym same) lt in cc)

not-above : (x k : List ℕ) → key_lt x k ≡ true → key_lt x x ≡ false → bytes_eq x k ≡ false
not-above x k lt irreflexive = differs x k (λ same. let e = subst (λ y. key_lt x y ≡ true) (sym same) lt in cc)

below-a : (k : List ℕ) → key_lt k a ≡ true → bytes_eq b k ≡ false
below-a k lt = differs b k (λ same. let e = subst (λ y. key_lt y a ≡ true) (sym same) lt in cc)

above-b : (k : List ℕ) → key_lt b k ≡ true → bytes_eq a k ≡ false
above-b k lt = differs a k (λ same. let e = subst (λ y. key_lt b y ≡ true) (sym same) lt in cc)

nobody-else : (p : Option Position) (other : ℕ) (x : Transaction) → other ≢ 0 → transaction_of (rows p) other ≡ Some x → ⊥
nobody-else p zero x another e = another refl
nobody-else p (suc zero) x another e = cc
nobody-else p (suc (suc zero)) x another e = cc
nobody-else p (suc (suc (suc zero))) x another e = cc
nobody-else p (suc (suc (suc (suc n)))) x another e = cc

none-met : (p : Option Position) (key : List ℕ) (other : ℕ) (x : Transaction) → Meets (rows p) 0 reader 1 key other x → IsEnding x.phase
none-met p key other x m = absurd (nobody-else p other x m.another m.writer.0)

reads-a : (p : Option Position) → ReadAnswer (rows p) 0 reader 1 a (Value (Some (1 ∷ [])))
reads-a p = (refl, none-met p a)

reads-b : (p : Option Position) → ReadAnswer (rows p) 0 reader 1 b (Value (Some (2 ∷ [])))
reads-b p = (refl, none-met p b)

reads-none : (p : Option Position) (k : List ℕ) → bytes_eq a k ≡ false → bytes_eq b k ≡ false → ReadAnswer (rows p) 0 reader 1 k (Value None)
reads-none p k not-a not-b = (rw (not-b, not-a) refl, none-met p k)

next-a : NextAnswer (rows None) 0 reader 0 1 Up (GivesRow a (1 ∷ [])) (PlaceCursor 0 0 (at a))
next-a = ((refl, reads-a None, λ k past before. reads-none None k (not-below a k before refl) (below-a k before)), refl)

next-b : NextAnswer (rows (at a)) 0 reader 0 1 Up (GivesRow b (2 ∷ [])) (PlaceCursor 0 0 (at b))
next-b = ((refl, reads-b (at a), λ k past before. reads-none (at a) k (not-above a k past refl) (not-below b k before refl)), refl)

next-none : NextAnswer (rows (at b)) 0 reader 0 1 Up (Refused NotFound) (PlaceCursor 0 0 None)
next-none = ((λ k past. reads-none (at b) k (above-b k past) (not-above b k past refl)), refl)

prev-b : NextAnswer (rows None) 0 reader 0 1 Down (GivesRow b (2 ∷ [])) (PlaceCursor 0 0 (at b))
prev-b = ((refl, reads-b None, λ k past before. reads-none None k (above-b k before) (not-above b k before refl)), refl)

prev-a : NextAnswer (rows (at b)) 0 reader 0 1 Down (GivesRow a (1 ∷ [])) (PlaceCursor 0 0 (at a))
prev-a = ((refl, reads-a (at b), λ k past before. reads-none (at b) k (not-above a k before refl) (not-below b k past refl)), refl)

-- a cursor on another table starts at the first row
next-elsewhere : NextAnswer (rows (Some (record { table = 2; key = b }))) 0 reader 0 1 Up (GivesRow a (1 ∷ [])) (PlaceCursor 0 0 (at a))
next-elsewhere = ((refl, reads-a _, λ k past before. reads-none _ k (not-below a k before refl) (below-a k before)), refl)

-- a key that another prepared: a conflict, and the cursor stays
others-of : (other : ℕ) (x : Transaction) (k : List ℕ) → bytes_eq a k ≡ false → Wrote prepared other 1 k x → ⊥
others-of zero x k not-a w = let e : x ≡ of_some x (λ t. t) (transaction_of prepared 0) = sym (ap (of_some x (λ t. t)) w.0) in let o = subst (λ t. is_own (own_write t 1 k) ≡ true) e w.1 in let f = rw not-a at o in cc
others-of (suc zero) x k not-a w = let e : x ≡ of_some x (λ t. t) (transaction_of prepared 1) = sym (ap (of_some x (λ t. t)) w.0) in let o = subst (λ t. is_own (own_write t 1 k) ≡ true) e w.1 in cc
others-of (suc (suc zero)) x k not-a w = let e : x ≡ of_some x (λ t. t) (transaction_of prepared 2) = sym (ap (of_some x (λ t. t)) w.0) in let o = subst (λ t. is_own (own_write t 1 k) ≡ true) e w.1 in cc
others-of (suc (suc (suc zero))) x k not-a w = let e : x ≡ of_some x (λ t. t) (transaction_of prepared 3) = sym (ap (of_some x (λ t. t)) w.0) in let o = subst (λ t. is_own (own_write t 1 k) ≡ true) e w.1 in cc
others-of (suc (suc (suc (suc n)))) x k not-a w = let e = w.0 in cc

next-conflict : NextAnswer prepared 1 (begun prepared 0) 0 1 Up (Refused (PrepareConflict 2)) Nothing
next-conflict = (
  (
    a,
    refl,
    (0, _, record { another = λ e. cc; writer = (refl, refl); before = refl }, (λ e. absurd e), refl),
    λ k past before. (rw (not-below a k before refl) refl, λ other x m. absurd (others-of other x k (not-below a k before refl) m.writer)),
  ),
  refl,
)

-- session 0 is resolving, session 1 wrote the key over it and committed: who sees that commit reads its value, and may write
abbrev overtaken : Machine
overtaken = run ready (set 1 0 ++ BeginAt 0 0 ∷ DrawId 0 ∷ AcceptWrite 0 1 a (Put (2 ∷ [])) ∷ PrepareAt 0 30 ∷ CommitAt 0 30 30 ∷ BeginAt 1 0 ∷ DrawId 1 ∷ AcceptWrite 1 1 a (Put (3 ∷ [])) ∷ CommitAt 1 40 40 ∷ BeginAt 3 0 ∷ [])

overtaken-sees : sees overtaken 3 ≡ Some (3 ∷ [])
overtaken-sees = refl

overtaken-follows : of_some false (λ t. may_follow overtaken t (line overtaken.history 1 a)) (transaction_of overtaken 3) ≡ true
overtaken-follows = refl

-- ---- openings

abbrev device_leaf : Table
device_leaf = record { number = 1; name = 116 ∷ []; formats = record { key = U; value = U } }

-- a version of a by this run and id, at this stamp
abbrev put_at : ℕ → ℕ → ℕ → ℕ → Placed
put_at runs id stamp v = record { table = 1; key = a; version = record { window = record { name = record { run = runs; id = id }; commit = stamp; durable = stamp }; change = Put (v ∷ []) } }

-- at stable 10 the cell of 20 is hidden, and the record of 10 is what stands
abbrev hidden : Content
hidden = record { run = 1; oldest = 0; stable = 10; snapshot = record { min = 3; max = 3; ids = [] }; tables = device_leaf ∷ []; cells = put_at 1 2 20 9 ∷ []; records = put_at 1 1 10 8 ∷ [] }

hidden-sees : sees_at (run (start hidden) (OpenSession ∷ OpenSession ∷ OpenSession ∷ OpenSession ∷ [])) 0 ≡ Some (8 ∷ [])
hidden-sees = refl

hidden-cut : base hidden ≡ cut stamped.history 3 10
hidden-cut = refl

-- a listed id is hidden, and an earlier run is seen at any id
abbrev listed : Content
listed = record { run = 2; oldest = 0; stable = 0; snapshot = record { min = 1; max = 3; ids = 1 ∷ [] }; tables = device_leaf ∷ []; cells = put_at 2 1 0 9 ∷ []; records = put_at 1 77 0 8 ∷ [] }

listed-hidden : kept listed ≡ put_at 1 77 0 8 ∷ []
listed-hidden = refl

-- a record that is the cell again counts once
abbrev twice : Content
twice = record { run = 2; oldest = 0; stable = 0; snapshot = record { min = 3; max = 3; ids = [] }; tables = device_leaf ∷ []; cells = put_at 1 77 0 8 ∷ []; records = put_at 1 77 0 8 ∷ [] }

twice-once : kept twice ≡ put_at 1 77 0 8 ∷ []
twice-once = refl

-- an id at max is hidden, one below it is seen
at-max : kept (record twice { cells = put_at 2 3 0 9 ∷ [] }) ≡ put_at 1 77 0 8 ∷ []
at-max = refl

below-max : kept (record twice { cells = put_at 2 2 0 9 ∷ [] }) ≡ put_at 2 2 0 9 ∷ put_at 1 77 0 8 ∷ []
below-max = refl

-- ---- one history, entry by entry: two commits, a prepare, its commit, a rollback to stable at 20

abbrev puts : ℕ → ℕ → ℕ → List Write
puts v commit durable = record { table = 1; key = a; change = Put (v ∷ []); commit = commit; durable = durable } ∷ []

abbrev named : ℕ → Name
named id = record { run = 1; id = id }

abbrev told_4 : List Entry
told_4 = Prepare (named 3) 30 ∷ Commit (named 2) (puts 2 20 20) ∷ Commit (named 1) (puts 1 10 10) ∷ Create (record { number = 1; name = 116 ∷ []; formats = record { key = U; value = U } }) ∷ []

abbrev told_5 : List Entry
told_5 = Resolve (named 3) (puts 3 30 35) ∷ told_4

abbrev told_6 : List Entry
told_6 = Rts 20 ∷ told_5

start-2 : value told_5 2 0 1 a ≡ Some (1 ∷ [])
start-2 = refl

start-3 : value told_5 3 0 1 a ≡ Some (2 ∷ [])
start-3 = refl

start-3-at-13 : value told_5 3 13 1 a ≡ Some (1 ∷ [])
start-3-at-13 = refl

start-3-at-9 : value told_5 3 9 1 a ≡ None
start-3-at-9 = refl

start-4-met : prepared_in told_4 4 0 (named 3) ≡ true
start-4-met = refl

start-4 : value told_5 4 0 1 a ≡ Some (3 ∷ [])
start-4 = refl

start-4-at-29 : (prepared_in told_4 4 29 (named 3) ≡ false) × (value told_5 4 29 1 a ≡ Some (2 ∷ []))
start-4-at-29 = (refl, refl)

start-6 : value told_6 6 0 1 a ≡ Some (2 ∷ [])
start-6 = refl

told-line : map (λ (v : Version Change). v.window.name.id) (line told_5 1 a) ≡ 3 ∷ 2 ∷ 1 ∷ []
told-line = refl

told-kept : map (λ (v : Version Change). v.window.name.id) (line (cut told_5 5 30) 1 a) ≡ 2 ∷ 1 ∷ []
told-kept = refl
