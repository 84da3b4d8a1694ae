-- What the calls of a command answer.
use Rattle.std.specs.Prelude.{◌≡◌, ◌==◌, ℕ, Bool, true, false, not, nat_lt, nat_le, List, [], ◌∷◌, length, Option, Some, None, if◌then◌else◌}
use Rattle.std.proofs.Common.{inl, inr, sym, subst}
use Rattle.failure.specs.declared.Fault.{Fault}
use Rattle.item.specs.declared.change.Change.{Change}
use Rattle.item.specs.declared.change.Change.TheVariants.{Put as PutOf}
use Rattle.item.specs.declared.Formats.{Formats}
use Rattle.wt_code.specs.declared.answers.Answer.{Answer}
use Rattle.wt_code.specs.declared.answers.Answer.TheVariants as answers
use Rattle.wt_code.specs.declared.refusals.Refusal.{Refusal}
use Rattle.wt_code.specs.declared.refusals.Refusal.TheVariants.{Corrupt, NoMemory, Panic, Exists, Invalid as Refusal_Invalid, Limit as Refusal_Limit}
use Rattle.wt_code.specs.declared.refusals.Invalid.{Invalid}
use Rattle.wt_code.specs.declared.refusals.Invalid.TheVariants as why
use Rattle.wt_code.specs.declared.refusals.Limit.TheVariants as counted
use Rattle.limits.specs.declared.TheConstants.{NUMBER_MAX, TABLES_MAX}
use Rattle.kv_model.specs.History.{Table, tables, named}
use Rattle.kv_model.specs.Machine.{Machine, Transaction, Phase, Running, Failed, Prepared, Resolving, Leaving, Event, BeginAt, DrawId, CommitAt, StartLeaving, CreateTable, Nothing, transaction_of, of_some, after}
use Rattle.kv_model.specs.Refusals.{first_of, stamp_of, or_stamp, durable_below, begin_rules, commit_rules, resolve_rules}
use Rattle.kv_model.specs.Decisions as kv
use Rattle.kv_model.specs.Decisions.{Outcome, Demand, Anything, Vacant, Occupied, unmet, Request, BeginCall, CommitCall, EndCall, FindToWrite, CreateCall, WriteAnswer, judged, decision, while_up, checked, ruled, refused, in_state, running_session, is_on_page, commit_decision, create_decision, same_formats, id_drawn, is_name, write_checks}
use Rattle.kv_model.specs.Told.{Tells}
use Rattle.kv_model.specs.Calls.{Call, Begin, PutKey, Commit, Create, Around, Judged, Settled, AtPlace, IsHeldUp, SessionAnswers, SystemAnswers, settled, ended}
use Rattle.kv_model.specs.Reads.{present}
use Rattle.wt_tool.specs.Led.{IsWord}
use Rattle.wt_tool.specs.Parts.{NoDamage}

-- ---- what is decided

-- a call is done, or goes on, or is refused, and no damage is told
abbrev IsStep : Outcome → Type 0
IsStep kv.Done = Unit {0}
IsStep kv.Resumes = Unit {0}
IsStep (kv.Refused r) = NoDamage r
IsStep _ = ⊥

abbrev Steps : Outcome × Event → Type 0
Steps p = IsStep p.0

steps_of : {A : Type 0} (b : Outcome × Event) (f : A → Outcome × Event) (o : Option A) → Steps b → ((a : A) → Steps (f a)) → Steps (of_some b f o)
steps_of b f None first each = first
steps_of b f (Some a) first each = each a

steps_if : (b : Bool) (x y : Outcome × Event) → Steps x → Steps y → Steps (if b then x else y)
steps_if true x y one other = one
steps_if false x y one other = other

-- no check tells of damage
abbrev AreUndamaged : List (Bool × Refusal) → Type 0
AreUndamaged [] = Unit {0}
AreUndamaged ((b, r) ∷ checks) = NoDamage r × AreUndamaged checks

steps_checked : (checks : List (Bool × Refusal)) (go : Outcome × Event) → AreUndamaged checks → Steps go → Steps (checked checks go)
steps_checked [] go undamaged steps = steps
steps_checked ((true, r) ∷ checks) go undamaged steps = undamaged.0
steps_checked ((false, r) ∷ checks) go undamaged steps = steps_checked checks go undamaged.1 steps

steps_ruled : (rules : List (Bool × Invalid)) (event refusal : Event) → Steps (ruled rules event refusal)
steps_ruled rules event refusal = steps_of (kv.Done, event) (λ (reason : Invalid). (kv.Refused (Refusal_Invalid reason), refusal)) (first_of rules) tt (λ reason. tt)

steps_state : (phase : Phase) (go : Outcome × Event) → Steps go → Steps (in_state phase go)
steps_state Running go steps = steps
steps_state Failed go steps = tt
steps_state (Prepared stamp) go steps = tt
steps_state Resolving go steps = tt
steps_state Leaving go steps = tt

steps_running : (m : Machine) (session : ℕ) (go : Transaction → Outcome × Event) → ((t : Transaction) → Steps (go t)) → Steps (running_session m session go)
steps_running m session go each = steps_of (refused (Refusal_Invalid why.NoTxn)) (λ (t : Transaction). in_state t.phase (go t)) (transaction_of m session) tt (λ t. steps_state t.phase (go t) (each t))

steps_decision : (m : Machine) (session : ℕ) (request : Request) → Steps (judged m session request) → Steps (decision m session request)
steps_decision m session request steps =
    steps_if (is_on_page m session request) (judged m session request) (while_up m (judged m session request)) steps
    (steps_of (judged m session request) (λ (fault : Fault). refused (Panic fault)) m.fault steps (λ fault. tt))

begin_steps : (m : Machine) (session : ℕ) → Steps (judged m session (BeginCall None))
begin_steps m session =
    steps_of (ruled (begin_rules m.oldest None) (BeginAt session (stamp_of None)) Nothing) (λ (t : Transaction). refused (Refusal_Invalid why.InTxn)) (transaction_of m session)
    (steps_ruled (begin_rules m.oldest None) (BeginAt session (stamp_of None)) Nothing) (λ t. tt)

commit_steps : (m : Machine) (session : ℕ) → Steps (judged m session (CommitCall None None))
commit_steps m session = steps_of (refused (Refusal_Invalid why.NoTxn)) (λ (t : Transaction). commit_decision t.phase m session t None None) (transaction_of m session) tt (λ t. by_phase t t.phase)
  where
    by_phase : (t : Transaction) (phase : Phase) → Steps (commit_decision phase m session t None None)
    by_phase t Running = steps_ruled (commit_rules m.oldest m.stable None None (durable_below m t.writes)) (CommitAt session (stamp_of None) (stamp_of None)) (StartLeaving session)
    by_phase t (Prepared p) = steps_ruled (resolve_rules m.oldest m.stable p None None (durable_below m t.writes)) (CommitAt session (stamp_of None) (or_stamp (stamp_of None) (stamp_of None))) Nothing
    by_phase t Failed = tt
    by_phase t Resolving = tt
    by_phase t Leaving = tt

write_steps : (m : Machine) (session : ℕ) (name key : List ℕ) (change : Change) → Steps (judged m session (FindToWrite name key change))
write_steps m session name key change =
    steps_running m session _ (λ t. steps_checked (write_checks m name key change) (id_drawn m session t) (tt, (tt, (tt, (tt, tt))))
    (steps_if (t.id == 0) (checked (spent ∷ []) (kv.Done, DrawId session)) (kv.Done, Nothing) (steps_checked (spent ∷ []) (kv.Done, DrawId session) (tt, tt) tt) tt))
  where
    spent : Bool × Refusal
    spent = (nat_lt NUMBER_MAX m.next, Refusal_Limit counted.Ids)

create_steps : (m : Machine) (table : Table) → Steps (judged m 0 (CreateCall table))
create_steps m table = steps_checked ((not (is_name table.name), Refusal_Invalid why.BadName) ∷ []) (create_decision (tables m.history) table (named table.name (tables m.history))) (tt, tt) (by_old (named table.name (tables m.history)))
  where
    by_old : (old : Option Table) → Steps (create_decision (tables m.history) table old)
    by_old None = steps_checked ((nat_le TABLES_MAX (length (tables m.history)), Refusal_Limit counted.Tables) ∷ []) (kv.Done, CreateTable table) (tt, tt) tt
    by_old (Some old) = steps_if (same_formats table.formats old.formats) (kv.Done, Nothing) (refused Exists) tt tt

-- ---- what is answered

-- done, or refused, and no damage is told
abbrev pub IsDone : Answer (List ℕ) → Type 0
IsDone answers.Done = Unit {0}
IsDone (answers.Refused r) = NoDamage r
IsDone _ = ⊥

tells_done : (o : Outcome) (a : Answer (List ℕ)) → IsStep o → Tells o a → IsDone a
tells_done kv.Done a step is = subst IsDone (sym is) tt
tells_done kv.Resumes a step is = absurd is
tells_done (kv.Refused r) a step is = subst IsDone (sym is) step
tells_done _ a step is = absurd step

refused_done : (r : Refusal) (a : Answer (List ℕ)) → NoDamage r → a ≡ answers.Refused r → IsDone a
refused_done r a undamaged is = subst IsDone (sym is) undamaged

judged_done : (m : Machine) (session : ℕ) (request : Request) (o : Outcome) (a : Answer (List ℕ)) (next : Machine) → Steps (judged m session request) → Judged m session request o next → Tells o a → IsDone a
judged_done m session request o a next steps (e, is, leaves) told = tells_done o a (subst Steps is (steps_decision m session request steps)) told

ended_steps : (m : Machine) (session : ℕ) (o : Outcome) → IsStep o → IsStep (ended m session o).0
ended_steps m session o step = by_there (transaction_of m session)
  where
    by_there : (t : Option Transaction) → IsStep (of_some {A = Transaction} {B = Outcome × Machine} (o, m) (λ t. let last = decision m session (EndCall o) in (last.0, after m last.1)) t).0
    by_there None = step
    by_there (Some t) = steps_decision m session (EndCall o) step

settled_steps : (m : Machine) (session : ℕ) (o : Outcome) (e : Event) → IsStep o → IsStep (settled m session o e).0
settled_steps m session o (StartLeaving s) step = ended_steps (after m (StartLeaving s)) session o step
settled_steps m session o (CommitAt s commit durable) step = ended_steps (after m (CommitAt s commit durable)) session o step
settled_steps m session o event step = step

commit_done : (m : Machine) (session : ℕ) (o : Outcome) (a : Answer (List ℕ)) (next : Machine) → Settled m session (CommitCall None None) o next → Tells o a → IsDone a
commit_done m session o a next is told =
    let d = decision m session (CommitCall None None) in
    tells_done o a (subst (λ (x : Outcome × Machine). IsStep x.0) is (settled_steps m session d.0 d.1 (steps_decision m session (CommitCall None None) (commit_steps m session)))) told

unmet_undamaged : (demand : Demand) (o : Option (List ℕ)) (at want found : ℕ) → unmet demand o ≡ Some (Corrupt at want found) → ⊥
unmet_undamaged Anything None at want found is = cc
unmet_undamaged Anything (Some v) at want found is = cc
unmet_undamaged Vacant None at want found is = cc
unmet_undamaged Vacant (Some v) at want found is = cc
unmet_undamaged Occupied None at want found is = cc
unmet_undamaged Occupied (Some v) at want found is = cc

write_undamaged : (m : Machine) (session : ℕ) (t : Transaction) (table : ℕ) (key : List ℕ) (change : Change) (demand : Demand) (r : Refusal) (event : Event) → WriteAnswer m session t table key change demand (kv.Refused r) event → NoDamage r
write_undamaged m session t table key change demand (Corrupt at want found) event may = unmet_undamaged demand (present m t table key) at want found may.1
write_undamaged m session t table key change demand _ event may = tt

write_looks : (m : Machine) (session : ℕ) (t : Transaction) (table : ℕ) (key : List ℕ) (change : Change) (demand : Demand) (o : Outcome) (event : Event) → WriteAnswer m session t table key change demand o event → IsStep o
write_looks m session t table key change demand kv.Done event may = tt
write_looks m session t table key change demand (kv.Refused r) event may = write_undamaged m session t table key change demand r event may
write_looks m session t table key change demand _ event there = absurd there

placed_steps : (m : Machine) (session : ℕ) (name : List ℕ) (request : Request) (Looks : Machine → Transaction → Table → Outcome → Event → Type 0) (o : Outcome) (next : Machine)
    → Steps (judged m session request) → ((n : Machine) (t : Transaction) (table : Table) (event : Event) → Looks n t table o event → IsStep o) → AtPlace m session name request Looks o next → IsStep o
placed_steps m session name request Looks o next steps look (inl (r, e, decides, is, same)) = subst IsStep (sym is) (subst Steps decides (steps_decision m session request steps))
placed_steps m session name request Looks o next steps look (inr (e, t, table, event, decides, finds, looks, leaves)) = look (after m e) t table event looks

held_done : (a : Around) (m : Machine) (session : ℕ) (request : Request) (answer : Answer (List ℕ)) (next : Machine) → ((r : Refusal) → a.MayKeepOut r → NoDamage r) → IsHeldUp a m session request answer next → IsDone answer
held_done a m session request answer next undamaged (inl short) = refused_done NoMemory answer tt short.0
held_done a m session request answer next undamaged (inr (e, decides, inl short)) = refused_done NoMemory answer tt short.0
held_done a m session request answer next undamaged (inr (e, decides, inr (r, may, told, rest))) = refused_done r answer (undamaged r may) told

-- where no damage keeps a leaf from it
pub word_done : (a : Around) (m : Machine) (session : ℕ) (c : Call) (answer : Answer (List ℕ)) (next : Machine) → ((r : Refusal) → a.MayKeepOut r → NoDamage r) → IsWord c → SessionAnswers a m session c answer next → IsDone answer
word_done a m session (Begin None) answer next undamaged word (inl (o, decides, told)) = judged_done m session (BeginCall None) o answer next (begin_steps m session) decides told
word_done a m session (Begin None) answer next undamaged word (inr held) = absurd held
word_done a m session (Commit None None) answer next undamaged word (inl (o, decides, told)) = commit_done m session o answer next decides told
word_done a m session (Commit None None) answer next undamaged word (inr held) = absurd held
word_done a m session (PutKey name key value demand) answer next undamaged word (inl (o, decides, told)) =
    tells_done o answer
    (placed_steps m session name (FindToWrite name key (PutOf value)) (λ n t table o event. WriteAnswer n session t table.number key (PutOf value) demand o event) o next (write_steps m session name key (PutOf value))
    (λ n t table event looks. write_looks n session t table.number key (PutOf value) demand o event looks) decides)
    told
word_done a m session (PutKey name key value demand) answer next undamaged word (inr held) = held_done a m session (FindToWrite name key (PutOf value)) answer next undamaged held
word_done a m session _ answer next undamaged word answered = absurd word

pub create_done : (a : Around) (m : Machine) (name : List ℕ) (formats : Formats) (answer : Answer (List ℕ)) (next : Machine) → SystemAnswers a m (Create name formats) answer next → IsDone answer
create_done a m name formats answer next (inl (is, same)) = refused_done NoMemory answer tt is
create_done a m name formats answer next (inr (table, fits, (o, judged, told))) = judged_done m 0 (CreateCall table) o answer next (create_steps m table) judged told
