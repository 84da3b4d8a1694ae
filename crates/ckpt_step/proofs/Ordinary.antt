-- What steps and calls leave as it is, whatever their stamps.
use Rattle.std.proofs.Common.{◌≡◌, ◌∙◌, ◌≤◌, ℕ, zero, suc, List, [], ◌∷◌, length, get_or, Option, Some, None, refl, ap, sym, subst, arith}
use Rattle.std.specs.Prelude.{MatchOption, option_map, slice_get, slice_index_or}
use Rattle.std.proofs.Math.ListN.{get_or-map}
use Rattle.std.proofs.lemmas.List.{get_or_past}
use Rattle.wt_code.specs.declared.answers.Answer.{Answer}
use Rattle.wt_code.specs.declared.answers.Answer.TheVariants as answers
use Rattle.wt_code.specs.declared.refusals.Refusal.TheVariants.{NotFound}
use Rattle.kv_model.specs.Calls.{Call, Commit, CkptStart, CkptStep, CkptFinish, Rts, Close}
use Rattle.kv_model.specs.Machine.{Machine, Transaction, Phase, Running, Failed, Prepared, Resolving, Leaving, Event, PrepareAt, CommitAt, StartLeaving, RollbackToStable, CheckpointStart, CheckpointFinish, CheckpointDrop, GoDown, Nothing, after, decided, left, of_some, prepared, transaction_of}
use Rattle.txn_table.specs.declared.phase.Phase.{Phase as SessionPhase}
use Rattle.txn_table.specs.declared.phase.Phase.TheVariants as phase
use Rattle.call_steps.specs.declared.stage.CommitStamps.{CommitStamps}
use Rattle.call_steps.specs.declared.stage.KeyCall.{KeyCall}
use Rattle.call_steps.specs.declared.stage.KeyCall.TheVariants as key_call
use Rattle.call_steps.specs.declared.stage.Stage.{Stage}
use Rattle.call_steps.specs.declared.stage.Stage.TheVariants as stage
use Rattle.call_steps.specs.declared.stage.Target.{Target}
use Rattle.call_steps.specs.Stages.{cursor_in}
use Rattle.call_steps.specs.State.{State}
use Rattle.wt_calls.specs.declared.system_call.SystemCall.{SystemCall}
use Rattle.wt_calls.specs.declared.system_call.SystemCall.TheVariants as system
use Rattle.wt_calls.specs.declared.session_call.SessionCall.{SessionCall}
use Rattle.wt_calls.specs.declared.session_call.SessionCall.TheVariants as session_call
use Rattle.wt_calls.specs.declared.call.Call.{Call as AnyCall}
use Rattle.wt_calls.specs.declared.call.Call.TheVariants as call
use Rattle.wt_calls.specs.Calls.{session_call_in, system_call_in}
use Rattle.engine.specs.declared.step.Actor.TheVariants as by
use Rattle.engine.specs.declared.step.Step.{Step}
use Rattle.engine.specs.declared.step.Step.TheVariants.{Start, Go}
use Rattle.engine.specs.Runs.{CallFits, IsBuilt, StepFits}
use Rattle.engine.specs.Sound.{AreBuilt}
use Rattle.engine.specs.Whole.{with_session_more}
use Rattle.tree_dir.specs.declared.leaf.Leaf.{Leaf}
use Rattle.engine_world.specs.Doings.{call_in, doing_at, landing, stamping, undoing}
use Rattle.engine_world.specs.Stands.{Engine, Stands}
use Rattle.engine_world.specs.Worlds.{Doing, Resting, Asked, Placed, Decided, Ending, World, doing_of}
use Rattle.ckpt_step.specs.Keeps.{AreOrdinary, EnginesAreOrdinary, FitsAreOrdinary, IsOrdinary, IsOrdinaryCall, IsOrdinaryDoing, IsOrdinaryEvent, IsOrdinaryStep, Keeps, KeptKeep, KeptOutKeep, StepsKeep}
use Rattle.ckpt_step.proofs.Quiet.{IsMild, IsQuiet}
use Rattle.ckpt_step.proofs.StepCalls.{IsMildAny, IsMildDoing, IsMildIn, IsMildStep, IsMildWorld, Stays, answers_so, kept_so, opens_more, out_so, steps}
use Rattle.ckpt_step.proofs.WholeCalls.{Kept}

-- ---- events

record Same (m next : Machine) : Type 0 where
  completed : next.completed ≡ m.completed
  checkpoint : next.checkpoint ≡ m.checkpoint
  fault : next.fault ≡ m.fault

same : (m : Machine) → Same m m
same m = record { completed = refl; checkpoint = refl; fault = refl }

same_of : (m : Machine) (f : Transaction → Machine) → ((t : Transaction) → Same m (f t)) → (o : Option Transaction) → Same m (of_some m f o)
same_of m f each None = same m
same_of m f each (Some t) = each t

same_decided : (p : Phase) (m : Machine) (session commit durable : ℕ) (t : Transaction) → Same m (decided p m session commit durable t)
same_decided (Prepared at) m session commit durable t = record { completed = refl; checkpoint = refl; fault = refl }
same_decided Running m session commit durable t = record { completed = refl; checkpoint = refl; fault = refl }
same_decided Failed m session commit durable t = record { completed = refl; checkpoint = refl; fault = refl }
same_decided Resolving m session commit durable t = record { completed = refl; checkpoint = refl; fault = refl }
same_decided Leaving m session commit durable t = record { completed = refl; checkpoint = refl; fault = refl }

same_left : (p : Phase) (m : Machine) (session : ℕ) (t : Transaction) → Same m (left p m session t)
same_left (Prepared at) m session t = record { completed = refl; checkpoint = refl; fault = refl }
same_left Running m session t = record { completed = refl; checkpoint = refl; fault = refl }
same_left Failed m session t = record { completed = refl; checkpoint = refl; fault = refl }
same_left Resolving m session t = same m
same_left Leaving m session t = record { completed = refl; checkpoint = refl; fault = refl }

same_after : (m : Machine) (event : Event) → IsQuiet ⊥ event → Same m (after m event)
same_after m (PrepareAt session stamp) quiet = same_of m (prepared m session stamp) (λ t. record { completed = refl; checkpoint = refl; fault = refl }) (transaction_of m session)
same_after m (CommitAt session commit durable) quiet = same_of m (λ t. decided t.phase m session commit durable t) (λ t. same_decided t.phase m session commit durable t) (transaction_of m session)
same_after m (StartLeaving session) quiet = same_of m (λ t. left t.phase m session t) (λ t. same_left t.phase m session t) (transaction_of m session)
same_after m RollbackToStable quiet = absurd quiet
same_after m CheckpointStart quiet = absurd quiet
same_after m CheckpointFinish quiet = absurd quiet
same_after m CheckpointDrop quiet = absurd quiet
same_after m (GoDown fault) quiet = absurd quiet
same_after m _ quiet = record { completed = refl; checkpoint = refl; fault = refl }

-- ---- worlds

mild_of : (made : Call) → IsOrdinary made → IsMild ⊥ made
mild_of (Commit None None) there = tt
mild_of (Commit None (Some durable)) there = λ bar. bar
mild_of (Commit (Some commit) durable) there = λ bar. bar
mild_of CkptStart there = absurd there
mild_of CkptStep there = absurd there
mild_of CkptFinish there = absurd there
mild_of Rts there = absurd there
mild_of Close there = absurd there
mild_of _ there = tt

ordinary_of : (made : Call) → IsMild ⊥ made → IsOrdinary made
ordinary_of CkptStart mild = absurd mild
ordinary_of CkptStep mild = absurd mild
ordinary_of CkptFinish mild = absurd mild
ordinary_of Rts mild = absurd mild
ordinary_of Close mild = absurd mild
ordinary_of _ mild = tt

quiet_of : (event : Event) → IsOrdinaryEvent event → IsQuiet ⊥ event
quiet_of (CommitAt session commit durable) there = λ bar. absurd bar
quiet_of RollbackToStable there = absurd there
quiet_of CheckpointStart there = absurd there
quiet_of CheckpointFinish there = absurd there
quiet_of CheckpointDrop there = absurd there
quiet_of (GoDown fault) there = absurd there
quiet_of _ there = tt

event_of : (event : Event) → IsQuiet ⊥ event → IsOrdinaryEvent event
event_of RollbackToStable quiet = absurd quiet
event_of CheckpointStart quiet = absurd quiet
event_of CheckpointFinish quiet = absurd quiet
event_of CheckpointDrop quiet = absurd quiet
event_of (GoDown fault) quiet = absurd quiet
event_of _ quiet = tt

doing_mild : (doing : Doing) → IsOrdinaryDoing doing → IsMildDoing ⊥ doing
doing_mild Resting there = tt
doing_mild (Asked made n) there = mild_of made there
doing_mild (Placed made table n) there = mild_of made there
doing_mild (Decided answer event n) there = quiet_of event there
doing_mild (Ending answer n) there = tt

doing_ordinary : (doing : Doing) → IsMildDoing ⊥ doing → IsOrdinaryDoing doing
doing_ordinary Resting mild = tt
doing_ordinary (Asked made n) mild = ordinary_of made mild
doing_ordinary (Placed made table n) mild = ordinary_of made mild
doing_ordinary (Decided answer event n) mild = event_of event mild
doing_ordinary (Ending answer n) mild = tt

in_mild : (o : Option Call) → MatchOption o (Unit {0}) IsOrdinary → IsMildIn ⊥ o
in_mild None there = tt
in_mild (Some made) there = mild_of made there

in_ordinary : (o : Option Call) → IsMildIn ⊥ o → MatchOption o (Unit {0}) IsOrdinary
in_ordinary None mild = tt
in_ordinary (Some made) mild = ordinary_of made mild

any_mild : (made : AnyCall) → IsOrdinaryCall made → IsMildAny ⊥ made
any_mild (call.Session session made) there = mild_of (session_call_in made) there
any_mild (call.System number made) there = mild_of (system_call_in made) there

step_mild : (step : Step) → IsOrdinaryStep step → IsMildStep ⊥ step
step_mild (Start made) there = any_mild made there
step_mild (Go who) there = tt

world_mild : (w : World) → AreOrdinary w → IsMildWorld ⊥ w
world_mild w are = record {
  sessions = λ session. doing_mild (doing_of w session) (are.doings session);
  systems = λ number. in_mild (slice_index_or w.systems number None) (are.systems number);
}

abbrev same_kept : Kept ⊥
same_kept = record {
  To = Same;
  same = same;
  on = λ m middle next one two. record { completed = two.completed ∙ one.completed; checkpoint = two.checkpoint ∙ one.checkpoint; fault = two.fault ∙ one.fault };
  by = same_after;
}

keeps : (w next : World) → Stays ⊥ same_kept w next → Keeps w next
keeps w next stays = record {
  completed = stays.to.completed;
  checkpoint = stays.to.checkpoint;
  fault = stays.to.fault;
  ordinary = record {
    doings = λ session. doing_ordinary (doing_of next session) (stays.mild.sessions session);
    systems = λ number. in_ordinary (slice_index_or next.systems number None) (stays.mild.systems number);
  };
}

pub steps_keep : StepsKeep
steps_keep = (
  (λ w next step told are there may. keeps w next (steps ⊥ same_kept w next step told (world_mild w are) (step_mild step there) may)),
  (λ w next made answer are there may. keeps w next (answers_so ⊥ same_kept w next made answer (world_mild w are) (any_mild made there) may)),
  (λ w are. keeps w (with_session_more w) (opens_more ⊥ same_kept w (world_mild w are))),
)

pub kept_keep : KeptKeep
kept_keep kept w next session made answer are there may = keeps w next (kept_so ⊥ same_kept kept w next session made answer (world_mild w are) (mild_of made there) may)

pub kept_out_keep : KeptOutKeep
kept_out_keep w next session r are may = keeps w next (out_so ⊥ same_kept w next session r (world_mild w are) may)

-- ---- what an engine has under way

session_ordinary : (made : SessionCall) → IsOrdinary (session_call_in made)
session_ordinary (session_call.Begin read) = tt
session_ordinary (session_call.Get table key) = tt
session_ordinary (session_call.Put table key value demand) = tt
session_ordinary (session_call.Remove table key) = tt
session_ordinary (session_call.Seek cursor table key) = tt
session_ordinary (session_call.Step cursor table way) = tt
session_ordinary (session_call.Reset cursor) = tt
session_ordinary (session_call.Prepare stamp) = tt
session_ordinary (session_call.Commit commit durable) = tt
session_ordinary session_call.Rollback = tt

built_ordinary : (made : SystemCall) → IsBuilt made → IsOrdinary (system_call_in made)
built_ordinary (system.Create table formats) built = tt
built_ordinary (system.SetStamps oldest stable) built = tt
built_ordinary _ built = absurd built

call_ordinary : (made : KeyCall) (a : State) → IsOrdinary (call_in made a)
call_ordinary key_call.Get a = tt
call_ordinary (key_call.Put demand) a = tt
call_ordinary key_call.Remove a = tt
call_ordinary (key_call.Seek cursor) a = tt
call_ordinary (key_call.Step cursor way) a = tt

landing_ordinary : (session cursor : ℕ) (target : Target) (key : List ℕ) (answer : Answer (List ℕ)) → IsOrdinaryEvent (landing session cursor target key answer)
landing_ordinary session cursor target key (answers.Value v) = tt
landing_ordinary session cursor target key (answers.Row k v) = tt
landing_ordinary session cursor target key (answers.Refused NotFound) = tt
landing_ordinary session cursor target key _ = tt

cursor_ordinary : (session : ℕ) (target : Target) (key : List ℕ) (answer : Answer (List ℕ)) (o : Option ℕ) → IsOrdinaryEvent (of_some Nothing (λ cursor. landing session cursor target key answer) o)
cursor_ordinary session target key answer None = tt
cursor_ordinary session target key answer (Some cursor) = landing_ordinary session cursor target key answer

stamping_ordinary : (p : SessionPhase) (stamps : CommitStamps) (n : ℕ) (a : State) → IsOrdinaryDoing (stamping p stamps n a)
stamping_ordinary phase.Running stamps n a = tt
stamping_ordinary _ stamps n a = tt

undoing_ordinary : (p : SessionPhase) (n : ℕ) (a : State) → IsOrdinaryDoing (undoing p n a)
undoing_ordinary phase.Running n a = tt
undoing_ordinary phase.Failed n a = tt
undoing_ordinary _ n a = tt

doing_so : (s : Stage) (leaves : List Leaf) (session : ℕ) (a : State) → IsOrdinaryDoing (doing_at s leaves session a)
doing_so (stage.Find made) leaves session a = call_ordinary made a
doing_so (stage.Fill made wanted) leaves session a = call_ordinary made a
doing_so (stage.Publish made target) leaves session a = call_ordinary made a
doing_so (stage.Validate made target) leaves session a = call_ordinary made a
doing_so (stage.Look made target) leaves session a = call_ordinary made a
doing_so (stage.Pass made target) leaves session a = call_ordinary made a
doing_so (stage.History made target) leaves session a = cursor_ordinary session target a.key (answers.Refused NotFound) (cursor_in made)
doing_so (stage.ClearCursor made target) leaves session a = cursor_ordinary session target a.key a.answer (cursor_in made)
doing_so (stage.Clear made target) leaves session a = cursor_ordinary session target a.key a.answer (cursor_in made)
doing_so (stage.Stamp stamps n) leaves session a = stamping_ordinary a.phase stamps n a
doing_so (stage.Undo n) leaves session a = undoing_ordinary a.phase n a
doing_so _ leaves session a = tt

none_past : {A : Type 0} (xs : List A) (n : ℕ) → slice_get xs n ≡ None → length xs ≤ n
none_past [] n is = omega arith
none_past (x ∷ xs) zero is = absurd cc
none_past (x ∷ xs) (suc n) is = let le = none_past xs n is in omega (arith, le)

some_there : (xs : List (Option SystemCall)) (n : ℕ) (asked : SystemCall) → get_or xs n None ≡ Some asked → slice_get xs n ≡ Some (Some asked)
some_there [] n asked is = absurd cc
some_there (x ∷ xs) zero asked is = ap (λ (o : Option SystemCall). Some o) is
some_there (x ∷ xs) (suc n) asked is = some_there xs n asked is

doing_here : (e : Engine) (w : World) (session : ℕ) → Stands e w → (o : Option State) → slice_get e.sessions session ≡ o → IsOrdinaryDoing (doing_of w session)
doing_here e w session st None is =
    let past = none_past e.sessions session is in
    subst (λ (d : Doing). IsOrdinaryDoing d) (sym (get_or_past w.sessions session Resting (omega (arith, past, st.doings)))) tt
doing_here e w session st (Some a) is = subst (λ (d : Doing). IsOrdinaryDoing d) (sym (st.doing session a is)) (doing_so a.stage e.hub.dir.leaves session a)

built_here : (systems : List (Option SystemCall)) (number : ℕ) → AreBuilt systems → (o : Option SystemCall) → get_or systems number None ≡ o → MatchOption (option_map system_call_in o) (Unit {0}) IsOrdinary
built_here systems number built None is = tt
built_here systems number built (Some asked) is = built_ordinary asked (built number asked (some_there systems number asked is))

pub engines_are : EnginesAreOrdinary
engines_are e w st built = record {
  doings = λ session. doing_here e w session st (slice_get e.sessions session) refl;
  systems = λ number.
      let is : get_or w.systems number None ≡ option_map system_call_in (get_or e.systems number None) =
      ap (λ (ss : List (Option Call)). get_or ss number None) (sym st.systems) ∙ get_or-map (option_map system_call_in) e.systems number None in
      subst (λ (o : Option Call). MatchOption o (Unit {0}) IsOrdinary) (sym is) (built_here e.systems number built (get_or e.systems number None) refl);
}

call_fits : (e : Engine) (made : AnyCall) → CallFits e made → IsOrdinaryCall made
call_fits e (call.Session session made) fits = session_ordinary made
call_fits e (call.System number made) fits = built_ordinary made fits.1

step_fits : (e : Engine) (step : Step) → StepFits e step → IsOrdinaryStep step
step_fits e (Start made) fits = call_fits e made fits
step_fits e (Go (by.Session session)) fits = tt
step_fits e (Go (by.System number)) fits = tt

pub fits_are : FitsAreOrdinary
fits_are e = (step_fits e, call_fits e)
