-- What steps and calls keep of a world: its last checkpoint, the one that runs, its fault, what is before a floor, what a snapshot does not see, and what lies on the shelf and in the history.
use Rattle.std.proofs.Common.{◌≡◌, ◌∙◌, ℕ, zero, suc, List, [], ◌∷◌, Option, Some, None, get_or, set, refl, ap, sym, subst}
use Rattle.std.specs.Prelude.{slice_index_or}
use Rattle.wt_code.specs.declared.answers.Answer.{Answer}
use Rattle.wt_code.specs.declared.answers.Answer.TheVariants as answers
use Rattle.wt_code.specs.declared.refusals.Refusal.{Refusal}
use Rattle.kv_model.specs.Calls.{Call}
use Rattle.row_page.specs.Rows.{Row}
use Rattle.kv_model.specs.Machine.{Machine, Nothing}
use Rattle.wt_calls.specs.Calls.{session_call_in, system_call_in}
use Rattle.wt_calls.specs.declared.call.Call.{Call as AnyCall}
use Rattle.wt_calls.specs.declared.call.Call.TheVariants as call
use Rattle.call_steps.specs.declared.reply.Reply.{Reply}
use Rattle.engine_world.specs.Steps.{BeginsIn, IsKeptOut, Made, MayKeepOut}
use Rattle.engine_world.specs.Worlds.{Doing, Resting, Asked, Placed, Decided, Ending, Records, World, doing_of}
use Rattle.engine.specs.declared.step.Actor.TheVariants as by
use Rattle.engine.specs.declared.step.Step.{Step}
use Rattle.engine.specs.declared.step.Step.TheVariants.{Start, Go}
use Rattle.engine.specs.Runs.{AsksIn, MakesIn, MayStep}
use Rattle.engine.specs.Whole.{CallsIn, CallsKept, KeptBy, MakesAt, MayAnswer, MayCallKept, with_session_more}
use Rattle.ckpt_step.specs.Floors.{GoesOn, laid_of}
use Rattle.ckpt_step.specs.Keeps.{AreOrdinary, IsOrdinary, IsOrdinaryCall, IsOrdinaryDoing, IsOrdinaryStep, Keeps}
use Rattle.ckpt_step.proofs.Floors.{goes_after, goes_on, goes_same}
use Rattle.ckpt_step.proofs.Ordinary.{kept_keep, steps_keep}
use Rattle.ckpt_step.proofs.StepCalls.{answers_so, kept_so, opens_more, steps}
use Rattle.ckpt_step.proofs.WholeCalls.{Kept}
use Rattle.engine_store.proofs.Apart.{GoesApart, apart_after, apart_on, apart_same}
use Rattle.engine_store.proofs.MildWorlds.{mild_any, mild_call, mild_step, mild_world, ordinary_event}

pub record Goes (w next : World) : Type 0 where
  pub keeps : Keeps w next
  pub machine : GoesOn w.machine next.machine
  pub apart : GoesApart w.machine next.machine
  pub shelf : next.shelf ≡ w.shelf

abbrev going : Kept ⊥
going = record {
  To = λ m next. GoesOn m next × GoesApart m next;
  same = λ m. (goes_same m, apart_same m);
  on = λ m middle next one two. (goes_on m middle next one.0 two.0, apart_on m middle next one.1 two.1);
  by = λ m event quiet. let ordinary = ordinary_event event quiet in (goes_after m event ordinary, apart_after m event ordinary);
}

pub goes_then : (a b c : World) → Goes a b → Goes b c → Goes a c
goes_then a b c one two = record {
  keeps = record {
    completed = two.keeps.completed ∙ one.keeps.completed;
    checkpoint = two.keeps.checkpoint ∙ one.keeps.checkpoint;
    fault = two.keeps.fault ∙ one.keeps.fault;
    ordinary = two.keeps.ordinary;
  };
  machine = goes_on a.machine b.machine c.machine one.machine two.machine;
  apart = apart_on a.machine b.machine c.machine one.apart two.apart;
  shelf = two.shelf ∙ one.shelf;
}

-- ---- the shelf and the history

laid_begins : (doing : Doing) (w : World) (session : ℕ) (made : Call) (told : Reply) (next : World) → BeginsIn doing w session made told next → laid_of next ≡ laid_of w
laid_begins Resting w session made told next (left, started, is) = ap laid_of is
laid_begins (Asked other left) w session made told next (refuses, is) = ap laid_of is
laid_begins (Placed other table left) w session made told next (refuses, is) = ap laid_of is
laid_begins (Decided other event left) w session made told next (refuses, is) = ap laid_of is
laid_begins (Ending other left) w session made told next (refuses, is) = ap laid_of is

laid_asks : (o : Option Call) (w : World) (number : ℕ) (made : Call) (told : Reply) (next : World) → AsksIn o w number made told next → laid_of next ≡ laid_of w
laid_asks None w number made told next (started, is) = ap laid_of is
laid_asks (Some other) w number made told next (refuses, is) = ap laid_of is

laid_makes : (o : Option Call) (w : World) (number : ℕ) (told : Reply) (next : World) → MakesIn o w number told next → laid_of next ≡ laid_of w
laid_makes None w number told next (refuses, is) = ap laid_of is
laid_makes (Some made) w number told next (answer, m, answered, tells, is) = ap laid_of is

pub laid_step : (w next : World) (step : Step) (told : Reply) → MayStep w step told next → laid_of next ≡ laid_of w
laid_step w next (Start (call.Session session made)) told may = laid_begins (doing_of w session) w session (session_call_in made) told next may
laid_step w next (Start (call.System number made)) told may = laid_asks (slice_index_or w.systems number None) w number (system_call_in made) told next may
laid_step w next (Go (by.Session session)) told may = ap laid_of may.leaves
laid_step w next (Go (by.System number)) told may = laid_makes (slice_index_or w.systems number None) w number told next may

pub laid_calls : (doing : Doing) (w : World) (session : ℕ) (made : Call) (answer : Answer (List ℕ)) (next : World) → CallsIn doing w session made answer next → laid_of next ≡ laid_of w
laid_calls Resting w session made answer next (answered, is) = ap laid_of is
laid_calls (Asked other left) w session made answer next (refuses, is) = ap laid_of is
laid_calls (Placed other table left) w session made answer next (refuses, is) = ap laid_of is
laid_calls (Decided other event left) w session made answer next (refuses, is) = ap laid_of is
laid_calls (Ending other left) w session made answer next (refuses, is) = ap laid_of is

pub laid_kept : (kept : KeptBy) (doing : Doing) (w : World) (session : ℕ) (made : Call) (answer : Answer (List ℕ)) (next : World) → CallsKept kept doing w session made answer next → laid_of next ≡ laid_of w
laid_kept kept Resting w session made answer next (answered, fault, is) = ap laid_of is
laid_kept kept (Asked other left) w session made answer next (refuses, is) = ap laid_of is
laid_kept kept (Placed other table left) w session made answer next (refuses, is) = ap laid_of is
laid_kept kept (Decided other event left) w session made answer next (refuses, is) = ap laid_of is
laid_kept kept (Ending other left) w session made answer next (refuses, is) = ap laid_of is

laid_made : (o : Option Call) (w : World) (made : Call) (answer : Answer (List ℕ)) (next : World) → MakesAt o w made answer next → laid_of next ≡ laid_of w
laid_made None w made answer next (answered, is) = ap laid_of is
laid_made (Some other) w made answer next (refuses, is) = ap laid_of is

pub laid_answer : (w next : World) (made : AnyCall) (answer : Answer (List ℕ)) → MayAnswer w made answer next → laid_of next ≡ laid_of w
laid_answer w next (call.Session session made) answer may = laid_calls (doing_of w session) w session (session_call_in made) answer next may
laid_answer w next (call.System number made) answer may = laid_made (slice_index_or w.systems number None) w (system_call_in made) answer next may

-- of these the shelf
shelf_of : (w next : World) → laid_of next ≡ laid_of w → next.shelf ≡ w.shelf
shelf_of w next laid = ap (λ (x : (ℕ → List Row) × Records). x.0) laid

-- what is under way is ordinary, whatever the history
pub ordinary_other : (w : World) (r : Records) → AreOrdinary (record w { records = r }) → AreOrdinary w
ordinary_other w r are = record { doings = are.doings; systems = are.systems }

-- with another history
pub goes_other : (w next : World) (q r : Records) → Goes w next → Goes (record w { records = q }) (record next { records = r })
goes_other w next q r on = record {
  keeps = record { completed = on.keeps.completed; checkpoint = on.keeps.checkpoint; fault = on.keeps.fault; ordinary = record { doings = on.keeps.ordinary.doings; systems = on.keeps.ordinary.systems } };
  machine = on.machine;
  apart = on.apart;
  shelf = on.shelf;
}

-- ---- steps and calls

pub goes_step : (w next : World) (step : Step) (told : Reply) → AreOrdinary w → IsOrdinaryStep step → MayStep w step told next → Goes w next
goes_step w next step told are there may = record {
  keeps = steps_keep.0 w next step told are there may;
  machine = (steps ⊥ going w next step told (mild_world w are) (mild_step step there) may).to.0;
  apart = (steps ⊥ going w next step told (mild_world w are) (mild_step step there) may).to.1;
  shelf = shelf_of w next (laid_step w next step told may);
}

pub goes_answer : (w next : World) (made : AnyCall) (answer : Answer (List ℕ)) → AreOrdinary w → IsOrdinaryCall made → MayAnswer w made answer next → Goes w next
goes_answer w next made answer are there may = record {
  keeps = steps_keep.1 w next made answer are there may;
  machine = (answers_so ⊥ going w next made answer (mild_world w are) (mild_any made there) may).to.0;
  apart = (answers_so ⊥ going w next made answer (mild_world w are) (mild_any made there) may).to.1;
  shelf = shelf_of w next (laid_answer w next made answer may);
}

pub goes_kept : (kept : KeptBy) (w next : World) (session : ℕ) (made : Call) (answer : Answer (List ℕ)) → AreOrdinary w → IsOrdinary made → MayCallKept kept w session made answer next → Goes w next
goes_kept kept w next session made answer are there may = record {
  keeps = kept_keep kept w next session made answer are there may;
  machine = (kept_so ⊥ going kept w next session made answer (mild_world w are) (mild_call made there) may).to.0;
  apart = (kept_so ⊥ going kept w next session made answer (mild_world w are) (mild_call made there) may).to.1;
  shelf = shelf_of w next (laid_kept kept (doing_of w session) w session made answer next may);
}

pub goes_more : (w : World) → AreOrdinary w → Goes w (with_session_more w)
goes_more w are = record { keeps = steps_keep.2 w are; machine = (opens_more ⊥ going w (mild_world w are)).to.0; apart = (opens_more ⊥ going w (mild_world w are)).to.1; shelf = refl }

-- ---- a call whose leaf is kept from it

each_set : {A : Type 0} (P : A → Type 0) (xs : List A) (i : ℕ) (v d : A) → ((k : ℕ) → P (get_or xs k d)) → P v → (k : ℕ) → P (get_or (set xs i v) k d)
each_set P [] i v d each there k = each k
each_set P (x ∷ xs) zero v d each there zero = there
each_set P (x ∷ xs) zero v d each there (suc k) = each (suc k)
each_set P (x ∷ xs) (suc i) v d each there zero = each zero
each_set P (x ∷ xs) (suc i) v d each there (suc k) = each_set P xs i v d (λ n. each (suc n)) there k

-- its answer is decided, and nothing else changes
record OutBy (m : Machine) (r : Refusal) (made : Made) : Type 0 where
  left : ℕ
  machine : made.machine ≡ m
  doing : made.doing ≡ Decided (answers.Refused r) Nothing left

out_by : (doing : Doing) (r : Refusal) (m : Machine) (made : Made) → IsKeptOut doing r m made → OutBy m r made
out_by Resting r m made out = absurd out
out_by (Asked asked left) r m made out = absurd out
out_by (Placed asked table left) r m made (fewer, less, is) = record { left = fewer; machine = ap (λ (x : Made). x.machine) is; doing = ap (λ (x : Made). x.doing) is }
out_by (Decided answer event left) r m made out = absurd out
out_by (Ending answer left) r m made out = absurd out

pub goes_out : (w next : World) (session : ℕ) (r : Refusal) → AreOrdinary w → MayKeepOut w session r next → Goes w next
goes_out w next session r are may =
    let out = out_by (doing_of w session) r w.machine may.made may.keeps in
    let m : next.machine ≡ w.machine = ap (λ (x : World). x.machine) may.leaves ∙ out.machine in
    record {
      keeps = record {
        completed = ap (λ (x : Machine). x.completed) m;
        checkpoint = ap (λ (x : Machine). x.checkpoint) m;
        fault = ap (λ (x : Machine). x.fault) m;
        ordinary = subst AreOrdinary (sym may.leaves) (record {
          doings = each_set IsOrdinaryDoing w.sessions session may.made.doing Resting are.doings (subst IsOrdinaryDoing (sym out.doing) tt);
          systems = are.systems;
        });
      };
      machine = subst (λ (x : Machine). GoesOn w.machine x) (sym m) (goes_same w.machine);
      apart = subst (λ (x : Machine). GoesApart w.machine x) (sym m) (apart_same w.machine);
      shelf = ap (λ (x : World). x.shelf) may.leaves;
    }
