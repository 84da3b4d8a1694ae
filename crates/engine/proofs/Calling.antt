-- A whole call of a session is answered as the model says, or is under way.
use Rattle.std.proofs.Common.{◌≡◌, ◌<◌, ℕ, Bool, true, false, zero, suc, refl, ap, sym, ◌∙◌, List, length, inl, inr, subst}
use Rattle.std.specs.Prelude.{None, Some, if◌then◌else◌, slice_set}
use Rattle.std.proofs.lemmas.Bool.{cases_eq, eq-eqb, ne_eqb}
use Rattle.std.proofs.lemmas.List.{get_or-set_same, length-set, set-get_or, set-set}
use Rattle.wt_code.specs.declared.answers.Answer.{Answer}
use Rattle.wt_code.specs.declared.answers.Answer.TheVariants as answers
use Rattle.wt_code.specs.declared.refusals.Refusal.{Refusal}
use Rattle.wt_code.specs.declared.refusals.Refusal.TheVariants as refusal
use Rattle.wt_code.specs.declared.refusals.Invalid.TheVariants.{InCall}
use Rattle.kv_model.specs.Machine.{Machine}
use Rattle.kv_model.specs.Calls.{Call, SessionAnswers}
use Rattle.call_steps.specs.declared.reply.Reply.{Reply}
use Rattle.call_steps.specs.declared.reply.Reply.TheVariants as reply
use Rattle.call_turns.specs.Turns.{IsNoAnswer}
use Rattle.call_steps.specs.declared.frame.FramePiece.{FramePiece}
use Rattle.call_steps.specs.declared.stage.Stage.{Stage}
use Rattle.call_steps.specs.declared.stage.Stage.TheVariants as stage
use Rattle.engine_world.specs.Stages.{IsNoticed}
use Rattle.engine_world.specs.Stands.{Engine, Stands}
use Rattle.engine_world.specs.Steps.{BeginsIn, GoesOn, MayGo, MayKeepOut}
use Rattle.engine_world.proofs.Moves.{again-as}
use Rattle.engine_world.specs.Whole.{KeptOutReaches, Reached, StepsReach, around_kept}
use Rattle.engine_world.specs.Worlds.{World, Doing, Resting, Asked, Placed, Decided, Ending, doing_of, unset}
use Rattle.engine.specs.declared.step.Actor.TheVariants as actor
use Rattle.engine.specs.declared.called.Called.{Called}
use Rattle.engine.specs.declared.called.Called.TheVariants as called
use Rattle.engine.specs.Runs.{StepsMore, StepsOut}
use Rattle.engine.specs.Whole.{CallsIn, CallsTo, Ends, IsUnderWay, KeptBy, ResumesTo, moved}
use Rattle.engine.proofs.Answered.{ends-or-goes}
use Rattle.engine.proofs.Ending.{moved-then}

-- what the steps that are left come to
pub record Comes (kept : KeptBy) (from : Machine) (w : World) (session : ℕ) (call : Call) (answer : Answer (List ℕ)) (last : World) : Type 0 where
  pub answers : SessionAnswers (around_kept kept) from session call answer last.machine
  pub moved_to : last ≡ moved w session last.machine Resting

-- what is true of those that are told at most is true of those that are told
noticed-more : (at : Stage) (pieces : List FramePiece) (some more : Bool) → (some ≡ true → more ≡ true) → IsNoticed at pieces some → IsNoticed at pieces more
noticed-more (stage.Publish call target) pieces some more all noticed = λ past. all (noticed past)
noticed-more (stage.Validate call target) pieces some more all noticed = λ past. all (noticed past)
noticed-more at pieces some more all noticed = tt

set-before : (session : ℕ) (again : ℕ → Bool) (r : ℕ) → unset session again r ≡ true → again r ≡ true
set-before session again r is = elim (cases_eq r session) [
  | inl same ↦ let never : false ≡ true = sym (ap (λ (b : Bool). if b then false else again r) (eq-eqb r session same)) ∙ is in absurd cc
  | inr other ↦ sym (ap (λ (b : Bool). if b then false else again r) (ne_eqb r session other)) ∙ is
]

-- whether a leaf went out before a session's last call is no matter
pub again-back : (e : Engine) (w : World) (session : ℕ) → Stands e (record w { again = unset session w.again }) → Stands e w
again-back e w session st = again-as e (record w { again = unset session w.again }) w.again st (λ r a at noticed. noticed-more a.stage e.pieces (unset session w.again r) (w.again r) (set-before session w.again r) noticed)

-- none has since it began
unset-here : (session : ℕ) (again : ℕ → Bool) → unset session again session ≡ false
unset-here session again = ap (λ (b : Bool). if b then false else again session) (eq-eqb session session refl)

-- the machine, and what the session does, after a step
module _ (w middle last : World) (session : ℕ) (told : Reply) (inside : session < length w.sessions) (at : middle ≡ moved w session middle.machine (doing_of middle session)) (go : MayGo middle session told last) where
  goes-quietly : GoesOn false (doing_of middle session) middle.machine session go.made
  goes-quietly = subst (λ (b : Bool). GoesOn b (doing_of middle session) middle.machine session go.made) (ap (λ (x : World). x.again session) at ∙ unset-here session w.again) go.goes

  machine-is : last.machine ≡ go.made.machine
  machine-is = ap (λ (x : World). x.machine) go.leaves

  does-now : doing_of last session ≡ go.made.doing
  does-now = ap (λ (x : World). doing_of x session) go.leaves ∙ get_or-set_same middle.sessions session go.made.doing Resting long where
    long : session < length middle.sessions
    long = subst (λ (n : ℕ). session < n) (sym (ap (λ (x : World). length x.sessions) at ∙ length-set w.sessions session (doing_of middle session))) inside

-- a step after which the call goes on
pub step-reaches : StepsReach → (kept : KeptBy) (from : Machine) (w middle last : World) (session : ℕ) (call : Call) → session < length w.sessions → middle ≡ moved w session middle.machine (doing_of middle session)
    → Reached kept from session call (doing_of middle session) middle.machine → MayGo middle session reply.More last → Reached kept from session call (doing_of last session) last.machine
step-reaches law kept from w middle last session call inside at reached go = elim (law kept from middle.machine session call (doing_of middle session) go.made reached (goes-quietly w middle last session reply.More inside at go)) [
  | inl on ↦ subst (λ d. Reached kept from session call d last.machine) (sym (does-now w middle last session reply.More inside at go))
      (subst (λ m. Reached kept from session call go.made.doing m) (sym (machine-is w middle last session reply.More inside at go)) on.1)
  | inr is ↦ absurd (let two : reply.More ≡ reply.Answer is.0 = go.tells ∙ is.1 in cc)
]

pub comes : StepsReach → (kept : KeptBy) (from : Machine) (w : World) (session : ℕ) (call : Call) (answer : Answer (List ℕ)) → session < length w.sessions
    → (n : ℕ) (middle last : World) → middle ≡ moved w session middle.machine (doing_of middle session) → Reached kept from session call (doing_of middle session) middle.machine
    → StepsOut n middle (actor.Session session) answer last → Comes kept from w session call answer last
comes law kept from w session call answer inside zero middle last at reached go = elim (law kept from middle.machine session call (doing_of middle session) go.made reached (goes-quietly w middle last session (reply.Answer answer) inside at go)) [
  | inl on ↦ absurd (let two : reply.Answer answer ≡ reply.More = go.tells ∙ on.0 in cc)
  | inr is ↦ record {
    answers = subst (λ m. SessionAnswers (around_kept kept) from session call answer m) (sym (machine-is w middle last session (reply.Answer answer) inside at go))
        (subst (λ a. SessionAnswers (around_kept kept) from session call a go.made.machine) (same is.0 (go.tells ∙ is.1)) is.2);
    moved_to = moved-then w middle last session (reply.Answer answer) inside at go ∙ ap (moved w session last.machine) rests;
  }
] where
  same : (a : Answer (List ℕ)) → reply.Answer answer ≡ reply.Answer a → a ≡ answer
  same a is = cc

  rests : doing_of last session ≡ Resting
  rests = does-now w middle last session (reply.Answer answer) inside at go ∙ elim (ends-or-goes (middle.again session) (doing_of middle session) middle.machine session go.made go.goes) [
    | inl answered ↦ answered.2
    | inr more ↦ absurd (let two : reply.Answer answer ≡ reply.More = go.tells ∙ more in cc)
  ]
comes law kept from w session call answer inside (suc n) middle last at reached steps =
    comes law kept from w session call answer inside n steps.0 last (moved-then w middle steps.0 session reply.More inside at steps.1) (step-reaches law kept from w middle steps.0 session call inside at reached steps.1) steps.2

-- how far the steps come that leave a call under way
pub comes-to : StepsReach → (kept : KeptBy) (w : World) (session : ℕ) (call : Call) → session < length w.sessions → (n : ℕ) (middle last : World) → IsUnderWay kept w session call middle → StepsMore n middle (actor.Session session) last
    → IsUnderWay kept w session call last
comes-to law kept w session call inside zero middle last under same = subst (λ (x : World). IsUnderWay kept w session call x) (sym same) under
comes-to law kept w session call inside (suc n) middle last under steps = comes-to law kept w session call inside n steps.0 last
    (record {
      rests = under.rests;
      moved_to = moved-then w middle steps.0 session reply.More inside under.moved_to steps.1;
      reached = step-reaches law kept w.machine w middle steps.0 session call inside under.moved_to under.reached steps.1;
    }) steps.2

-- the session does nothing, as before
pub at-rest : (new : Engine) (w last : World) (session : ℕ) → doing_of w session ≡ Resting → last ≡ moved w session last.machine Resting → Stands new last → Stands new (record w { machine = last.machine })
at-rest new w last session rests is st = again-back new (record w { machine = last.machine }) session (subst (Stands new)
    (is ∙ (λ i. record w { machine = last.machine; sessions = (ap (slice_set w.sessions session) (sym rests) ∙ set-get_or w.sessions session Resting) i; again = unset session w.again })) st)

-- a call that was under way, and its steps
pub resumes : StepsReach → (new : Engine) (kept : KeptBy) (w now : World) (session : ℕ) (call : Call) (made : Called) → session < length w.sessions → IsUnderWay kept w session call now → Ends made new now session → ResumesTo made new kept w session call
resumes law new kept w now session call (called.Ended answer) inside under ends = let come = comes law kept w.machine w session call answer inside ends.0 now ends.1 under.moved_to under.reached ends.2 in
    (record w { machine = ends.1.machine }, come.answers, refl, at-rest new w ends.1 session under.rests come.moved_to ends.3)
resumes law new kept w now session call (called.Waits leaf) inside under ends = (ends.1, comes-to law kept w session call inside ends.0 now ends.1 under ends.2, ends.3)

-- a call that is not begun is refused
pub not-begun : (d : Doing) (w later : World) (session : ℕ) (call : Call) (answer : Answer (List ℕ)) → BeginsIn d w session call (reply.Answer answer) later → CallsIn d w session call answer later
not-begun Resting w later session call answer is = absurd (let two : reply.Answer answer ≡ reply.Started = is.1 in cc)
not-begun (Asked made left) w later session call answer is = ((let e : reply.Answer answer ≡ reply.Answer (answers.Refused (refusal.Invalid InCall)) = is.0 in cc), is.1)
not-begun (Placed made table left) w later session call answer is = ((let e : reply.Answer answer ≡ reply.Answer (answers.Refused (refusal.Invalid InCall)) = is.0 in cc), is.1)
not-begun (Decided told event left) w later session call answer is = ((let e : reply.Answer answer ≡ reply.Answer (answers.Refused (refusal.Invalid InCall)) = is.0 in cc), is.1)
not-begun (Ending told left) w later session call answer is = ((let e : reply.Answer answer ≡ reply.Answer (answers.Refused (refusal.Invalid InCall)) = is.0 in cc), is.1)

-- a call that was begun is under way
pub begun-under : (w middle : World) (session : ℕ) (call : Call) (left : ℕ) → doing_of w session ≡ Resting → session < length w.sessions → middle ≡ record w { sessions = slice_set w.sessions session (Asked call left); again = unset session w.again } → IsUnderWay None w session call middle
begun-under w middle session call left rests inside begun = record {
  rests = rests;
  moved_to = begun ∙ (λ i. moved w session (sym machine-is' i) (sym does i));
  reached = subst (λ d. Reached None w.machine session call d middle.machine) (sym does) (refl, machine-is');
} where
  machine-is' : middle.machine ≡ w.machine
  machine-is' = ap (λ (x : World). x.machine) begun

  does : doing_of middle session ≡ Asked call left
  does = ap (λ (x : World). doing_of x session) begun ∙ get_or-set_same w.sessions session (Asked call left) Resting inside

-- how far a whole call comes, whose session rested
calls-resting : (new : Engine) (w : World) (session : ℕ) (call : Call) (made : Called) → doing_of w session ≡ Resting → ResumesTo made new None w session call → CallsTo made new w session call
calls-resting new w session call (called.Ended answer) rests to = (to.0, subst (λ d. CallsIn d w session call answer to.0) (sym rests) (to.1, to.2), to.3)
calls-resting new w session call (called.Waits leaf) rests to = to

-- a call that was begun, and its steps
pub whole : StepsReach → (new : Engine) (d : Doing) (w middle : World) (session : ℕ) (call : Call) (told : Reply) (made : Called) → doing_of w session ≡ d → session < length w.sessions
    → BeginsIn d w session call told middle → IsNoAnswer told → Ends made new middle session → CallsTo made new w session call
whole law new Resting w middle session call told made rests inside begun none ends =
    calls-resting new w session call made rests (resumes law new None w middle session call made inside (begun-under w middle session call begun.0 rests inside begun.2) ends)
whole law new (Asked call' left) w middle session call told made rests inside begun none ends = absurd (none (answers.Refused (refusal.Invalid InCall)) begun.0)
whole law new (Placed call' table left) w middle session call told made rests inside begun none ends = absurd (none (answers.Refused (refusal.Invalid InCall)) begun.0)
whole law new (Decided said event left) w middle session call told made rests inside begun none ends = absurd (none (answers.Refused (refusal.Invalid InCall)) begun.0)
whole law new (Ending said left) w middle session call told made rests inside begun none ends = absurd (none (answers.Refused (refusal.Invalid InCall)) begun.0)

-- ---- a call that is kept from its leaf

pub kept-under : KeptOutReaches → (w now later : World) (session : ℕ) (call : Call) (r : Refusal) → session < length w.sessions → IsUnderWay None w session call now → MayKeepOut now session r later → IsUnderWay (Some r) w session call later
kept-under law w now later session call r inside under out = record {
  rests = under.rests;
  moved_to = out.leaves ∙ (ap (λ (x : World). record x { machine = out.made.machine; sessions = slice_set x.sessions session out.made.doing }) under.moved_to
      ∙ ((λ i. record w { machine = out.made.machine; sessions = set-set w.sessions session (doing_of now session) out.made.doing i; again = unset session w.again })
      ∙ (λ i. moved w session (sym machine-of i) (sym does-of i))));
  reached = subst (λ d. Reached (Some r) w.machine session call d later.machine) (sym does-of)
      (subst (λ m. Reached (Some r) w.machine session call out.made.doing m) (sym machine-of) (law w.machine now.machine session call (doing_of now session) r out.made under.reached out.keeps));
} where
  machine-of : later.machine ≡ out.made.machine
  machine-of = ap (λ (x : World). x.machine) out.leaves

  long : session < length now.sessions
  long = subst (λ (n : ℕ). session < n) (sym (ap (λ (x : World). length x.sessions) under.moved_to ∙ length-set w.sessions session (doing_of now session))) inside

  does-of : doing_of later session ≡ out.made.doing
  does-of = ap (λ (x : World). doing_of x session) out.leaves ∙ get_or-set_same now.sessions session out.made.doing Resting long
