-- A step of a checkpoint that runs: its next leaf is taken, and it is told whether another one is left.
use Rattle.std.proofs.Common.{◌≡◌, ◌∙◌, ◌<◌, ◌≤◌, ℕ, zero, suc, true, false, Bool, List, [], ◌∷◌, length, reverse, take, drop, Option, Some, None, Result, Ok, Err, refl, sym, ap, subst, inl, inr, arith}
use Rattle.std.specs.Prelude.{IfErr, MatchBool, nat_lt, not, option_and_then, option_map, slice_get}
use Rattle.std.proofs.lemmas.Bool.{cases_Bool, cases_lt, lt-ltb}
use Rattle.std.proofs.lemmas.List.{length-reverse, take-append-drop}
use Rattle.failure.specs.declared.Fault.{Fault}
use Rattle.disk_model.specs.declared.disk.Disk.{Ghosts}
use Rattle.wt_code.specs.declared.answers.Answer.{Answer}
use Rattle.wt_code.specs.declared.answers.Answer.TheVariants.{Refused}
use Rattle.wt_code.specs.declared.refusals.Invalid.TheVariants as why_not
use Rattle.wt_code.specs.declared.refusals.Refusal.{Refusal}
use Rattle.wt_code.specs.declared.refusals.Refusal.TheVariants as told
use Rattle.kv_model.specs.Calls.{CkptStep, IsTaken, SystemAnswers, SystemJudged}
use Rattle.kv_model.specs.Decisions.{CaptureCall, End as IsEnd, Refused as NotDone, StepCall, checked, decision, is_there, left_or_end}
use Rattle.kv_model.specs.History.{Table}
use Rattle.kv_model.specs.Machine.{Checkpoint, Completed, Machine, Nothing, of_some}
use Rattle.kv_model.specs.Outside.{Storing, Stored as StoredWhole}
use Rattle.kv_model.specs.Told.{Tells}
use Rattle.tree_dir.specs.declared.leaf.Leaf.{Leaf}
use Rattle.engine_world.specs.Stands.{Engine, Stands}
use Rattle.engine_world.specs.Worlds.{Records, World}
use Rattle.engine_world.proofs.HubMoves.{decided-down, decided-up}
use Rattle.engine.specs.declared.running_checkpoint.RunningCheckpoint.{RunningCheckpoint}
use Rattle.engine.specs.Running.{IsRunning}
use Rattle.ckpt_content.specs.Finished.{tables_then}
use Rattle.ckpt_step.specs.Moments.{IsUnderWay}
use Rattle.ckpt_step.proofs.Then.{then_few, then_first}
use Rattle.engine_store.specs.declared.progress.Progress.{Progress}
use Rattle.engine_store.specs.declared.progress.Remains.{Remains}
use Rattle.engine_store.specs.declared.progress.Remains.TheVariants.{End}
use Rattle.engine_store.specs.declared.progress.Underway.{Underway}
use Rattle.engine_store.specs.declared.store.Store.{Store}
use Rattle.engine_store.specs.Devices.{Installed}
use Rattle.engine_store.specs.Finishes.{StepsTo}
use Rattle.engine_store.specs.Held.{IsHeldIn}
use Rattle.engine_store.specs.Progress.{TakesOne, around_step, left_at, left_of, low_behind, next_low_of, passed, place_in, place_of, stood, remains_answer, remains_of}
use Rattle.engine_store.specs.Running.{RunsOver}
use Rattle.engine_store.proofs.LeavesLeft.{Begun, front_begun, left_none, left_told, no_less, step_left, tables_begun}
use Rattle.engine_store.proofs.OtherRecords.{held_kept, other_records}
use Rattle.engine_store.proofs.UnderWayStill.{runs_none, runs_stepped}

-- ---- the first of a list

take_get : {A : Type 0} (l : List A) (n j : ℕ) → j < n → slice_get (take n l) j ≡ slice_get l j
take_get l zero j lt = absurd (omega (arith, lt))
take_get [] (suc n) j lt = refl
take_get (x ∷ l) (suc n) zero lt = refl
take_get (x ∷ l) (suc n) (suc j) lt = take_get l n j (omega (arith, lt))

get_some : {A : Type 0} (l : List A) (j : ℕ) → j < length l → (x : A) × (slice_get l j ≡ Some x)
get_some [] j lt = absurd (omega (arith, lt))
get_some (x ∷ l) zero lt = (x, refl)
get_some (x ∷ l) (suc j) lt = get_some l j (omega (arith, lt))

get_none : {A : Type 0} (l : List A) (j : ℕ) → length l ≤ j → slice_get l j ≡ None
get_none [] j le = refl
get_none (x ∷ l) zero le = absurd (omega (arith, le))
get_none (x ∷ l) (suc j) le = get_none l j (omega (arith, le))

-- ---- what is left, as the engine has it

module _ (e : Engine) (w : World) (c : Checkpoint) (r : RunningCheckpoint) (stands : Stands e w) (runs : w.machine.checkpoint ≡ Some c) (is : IsRunning w.machine c r) where
  abbrev m : Machine
  m = w.machine

  abbrev known : List Table
  known = e.hub.tables.tables

  abbrev leaves : List Leaf
  leaves = e.hub.dir.leaves

  then_is : stood m ≡ reverse (tables_then m c)
  then_is = ap (of_some [] (λ (x : Checkpoint). reverse (tables_then m x))) runs

  stood_is : stood m ≡ take r.tables known
  stood_is = then_is ∙ (sym (then_first m c known stands.valid runs stands.made) ∙ ap (λ (n : ℕ). take n known) (sym is.tables))

  many : length (stood m) ≡ r.tables
  many = ap (λ (l : List Table). length l) then_is ∙ (length-reverse (tables_then m c) ∙ sym is.tables)

  begun : Begun (stood m) leaves
  begun =
      subst (λ (l : List Table). Begun l leaves) (sym stood_is)
      (front_begun (take r.tables known) (drop r.tables known) leaves (subst (λ (l : List Table). Begun l leaves) (sym (take-append-drop r.tables known)) (tables_begun known leaves stands.dir.begins stands.begun)))

  -- one is left, as long as a table is
  pub left_is : (p : Progress) → nat_lt 0 (left_at m leaves p) ≡ nat_lt p.table r.tables
  left_is p = left_told (stood m) p.table p.key leaves ∙ ap (nat_lt p.table) many

  module _ (p : Progress) (lt : p.table < r.tables) where
    there : (t : Table) × (slice_get (stood m) p.table ≡ Some t)
    there = get_some (stood m) p.table (let n = many in omega (arith, lt, n))

    in_engine : slice_get known p.table ≡ Some there.0
    in_engine = sym (take_get known r.tables p.table lt) ∙ (ap (λ (l : List Table). slice_get l p.table) (sym stood_is) ∙ there.1)

    pub passed_is : passed m leaves p ≡ place_of p (next_low_of e p)
    passed_is =
        ap (of_some p (λ (t : Table). place_of p (low_behind t.number p.key leaves))) there.1
        ∙ sym (ap (λ (o : Option Table). place_of p (option_and_then (λ (t : Table). low_behind t.number p.key leaves) o)) in_engine)

    -- a step leaves one fewer
    pub one_taken : left_at m leaves p ≡ suc (left_at m leaves (passed m leaves p))
    one_taken = step_left e.hub.dir (stood m) p there.0 stands.dir begun there.1

  module _ (p : Progress) (le : r.tables ≤ p.table) where
    past : length (stood m) ≤ p.table
    past = let n = many in omega (arith, le, n)

    pub none_left : left_at m leaves p ≡ 0
    none_left = left_none (stood m) p.table p.key leaves past

    pub stays_there : passed m leaves p ≡ p
    stays_there = ap (of_some p (λ (t : Table). place_of p (low_behind t.number p.key leaves))) (get_none (stood m) p.table past)

-- ---- the next one is taken

pub takes_next : (e : Engine) (u : Underway) (next : Progress) (taking : Remains) → u.progress.table < u.checkpoint.tables → next ≡ place_of u.progress (next_low_of e u.progress) → taking ≡ remains_of (nat_lt next.table u.checkpoint.tables)
    → (w : World) → Stands e w → TakesOne w.machine e u (record u { progress = next }) (Ok taking)
takes_next e u next taking lt is told w stands = λ c runs running. (
  is ∙ sym (passed_is e w c u.checkpoint stands runs running u.progress lt),
  told ∙ ap remains_of (sym (left_is e w c u.checkpoint stands runs running next)),
)

pub takes_none : (e : Engine) (u : Underway) → u.checkpoint.tables ≤ u.progress.table → (w : World) → Stands e w → TakesOne w.machine e u u (Ok End)
takes_none e u le w stands = λ c runs running. (
  sym (stays_there e w c u.checkpoint stands runs running u.progress le),
  sym (ap remains_of (left_is e w c u.checkpoint stands runs running u.progress ∙ no_less u.progress.table u.checkpoint.tables le)),
)

-- ---- what is answered

capture_decided : (m : Machine) (c : Checkpoint) (left : Bool) → m.fault ≡ None → m.checkpoint ≡ Some c → decision m 0 (CaptureCall left StoredWhole) ≡ (left_or_end left, Nothing)
capture_decided m c left up runs =
    decided-up m 0 (CaptureCall left StoredWhole) up
    ∙ ap (λ (o : Option Checkpoint). checked ((not (is_there o), told.Invalid why_not.NoCkpt) ∷ []) (left_or_end left, Nothing)) runs

end_decided : (m : Machine) (c : Checkpoint) → m.fault ≡ None → m.checkpoint ≡ Some c → decision m 0 (StepCall false) ≡ (IsEnd, Nothing)
end_decided m c up runs = decided-up m 0 (StepCall false) up ∙ ap (λ (o : Option Checkpoint). checked ((not (is_there o), told.Invalid why_not.NoCkpt) ∷ []) (IsEnd, Nothing)) runs

none_decided : (m : Machine) → m.fault ≡ None → m.checkpoint ≡ None → decision m 0 (StepCall false) ≡ (NotDone (told.Invalid why_not.NoCkpt), Nothing)
none_decided m up none = decided-up m 0 (StepCall false) up ∙ ap (λ (o : Option Checkpoint). checked ((not (is_there o), told.Invalid why_not.NoCkpt) ∷ []) (IsEnd, Nothing)) none

abbrev pub Answered : Machine → ℕ → Answer (List ℕ) → Type 0
Answered m left answer = SystemAnswers (around_step left) m CkptStep answer m

-- a leaf is found, or none
found : (m : Machine) (left : ℕ) (answer : Answer (List ℕ)) → nat_lt 0 left ≡ true → SystemJudged m (CaptureCall (nat_lt 1 left) StoredWhole) answer m → Answered m left answer
found m left answer is judged =
    inr (inr (subst (λ (b : Bool). MatchBool b ((storing : Storing) × IsTaken (around_step left) m (λ s. decision m 0 (CaptureCall (nat_lt 1 left) s)) storing × SystemJudged m (CaptureCall (nat_lt 1 left) storing) answer m) (SystemJudged m (StepCall b) answer m)) (sym is)
    (StoredWhole, inl refl, judged)))

none_found : (m : Machine) (left : ℕ) (answer : Answer (List ℕ)) → nat_lt 0 left ≡ false → SystemJudged m (StepCall false) answer m → Answered m left answer
none_found m left answer isnt judged =
    inr (inr (subst (λ (b : Bool). MatchBool b ((storing : Storing) × IsTaken (around_step left) m (λ s. decision m 0 (CaptureCall (nat_lt 1 left) s)) storing × SystemJudged m (CaptureCall (nat_lt 1 left) storing) answer m) (SystemJudged m (StepCall b) answer m)) (sym isnt)
    judged))

tell : (b : Bool) → Tells (left_or_end b) (remains_answer (Ok (remains_of b)))
tell true = refl
tell false = refl

taken_answer : (m : Machine) (c : Checkpoint) → m.fault ≡ None → m.checkpoint ≡ Some c → (left after : ℕ) → left ≡ suc after → Answered m left (remains_answer (Ok (remains_of (nat_lt 0 after))))
taken_answer m c up runs left after is =
    found m left (remains_answer (Ok (remains_of (nat_lt 0 after)))) (lt-ltb 0 left (omega (arith, is)))
    (left_or_end (nat_lt 1 left), (Nothing, capture_decided m c (nat_lt 1 left) up runs, refl), subst (λ (b : Bool). Tells (left_or_end b) (remains_answer (Ok (remains_of (nat_lt 0 after))))) (sym same) (tell (nat_lt 0 after)))
  where
    same : nat_lt 1 left ≡ nat_lt 0 after
    same = elim (cases_lt 0 after) [
      | inl lt ↦ lt-ltb 1 left (omega (arith, is, lt)) ∙ sym (lt-ltb 0 after lt)
      | inr le ↦ no_less 1 left (omega (arith, is, le)) ∙ sym (no_less 0 after le)
    ]

end_answer : (m : Machine) (c : Checkpoint) → m.fault ≡ None → m.checkpoint ≡ Some c → (left : ℕ) → left ≡ 0 → Answered m left (remains_answer (Ok End))
end_answer m c up runs left none = none_found m left (remains_answer (Ok End)) (no_less 0 left (omega (arith, none))) (IsEnd, (Nothing, end_decided m c up runs, refl), refl)

ok_answer : (e : Engine) (w : World) (c : Checkpoint) (u v : Underway) (taking : Remains) → Stands e w → w.machine.fault ≡ None → w.machine.checkpoint ≡ Some c → IsRunning w.machine c u.checkpoint → v.progress ≡ passed w.machine e.hub.dir.leaves u.progress
    → taking ≡ remains_of (nat_lt 0 (left_at w.machine e.hub.dir.leaves v.progress)) → Answered w.machine (left_at w.machine e.hub.dir.leaves u.progress) (remains_answer (Ok taking))
ok_answer e w c u v taking stands up runs is passes tells = elim (cases_lt u.progress.table u.checkpoint.tables) [
  | inl lt ↦
      subst (λ (t : Remains). Answered w.machine (left_at w.machine e.hub.dir.leaves u.progress) (remains_answer (Ok t))) (sym tells)
      (taken_answer w.machine c up runs (left_at w.machine e.hub.dir.leaves u.progress) (left_at w.machine e.hub.dir.leaves v.progress)
      (one_taken e w c u.checkpoint stands runs is u.progress lt ∙ ap (λ (p : Progress). suc (left_at w.machine e.hub.dir.leaves p)) (sym passes)))
  | inr le ↦
      let none = none_left e w c u.checkpoint stands runs is u.progress le in
      let same : v.progress ≡ u.progress = passes ∙ stays_there e w c u.checkpoint stands runs is u.progress le in
      let ends : taking ≡ End = tells ∙ ap remains_of (ap (λ (p : Progress). nat_lt 0 (left_at w.machine e.hub.dir.leaves p)) same ∙ ap (nat_lt 0) none) in
      subst (λ (t : Remains). Answered w.machine (left_at w.machine e.hub.dir.leaves u.progress) (remains_answer (Ok t))) (sym ends) (end_answer w.machine c up runs (left_at w.machine e.hub.dir.leaves u.progress) none)
]

-- ---- of a store

module _ {D : Type 0} (g : Ghosts D) (start_disk disk : D) (s : Store) (w : World) (first : Completed) (made : List Installed) (held : IsHeldIn g start_disk s disk w first made) where
  abbrev left : ℕ
  left = left_of w.machine s.engine.hub.dir.leaves (place_in s.running)

  -- one is left, as long as a table is
  pub left_now : (u : Underway) → s.running ≡ Some u → nat_lt 0 left ≡ nat_lt u.progress.table u.checkpoint.tables
  left_now u some =
      let x : (c : Checkpoint) × IsUnderWay w.machine c u.checkpoint s.ground = subst (λ (o : Option Underway). RunsOver s.ground o w.machine) some held.running in
      ap (λ (o : Option Underway). nat_lt 0 (left_of w.machine s.engine.hub.dir.leaves (place_in o))) some ∙ left_is s.engine w x.0 u.checkpoint held.stands x.1.runs x.1.is u.progress

  -- of whatever runs
  pub told_left : (o : Option Underway) → s.running ≡ o → of_some false (λ (u : Underway). nat_lt u.progress.table u.checkpoint.tables) o ≡ nat_lt 0 left
  told_left None none = ap (λ (o : Option Underway). nat_lt 0 (left_of w.machine s.engine.hub.dir.leaves (place_in o))) (sym none)
  told_left (Some u) some = sym (left_now u some)

  abbrev StepsHere : Store → Result Remains Refusal → Type 0
  StepsHere s' result = StepsTo g start_disk w first made s s' disk disk result

  steps_not : (r : Refusal) → Answered w.machine left (Refused r) → StepsHere s (Err r)
  steps_not r answered = record { answers = answered; passes = tt; told = tt; held = held_kept g start_disk disk s w first made held }

  pub steps_down : (f : Fault) → s.engine.hub.fault ≡ Some f → StepsHere s (Err (told.Panic f))
  steps_down f fell = steps_not (told.Panic f) (elim (cases_Bool (nat_lt 0 left)) [
    | inl is ↦ found w.machine left (Refused (told.Panic f)) is (NotDone (told.Panic f), (Nothing, decided-down w.machine 0 (CaptureCall (nat_lt 1 left) StoredWhole) f (sym held.stands.fault ∙ fell) refl, refl), refl)
    | inr isnt ↦ none_found w.machine left (Refused (told.Panic f)) isnt (NotDone (told.Panic f), (Nothing, decided-down w.machine 0 (StepCall false) f (sym held.stands.fault ∙ fell) refl, refl), refl)
  ])

  pub steps_none : s.engine.hub.fault ≡ None → s.running ≡ None → StepsHere s (Err (told.Invalid why_not.NoCkpt))
  steps_none up none =
      steps_not (told.Invalid why_not.NoCkpt) (none_found w.machine left (Refused (told.Invalid why_not.NoCkpt)) (ap (λ (o : Option Underway). nat_lt 0 (left_of w.machine s.engine.hub.dir.leaves (place_in o))) none)
      (NotDone (told.Invalid why_not.NoCkpt), (Nothing, none_decided w.machine (sym held.stands.fault ∙ up) (runs_none s.ground s.running w.machine none held.running), refl), refl))

  steps_short : (r : Refusal) → r ≡ told.NoMemory → StepsHere s (Err r)
  steps_short r short = steps_not r (inl (ap (λ (x : Refusal). let a : Answer (List ℕ) = Refused x in a) short, refl))

  module _ (up : s.engine.hub.fault ≡ None) (u v : Underway) (some : s.running ≡ Some u) (same : v.checkpoint ≡ u.checkpoint) where
    runs_here : (c : Checkpoint) × IsUnderWay w.machine c u.checkpoint s.ground
    runs_here = subst (λ (o : Option Underway). RunsOver s.ground o w.machine) some held.running

    steps_taken : (taking : Remains) → TakesOne w.machine s.engine u v (Ok taking) → StepsHere (record s { running = Some v }) (Ok taking)
    steps_taken taking takes =
        let took = takes runs_here.0 runs_here.1.runs runs_here.1.is in
        record {
          answers = subst (λ (o : Option Underway). Answered w.machine (left_of w.machine s.engine.hub.dir.leaves (place_in o)) (remains_answer (Ok taking))) (sym some)
              (ok_answer s.engine w runs_here.0 u v taking held.stands (sym held.stands.fault ∙ up) runs_here.1.runs runs_here.1.is took.0 took.1);
          passes = ap (λ (p : Progress). let o : Option Progress = Some p in o) took.0 ∙ sym (ap (λ (o : Option Underway). option_map (passed w.machine s.engine.hub.dir.leaves) (place_in o)) some);
          told = took.1;
          held = held_kept g start_disk disk (record s { running = Some v }) w first made (record {
            stands = held.stands;
            running = runs_stepped s.ground s.running u v w.machine some same held.running;
            kept = held.kept;
            bare = held.bare;
            on = λ is_up. let x = held.on is_up in record { old = x.old; on = x.on; follows = x.follows; since = x.since; opens = x.opens; one = x.one };
            images = held.images;
            last = held.last;
            ever = held.ever;
            stays = held.stays;
            past = held.past;
          });
        }

    -- whatever it comes to
    pub steps_by : (result : Result Remains Refusal) → TakesOne w.machine s.engine u v result → IfErr result (λ r. r ≡ told.NoMemory) → StepsHere (record s { running = Some v }) result
    steps_by (Ok taking) takes short = steps_taken taking takes
    steps_by (Err r) takes short =
        let back : Some v ≡ s.running = ap (λ (x : Underway). let o : Option Underway = Some x in o) takes ∙ sym some in
        subst (λ (o : Option Underway). StepsHere (record s { running = o }) (Err r)) (sym back) (steps_short r short)

-- in a world with another history
pub steps_as : {D : Type 0} (g : Ghosts D) (start_disk : D) (w : World) (q : Records) (first : Completed) (made : List Installed) (s s' : Store) (before after : D) (result : Result Remains Refusal) → StepsTo g start_disk (other_records q w) first made s s' before after result → StepsTo g start_disk w first made s s' before after result
steps_as g start_disk w q first made s s' before after result x = record { answers = x.answers; passes = x.passes; told = x.told; held = x.held }
