-- Lines of a checkpoint that runs beside other work: what they reply, and what they leave.
use Rattle.std.proofs.Common.{◌≡◌, ◌∙◌, ℕ, Bool, true, false, List, Option, Some, None, Result, Ok, Err, refl, sym, ap, subst, inr}
use Rattle.std.specs.Prelude.{◌≢◌, ◌||◌, IfErr, IfOk, MatchBool, OnErr, option_map, slice_index_or, slice_set}
use Rattle.failure.specs.Counts.{Rose}
use Rattle.disk_model.specs.declared.disk.Disk.{Ghosts}
use Rattle.wt_code.specs.declared.answers.Answer.TheVariants.{Refused}
use Rattle.wt_code.specs.declared.refusals.Invalid.TheVariants.{InCall}
use Rattle.wt_code.specs.declared.refusals.Refusal.{Refusal}
use Rattle.wt_code.specs.declared.refusals.Refusal.TheVariants.{DiskFault, Invalid}
use Rattle.wt_calls.specs.declared.call.Call.TheVariants.{System}
use Rattle.kv_model.specs.Calls.{Call as Asked, CkptFinish, CkptStart, CkptStep, SystemAnswers}
use Rattle.kv_model.specs.Decisions.{is_there}
use Rattle.kv_model.specs.Machine.{Checkpoint, Machine}
use Rattle.tree_dir.specs.declared.leaf.Leaf.{Leaf}
use Rattle.engine.specs.declared.step.Actor.{Actor}
use Rattle.engine.specs.declared.step.Actor.TheVariants as by
use Rattle.script_text.specs.declared.line.Actor.{Actor as LineActor}
use Rattle.script_text.specs.declared.line.Line.{Line}
use Rattle.script_text.specs.declared.line.Line.TheVariants.{Whole, Control, Start as StartLine, Step as StepLine, Finish as FinishLine}
use Rattle.script_text.specs.declared.replies.Reply.TheVariants.{Answered, More, Started}
use Rattle.engine_store.specs.declared.progress.Progress.{Progress}
use Rattle.engine_store.specs.declared.progress.Remains.{Remains}
use Rattle.engine_store.specs.declared.progress.Remains.TheVariants.{Left, End}
use Rattle.engine_store.specs.declared.store.Store.{Store}
use Rattle.engine_store.specs.Answers.{answer_of}
use Rattle.engine_store.specs.Calls.{StaysTold}
use Rattle.engine_store.specs.Devices.{Device, device_of}
use Rattle.engine_store.specs.Finishes.{FinishesTo, IsFinishLeft, IsOfStep, StartsTo, StepsTo, around_finish, around_start}
use Rattle.engine_store.specs.Progress.{around_step, first_place, has_left, left_of, passed, place_in, remains_answer}
use Rattle.script_run.specs.declared.checkpointing.CheckpointStage.{CheckpointStage}
use Rattle.script_run.specs.declared.checkpointing.CheckpointStage.TheVariants as stage
use Rattle.script_run.specs.declared.checkpointing.CheckpointTurn.{CheckpointTurn}
use Rattle.script_run.specs.declared.checkpointing.CheckpointTurn.TheVariants.{Start, Step, Finish}
use Rattle.script_run.specs.declared.kept.Kept.{Kept}
use Rattle.script_run.specs.declared.told.Told.{Told}
use Rattle.script_run.specs.Checkpointing.{asked_in, checkpointing_by, checkpointing_of, finds_leaf, turn_of}
use Rattle.script_run.specs.Faults.{RepliesFault, TellsFaults}
use Rattle.script_run.specs.Runs.{EndsSo, IsAt, IsCallLine, IsMadeSo, IsTold, TurnsSo}
use Rattle.script_run.specs.Scripts.{Behind, CheckpointCallEnds, CheckpointCallReplies, FinishesCheckpoint, IsFree, IsOfRunning, RunsUnless, Script, Seen, StartsCheckpoint, StartsCheckpointCall, StepsCheckpoint, actor_of, begun_with, eviction_of, number_of, plain, staged_at, stepped_with, system_in, while_running}
use Rattle.script_run.proofs.Telling.{done_faults, refused_faults, stays_faults}
use Rattle.script_run.proofs.EvictingLines.{not_there, same_behind, seen_at, start_replies, system_is, whole_replies}
use Rattle.script_run.proofs.GoneBehind.{IsActors, replies_called}
use Rattle.script_run.proofs.NoneRuns.{not_running}

on_err : {A : Type 0} {P Q : Type 0} (result : Result A Refusal) → (P → Q) → OnErr result P → OnErr result Q
on_err (Ok a) turns is = is
on_err (Err r) turns is = turns is

if_ok : {A : Type 0} {P Q : A → Type 0} (result : Result A Refusal) → ((a : A) → P a → Q a) → IfOk result P → IfOk result Q
if_ok (Ok a) turns is = turns a is
if_ok (Err r) turns is = is

-- ---- how far its steps have come

begins_at : (result : Result (Unit {0}) Refusal) (now was : Option Progress) → IfOk result (λ done. now ≡ Some first_place) → OnErr result (now ≡ was) → now ≡ begun_with (answer_of result) was
begins_at (Ok done) now was begins same = begins
begins_at (Err r) now was begins same = same

steps_at : (result : Result Remains Refusal) (m : Machine) (leaves : List Leaf) (now was : Option Progress) → IfOk result (λ taking. now ≡ option_map (passed m leaves) was) → OnErr result (now ≡ was) → now ≡ stepped_with (remains_answer result) m leaves was
steps_at (Ok Left) m leaves now was passes same = passes
steps_at (Ok End) m leaves now was passes same = passes
steps_at (Err r) m leaves now was passes same = same

finishes_at : (o : Option Checkpoint) (now was : Option Progress) → (o ≡ None → now ≡ None) → (o ≢ None → now ≡ was) → now ≡ while_running o was
finishes_at None now was none stays = none refl
finishes_at (Some c) now was none stays = stays (λ e. cc)

-- what is kept does not matter to a store and its disk
pub staged_here : {D : Type 0} (g : Ghosts D) (first : D) (s : Script) (store : Store) (disk : D) → IsAt g first store disk s → (number : ℕ) (x : Option CheckpointStage) → IsAt g first store disk (staged_at s number x)
staged_here g first s store disk at number x = record { held = at.held; device = at.device; frames = at.frames; progress = at.progress }

-- nothing goes behind it
behind_same : (asked : Line) (s : Script) → Behind asked s s
behind_same (Whole made) s = same_behind s
behind_same (StartLine made) s = same_behind s
behind_same (StepLine who) s = same_behind s
behind_same (FinishLine who) s = same_behind s
behind_same (Control asked) s = refl

-- ---- what is made

module _ {D : Type 0} (g : Ghosts D) (first : D) (s : Script) (store store' : Store) (disk disk' : D) (at : IsAt g first store disk s) (told : Told) (formats : told.formats ≡ plain) (frames : store'.frames ≡ store.frames) where
  pub start_made : disk' ≡ disk → (result : Result (Unit {0}) Refusal) → StartsTo g first s.world s.first s.made store store' disk disk' result → OnErr result (store' ≡ store) → told.reply ≡ Answered (answer_of result)
      → IsMadeSo g first Start s store' disk' told
  start_made same result x kept is =
      let later : Script = record s { world = record s.world { machine = x.next }; progress = begun_with (answer_of result) s.progress } in
      let runs : StartsCheckpoint s told.reply later = record {
        answer = answer_of result;
        next = x.next;
        answered = subst (λ (d : Device). SystemAnswers (around_start d) s.world.machine CkptStart (answer_of result) x.next) (sym at.device) x.answers;
        told = is;
        leaves = refl;
      } in
      record {
        later = later;
        runs = runs;
        formats = formats;
        at = record {
          held = x.held;
          device = at.device ∙ ap (device_of g) (sym same);
          frames = frames ∙ at.frames;
          progress = begins_at result (place_in store'.running) s.progress x.begins (on_err result (λ e. ap (λ (t : Store). place_in t.running) e ∙ at.progress) kept);
        };
        start = refl;
        kept_is = refl;
      }

  pub step_made : disk' ≡ disk → (result : Result Remains Refusal) → StepsTo g first s.world s.first s.made store store' disk disk' result → OnErr result (store' ≡ store) → told.reply ≡ Answered (remains_answer result)
      → IsMadeSo g first Step s store' disk' told
  step_made same result x kept is =
      let leaves = store.engine.hub.dir.leaves in
      let later : Script = record s { progress = stepped_with (remains_answer result) s.world.machine leaves s.progress } in
      let runs : StepsCheckpoint s told.reply later = record {
        seen = seen_at g first s store store' disk disk' at told;
        answer = remains_answer result;
        answered = subst (λ (p : Option Progress). SystemAnswers (around_step (left_of s.world.machine leaves p)) s.world.machine CkptStep (remains_answer result) s.world.machine) at.progress x.answers;
        told = is;
        leaves = refl;
      } in
      record {
        later = later;
        runs = runs;
        formats = formats;
        at = record {
          held = x.held;
          device = at.device ∙ ap (device_of g) (sym same);
          frames = frames ∙ at.frames;
          progress = steps_at result s.world.machine leaves (place_in store'.running) s.progress (if_ok result (λ taking e. e ∙ ap (option_map (passed s.world.machine leaves)) at.progress) x.passes) (on_err result (λ e. ap (λ (t : Store). place_in t.running) e ∙ at.progress) kept);
        };
        start = refl;
        kept_is = refl;
      }

  pub finish_made : (result : Result (Unit {0}) Refusal) → FinishesTo g first s.world s.first s.made store store' disk disk' result → told.reply ≡ Answered (answer_of result)
      → IsMadeSo g first Finish s store' disk' told
  finish_made result x is =
      let leaves = store.engine.hub.dir.leaves in
      let later : Script = record s { world = record s.world { machine = x.next }; device = device_of g disk'; made = x.now; progress = while_running x.next.checkpoint s.progress } in
      let runs : FinishesCheckpoint s told.reply later = record {
        seen = seen_at g first s store store' disk disk' at told;
        lives = store.ground.lives;
        answer = answer_of result;
        next = x.next;
        device = device_of g disk';
        made = x.now;
        behind = subst (λ (d : Device). IsFinishLeft d (device_of g disk') s.world.machine x.next (answer_of result)) (sym at.device) x.behind;
        answered = subst (λ (d : Device). SystemAnswers (around_finish (left_of s.world.machine leaves s.progress) store.engine s.world store.ground.lives d (device_of g disk')) s.world.machine CkptFinish (answer_of result) x.next) (sym at.device)
            (subst (λ (p : Option Progress). SystemAnswers (around_finish (left_of s.world.machine leaves p) store.engine s.world store.ground.lives (device_of g disk) (device_of g disk')) s.world.machine CkptFinish (answer_of result) x.next) at.progress x.answers);
        installs = x.installs;
        told = is;
        leaves = refl;
      } in
      record {
        later = later;
        runs = runs;
        formats = formats;
        at = record {
          held = x.held;
          device = refl;
          frames = frames ∙ at.frames;
          progress = finishes_at x.next.checkpoint (place_in store'.running) s.progress (λ e. ap place_in (not_running store'.ground store'.running x.next x.held.running e)) (λ some. x.stays some ∙ at.progress);
        };
        start = refl;
        kept_is = refl;
      }

pub made_for : {D : Type 0} (g : Ghosts D) (first : D) (s : Script) (store : Store) (disk : D) (told : Told) (turn t : CheckpointTurn) → turn ≡ t → IsMadeSo g first t s store disk told → IsMadeSo g first turn s store disk told
made_for g first s store disk told turn t is made = subst (λ (x : CheckpointTurn). IsMadeSo g first x s store disk told) (sym is) made

-- ---- a whole call

asked_is : (turn : CheckpointTurn) → IsOfRunning (asked_in turn)
asked_is Start = tt
asked_is Step = tt
asked_is Finish = tt

module _ {D : Type 0} (g : Ghosts D) (first : D) (s : Script) (store : Store) (disk : D) (told : Told) (number : ℕ) (turn : CheckpointTurn) (none : IsFree (by.System number) s.kept) where
  abbrev other : Option Asked
  other = slice_index_or s.world.systems number None

  whole_so : (later : Script) → told.formats ≡ plain → RunsUnless other (asked_in turn) s told.reply later → IsAt g first store disk later → later.first ≡ s.first → later.kept ≡ s.kept → IsTold g first (Whole (System number (asked_in turn))) s store disk s.kept told
  whole_so later formats runs at start kept = record {
    later = later;
    replies = (later, whole_replies s told.formats told.reply later (System number (asked_in turn)) none (inr (inr (formats, runs))), same_behind later);
    at = at;
    start = start;
    kept_is = kept;
  }

  pub whole_made : is_there other ≡ false → IsMadeSo g first turn s store disk told → IsTold g first (Whole (System number (asked_in turn))) s store disk s.kept told
  whole_made idle r = whole_so r.later r.formats (subst (λ (o : Option Asked). RunsUnless o (asked_in turn) s told.reply r.later) (sym (not_there other idle)) r.runs) r.at r.start r.kept_is

  -- nothing was made of it: its actor has a call that is not finished
  pub whole_busy : IsAt g first store disk s → told.formats ≡ plain → is_there other ≡ true → told.reply ≡ Answered (Refused (Invalid InCall)) → IsTold g first (Whole (System number (asked_in turn))) s store disk s.kept told
  whole_busy at formats busy reply = whole_so s formats (by_one other busy) at refl refl
    where
      by_one : (o : Option Asked) → is_there o ≡ true → RunsUnless o (asked_in turn) s told.reply s
      by_one None busy = absurd cc
      by_one (Some a) busy = (asked_is turn, (reply, refl))

  -- ---- its start

  start_so : (later : Script) (kept : Kept) → StartsCheckpointCall other s number turn told.reply later → IsAt g first store disk later → later.first ≡ s.first → later.kept ≡ kept → IsTold g first (StartLine (System number (asked_in turn))) s store disk kept told
  start_so later kept starts at start kept_is = record {
    later = later;
    replies = (later, start_replies s told.formats told.reply later (System number (asked_in turn)) none (inr (inr (record { number = number; turn = turn; is = refl; starts = starts }))), same_behind later);
    at = at;
    start = start;
    kept_is = kept_is;
  }

  pub start_begun : (kept : Kept) → IsAt g first store disk s → is_there other ≡ false → told.reply ≡ Started → (staged_at s number (Some (stage.Asked turn))).kept ≡ kept → IsTold g first (StartLine (System number (asked_in turn))) s store disk kept told
  start_begun kept at idle reply kept_is =
      start_so (staged_at s number (Some (stage.Asked turn))) kept (subst (λ (o : Option Asked). StartsCheckpointCall o s number turn told.reply (staged_at s number (Some (stage.Asked turn)))) (sym (not_there other idle)) (reply, refl))
      (staged_here g first s store disk at number (Some (stage.Asked turn))) refl kept_is

  pub start_busy : (kept : Kept) → IsAt g first store disk s → is_there other ≡ true → told.reply ≡ Answered (Refused (Invalid InCall)) → s.kept ≡ kept → IsTold g first (StartLine (System number (asked_in turn))) s store disk kept told
  start_busy kept at busy reply kept_is = start_so s kept (by_one other busy) at refl kept_is
    where
      by_one : (o : Option Asked) → is_there o ≡ true → StartsCheckpointCall o s number turn told.reply s
      by_one None busy = absurd cc
      by_one (Some a) busy = (reply, refl)

-- ---- by steps

-- what is kept with the call of an actor at a stage, or with none
pub kept_at : (k kept : Kept) (number : ℕ) (x : Option CheckpointStage) (list : List (Option CheckpointStage)) → k ≡ kept → list ≡ slice_set kept.checkpointing number x
    → (record k { checkpointing = slice_set k.checkpointing number x }) ≡ (record kept { checkpointing = list })
kept_at k kept number x list same is =
    ap (λ (k : Kept). let moved : Kept = record k { checkpointing = slice_set k.checkpointing number x } in moved) same
    ∙ ap (λ (l : List (Option CheckpointStage)). let moved : Kept = record kept { checkpointing = l } in moved) (sym is)

module _ {D : Type 0} (g : Ghosts D) (first : D) (s : Script) (store : Store) (disk : D) (told : Told) (number : ℕ) (at_stage : CheckpointStage) (kept : Kept) where
  pub ends_so : (staged_at s number None).kept ≡ kept → IsMadeSo g first (turn_of at_stage) (staged_at s number None) store disk told → EndsSo g first number at_stage s store disk kept told
  ends_so same r = record { later = r.later; ends = r.runs; at = r.at; start = r.start; kept_is = r.kept_is ∙ same }

  module _ (v : Seen s) where
    abbrev finds : Bool
    finds = finds_leaf at_stage (has_left s.world.machine (left_of s.world.machine v.engine.hub.dir.leaves s.progress))

    abbrev TurnsBy : Script → Bool → Type 0
    TurnsBy later b = MatchBool b ((told.reply ≡ More) × (later ≡ staged_at s number (Some stage.Found))) (CheckpointCallEnds number at_stage s told.reply later)

    pub turns_found : finds ≡ true → IsAt g first store disk s → told.reply ≡ More → (staged_at s number (Some stage.Found)).kept ≡ kept → TurnsSo g first number at_stage s store disk kept told
    turns_found is at reply same = record {
      later = staged_at s number (Some stage.Found);
      turns = record { seen = v; turns = subst (TurnsBy (staged_at s number (Some stage.Found))) (sym is) (reply, refl) };
      at = staged_here g first s store disk at number (Some stage.Found);
      start = refl;
      kept_is = same;
    }

    pub turns_made : finds ≡ false → EndsSo g first number at_stage s store disk kept told → TurnsSo g first number at_stage s store disk kept told
    turns_made is r = record {
      later = r.later;
      turns = record { seen = v; turns = subst (TurnsBy r.later) (sym is) r.ends };
      at = r.at;
      start = r.start;
      kept_is = r.kept_is;
    }

  -- ---- by the line

  module _ (line : Line) (none : eviction_of (actor_of line) s.kept.evicting ≡ None) (its : system_in (actor_of line) ≡ Some number) (there : checkpointing_by s.kept.checkpointing number ≡ Some at_stage) where
    who_is : actor_of line ≡ by.System number
    who_is = system_is (actor_of line) number its

    has : checkpointing_of (actor_of line) s.kept.checkpointing ≡ Some at_stage
    has = ap (λ (a : Actor). checkpointing_of a s.kept.checkpointing) who_is ∙ there

    called_so : (later : Script) → IsActors line → CheckpointCallReplies line number at_stage s told.reply later → IsAt g first store disk later → later.first ≡ s.first → later.kept ≡ kept → IsTold g first line s store disk kept told
    called_so later actors replies at start kept_is = record {
      later = later;
      replies = (later, replies_called line s told.formats told.reply later at_stage actors none has (as_told replies), behind_same line later);
      at = at;
      start = start;
      kept_is = kept_is;
    }
      where
        as_told : CheckpointCallReplies line number at_stage s told.reply later → CheckpointCallReplies line (number_of (actor_of line)) at_stage s told.reply later
        as_told r = subst (λ (a : Actor). CheckpointCallReplies line (number_of a) at_stage s told.reply later) (sym who_is) r

    pub step_called : (who : LineActor) → line ≡ StepLine who → TurnsSo g first number at_stage s store disk kept told → IsTold g first line s store disk kept told
    step_called who is r = called_so r.later (subst IsActors (sym is) tt) (subst (λ (l : Line). CheckpointCallReplies l number at_stage s told.reply r.later) (sym is) r.turns) r.at r.start r.kept_is

    pub finish_called : (who : LineActor) → line ≡ FinishLine who → EndsSo g first number at_stage s store disk kept told → IsTold g first line s store disk kept told
    finish_called who is r = called_so r.later (subst IsActors (sym is) tt) (subst (λ (l : Line). CheckpointCallReplies l number at_stage s told.reply r.later) (sym is) r.ends) r.at r.start r.kept_is

    pub busy_called : IsAt g first store disk s → IsCallLine line → ((who : LineActor) → line ≡ StepLine who → ⊥) → ((who : LineActor) → line ≡ FinishLine who → ⊥) → told.reply ≡ Answered (Refused (Invalid InCall)) → s.kept ≡ kept → IsTold g first line s store disk kept told
    busy_called at now step finish reply kept_is = called_so s (actors line now) (refuses line now step finish) at refl kept_is
      where
        actors : (l : Line) → IsCallLine l → IsActors l
        actors (Whole made) now = tt
        actors (StartLine made) now = tt
        actors (StepLine who) now = tt
        actors (FinishLine who) now = tt
        actors (Control asked) now = absurd now

        refuses : (l : Line) → IsCallLine l → ((who : LineActor) → l ≡ StepLine who → ⊥) → ((who : LineActor) → l ≡ FinishLine who → ⊥) → CheckpointCallReplies l number at_stage s told.reply s
        refuses (Whole made) now step finish = (reply, refl)
        refuses (StartLine made) now step finish = (reply, refl)
        refuses (StepLine who) now step finish = absurd (step who refl)
        refuses (FinishLine who) now step finish = absurd (finish who refl)
        refuses (Control asked) now step finish = absurd now

-- ---- an engine that is up, and of which no checkpoint runs

pub free_now : {A B : Type 0} (o : Option A) (p : Option B) → (is_there o || is_there p) ≡ false → (o ≡ None) × (p ≡ None)
free_now None None is = (refl, refl)
free_now None (Some b) is = absurd cc
free_now (Some a) p is = absurd cc

pub not_free : {A B : Type 0} (o : Option A) (p : Option B) → (is_there o || is_there p) ≡ true → o ≡ None → p ≡ None → ⊥
not_free None None is up free = cc
not_free None (Some b) is up free = cc
not_free (Some a) p is up free = cc

-- ---- faults of the disk

pub never : (Fault : Type 0) (result : Result (Unit {0}) Refusal) → IfErr result (λ r. r ≡ DiskFault → ⊥) → IfErr result (λ r. r ≡ DiskFault → Fault)
never Fault (Ok done) none = none
never Fault (Err r) none = λ is. absurd (none is)

not_of_step : (r : Refusal) → IsOfStep r → r ≡ DiskFault → ⊥
not_of_step r of is = absurd (subst IsOfStep is of)

module _ {D : Type 0} (g : Ghosts D) (store store' : Store) (disk disk' : D) where
  pub of_result : (result : Result (Unit {0}) Refusal) (told : Told) → told.reply ≡ Answered (answer_of result) → IfErr result (λ r. r ≡ DiskFault → Rose (g.faults disk) (g.faults disk')) → StaysTold g store store' disk disk'
      → TellsFaults g store store' disk disk' (λ rose. RepliesFault (Ok told) → rose)
  of_result (Ok done) told is fault stays = done_faults g store store' disk disk' told is stays
  of_result (Err r) told is fault stays = refused_faults g store store' disk disk' r told is fault stays

  pub of_step : (result : Result Remains Refusal) (told : Told) → told.reply ≡ Answered (remains_answer result) → IfErr result IsOfStep → StaysTold g store store' disk disk' → TellsFaults g store store' disk disk' (λ rose. RepliesFault (Ok told) → rose)
  of_step (Ok Left) told is of stays = stays_faults g store store' disk disk' (RepliesFault (Ok told)) stays (λ fault. absurd (let e = sym is ∙ fault in cc))
  of_step (Ok End) told is of stays = stays_faults g store store' disk disk' (RepliesFault (Ok told)) stays (λ fault. absurd (let e = sym is ∙ fault in cc))
  of_step (Err r) told is of stays = refused_faults g store store' disk disk' r told is (λ fault. absurd (not_of_step r of fault)) stays
