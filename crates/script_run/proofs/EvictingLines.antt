-- What a line that evicts the leaf of a key replies and leaves.
use Rattle.std.specs.Prelude.{◌≡◌, ◌⊎◌, ℕ, zero, suc, true, false, IsTrue, List, Option, None, Some, Result, Ok, Err, slice_index_or, slice_set}
use Rattle.std.proofs.Common.{inl, inr, refl, sym, ap, subst, ◌∙◌, arith}
use Rattle.failure.specs.Counts.{Rose}
use Rattle.disk_model.specs.declared.disk.Disk.{Ghosts}
use Rattle.item.specs.declared.formats.Formats.{Formats}
use Rattle.wt_code.specs.declared.answers.Answer.{Answer}
use Rattle.wt_code.specs.declared.answers.Answer.TheVariants.{Done, Refused}
use Rattle.wt_code.specs.declared.refusals.Refusal.{Refusal}
use Rattle.wt_code.specs.declared.refusals.Refusal.TheVariants.{DiskFault, Invalid, NoMemory}
use Rattle.wt_code.specs.declared.refusals.Invalid.TheVariants.{InCall}
use Rattle.kv_model.specs.Calls.{Call as Asked, Evict}
use Rattle.kv_model.specs.Decisions.{is_there}
use Rattle.kv_model.specs.Machine.{Machine}
use Rattle.wt_calls.specs.declared.call.Call.{Call}
use Rattle.wt_calls.specs.declared.call.Call.TheVariants.{Session, System}
use Rattle.wt_calls.specs.declared.system_call.SystemCall.TheVariants as system
use Rattle.script_text.specs.declared.line.Actor.{Actor as LineActor}
use Rattle.script_text.specs.declared.line.Line.{Line}
use Rattle.script_text.specs.declared.line.Line.TheVariants.{Whole, Start, Step, Finish, Control}
use Rattle.script_text.specs.declared.replies.Reply.{Reply}
use Rattle.script_text.specs.declared.replies.Reply.TheVariants.{Answered, More, Started}
use Rattle.script_text.specs.Stored.{stored_call}
use Rattle.engine_world.specs.Stands.{Engine, Stands}
use Rattle.engine_world.specs.Worlds.{World}
use Rattle.engine.specs.declared.step.Actor.{Actor}
use Rattle.engine.specs.declared.step.Actor.TheVariants as by
use Rattle.engine.specs.declared.turning.Evicting.{Evicting}
use Rattle.engine.specs.declared.turning.EvictStage.{EvictStage}
use Rattle.engine.specs.declared.turning.EvictStage.TheVariants.{Find}
use Rattle.engine.specs.Turning.{evicting_by, staged}
use Rattle.engine_store.specs.Progress.{place_in}
use Rattle.engine_store.specs.declared.store.Store.{Store}
use Rattle.engine_store.specs.Calls.{StaysTold}
use Rattle.engine_store.specs.Devices.{Device, KeepsCheckpoint, device_of}
use Rattle.engine_store.specs.declared.evict_steps.EvictTurn.TheVariants.{On, Ended}
use Rattle.engine_store.specs.Answers.{answer_of}
use Rattle.engine_store.specs.EvictCalls.{EvictAnswers}
use Rattle.engine_store.specs.EvictSteps.{EndsAs, EndsWith, EvictsBeside, GoesTo, LeadsTo, MayTurn, around_beside}
use Rattle.engine_store.specs.Keeping.{with_kept}
use Rattle.engine_store.proofs.EvictTurns.{staged_by}
use Rattle.script_run.specs.declared.kept.Kept.{Kept}
use Rattle.script_run.specs.declared.told.Told.{Told}
use Rattle.script_run.specs.Faults.{RepliesFault, TellsFaults}
use Rattle.script_run.specs.Runs.{IsAt, IsCallLine, IsTold}
use Rattle.script_run.specs.Scripts.{ActorReplies, Answers, Begins, EvictionEnds, EvictionRests, EvictionTurns, GoneBehind, IsCheckpointCall, IsFree, IsLaterCall, IsUnbuilt, Opens, Refuses, RefusesInCall, Replies, RepliesBy, Script, Seen, StartsEvicting, actor_in, actor_of, caller, eviction_of, formats_in, number_of, system_in, with_evicting}
use Rattle.script_run.specs.Checkpointing.{checkpointing_of}
use Rattle.script_run.proofs.GoneBehind.{gone, now, replies_free}
use Rattle.script_run.proofs.Telling.{same_told, stays_faults}

-- ---- which call it is

-- the leaf of a key is evicted
pub record IsEviction (made : Call) : Type 0 where
  pub number : ℕ
  pub table : List ℕ
  pub key : List ℕ
  pub is : made ≡ System number (system.Evict table key)

-- a call that is made, by no event and not as one of a checkpoint
pub the_eviction : (made : Call) → IsUnbuilt made → (IsLaterCall made → ⊥) → (IsCheckpointCall made → ⊥) → IsEviction made
the_eviction (Session session made) later here other = absurd later
the_eviction (System number (system.Evict table key)) later here other = record { number = number; table = table; key = key; is = refl }
the_eviction (System number (system.Create table formats)) later here other = absurd (later tt)
the_eviction (System number (system.SetStamps oldest stable)) later here other = absurd (later tt)
the_eviction (System number system.RollbackToStable) later here other = absurd (here (λ none. none))
the_eviction (System number system.StartCheckpoint) later here other = absurd (other tt)
the_eviction (System number system.StepCheckpoint) later here other = absurd (other tt)
the_eviction (System number system.FinishCheckpoint) later here other = absurd (other tt)
the_eviction (System number system.Close) later here other = absurd (here (λ none. none))

-- ---- what it leaves

-- nothing goes behind it
pub same_behind : (s : Script) → GoneBehind s s
same_behind s = inl (record {
  device = s.device;
  gone = record {
    shelf = s.world.shelf;
    again = s.world.again;
    more = λ session is. is;
    after = record { faults = omega arith; moment = omega arith };
    capacity = refl;
    leaves = refl;
  };
  keeps = record { capacity = refl; checkpoint = λ o has. has };
})

-- ---- whose line it is

pub system_is : (who : Actor) (number : ℕ) → system_in who ≡ Some number → who ≡ by.System number
system_is (by.Session session) number is = absurd cc
system_is (by.System n) number is = let same : n ≡ number = cc in ap (λ (k : ℕ). by.System k) same

pub not_there : {A : Type 0} (o : Option A) → is_there o ≡ false → o ≡ None
not_there None is = refl
not_there (Some a) is = absurd cc

pub the_one : (o : Option Evicting) → is_there o ≡ true → (x : Evicting) × (o ≡ Some x)
the_one None is = absurd cc
the_one (Some x) is = (x, refl)

module _ (s : Script) (formats : Formats) (reply : Reply) (later : Script) where
  -- an actor of which no call is kept
  pub whole_replies : (made : Call) → IsFree (caller made) s.kept → ActorReplies (Whole made) s formats reply later → Replies (Whole made) s formats reply later
  whole_replies made none is = replies_free (Whole made) s formats reply later tt none is

  pub start_replies : (made : Call) → IsFree (caller made) s.kept → ActorReplies (Start made) s formats reply later → Replies (Start made) s formats reply later
  start_replies made none is = replies_free (Start made) s formats reply later tt none is

  -- one that has this
  module _ (number : ℕ) (x : Evicting) (there : evicting_by s.kept.evicting number ≡ Some x) where
    its : (a : Actor) → a ≡ by.System number → eviction_of a s.kept.evicting ≡ Some x
    its a is = ap (λ (b : Actor). eviction_of b s.kept.evicting) is ∙ there

    pub busy_whole : (made : Call) → caller made ≡ by.System number → RefusesInCall s reply later → Replies (Whole made) s formats reply later
    busy_whole made is refuses = subst (λ (o : Option Evicting). RepliesBy o (checkpointing_of (caller made) s.kept.checkpointing) (Whole made) s formats reply later) (sym (its (caller made) is)) refuses

    pub busy_start : (made : Call) → caller made ≡ by.System number → RefusesInCall s reply later → Replies (Start made) s formats reply later
    busy_start made is refuses = subst (λ (o : Option Evicting). RepliesBy o (checkpointing_of (caller made) s.kept.checkpointing) (Start made) s formats reply later) (sym (its (caller made) is)) refuses

    pub turn_replies : (who : LineActor) → actor_in who ≡ by.System number → EvictionTurns number x s reply later → Replies (Step who) s formats reply later
    turn_replies who is turns =
        subst (λ (o : Option Evicting). RepliesBy o (checkpointing_of (actor_in who) s.kept.checkpointing) (Step who) s formats reply later) (sym (its (actor_in who) is)) (subst (λ (a : Actor). EvictionTurns (number_of a) x s reply later) (sym is) turns)

    pub rest_replies : (who : LineActor) → actor_in who ≡ by.System number → EvictionRests number s reply later → Replies (Finish who) s formats reply later
    rest_replies who is rests =
        subst (λ (o : Option Evicting). RepliesBy o (checkpointing_of (actor_in who) s.kept.checkpointing) (Finish who) s formats reply later) (sym (its (actor_in who) is)) (subst (λ (a : Actor). EvictionRests (number_of a) s reply later) (sym is) rests)

-- ---- a whole call

module _ {D : Type 0} (g : Ghosts D) (first : D) (s : Script) (store store' : Store) (disk disk' : D) (at : IsAt g first store disk s) (told : Told) where
  abbrev pub seen_at : Seen s
  seen_at = record { engine = store.engine; records = (with_kept store.ground.kept s.world).records; stands = at.held.stands }

  module _ (frames : store'.frames ≡ store.frames) (running : store'.running ≡ store.running) (made : Call) (number : ℕ) (table key : List ℕ) (formats_are : told.formats ≡ formats_in s.world.machine made) (stored : stored_call told.formats made ≡ System number (system.Evict table key)) (answer : Answer (List ℕ))
      (is : told.reply ≡ Answered answer) (none : IsFree (caller made) s.kept) (x : EvictsBeside g first s.world s.first s.made store store' disk disk' s.kept.evicting number table key None answer) where
    abbrev later : Script
    later = now g first s store store' disk disk' at.device x.next x.room

    pub evict_told : IsTold g first (Whole made) s store' disk' s.kept told
    evict_told = record {
      later = later;
      replies = (
        later,
        whole_replies s told.formats told.reply later made none (inr (inl (record {
          number = number;
          table = table;
          key = key;
          formats_are = formats_are;
          is = stored;
          answer = answer;
          next = x.next;
          device = device_of g disk';
          seen = seen_at;
          lives = store.ground.lives;
          answered = subst
              (λ (d : Device). EvictAnswers (slice_index_or s.world.systems number None) (around_beside s.kept.evicting number None store.engine store.ground.lives d (device_of g disk') s.world.machine table key) s.world.machine table key answer x.next) (sym at.device) x.answers;
          keeps = λ up. subst (λ (d : Device). KeepsCheckpoint d (device_of g disk')) (sym at.device) (x.keeps up);
          told = is;
          gone = gone g first s store store' disk disk' at.device x.next x.room;
        }))),
        same_behind later,
      );
      at = record {
        held = x.room.held;
        device = refl;
        frames = frames ∙ at.frames;
        progress = ap place_in running ∙ at.progress;
      };
      start = refl;
      kept_is = refl;
    }

-- for want of memory nothing was made of it
module _ {D : Type 0} (g : Ghosts D) (first : D) (s : Script) (store : Store) (disk : D) (at : IsAt g first store disk s) (told : Told) where
  pub evict_short : (made : Call) → IsEviction made → IsFree (caller made) s.kept → told.reply ≡ Answered (Refused NoMemory) → IsTold g first (Whole made) s store disk s.kept told
  evict_short made e none is = record { later = s; replies = (s, whole_replies s told.formats told.reply s made none (inl (short made e)), same_behind s); at = at; start = refl; kept_is = refl }
    where
      short : (made : Call) → IsEviction made → Opens (caller made) s.world (λ w. Answers made s told.formats told.reply s w ⊎ Refuses NoMemory s w told.reply s) (λ r w. Refuses r s w told.reply s)
      short made e = subst (λ (c : Call). Opens (caller c) s.world (λ w. Answers c s told.formats told.reply s w ⊎ Refuses NoMemory s w told.reply s) (λ r w. Refuses r s w told.reply s)) (sym e.is) (inl (inr (is, refl)))

  pub start_short : (made : Call) → IsEviction made → IsFree (caller made) s.kept → told.reply ≡ Answered (Refused NoMemory) → IsTold g first (Start made) s store disk s.kept told
  start_short made e none is = record { later = s; replies = (s, start_replies s told.formats told.reply s made none (inl (short made e)), same_behind s); at = at; start = refl; kept_is = refl }
    where
      short : (made : Call) → IsEviction made → Opens (caller made) s.world (λ w. Begins made s told.formats told.reply s w ⊎ Refuses NoMemory s w told.reply s) (λ r w. Refuses r s w told.reply s)
      short made e = subst (λ (c : Call). Opens (caller c) s.world (λ w. Begins c s told.formats told.reply s w ⊎ Refuses NoMemory s w told.reply s) (λ r w. Refuses r s w told.reply s)) (sym e.is) (inl (inr (is, refl)))

  -- ---- by steps

  -- it begins, or its actor has another call
  pub start_told : (made : Call) (number : ℕ) (table key : List ℕ) (later : Script) (kept : Kept) → told.formats ≡ formats_in s.world.machine made → stored_call told.formats made ≡ System number (system.Evict table key) → IsFree (caller made) s.kept
      → StartsEvicting (slice_index_or s.world.systems number None) s number table key told.reply later → later ≡ with_evicting s later.kept.evicting → later.kept ≡ kept → IsTold g first (Start made) s store disk kept told
  start_told made number table key later kept formats_are stored none starts is kept_is = record {
    later = later;
    replies = (later, start_replies s told.formats told.reply later made none (inr (inl (record { number = number; table = table; key = key; formats_are = formats_are; is = stored; starts = starts }))), same_behind later);
    at = subst (λ (t : Script). IsAt g first store disk t) (sym is) (record { held = at.held; device = at.device; frames = at.frames; progress = at.progress });
    start = ap (λ (t : Script). t.first) is;
    kept_is = kept_is;
  }

  -- a call of an actor that has an eviction
  module _ (number : ℕ) (x : Evicting) (there : evicting_by s.kept.evicting number ≡ Some x) (is : told.reply ≡ Answered (Refused (Invalid InCall))) where
    pub busy_told : (asked : Line) → IsCallLine asked → actor_of asked ≡ by.System number → ((who : LineActor) → asked ≡ Step who → ⊥) → ((who : LineActor) → asked ≡ Finish who → ⊥) → IsTold g first asked s store disk s.kept told
    busy_told (Whole made) now its step finish = record { later = s; replies = (s, busy_whole s told.formats told.reply s number x there made its (is, refl), same_behind s); at = at; start = refl; kept_is = refl }
    busy_told (Start made) now its step finish = record { later = s; replies = (s, busy_start s told.formats told.reply s number x there made its (is, refl), same_behind s); at = at; start = refl; kept_is = refl }
    busy_told (Step who) now its step finish = absurd (step who refl)
    busy_told (Finish who) now its step finish = absurd (finish who refl)
    busy_told (Control asked) now its step finish = absurd now

-- whether it begins
pub start_busy : (o : Option Asked) (s : Script) (number : ℕ) (table key : List ℕ) (reply : Reply) → is_there o ≡ true → reply ≡ Answered (Refused (Invalid InCall)) → StartsEvicting o s number table key reply s
start_busy None s number table key reply is told = absurd cc
start_busy (Some other) s number table key reply is told = (told, refl)

pub start_free : (o : Option Asked) (s later : Script) (number : ℕ) (table key : List ℕ) (reply : Reply) → is_there o ≡ false → reply ≡ Started → later ≡ with_evicting s (slice_set s.kept.evicting number (Some (record { table = table; key = key; stage = Find })))
    → StartsEvicting o s number table key reply later
start_free None s later number table key reply is told leaves = (told, leaves)
start_free (Some other) s later number table key reply is told leaves = absurd cc

module _ {D : Type 0} (g : Ghosts D) (first : D) (s : Script) (store store' : Store) (disk disk' : D) (at : IsAt g first store disk s) (told : Told) (frames : store'.frames ≡ store.frames) (running : store'.running ≡ store.running) (number : ℕ) where
  -- a step behind which it goes on
  pub goes_told : (x : Evicting) → evicting_by s.kept.evicting number ≡ Some x → (who : LineActor) → actor_in who ≡ by.System number → (next : EvictStage) → store' ≡ store → disk' ≡ disk
      → ((w : World) → Stands store.engine w → GoesTo store.engine w.machine s.kept.evicting number x.table x.key x.stage next) → told.reply ≡ More → IsTold g first (Step who) s store' disk' (record s.kept { evicting = staged s.kept.evicting number next }) told
  goes_told x there who is next same here goes reply =
      let later = with_evicting s (staged s.kept.evicting number next) in
      let at_later : IsAt g first store disk later = record { held = at.held; device = at.device; frames = at.frames; progress = at.progress } in
      record {
        later = later;
        replies = (
          later,
          turn_replies s told.formats told.reply later number x there who is
              (seen_at g first s store store' disk disk' at told, inl (record { next = next; goes = goes (with_kept store.ground.kept s.world) at.held.stands; told = reply; leaves = refl })),
          same_behind later,
        );
        at = subst (λ (d : D). IsAt g first store' d later) (sym here) (subst (λ (t : Store). IsAt g first t disk later) (sym same) at_later);
        start = refl;
        kept_is = refl;
      }

  -- the step that ends it, of these evictions
  module _ (evicting : List (Option Evicting)) (x : Evicting) (answer : Answer (List ℕ)) (reply : told.reply ≡ Answered answer) (y : EvictsBeside g first s.world s.first s.made store store' disk disk' evicting number x.table x.key (Some x.stage) answer) where
    abbrev those : Script
    those = with_evicting s evicting

    abbrev ended : Script
    ended = with_evicting s (slice_set evicting number None)

    abbrev last : Script
    last = now g first ended store store' disk disk' at.device y.next y.room

    ends_is : EvictionEnds store.engine number x those told.reply last
    ends_is = record {
      answer = answer;
      next = y.next;
      device = device_of g disk';
      lives = store.ground.lives;
      answered = subst
          (λ (d : Device). EvictAnswers (slice_index_or s.world.systems number None) (around_beside evicting number (Some x.stage) store.engine store.ground.lives d (device_of g disk') s.world.machine x.table x.key) s.world.machine x.table x.key answer y.next) (sym at.device) y.answers;
      keeps = λ up. subst (λ (d : Device). KeepsCheckpoint d (device_of g disk')) (sym at.device) (y.keeps up);
      short = y.short;
      told = reply;
      gone = gone g first ended store store' disk disk' at.device y.next y.room;
    }

    ends_at : IsAt g first store' disk' last
    ends_at = record {
      held = y.room.held;
      device = refl;
      frames = frames ∙ at.frames;
      progress = ap place_in running ∙ at.progress;
    }

    -- behind others
    pub rest_told : (who : LineActor) → actor_in who ≡ by.System number → (before : Evicting) → evicting_by s.kept.evicting number ≡ Some before → evicting_by evicting number ≡ Some x → (n : ℕ) → LeadsTo n store.engine s.world.machine number s.kept.evicting evicting
        → IsTold g first (Finish who) s store' disk' (record s.kept { evicting = slice_set evicting number None }) told
    rest_told who is before had there n leads = record {
      later = last;
      replies = (
        last,
        rest_replies s told.formats told.reply last number before had who is
            (record { seen = seen_at g first s store store' disk disk' at told; count = n; evicting = evicting; leads = leads; last = x; there = there; ends = ends_is }),
        same_behind last,
      );
      at = ends_at;
      start = refl;
      kept_is = refl;
    }

  -- alone
  pub ends_told : (x : Evicting) → evicting_by s.kept.evicting number ≡ Some x → (who : LineActor) → actor_in who ≡ by.System number → (answer : Answer (List ℕ)) → told.reply ≡ Answered answer
      → EvictsBeside g first s.world s.first s.made store store' disk disk' s.kept.evicting number x.table x.key (Some x.stage) answer → IsTold g first (Step who) s store' disk' (record s.kept { evicting = slice_set s.kept.evicting number None }) told
  ends_told x there who is answer reply y = record {
    later = last s.kept.evicting x answer reply y;
    replies = (
      last s.kept.evicting x answer reply y,
      turn_replies s told.formats told.reply (last s.kept.evicting x answer reply y) number x there who is (seen_at g first s store store' disk disk' at told, inr (ends_is s.kept.evicting x answer reply y)),
      same_behind (last s.kept.evicting x answer reply y),
    );
    at = ends_at s.kept.evicting x answer reply y;
    start = refl;
    kept_is = refl;
  }

  -- ---- by what the store did

  pub turn_told : (next : EvictStage) (o : Option Evicting) → evicting_by s.kept.evicting number ≡ o → is_there o ≡ true → (who : LineActor) → actor_in who ≡ by.System number → MayTurn g store store' disk disk' s.kept.evicting number o (On next) → told.reply ≡ More
      → IsTold g first (Step who) s store' disk' (record s.kept { evicting = staged s.kept.evicting number next }) told
  turn_told next None there has who is turns reply = absurd cc
  turn_told next (Some x) there has who is turns reply = goes_told x there who is next turns.0.0 turns.0.1 turns.1 reply

  pub end_told : IsTrue (g.honest disk) → (result : Result (Unit {0}) Refusal) (o : Option Evicting) → evicting_by s.kept.evicting number ≡ o → is_there o ≡ true → (who : LineActor) → actor_in who ≡ by.System number → MayTurn g store store' disk disk' s.kept.evicting number o (Ended result)
      → told.reply ≡ Answered (answer_of result) → IsTold g first (Step who) s store' disk' (record s.kept { evicting = slice_set s.kept.evicting number None }) told
  end_told honest result None there has who is turns reply = absurd cc
  end_told honest result (Some x) there has who is turns reply = ends_told x there who is (answer_of result) reply (turns honest first s.world s.first s.made at.held)

  -- where it was it is still
  still_there : (n : ℕ) (e : Engine) (m : Machine) (a b : List (Option Evicting)) → LeadsTo n e m number a b → (x : Evicting) → evicting_by a number ≡ Some x → (y : Evicting) × (evicting_by b number ≡ Some y)
  still_there zero e m a b leads x there = (x, ap (λ (l : List (Option Evicting)). evicting_by l number) leads ∙ there)
  still_there (suc n) e m a b (y, next, here, goes, leads) x there = still_there n e m (staged a number next) b leads (record y { stage = next }) (staged_by a number y next here)

  pub finish_told : IsTrue (g.honest disk) → (result : Result (Unit {0}) Refusal) (evicting : List (Option Evicting)) (x : Evicting) → evicting_by s.kept.evicting number ≡ Some x → (who : LineActor) → actor_in who ≡ by.System number → EndsAs g store store' disk disk' s.kept.evicting evicting number result
      → told.reply ≡ Answered (answer_of result) → IsTold g first (Finish who) s store' disk' (record s.kept { evicting = slice_set evicting number None }) told
  finish_told honest result evicting x there who is (leads, turns) reply =
      let l = leads (with_kept store.ground.kept s.world) at.held.stands in
      let y = still_there l.0 store.engine s.world.machine s.kept.evicting evicting l.1 x there in
      rest_told evicting y.0 (answer_of result) reply (subst (λ (o : Option Evicting). MayTurn g store store' disk disk' evicting number o (Ended result)) y.1 turns honest first s.world s.first s.made at.held) who is x there y.1 l.0 l.1

-- ---- by the line

module _ {D : Type 0} (g : Ghosts D) (first : D) (s : Script) (store : Store) (disk : D) (kept : Kept) (told : Told) where
  pub step_line : (line : Line) (who : LineActor) (number : ℕ) → line ≡ Step who → system_in (actor_of line) ≡ Some number → (actor_in who ≡ by.System number → IsTold g first (Step who) s store disk kept told)
      → IsTold g first line s store disk kept told
  step_line line who number is its told_so =
      subst (λ (l : Line). IsTold g first l s store disk kept told) (sym is)
      (told_so (system_is (actor_in who) number (subst (λ (l : Line). system_in (actor_of l) ≡ Some number) is its)))

  pub finish_line : (line : Line) (who : LineActor) (number : ℕ) → line ≡ Finish who → system_in (actor_of line) ≡ Some number → (actor_in who ≡ by.System number → IsTold g first (Finish who) s store disk kept told)
      → IsTold g first line s store disk kept told
  finish_line line who number is its told_so =
      subst (λ (l : Line). IsTold g first l s store disk kept told) (sym is)
      (told_so (system_is (actor_in who) number (subst (λ (l : Line). system_in (actor_of l) ≡ Some number) is its)))

pub busy_line : {D : Type 0} (g : Ghosts D) (first : D) (s : Script) (store : Store) (disk : D) → IsAt g first store disk s → (told : Told) (kept : Kept) (number : ℕ) (line : Line) → s.kept ≡ kept → system_in (actor_of line) ≡ Some number → is_there (evicting_by s.kept.evicting number) ≡ true
    → told.reply ≡ Answered (Refused (Invalid InCall)) → IsCallLine line → ((who : LineActor) → line ≡ Step who → ⊥) → ((who : LineActor) → line ≡ Finish who → ⊥) → IsTold g first line s store disk kept told
busy_line g first s store disk at told kept number line same its there is now step finish =
    let one = the_one (evicting_by s.kept.evicting number) there in
    subst (λ (k : Kept). IsTold g first line s store disk k told) same
    (busy_told g first s store disk at told number one.0 one.1 is line now (system_is (actor_of line) number its) step finish)

-- ---- what it tells of faults

pub more_faults_none : {D : Type 0} (g : Ghosts D) (store store' : Store) (disk disk' : D) (told : Told) → told.reply ≡ More → StaysTold g store store' disk disk' → TellsFaults g store store' disk disk' (λ rose. RepliesFault (Ok told) → rose)
more_faults_none g store store' disk disk' told is stays = stays_faults g store store' disk disk' (RepliesFault (Ok told)) stays (λ fault. absurd (let clash : More ≡ Answered (Refused DiskFault) = sym is ∙ fault in cc))

pub start_faults : {D : Type 0} (g : Ghosts D) (store : Store) (disk : D) (told : Told) → (told.reply ≡ Answered (Refused DiskFault) → ⊥) → TellsFaults g store store disk disk (λ rose. RepliesFault (Ok told) → rose)
start_faults g store disk told never = stays_faults g store store disk disk (RepliesFault (Ok told)) (same_told g store disk) (λ fault. absurd (never fault))

pub ended_faults : {D : Type 0} (g : Ghosts D) (store store' : Store) (disk disk' : D) (result : Result (Unit {0}) Refusal) (told : Told) → told.reply ≡ Answered (answer_of result) → (EndsWith (Ended result) DiskFault → Rose (g.faults disk) (g.faults disk')) → StaysTold g store store' disk disk'
    → TellsFaults g store store' disk disk' (λ rose. RepliesFault (Ok told) → rose)
ended_faults g store store' disk disk' result told is rose stays = stays_faults g store store' disk disk' (RepliesFault (Ok told)) stays (λ fault. rose (the_result result (sym is ∙ fault)))
  where
    the_result : (r : Result (Unit {0}) Refusal) → Answered (answer_of r) ≡ Answered (Refused DiskFault) → r ≡ Err DiskFault
    the_result (Ok done) e = let clash : ◌≡◌ {A = Answer (List ℕ)} Done (Refused DiskFault) = cc in absurd (cc)
    the_result (Err x) e = let same : x ≡ DiskFault = cc in ap (λ (y : Refusal). let made : Result (Unit {0}) Refusal = Err y in made) same

pub evict_faults : {D : Type 0} (g : Ghosts D) (store store' : Store) (disk disk' : D) (answer : Answer (List ℕ)) (told : Told) → told.reply ≡ Answered answer → (answer ≡ Refused DiskFault → Rose (g.faults disk) (g.faults disk')) → StaysTold g store store' disk disk'
    → TellsFaults g store store' disk disk' (λ rose. RepliesFault (Ok told) → rose)
evict_faults g store store' disk disk' answer told is rose stays = stays_faults g store store' disk disk' (RepliesFault (Ok told)) stays (λ fault. rose (the_answer (sym is ∙ fault)))
  where
    the_answer : Answered answer ≡ Answered (Refused DiskFault) → answer ≡ Refused DiskFault
    the_answer e = cc
