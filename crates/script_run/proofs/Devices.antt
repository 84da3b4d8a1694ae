-- What lines that are asked of the device reply and leave.
use Rattle.std.specs.Prelude.{◌≡◌, ◌||◌, ℕ, Bool, true, false, MatchBool, List, [], ◌∷◌, length, map, Option, Some, None, Result, Ok, Err, IfErr, OnErr, OnOk, slice_index_or}
use Rattle.std.proofs.Common.{inl, inr, refl, sym, ap, subst, ◌∙◌, arith}
use Rattle.disk_model.specs.declared.disk.Disk.{Ghosts}
use Rattle.disk_model.specs.Crash.{SameDisk}
use Rattle.wt_code.specs.declared.answers.Answer.TheVariants.{Done, Refused}
use Rattle.wt_code.specs.declared.refusals.Refusal.{Refusal}
use Rattle.wt_code.specs.declared.refusals.Refusal.TheVariants.{Busy, Invalid}
use Rattle.wt_code.specs.declared.refusals.Busy.TheVariants.{Evicting as EvictingFrame}
use Rattle.wt_code.specs.declared.refusals.Invalid.TheVariants.{InCall}
use Rattle.kv_model.specs.Calls.{Call, rolled_back}
use Rattle.kv_model.specs.Content.{Content, start}
use Rattle.kv_model.specs.Decisions.{is_there}
use Rattle.kv_model.specs.Machine.{Completed}
use Rattle.stored.specs.Stored.{Reads}
use Rattle.script_text.specs.declared.line.Control.TheVariants.{Checkpoint, Close, Crash, Frames}
use Rattle.script_text.specs.declared.line.Line.TheVariants.{Control as OfAll}
use Rattle.script_text.specs.declared.replies.Reply.{Reply}
use Rattle.script_text.specs.declared.replies.Reply.TheVariants.{Answered}
use Rattle.wt_calls.specs.declared.system_call.SystemCall.{SystemCall}
use Rattle.row_page.specs.Rows.{Row}
use Rattle.call_steps.specs.declared.stage.Target.{Target}
use Rattle.engine.specs.declared.turning.Evicting.{Evicting}
use Rattle.engine.specs.Turning.{evicting_by, found_in, found_on}
use Rattle.engine_world.specs.Worlds.{World}
use Rattle.engine_store.specs.declared.frames.Frames.{Frames as StoreFrames}
use Rattle.engine_store.specs.declared.frames.Frames.TheVariants.{Firm}
use Rattle.engine_store.specs.declared.store.Store.{Store}
use Rattle.engine_store.specs.Full.{count_of}
use Rattle.engine_store.specs.Answers.{CheckpointTakes, CloseTakes, IsLeft, RefusesReopening, answer_of}
use Rattle.engine_store.specs.Devices.{Device, Installed, IsLater, device_of}
use Rattle.engine_store.specs.Held as held
use Rattle.engine_store.specs.Held.{IsHeld}
use Rattle.engine_store.specs.Keeping.{begun_with}
use Rattle.engine_store.specs.Progress.{place_in}
use Rattle.engine_store.proofs.UnderWayStill.{runs_none}
use Rattle.script_run.specs.declared.kept.Kept.{Kept}
use Rattle.script_run.specs.declared.told.Told.{Told}
use Rattle.script_run.specs.Runs.{IsAt, IsStopped, IsTold, RepliedAs}
use Rattle.script_run.specs.Scripts.{BySystem, Checkpoints, Closes, ClosesBusy, NotReopened, Reopens, RunsLine, Script, has_call_kept, is_busy, nothing_kept, on_device, opened_world, plain}
use Rattle.script_run.proofs.NoneRuns.{not_running}

-- ---- what goes on

pub same_disk : {D : Type 0} (g : Ghosts D) (disk : D) → SameDisk g disk disk
same_disk g disk = record { same = refl; room = refl; home = refl; later = omega arith }

-- a line of `sys`, by whether it has a call that is not finished
by_busy : (s : Script) (reply : Reply) (later : Script) (Goes : Type 0) → is_busy s ≡ true → reply ≡ Answered (Refused (Invalid InCall)) → later ≡ s → BySystem s reply later Goes
by_busy s reply later Goes busy told same = subst (λ (b : Bool). MatchBool b ((reply ≡ Answered (Refused (Invalid InCall))) × (later ≡ s)) Goes) (sym busy) (told, same)

by_idle : (s : Script) (reply : Reply) (later : Script) (Goes : Type 0) → is_busy s ≡ false → Goes → BySystem s reply later Goes
by_idle s reply later Goes idle goes = subst (λ (b : Bool). MatchBool b ((reply ≡ Answered (Refused (Invalid InCall))) × (later ≡ s)) Goes) (sym idle) goes

-- whether it has, where this is kept
pub busy_by : (s : Script) (kept : Kept) (b : Bool) → s.kept ≡ kept → b ≡ (is_there (slice_index_or s.world.systems 0 None) || has_call_kept kept 0) → is_busy s ≡ b
busy_by s kept b same is = ap (λ (k : Kept). is_there (slice_index_or s.world.systems 0 None) || has_call_kept k 0) same ∙ sym is

-- an eviction that has found its leaf
found_one : (o : Option Evicting) (target : Target) → found_on o ≡ Some target → (x : Evicting) × (o ≡ Some x) × (found_in x.stage ≡ Some target)
found_one None target is = absurd cc
found_one (Some x) target is = (x, refl, is)

-- ---- a checkpoint, and a close

module _ {D : Type 0} (g : Ghosts D) (first : D) (s : Script) (store store' : Store) (disk disk' : D) (result : Result (Unit {0}) Refusal) (at : IsAt g first store disk s) (frames : store'.frames ≡ store.frames) (running : store'.running ≡ store.running) where
  module _ (shelf : ℕ → List Row) (x : held.CheckpointsOn g first s.world s.first s.made store store' disk disk' shelf result) where
    abbrev checkpoint_later : Script
    checkpoint_later = on_device (record s { world = record s.world { shelf = shelf } }) x.next (device_of g disk') x.now

    checkpoint_is : (reply : Reply) → reply ≡ Answered (answer_of result) → Checkpoints s reply checkpoint_later
    checkpoint_is reply told = record {
      answer = answer_of result;
      next = x.next;
      device = device_of g disk';
      made = x.now;
      behind = subst (λ (d : Device). IsLeft d (device_of g disk') s.world.machine x.next (answer_of result)) (sym at.device) x.behind;
      lives = store.ground.lives;
      takes = subst (λ (d : Device). CheckpointTakes store.ground.lives d (device_of g disk') s.world.machine (answer_of result) x.next) (sym at.device) x.takes;
      installs = x.installs;
      told = told;
      shelf = shelf;
      leaves = refl;
    }

    checkpoint_at : IsAt g first store' disk' checkpoint_later
    checkpoint_at = record { held = x.held; device = refl; frames = frames ∙ at.frames; progress = ap place_in running ∙ at.progress }

  module _ (x : held.Shuts g first s.world s.first s.made store store' disk disk' result) where
    abbrev close_later : Script
    close_later = on_device s x.next (device_of g disk') x.now

    close_is : Closes s (answer_of result) close_later
    close_is = record {
      next = x.next;
      device = device_of g disk';
      made = x.now;
      behind = subst (λ (d : Device). IsLeft d (device_of g disk') (rolled_back s.world.machine) x.next (answer_of result)) (sym at.device) x.behind;
      lives = store.ground.lives;
      takes = subst (λ (d : Device). CloseTakes store.ground.lives d (device_of g disk') s.world (answer_of result) x.next) (sym at.device) x.takes;
      installs = x.installs;
      leaves = refl;
    }

    close_at : IsAt g first store' disk' close_later
    close_at = record { held = x.held; device = refl; frames = frames ∙ at.frames; progress = ap place_in running ∙ at.progress }

module _ {D : Type 0} (g : Ghosts D) (first : D) (s : Script) (store : Store) (disk : D) (told : Told) where
  pub checkpoint_busy : IsAt g first store disk s → is_busy s ≡ true → told.reply ≡ Answered (Refused (Invalid InCall)) → told.formats ≡ plain
      → IsTold g first (OfAll Checkpoint) s store disk s.kept told
  checkpoint_busy at busy reply formats = record { later = s; replies = (s, (formats, by_busy s told.reply s _ busy reply refl), refl); at = at; start = refl; kept_is = refl }

  pub close_busy : (kept : Kept) → IsAt g first store disk s → s.kept ≡ kept → is_busy s ≡ true → told.reply ≡ Answered (Refused (Invalid InCall)) → told.formats ≡ plain
      → IsTold g first (OfAll Close) s store disk kept told
  close_busy kept at same busy reply formats = record { later = s; replies = (s, (formats, by_busy s told.reply s _ busy reply refl), refl); at = at; start = refl; kept_is = same }

module _ {D : Type 0} (g : Ghosts D) (first : D) (s : Script) (store store' : Store) (disk disk' : D) (at : IsAt g first store disk s) (idle : is_busy s ≡ false) (frames : store'.frames ≡ store.frames) (running : store'.running ≡ store.running) (x : held.Shuts g first s.world s.first s.made store store' disk disk' (Ok tt)) where
  abbrev between : Script
  between = close_later g first s store store' disk disk' (Ok tt) at frames running x

  closes : Closes s Done between
  closes = close_is g first s store store' disk disk' (Ok tt) at frames running x

  close_then : (last : Store) (now : D) (kept : Kept) (result : Result Told Refusal) → RepliedAs g first (OfAll Crash) between last now kept result → RepliedAs g first (OfAll Close) s last now kept result
  close_then last now kept (Ok told) r = record {
    later = r.later;
    replies = by r.replies;
    at = r.at;
    start = r.start;
    kept_is = r.kept_is;
  }
    where
      by : RunsLine (OfAll Crash) between told.formats told.reply r.later → RunsLine (OfAll Close) s told.formats told.reply r.later
      by (middle, (formats, (reopens, reply)), same) = (middle, (formats, by_idle s told.reply middle _ idle (inr (inr (between, closes, reopens, reply)))), same)
  close_then last now kept (Err e) r = record { later = r.later; stops = (idle, (between, closes, r.stops)); at = r.at; start = r.start }

module _ {D : Type 0} (g : Ghosts D) (first : D) (s : Script) (store : Store) (disk : D) (at : IsAt g first store disk s) (idle : is_busy s ≡ false) (store' : Store) (disk' : D) (frames : store'.frames ≡ store.frames) (running : store'.running ≡ store.running) where
  pub checkpoint_told : (result : Result (Unit {0}) Refusal) (told : Told) → held.Checkpoints g first s.world s.first s.made store store' disk disk' result → told.reply ≡ Answered (answer_of result) → told.formats ≡ plain
      → IsTold g first (OfAll Checkpoint) s store' disk' s.kept told
  checkpoint_told result told x reply formats =
      let later = checkpoint_later g first s store store' disk disk' result at frames running x.0 x.1 in
      record {
        later = later;
        replies = (later, (formats, by_idle s told.reply later _ idle (checkpoint_is g first s store store' disk disk' result at frames running x.0 x.1 told.reply reply)), refl);
        at = checkpoint_at g first s store store' disk disk' result at frames running x.0 x.1;
        start = refl;
        kept_is = refl;
      }

  -- an eviction has found its leaf
  pub close_evicting : (frame : ℕ) (kept : Kept) (told : Told) → s.kept ≡ kept → store.engine.hub.fault ≡ None → store.running ≡ None → (number : ℕ) × (target : Target) × (found_on (evicting_by kept.evicting number) ≡ Some target) × (target.frame ≡ frame)
      → told.reply ≡ Answered (Refused (Busy (EvictingFrame frame))) → told.formats ≡ plain → IsTold g first (OfAll Close) s store disk kept told
  close_evicting frame kept told same up free (number, target, found, its) reply formats =
      let one = found_one (evicting_by s.kept.evicting number) target (ap (λ (k : Kept). found_on (evicting_by k.evicting number)) same ∙ found) in
      let busy : ClosesBusy s told.reply s = record {
        number = number;
        evicting = one.0;
        there = one.1;
        target = target;
        found = one.2;
        up = sym at.held.stands.fault ∙ up;
        idle = runs_none store.ground store.running s.world.machine free at.held.running;
        told = reply ∙ ap (λ (n : ℕ). Answered (Refused (Busy (EvictingFrame n)))) (sym its);
        same = refl;
      } in
      record { later = s; replies = (s, (formats, by_idle s told.reply s _ idle (inl busy)), refl); at = at; start = refl; kept_is = same }

  -- a close that is refused
  pub close_refused : (r : Refusal) (kept : Kept) (told : Told) → held.Shuts g first s.world s.first s.made store store' disk disk' (Err r) → s.kept ≡ kept → told.reply ≡ Answered (Refused r) → told.formats ≡ plain
      → IsTold g first (OfAll Close) s store' disk' kept told
  close_refused r kept told x same reply formats =
      let later = close_later g first s store store' disk disk' (Err r) at frames running x in
      record {
        later = later;
        replies = (later, (formats, by_idle s told.reply later _ idle (inr (inl (r, close_is g first s store store' disk disk' (Err r) at frames running x, reply)))), refl);
        at = close_at g first s store store' disk disk' (Err r) at frames running x;
        start = refl;
        kept_is = same;
      }

  -- one that is done, behind which the device is opened anew or not
  pub close_done : (x : held.Shuts g first s.world s.first s.made store store' disk disk' (Ok tt)) (last : Store) (now : D) (kept : Kept) (result : Result Told Refusal)
      → ((t : Script) → IsAt g first store' disk' t → RepliedAs g first (OfAll Crash) t last now kept result) → RepliedAs g first (OfAll Close) s last now kept result
  close_done x last now kept result reopens = close_then g first s store store' disk disk' at idle frames running x last now kept result (reopens (close_later g first s store store' disk disk' (Ok tt) at frames running x) (close_at g first s store store' disk disk' (Ok tt) at frames running x))

-- ---- an opening anew

four : (systems : List (Option SystemCall)) → length systems ≡ 4 → let none : Option Call = None in map (λ (x : Option SystemCall). none) systems ≡ none ∷ none ∷ none ∷ none ∷ []
four (a ∷ b ∷ c ∷ d ∷ []) is = refl
four [] is = absurd (omega (arith, is))
four (a ∷ []) is = absurd (omega (arith, is))
four (a ∷ b ∷ []) is = absurd (omega (arith, is))
four (a ∷ b ∷ c ∷ []) is = absurd (omega (arith, is))
four (a ∷ b ∷ c ∷ d ∷ e ∷ systems) is = absurd (omega (arith, is))

-- What the world says of older versions does not matter: the store keeps them.
opened_held : {D : Type 0} (g : Ghosts D) (first : D) (store : Store) (disk : D) (content : Content) (shelf : ℕ → List Row) (done : Completed) (made : List Installed) → length store.engine.systems ≡ 4 → IsHeld g first store disk (begun_with content shelf store) done made
    → IsHeld g first store disk (opened_world (start content) shelf) done made
opened_held g first store disk content shelf done made is held = let Systems : Type 0 = List (Option Call) in
    subst (λ (l : Systems). let w : World = record { machine = start content; sessions = []; systems = l; shelf = shelf; records = λ id key. []; again = λ session. false } in IsHeld g first store disk w done made) (four store.engine.systems is) held

module _ {D : Type 0} (g : Ghosts D) (first : D) (s : Script) (store store' : Store) (disk disk' : D) (at : IsAt g first store disk s) where
  pub reopened : (told : Told) (kept : Kept) (count : ℕ) → store'.frames ≡ Firm count → length store'.engine.systems ≡ 4 → held.Reopens g first s.world s.first s.made store store' disk disk' → told.reply ≡ Answered Done → told.formats ≡ plain → kept ≡ nothing_kept
      → IsTold g first (OfAll (Frames count)) s store' disk' kept told
  reopened told kept count firm actors x reply formats new =
      let later : Script = record s { world = opened_world (start x.content) x.shelf; device = device_of g disk'; kept = nothing_kept; frames = count; progress = None } in
      let reopens : Reopens count s later = record {
        content = x.content;
        reads = subst (λ (d : Device). Reads d.seen x.content) (sym at.device) x.reads;
        one = x.one;
        device = device_of g disk';
        after = subst (λ (d : Device). IsLater d (device_of g disk')) (sym at.device) x.later;
        seen = x.seen ∙ sym (ap (λ (d : Device). d.seen) at.device);
        capacity = x.capacity ∙ sym (ap (λ (d : Device). d.capacity) at.device);
        shelf = x.shelf;
        leaves = refl;
      } in
      record {
        later = later;
        replies = (later, (formats, (reopens, reply)), refl);
        at = record {
          held = opened_held g first store' disk' x.content x.shelf s.first s.made actors x.held;
          device = refl;
          frames = firm;
          progress = ap place_in (not_running store'.ground store'.running (start x.content) x.held.running refl);
        };
        start = refl;
        kept_is = sym new;
      }

  pub not_reopened : (count : ℕ) (r : Refusal) → store'.frames ≡ store.frames → store'.running ≡ store.running → held.NotReopened g first s.world s.first s.made store store' disk disk' r → IsStopped g first (OfAll (Frames count)) s store' disk' r
  not_reopened count r frames running x =
      let later : Script = record s { device = device_of g disk' } in
      let stops : NotReopened s r later = record {
        device = device_of g disk';
        after = subst (λ (d : Device). IsLater d (device_of g disk')) (sym at.device) x.later;
        seen = x.seen ∙ sym (ap (λ (d : Device). d.seen) at.device);
        capacity = x.capacity ∙ sym (ap (λ (d : Device). d.capacity) at.device);
        why = subst (λ (d : Device). RefusesReopening d (device_of g disk') r) (sym at.device) x.why;
        leaves = refl;
      } in
      record { later = later; stops = stops; at = record { held = x.held; device = refl; frames = frames ∙ at.frames; progress = ap place_in running ∙ at.progress }; start = refl }

-- ---- the lines together

-- what is known of a refusal
pub refused_as : {A : Type 0} (result : Result A Refusal) (P Q : Refusal → Type 0) → ((r : Refusal) → P r → Q r) → IfErr result P → IfErr result Q
refused_as (Ok a) P Q each is = is
refused_as (Err r) P Q each is = each r is

-- an opening with as many frames as there were is told as one after a crash
pub crash_told : {D : Type 0} (g : Ghosts D) (first : D) (s : Script) (store : Store) (disk : D) (kept : Kept) (count : ℕ) (result : Result Told Refusal) → count ≡ s.frames → RepliedAs g first (OfAll (Frames count)) s store disk kept result → RepliedAs g first (OfAll Crash) s store disk kept result
crash_told g first s store disk kept count (Ok told) same x = record { later = x.later; replies = by x.replies; at = x.at; start = x.start; kept_is = x.kept_is }
  where
    by : RunsLine (OfAll (Frames count)) s told.formats told.reply x.later → RunsLine (OfAll Crash) s told.formats told.reply x.later
    by (middle, (formats, (reopens, reply)), behind) = (middle, (formats, (subst (λ (n : ℕ). Reopens n s middle) same reopens, reply)), behind)
crash_told g first s store disk kept count (Err r) same x = record { later = x.later; stops = x.stops; at = x.at; start = x.start }

-- how many there are of a store
pub count_at : (f : StoreFrames) (count : ℕ) → f ≡ Firm count → count_of f ≡ count
count_at f count is = ap count_of is

-- there are as many as before
pub count_kept : (f f' : StoreFrames) (count : ℕ) (result : Result Told Refusal) → count ≡ count_of f → OnOk result (f' ≡ Firm count) → OnErr result (f' ≡ f) → count_of f' ≡ count_of f
count_kept f f' count (Ok told) same firm kept = ap count_of firm ∙ same
count_kept f f' count (Err r) same firm kept = ap count_of kept
