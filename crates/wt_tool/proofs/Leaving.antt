-- What a command leaves of its device, by what its calls and its close did.
use Rattle.std.specs.Prelude.{◌≡◌, ℕ, List, [], Result, Ok, Err}
use Rattle.std.proofs.Common.{inl, refl, sym, subst}
use Rattle.disk_model.specs.declared.disk.Disk.{Ghosts}
use Rattle.disk_model.proofs.Crash.{started, widened}
use Rattle.wt_code.specs.declared.refusals.Refusal.{Refusal}
use Rattle.kv_model.specs.Content.{Content, start, OpensAs}
use Rattle.kv_model.specs.Machine.{Completed}
use Rattle.stored.specs.Stored.{Reads}
use Rattle.stored.proofs.Device.{one_content}
use Rattle.device_leaf.specs.Closings.{content_was}
use Rattle.engine_world.specs.Stands.{Stands}
use Rattle.engine_world.specs.Worlds.{World}
use Rattle.ckpt_step.specs.Floors.{Follows}
use Rattle.ckpt_step.specs.declared.lives.Lone.{Lone}
use Rattle.engine_store.specs.declared.eviction.TheConstants.{FRAMES}
use Rattle.engine_store.specs.declared.frames.Frames.TheVariants.{Soft}
use Rattle.engine_store.specs.declared.store.Store.{Store}
use Rattle.engine_store.specs.Held.{IsHeld}
use Rattle.engine_store.specs.Images.{EachReads}
use Rattle.engine_store.specs.Keeping.{begun_with}
use Rattle.engine_store.specs.Opened.{IsOpened}
use Rattle.engine_store.proofs.NoLives.{none_on}
use Rattle.engine_store.proofs.UnderWayStill.{none_runs}
use Rattle.wt_tool.specs.Led.{Holds, LedBy}
use Rattle.wt_tool.specs.Loads.{ClosesLoad}
use Rattle.wt_tool.specs.Parts.{IsLeft, LeavesAt, silent_run}
use Rattle.wt_tool.specs.Points.{Closes, ClosesBeside, Point, Ran, point_of}
use Rattle.wt_tool.proofs.Closings.{start_opens, still_reads}
use Rattle.wt_tool.proofs.Quiet.{first_quiet}

-- ---- a store that was opened on the device

module _ {D : Type 0} (g : Ghosts D) (disk : D) (s : Store) (on : IsOpened (g.seen disk) (g.may_leave disk) s) where
  module _ (content : Content) (each : EachReads (g.may_leave disk) content) (seen : Reads (g.seen disk) content) where
    -- the device has one content
    same : content_was on.old ≡ content
    same = one_content (g.seen disk) (content_was on.old) content (still_reads on.old (g.seen disk) on.on.stands.seen_has) seen

    abbrev pub first_of : World
    first_of = begun_with content on.shelf s

    -- the device has what the engine started on
    pub first_held : ((c : List ℕ) → g.left_since disk (g.moment disk) c → g.may_leave disk c) → IsHeld g disk s disk first_of (start content).completed []
    first_held now =
        let opens : OpensAs (content_was on.old) (start content).completed = subst (λ (c : Content). OpensAs c (start content).completed) (sym same) (start_opens content each.1) in
        record {
          stands = subst (λ (c : Content). Stands s.engine (begun_with c on.shelf s)) same on.world;
          running = none_runs s.ground s.running (start content) on.running refl;
          kept = λ leaf key. refl;
          bare = on.bare;
          on = λ up. record {
            old = on.old;
            on = on.on;
            follows = subst (λ (c : Content). Follows on.old s.engine.hub s.ground (begun_with c on.shelf s)) same on.follows;
            since = none_on (g.seen disk) s.engine.hub s.ground first_of on.none;
            opens = opens;
            one = ((start content).completed, inl refl, opens);
          };
          images = λ c image. ((start content).completed, inl refl, (content, each.0 c image, start_opens content each.1));
          last = inl (content, each, start_opens content each.1);
          ever = widened g disk disk _ _ (started g disk (λ c. Reads c content) (λ c left. each.0 c (now c left))) (λ c reads. inl (content, reads, start_opens content each.1));
          stays = tt;
          past = tt;
        }

    -- the command holds it
    pub first_holds : s.frames ≡ Soft FRAMES → ((c : List ℕ) → g.left_since disk (g.moment disk) c → g.may_leave disk c) → Holds g disk (start content).completed s disk first_of
    first_holds soft now = record { held = first_held now; quiet = first_quiet content on.shelf first_of.records s.engine; completed = refl; up = refl; soft = soft }

-- ---- what is left

-- nothing was written
pub untouched : {D : Type 0} (g : Ghosts D) (content : Content) (Run : Point → Ran → Type 0) (old : D) (result : Result (Unit {0}) Refusal) → ((c : List ℕ) → g.left_since old (g.moment old) c → g.may_leave old c) → EachReads (g.may_leave old) content
    → Run (point_of g (start content) old) (silent_run result [] (point_of g (start content) old)) → LeavesAt g Run (start content) old old result
untouched g content Run old result now each run = record {
  made = [];
  next = start content;
  run = run;
  opens = inl (content, each, start_opens content each.1);
  ever = widened g old old _ _ (started g old (λ c. Reads c content) (λ c left. each.0 c (now c left))) (λ c reads. inl (content, reads, start_opens content each.1));
  stays = tt;
}

-- a run that is also another
pub left_as : {D : Type 0} (g : Ghosts D) (start_disk : D) (done : Completed) (Run Other : Point → Ran → Type 0) (p : Point) (new : D) (result : Result (Unit {0}) Refusal) → ((ran : Ran) → Run p ran → Other p ran) → IsLeft g start_disk done Run p new result → IsLeft g start_disk done Other p new result
left_as g start_disk done Run Other p new result more l = record { made = l.made; next = l.next; run = more _ l.run; opens = l.opens; ever = l.ever; stays = l.stays }

-- a close where no leaf was written since the last checkpoint
pub left_unwritten : {D : Type 0} (g : Ghosts D) (start_disk : D) (done : Completed) (lives : List Lone) (p : Point) (new : D) (result : Result (Unit {0}) Refusal) → lives ≡ [] → IsLeft g start_disk done (ClosesBeside lives) p new result → IsLeft g start_disk done Closes p new result
left_unwritten g start_disk done lives p new result none l = left_as g start_disk done (ClosesBeside lives) Closes p new result (λ ran run. subst (λ (x : List Lone). ClosesBeside x p ran) none run) l

-- one behind a load
pub left_loaded : {D : Type 0} (g : Ghosts D) (start_disk : D) (done : Completed) (lives : List Lone) (p : Point) (new : D) (result : Result (Unit {0}) Refusal) → IsLeft g start_disk done (ClosesBeside lives) p new result → IsLeft g start_disk done ClosesLoad p new result
left_loaded g start_disk done lives p new result l = left_as g start_disk done (ClosesBeside lives) ClosesLoad p new result (λ ran run. (lives, run)) l

module _ {D : Type 0} (g : Ghosts D) (start_disk : D) (first : Completed) (Run : Point → Ran → Type 0) (w : World) (s : Store) (before mid : D) where
  -- a close behind calls
  pub left_behind : (Shut : Point → Ran → Type 0) (new : D) (result : Result (Unit {0}) Refusal) → LedBy g start_disk first w s before mid Run Shut (Ok tt)
      → ((later : World) → Holds g start_disk first s mid later → IsLeft g start_disk first Shut (point_of g later.machine mid) new result) → IsLeft g start_disk first Run (point_of g w.machine before) new result
  left_behind Shut new result (later, holds, goes) closes = let l = closes later holds in record { made = l.made; next = l.next; run = goes _ l.run; opens = l.opens; ever = l.ever; stays = l.stays }

  -- a refusal before it
  pub left_refused : (Rest : Point → Ran → Type 0) (r : Refusal) → LedBy g start_disk first w s before mid Run Rest (Err r) → IsLeft g start_disk first Run (point_of g w.machine before) mid (Err r)
  left_refused Rest r (m, ended, run) = record { made = []; next = m; run = run; opens = ended.opens; ever = ended.ever; stays = ended.stays }
