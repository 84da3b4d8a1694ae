-- What a close answers as the machine's Close, and what it leaves of what holds between two calls.
use Rattle.std.specs.Prelude.{Bool, true, false, nat_le, OnErr, slice_index_or}
use Rattle.std.proofs.lemmas.Bool.{false≢true, cases_lt, cases_Bool, leb-true, le-leb}
use Rattle.std.proofs.Common.{◌≡◌, ℕ, suc, ◌+◌, ◌<◌, ◌≤◌, List, [], ◌∷◌, ◌++◌, Option, Some, None, Result, Ok, Err, refl, sym, ap, subst, ◌∙◌, inl, inr, arith}
use Rattle.failure.specs.declared.Fault.{Fault}
use Rattle.disk_model.specs.declared.disk.Disk.{Ghosts}
use Rattle.wt_code.specs.declared.answers.Answer.{Answer}
use Rattle.wt_code.specs.declared.answers.Answer.TheVariants.{Refused}
use Rattle.wt_code.specs.declared.refusals.Busy.{Busy}
use Rattle.wt_code.specs.declared.refusals.Busy.TheVariants as who
use Rattle.wt_code.specs.declared.refusals.Refusal.{Refusal}
use Rattle.wt_code.specs.declared.refusals.Refusal.TheVariants as told
use Rattle.wt_code.specs.declared.refusals.Refusal.TheVariants.{Limit as Refusal_Limit}
use Rattle.wt_code.specs.declared.refusals.Limit.TheVariants.{Checkpoints as TooMany}
use Rattle.kv_model.specs.Calls.{rolled_back}
use Rattle.kv_model.specs.Closing.{close_busy, close_decision, close_refused, closing, last_checkpoint, last_stored, rolling_back, after_all}
use Rattle.kv_model.specs.Content.{OpensAs}
use Rattle.kv_model.specs.Decisions.{Outcome, Done as IsDone, Refused as NotDone, StartCall, checked, decision, first_session, is_resolving, is_there, unless_found}
use Rattle.kv_model.specs.Machine.{Machine, Checkpoint, Completed, Transaction, Event, CheckpointStart, of_some, after, transaction_of}
use Rattle.kv_model.specs.Outside.{Storing, Stored as StoredWhole, NoPlace, Unfinished}
use Rattle.kv_model.proofs.Closes.{close-ends}
use Rattle.stored.specs.Stored.{Stored}
use Rattle.checkpoint_core.specs.Stands.{HasStill}
use Rattle.device_leaf.specs.Closings.{content_was}
use Rattle.engine_world.specs.Stands.{Engine, Stands}
use Rattle.engine_world.specs.Systems.{DownsGo}
use Rattle.engine_world.specs.Worlds.{World}
use Rattle.engine_world.proofs.HubMoves.{decided-up}
use Rattle.engine.specs.Checkpoints.{MayStart, started_as}
use Rattle.engine.specs.Closes.{MayClose, busy_in, close_told, unfinished_in}
use Rattle.engine.specs.Directories.{HubGoesOn}
use Rattle.ckpt_step.specs.Floors.{AreLivesOn, Follows}
use Rattle.ckpt_step.specs.Grounds.{StandsOn}
use Rattle.ckpt_step.specs.declared.ground.Ground.{Ground}
use Rattle.ckpt_step.specs.declared.lives.Lone.{Lone}
use Rattle.ckpt_content.specs.Laws.{ReadFinishesOpen}
use Rattle.ckpt_step.proofs.Floors.{goes_rolled}
use Rattle.ckpt_step.proofs.Staying.{grounds_stay}
use Rattle.ckpt_step.specs.Takes.{Takes}
use Rattle.engine_store.specs.declared.store.Store.{Store}
use Rattle.engine_store.specs.Answers.{CheckpointTakes, CloseTakes, StartedAs, answer_of}
use Rattle.engine_store.specs.Closes.{rolled}
use Rattle.engine_store.specs.Devices.{Device, Installed, IsNumberOf, device_of, last_number, may_open_to}
use Rattle.engine_store.specs.Held.{CheckpointsOn, IsGrounded, IsHeldIn, Shuts}
use Rattle.engine_store.specs.Images.{OpensToLast}
use Rattle.engine_store.proofs.Closings.{StaysSo, free_of, stays_rolled, up_of}
use Rattle.engine_store.proofs.Contents.{most_number}
use Rattle.engine_store.proofs.OtherRecords.{held_kept}
use Rattle.engine_store.proofs.CheckpointTaken.{by_takes, number_held}
use Rattle.engine_store.proofs.UnderWayStill.{none_runs, runs_none}

-- ---- what is decided

after_append : (m : Machine) (events later : List Event) → after_all m (events ++ later) ≡ after_all (after_all m events) later
after_append m [] later = refl
after_append m (event ∷ events) later = after_append (after m event) events later

module _ (m : Machine) (u : Unfinished) (up : m.fault ≡ None) (free : close_busy m u ≡ None) where
  decides : (number : ℕ) (storing : Storing) → close_decision m u number storing ≡ closing m (last_checkpoint number storing)
  decides number storing =
      ap (of_some (of_some (closing m (last_checkpoint number storing)) (λ (busy : Busy). close_refused (told.Busy busy)) (close_busy m u)) (λ (fault : Fault). close_refused (told.Panic fault))) up
      ∙ ap (of_some (closing m (last_checkpoint number storing)) (λ (busy : Busy). close_refused (told.Busy busy))) free

  rolls_first : (events : List Event) → after_all m (rolling_back 0 m.sessions ++ events) ≡ after_all (rolled_back m) events
  rolls_first events = after_append m (rolling_back 0 m.sessions) events

  -- no transaction is left
  none_left : (session : ℕ) → transaction_of (rolled_back m) session ≡ None
  none_left session =
      subst (λ (x : Machine). transaction_of x session ≡ None) (rolls_first [])
      (subst (λ (d : Outcome × List Event). transaction_of (after_all m d.1) session ≡ None) (decides 0 NoPlace) (close-ends m u 0 NoPlace up free session))

-- below the last number a checkpoint is as the device takes it
below_last : (number : ℕ) (storing : Storing) → number < last_number → last_checkpoint number storing ≡ last_stored storing
below_last number storing less = elim (cases_Bool (nat_le last_number number)) [
  | inl high ↦ absurd (omega (arith, less, leb-true last_number number high))
  | inr low ↦ rw low refl
]

-- a close that is refused at once
refused_at_once : (fault : Option Fault) (busy : Option Busy) (go : Outcome × List Event) (r : Refusal) → close_told fault busy ≡ Err r
    → of_some (of_some go (λ (b : Busy). close_refused (told.Busy b)) busy) (λ (f : Fault). close_refused (told.Panic f)) fault ≡ close_refused r
refused_at_once (Some fault) busy go r is = let same : told.Panic fault ≡ r = cc in ap close_refused same
refused_at_once None (Some busy) go r is = let same : told.Busy busy ≡ r = cc in ap close_refused same
refused_at_once None None go r is = absurd cc

-- ---- where a checkpoint may start

no_session : (test : Transaction → Bool) (at : ℕ) (ts : List (Option Transaction)) → ((i : ℕ) → slice_index_or ts i None ≡ None) → first_session test at ts ≡ None
no_session test at [] none = refl
no_session test at (None ∷ ts) none = no_session test (at + 1) ts (λ i. none (suc i))
no_session test at (Some t ∷ ts) none = let e : Some t ≡ None = none 0 in absurd (cc)

abbrev start_by : Bool → Outcome × Event
start_by last = checked ((last, Refusal_Limit TooMany) ∷ []) (IsDone, CheckpointStart)

-- a machine without transactions counts its checkpoints, and no more
starts_by : (m : Machine) (number : ℕ) → m.fault ≡ None → m.checkpoint ≡ None → ((session : ℕ) → transaction_of m session ≡ None) → decision m 0 (StartCall number) ≡ start_by (nat_le last_number number)
starts_by m number up idle none =
    decided-up m 0 (StartCall number) up
    ∙ (ap (λ (c : Option Checkpoint). checked ((is_there c, told.Busy who.Checkpoint) ∷ []) (unless_found (first_session (λ t. is_resolving t.phase) 0 m.sessions) who.Resolving (start_by (nat_le last_number number)))) idle
    ∙ ap (λ (o : Option ℕ). unless_found o who.Resolving (start_by (nat_le last_number number))) (no_session (λ t. is_resolving t.phase) 0 m.sessions none))

module _ (m : Machine) (number : ℕ) (up : m.fault ≡ None) (idle : m.checkpoint ≡ None) (none : (session : ℕ) → transaction_of m session ≡ None) where
  barred_last : (r : Refusal) → MayStart m number (Err r) → (r ≡ Refusal_Limit TooMany) × (last_number ≤ number)
  barred_last r barred = elim (cases_Bool (nat_le last_number number)) [
    | inl high ↦ let e : start_by true ≡ started_as (Err r) = sym (starts_by m number up idle none ∙ ap start_by high) ∙ barred in (sym (refusal_is e), leb-true last_number number high)
    | inr low ↦ let e : start_by false ≡ started_as (Err r) = sym (starts_by m number up idle none ∙ ap start_by low) ∙ barred in absurd (done_not e)
  ]
    where
      refusal_is : start_by true ≡ started_as (Err r) → Refusal_Limit TooMany ≡ r
      refusal_is e = let f : NotDone (Refusal_Limit TooMany) ≡ NotDone r = ap (λ (d : Outcome × Event). d.0) e in cc

      done_not : start_by false ≡ started_as (Err r) → ⊥
      done_not e = let f : IsDone ≡ NotDone r = ap (λ (d : Outcome × Event). d.0) e in cc

  started_below : MayStart m number (Ok tt) → number < last_number
  started_below may = elim (cases_Bool (nat_le last_number number)) [
    | inl high ↦ let e : start_by true ≡ started_as (Ok tt) = sym (starts_by m number up idle none ∙ ap start_by high) ∙ may in absurd (last_not e)
    | inr low ↦ elim (cases_lt number last_number) [
      | inl less ↦ less
      | inr le ↦ absurd (false≢true (sym low ∙ le-leb last_number number le))
    ]
  ]
    where
      last_not : start_by true ≡ started_as (Ok tt) → ⊥
      last_not e = let f : NotDone (Refusal_Limit TooMany) ≡ IsDone = ap (λ (d : Outcome × Event). d.0) e in cc

-- ---- the answer, from that of the checkpoint

module _ (lives : List Lone) (old new : Device) (before : Option Stored) (has : HasStill before old.seen) (w : World) (may : MayClose w) (free_now : w.machine.checkpoint ≡ None) where
  abbrev m : Machine
  m = w.machine

  abbrev u : Unfinished
  u = unfinished_in w

  up : m.fault ≡ None
  up = up_of w may

  free : close_busy m u ≡ None
  free = free_of w may

  up_then : (rolled_back m).fault ≡ None
  up_then = (stays_rolled m).fault ∙ up

  idle_then : (rolled_back m).checkpoint ≡ None
  idle_then = (stays_rolled m).checkpoint ∙ free_now

  none : (session : ℕ) → transaction_of (rolled_back m) session ≡ None
  none session = none_left m u up free session

  -- the last number was taken
  last_taken : (answer : Answer (List ℕ)) (next : Machine) → IsNumberOf old.seen last_number → answer ≡ Refused (Refusal_Limit TooMany) → next ≡ rolled_back m → CloseTakes lives old new w answer next
  last_taken answer next counted is same = inr (inr (
    last_number,
    StoredWhole,
    NotDone (Refusal_Limit TooMany),
    rolling_back 0 m.sessions ++ [],
    counted,
    inr (λ other. decides m u up free last_number other ∙ sym (decides m u up free last_number StoredWhole)),
    decides m u up free last_number StoredWhole,
    is,
    same ∙ sym (rolls_first m u up free []),
  ))

  by_start : (answer : Answer (List ℕ)) (next : Machine) (number : ℕ) (start : Result (Unit {0}) Refusal) → IsNumberOf old.seen number → MayStart (rolled_back m) number start → StartedAs lives old new (rolled_back m) answer next start → CloseTakes lives old new w answer next
  by_start answer next number (Err r) counted barred (is, same) =
      let last = barred_last (rolled_back m) number up_then idle_then none r barred in
      last_taken answer next (subst (λ (n : ℕ). IsNumberOf old.seen n) (most_number old.seen before number has counted last.1) counted) (is ∙ ap (λ (x : Refusal). let a : Answer (List ℕ) = Refused x in a) last.0) same
  by_start answer next number (Ok done) counted started stored = inr (inr (
    number,
    stored.storing,
    (last_stored stored.storing).0,
    rolling_back 0 m.sessions ++ (last_stored stored.storing).1,
    counted,
    inl stored.takes,
    decides m u up free number stored.storing ∙ ap (closing m) (below_last number stored.storing (started_below (rolled_back m) number up_then idle_then none started)),
    stored.told,
    stored.leaves ∙ sym (rolls_first m u up free (last_stored stored.storing).1),
  ))

  closes_by : (answer : Answer (List ℕ)) (next : Machine) → CheckpointTakes lives old new (rolled_back m) answer next → CloseTakes lives old new w answer next
  closes_by answer next (inl (is, same)) = inl (record { is = is; up = up; idle = free; left = same })
  closes_by answer next (inr (number, start, counted, may_start, so)) = by_start answer next number start counted may_start so

refused_takes : (lives : List Lone) (old new : Device) (w : World) (r : Refusal) (number : ℕ) → IsNumberOf old.seen number → close_told w.machine.fault (busy_in w) ≡ Err r → CloseTakes lives old new w (Refused r) w.machine
refused_takes lives old new w r number counted why = inr (inr (
  number,
  StoredWhole,
  NotDone r,
  [],
  counted,
  inr (λ other. decided other ∙ sym (decided StoredWhole)),
  decided StoredWhole,
  refl,
  refl,
))
  where
    decided : (storing : Storing) → close_decision w.machine (unfinished_in w) number storing ≡ close_refused r
    decided storing = refused_at_once w.machine.fault (busy_in w) (closing w.machine (last_checkpoint number storing)) r why

-- ---- what the rolling back leaves of the ground

-- it is the same ground, which follows the world that is rolled back
pub record IsRolled (seen : List ℕ) (images : List ℕ → Type 0) (old : Option Stored) (w : World) (ground : Ground) (middle : Engine) : Type 0 where
  pub on : StandsOn seen images middle.hub ground old
  pub follows : Follows old middle.hub ground (rolled w)
  pub since : AreLivesOn seen middle.hub ground (rolled w)

pub is_rolled : (seen : List ℕ) (images : List ℕ → Type 0) (old : Option Stored) (w : World) (ground : Ground) (e middle : Engine) → HubGoesOn e.hub middle.hub → Stands e w → Stands middle (rolled w)
    → StandsOn seen images e.hub ground old → Follows old e.hub ground w → AreLivesOn seen e.hub ground w → IsRolled seen images old w ground middle
is_rolled seen images old w ground e middle goes st later on follows device =
    let stay = grounds_stay seen images e.hub middle.hub ground old goes st.dir later.dir later.catalog on in
    record { on = stay.0; follows = stay.1 w (rolled w) (goes_rolled w.machine) refl follows; since = stay.2 w (rolled w) refl device }

-- with the transactions rolled back
abbrev pub with_rolled : Store → Engine → Store
with_rolled s middle = record s { engine = middle }

-- ---- what it leaves

module _ {D : Type 0} (g : Ghosts D) (start_disk before : D) (image : g.may_leave before (g.seen before)) (s : Store) (w : World) (first : Completed) (made : List Installed) (held : IsHeldIn g start_disk s before w first made) where
  -- refused at once: nothing is changed
  pub shuts_refused : (after : D) (s' : Store) (r : Refusal) → close_told w.machine.fault (busy_in w) ≡ Err r → s' ≡ s → after ≡ before → Shuts g start_disk w first made s s' before after (Err r)
  shuts_refused after s' r why same still =
      subst (λ (d : D). Shuts g start_disk w first made s s' before d (Err r)) (sym still)
      (subst (λ (x : Store). Shuts g start_disk w first made s x before before (Err r)) (sym same)
      (record {
        next = w.machine;
        now = made;
        behind = record { later = record { faults = omega arith; moment = omega arith }; capacity = refl; has = λ up. let on = held.on up in (on.old, on.on.stands.seen_has, on.on.stands.seen_has) };
        takes = let n = number_held g start_disk before image s w first made held in refused_takes s.ground.lives (device_of g before) (device_of g before) w r n.0 n.1 why;
        installs = inl refl;
        held = held_kept g start_disk before s w first made held;
        none = λ none. none;
      }))

  module _ (free : s.running ≡ None) (may : MayClose w) (middle : Engine) (stands : Stands middle (rolled w)) (hub : HubGoesOn s.engine.hub middle.hub) where
    stay : StaysSo w.machine (rolled_back w.machine)
    stay = stays_rolled w.machine

    idle : w.machine.checkpoint ≡ None
    idle = runs_none s.ground s.running w.machine free held.running

    abbrev s1 : Store
    s1 = with_rolled s middle

    grounded_rolled : IsGrounded (g.seen before) (g.may_leave before) s w (may_open_to (first ∷ []) made) → IsGrounded (g.seen before) (g.may_leave before) s1 (rolled w) (may_open_to (first ∷ []) made)
    grounded_rolled on =
        let r = is_rolled (g.seen before) (g.may_leave before) on.old w s.ground s.engine middle hub held.stands stands on.on on.follows on.since in
        record {
          old = on.old;
          on = r.on;
          follows = r.follows;
          since = r.since;
          opens = subst (λ (k : Completed). OpensAs (content_was on.old) k) (sym stay.completed) on.opens;
          one = on.one;
        }

    on_rolled : IsGrounded (g.seen before) (g.may_leave before) s1 (rolled w) (may_open_to (first ∷ []) made)
    on_rolled = grounded_rolled (held.on (up_of w may))

    held_rolled : IsHeldIn g start_disk s1 before (rolled w) first made
    held_rolled = record {
      stands = stands;
      running = none_runs s.ground s.running (rolled_back w.machine) free (stay.checkpoint ∙ idle);
      kept = held.kept;
      bare = λ id late. held.bare id (let ids = hub.dir.ids in omega (arith, late, ids));
      on = λ up. grounded_rolled (held.on (sym stay.fault ∙ up));
      images = held.images;
      last = subst (λ (k : Completed). OpensToLast (g.may_leave before) first k made) (sym stay.completed) held.last;
      ever = held.ever;
      stays = held.stays;
      past = held.past;
    }

    module _ (after : D) (counts : g.moment before ≤ g.moment after → (c : List ℕ) → g.may_leave after c → g.left_since after (g.moment before) c) (only : (c : List ℕ) → g.left_since after (g.moment after) c → g.may_leave after c)
        (count : g.faults before ≤ g.faults after) (room : g.capacity after ≡ g.capacity before) (law : ReadFinishesOpen) (downs : DownsGo) (s' : Store) (result : Result (Unit {0}) Refusal) where
      from_checkpoint : CheckpointsOn g start_disk (rolled w) first made s1 s' before after w.shelf result → Shuts g start_disk w first made s s' before after result
      from_checkpoint t = record {
        next = t.next;
        now = t.now;
        behind = t.behind;
        takes = closes_by s.ground.lives (device_of g before) (device_of g after) on_rolled.old on_rolled.on.stands.seen_has w may idle (answer_of result) t.next t.takes;
        installs = t.installs;
        held = t.held;
        none = t.none;
      }

      pub shuts_by : s'.running ≡ None → OnErr result (s'.ground.lives ≡ s.ground.lives) → s'.ground.kept ≡ s.ground.kept → ((old : Option Stored) → StandsOn (g.seen before) (g.may_leave before) middle.hub s.ground old → Follows old middle.hub s.ground (rolled w) → AreLivesOn (g.seen before) middle.hub s.ground (rolled w) → Takes g old (rolled w) s.ground s'.ground middle s'.engine before after result) → Shuts g start_disk w first made s s' before after result
      shuts_by none lives kept takes = from_checkpoint (by_takes g start_disk before after counts only image s1 s' (rolled w) first made held_rolled on_rolled (stay.checkpoint ∙ idle) none kept count room law downs result lives (takes on_rolled.old on_rolled.on on_rolled.follows on_rolled.since))
