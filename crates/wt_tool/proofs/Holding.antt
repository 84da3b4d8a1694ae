-- A command holds its store over its calls.
use Rattle.std.specs.Prelude.{◌≡◌, ◌≤◌, ◌⊎◌, ℕ, List, [], length, Option, None, Some, Ok, Err, slice_index_or}
use Rattle.std.proofs.Common.{inl, inr, refl, sym, ap, subst, ◌∙◌, arith}
use Rattle.limits.specs.declared.TheConstants.{SESSIONS_MAX}
use Rattle.failure.specs.Counts.{Rose}
use Rattle.disk_model.specs.Crash.{Looked}
use Rattle.disk_model.specs.declared.disk.Disk.{Ghosts}
use Rattle.item.specs.declared.Formats.{Formats}
use Rattle.wt_code.specs.declared.answers.Answer.{Answer}
use Rattle.wt_code.specs.declared.answers.Answer.TheVariants as answers
use Rattle.wt_code.specs.declared.refusals.Refusal.{Refusal}
use Rattle.wt_code.specs.declared.refusals.Refusal.TheVariants.{NoMemory, Limit as Refusal_Limit}
use Rattle.wt_code.specs.declared.refusals.Limit.TheVariants.{Sessions}
use Rattle.kv_model.specs.Machine.{Completed, OpenSession, after}
use Rattle.kv_model.specs.Decisions as kv
use Rattle.kv_model.specs.Decisions.{OpenCall, decision}
use Rattle.kv_model.specs.Calls.{Session, System, Call, Begin, PutKey, Commit, Create, SessionAnswers, SystemAnswers}
use Rattle.wt_calls.specs.declared.call.Call.TheVariants as call
use Rattle.wt_calls.specs.declared.system_call.SystemCall.TheVariants as system
use Rattle.engine_world.specs.Whole.{around_kept, nothing_around}
use Rattle.engine_world.specs.Worlds.{World, Doing, Resting, doing_of}
use Rattle.engine.specs.Whole.{CallsKept, KeptBy, MakesAt, with_session_more}
use Rattle.ckpt_step.specs.Keeps.{IsOrdinary, KeptKeep, StepsKeep}
use Rattle.engine_store.specs.declared.eviction.TheConstants.{FRAMES}
use Rattle.engine_store.specs.declared.store.Store.{Store}
use Rattle.engine_store.specs.Calls.{Called, Made, Opens}
use Rattle.engine_store.specs.Devices.{device_of}
use Rattle.engine_store.specs.Loads.{IsCause}
use Rattle.wt_tool.specs.Led.{DoneBy, Holds, IsWord, OpenedBy}
use Rattle.wt_tool.specs.Parts.{NoDamage}
use Rattle.wt_tool.specs.Points.{Did, point_of}
use Rattle.wt_tool.proofs.Beside.{keeps_same, looked_keeps, looked_later, same_device, soft_cause, wider}
use Rattle.wt_tool.proofs.Called.{IsDone, create_done, word_done}
use Rattle.wt_tool.proofs.Quiet.{quiet_more, quiet_on, quiet_ordinary}

word_ordinary : (c : Call) → IsWord c → IsOrdinary c
word_ordinary (Begin None) word = tt
word_ordinary (PutKey table key value demand) word = tt
word_ordinary (Commit None None) word = tt
word_ordinary _ word = absurd word

answered_at : (kept : KeptBy) (d : Doing) (w : World) (c : Call) (a : Answer (List ℕ)) (later : World) → d ≡ Resting → CallsKept kept d w 0 c a later
    → SessionAnswers (around_kept kept) w.machine 0 c a later.machine × (later.machine.fault ≡ w.machine.fault) × (later ≡ record w { machine = later.machine })
answered_at kept d w c a later rests is = subst (λ (x : Doing). CallsKept kept x w 0 c a later) rests is

made_at : (o : Option Call) (w : World) (c : Call) (a : Answer (List ℕ)) (later : World) → o ≡ None → MakesAt o w c a later → SystemAnswers nothing_around w.machine c a later.machine × (later ≡ record w { machine = later.machine })
made_at o w c a later none is = subst (λ (x : Option Call). MakesAt x w c a later) none is

-- a call that gives nothing, by its answer
by_done : (P : Answer (List ℕ) → Type 0) (a : Answer (List ℕ)) → IsDone a → ((r : Refusal) → a ≡ answers.Refused r → ⊥) → P a → P answers.Done
by_done P answers.Done done none p = p
by_done P (answers.Refused r) done none p = absurd (none r refl)
by_done P _ done none p = absurd done

module _ {D : Type 0} (g : Ghosts D) (start_disk : D) (first : Completed) (w : World) (s s' : Store) (before after : D) (looked : Looked g before after) (frames : s'.frames ≡ s.frames) (holds : Holds g start_disk first s before w) where
  -- ---- a call of the session

  module _ (keep : KeptKeep) (c : Call) (word : IsWord c) (a : Answer (List ℕ)) (x : Called g start_disk w first [] s s' before after 0 c a) where
    answered : SessionAnswers (around_kept x.kept) w.machine 0 c a x.later.machine × (x.later.machine.fault ≡ w.machine.fault) × (x.later ≡ record w { machine = x.later.machine })
    answered = answered_at x.kept (doing_of w 0) w c a x.later (holds.quiet.sessions 0) x.called

    caused : (r : Refusal) → x.kept ≡ Some r → IsCause (Rose (g.faults before) (g.faults after)) ⊥ w.machine.fault r
    caused r is = let c = x.caused r is in soft_cause (Rose (g.faults before) (g.faults after)) s.frames FRAMES c.0 w.machine.fault r holds.soft c.2

    call_holds : Holds g start_disk first s' after x.later
    call_holds =
        let keeps = keep x.kept w x.later 0 c a (quiet_ordinary w holds.quiet) (word_ordinary c word) x.called in
        record {
          held = x.held;
          quiet = quiet_on w x.later holds.quiet answered.2;
          completed = keeps.completed ∙ holds.completed;
          up = answered.1 ∙ holds.up;
          soft = frames ∙ holds.soft;
        }

    call_did : Did (point_of g w.machine before) (Session 0) c a (point_of g x.later.machine after)
    call_did = record {
      later = looked_later g before after looked;
      keeps = looked_keeps g before after looked;
      answers = wider (device_of g before) (device_of g after) w.machine holds.up x.kept caused 0 c a x.later.machine answered.0;
    }

    -- no damage keeps its leaf from it
    kept_undamaged : (r : Refusal) → x.kept ≡ Some r → NoDamage r
    kept_undamaged r is = by (caused r is)
      where
        by : IsCause (Rose (g.faults before) (g.faults after)) ⊥ w.machine.fault r → NoDamage r
        by (inl none) = subst NoDamage (sym none) tt
        by (inr (inl (fault, rose))) = subst NoDamage (sym fault) tt
        by (inr (inr (inr (full, none)))) = absurd none
        by (inr (inr (inl (f, panic, down)))) = subst NoDamage (sym panic) tt

    is_done : IsDone a
    is_done = word_done (around_kept x.kept) w.machine 0 c a x.later.machine kept_undamaged word answered.0

    -- and none is told
    pub call_undamaged : (r : Refusal) → a ≡ answers.Refused r → NoDamage r
    call_undamaged r is = subst IsDone is is_done

    pub call_done : ((r : Refusal) → a ≡ answers.Refused r → ⊥) → DoneBy g start_disk first w s' before after (Session 0) c (Ok tt)
    call_done none = (
      x.later,
      call_holds,
      by_done (λ (y : Answer (List ℕ)). Did (point_of g w.machine before) (Session 0) c y (point_of g x.later.machine after)) a
          is_done none call_did,
    )

    pub call_refused : (r : Refusal) → a ≡ answers.Refused r → DoneBy g start_disk first w s' before after (Session 0) c (Err r)
    call_refused r is = (x.later, call_holds, subst (λ (y : Answer (List ℕ)). Did (point_of g w.machine before) (Session 0) c y (point_of g x.later.machine after)) is call_did)

  -- ---- a table that is made

  module _ (keep : StepsKeep) (name : List ℕ) (formats : Formats) (a : Answer (List ℕ)) (x : Made g start_disk w first [] s s' before after (call.System 0 (system.Create name formats)) a) where
    created : SystemAnswers nothing_around w.machine (Create name formats) a x.later.machine × (x.later ≡ record w { machine = x.later.machine })
    created = made_at (slice_index_or w.systems 0 None) w (Create name formats) a x.later (holds.quiet.systems 0) x.answered

    create_holds : Holds g start_disk first s' after x.later
    create_holds =
        let keeps = keep.1 w x.later (call.System 0 (system.Create name formats)) a (quiet_ordinary w holds.quiet) tt x.answered in
        record {
          held = x.held;
          quiet = quiet_on w x.later holds.quiet created.1;
          completed = keeps.completed ∙ holds.completed;
          up = keeps.fault ∙ holds.up;
          soft = frames ∙ holds.soft;
        }

    create_did : Did (point_of g w.machine before) (System 0) (Create name formats) a (point_of g x.later.machine after)
    create_did = record { later = looked_later g before after looked; keeps = looked_keeps g before after looked; answers = created.0 }

    pub create_done_by : ((r : Refusal) → a ≡ answers.Refused r → ⊥) → DoneBy g start_disk first w s' before after (System 0) (Create name formats) (Ok tt)
    create_done_by none = (
      x.later,
      create_holds,
      by_done (λ (y : Answer (List ℕ)). Did (point_of g w.machine before) (System 0) (Create name formats) y (point_of g x.later.machine after)) a
          (create_done nothing_around w.machine name formats a x.later.machine created.0) none create_did,
    )

    pub create_refused_by : (r : Refusal) → a ≡ answers.Refused r → DoneBy g start_disk first w s' before after (System 0) (Create name formats) (Err r)
    create_refused_by r is = (x.later, create_holds, subst (λ (y : Answer (List ℕ)). Did (point_of g w.machine before) (System 0) (Create name formats) y (point_of g x.later.machine after)) is create_did)

-- of a table whose name was copied
pub made_same : {D : Type 0} (g : Ghosts D) (start_disk : D) (first : Completed) (w : World) (s s' : Store) (before after : D) (table name : List ℕ) (formats : Formats) (a : Answer (List ℕ)) → table ≡ name
    → Made g start_disk w first [] s s' before after (call.System 0 (system.Create table formats)) a → Made g start_disk w first [] s s' before after (call.System 0 (system.Create name formats)) a
made_same g start_disk first w s s' before after table name formats a is x = subst (λ (n : List ℕ). Made g start_disk w first [] s s' before after (call.System 0 (system.Create n formats)) a) is x

-- ---- of the store alone, whose disk is not looked at

module _ {D : Type 0} (g : Ghosts D) (start_disk : D) (first : Completed) (w : World) (s : Store) (disk : D) (holds : Holds g start_disk first s disk w) where
  -- memory was too short for a table's name
  pub create_short : (name : List ℕ) (formats : Formats) → DoneBy g start_disk first w s disk disk (System 0) (Create name formats) (Err NoMemory)
  create_short name formats = (w, holds, record { later = same_device (device_of g disk); keeps = keeps_same (device_of g disk); answers = inl (refl, refl) })

  opens_now : length w.machine.sessions ≡ 0 → decision w.machine 0 OpenCall ≡ (kv.Done, OpenSession)
  opens_now none = rw (holds.up, none) refl

  pub opened_done : (s' : Store) (number : ℕ) → s'.frames ≡ s.frames → length w.machine.sessions ≡ 0 → Opens g start_disk w first [] s s' disk disk number → OpenedBy g start_disk first w s' disk disk (Ok tt)
  opened_done s' number frames none x = (
    with_session_more w,
    record {
      held = x.held;
      quiet = quiet_more w holds.quiet;
      completed = holds.completed;
      up = holds.up;
      soft = frames ∙ holds.soft;
    },
    inr (kv.Done, (OpenSession, opens_now none, refl), refl),
  )

  pub opened_refused : (s' : Store) (r : Refusal) → length s.engine.sessions ≡ 0 → s' ≡ s → (r ≡ NoMemory) ⊎ ((r ≡ Refusal_Limit Sessions) × (SESSIONS_MAX ≤ length s.engine.sessions)) → OpenedBy g start_disk first w s' disk disk (Err r)
  opened_refused s' r none same (inl is) = (w, subst (λ (x : Store). Holds g start_disk first x disk w) (sym same) holds, inl (ap answers.Refused is, refl))
  opened_refused s' r none same (inr (is, most)) = absurd (omega (arith, most, none))
