-- Steps of a session's call, one after the other, among which leaves are kept from it.
use Rattle.std.proofs.Common.{◌≡◌, ◌∙◌, ◌≤◌, ℕ, zero, suc, List, refl, ap, subst, inl, inr}
use Rattle.std.specs.Prelude.{◌⊎◌, Result, Ok, Err}
use Rattle.disk_model.specs.declared.disk.Disk.{Ghosts}
use Rattle.wt_code.specs.declared.answers.Answer.{Answer}
use Rattle.wt_code.specs.declared.refusals.Refusal.{Refusal}
use Rattle.call_steps.specs.declared.reply.Reply.TheVariants as reply
use Rattle.engine_world.specs.Stands.{Engine, Stands}
use Rattle.engine_world.specs.Steps.{MayKeepOut}
use Rattle.engine_world.specs.Worlds.{World}
use Rattle.engine.specs.declared.called.Called.{Called}
use Rattle.engine.specs.declared.called.Called.TheVariants as called
use Rattle.engine.specs.declared.step.Actor.TheVariants as by
use Rattle.engine.specs.declared.step.Step.TheVariants.{Go}
use Rattle.engine.specs.Runs.{StepsMore, StepsOut}
use Rattle.engine.specs.Whole.{Ends}
use Rattle.evict_step.specs.Kept.{Lists}
use Rattle.ckpt_step.specs.Keeps.{AreOrdinary}
use Rattle.ckpt_step.specs.Floors.{laid_of}
use Rattle.engine_store.specs.declared.frames.Frames.{Frames}
use Rattle.engine_store.specs.Calls.{EndsIn, GoesOrKept}
use Rattle.engine_store.specs.Fetches.{CauseSince, ComesOrNot, GoesIn, StepsBy}
use Rattle.engine_store.specs.Keeping.{with_kept}
use Rattle.engine_store.proofs.Going.{Goes, goes_out, goes_step, goes_then, laid_step}
use Rattle.engine_store.proofs.OtherRecords.{more_other, other_records, stands_other, steps_other}
use Rattle.engine_store.proofs.UnderWay.{cause_since}

-- what was done where a leaf came in, or was kept out
abbrev pub IsMiddle : (Caused : Refusal → Type 0) → World → ℕ → World → Type 0
IsMiddle Caused now session middle = (middle ≡ now) ⊎ ((r : Refusal) × Caused r × MayKeepOut now session r middle)

-- ---- for other causes

pub or_more : (P Q : World → Refusal → Type 0) → ((v : World) (r : Refusal) → P v r → Q v r) → (w : World) (session : ℕ) (next : World) → GoesOrKept P w session next → GoesOrKept Q w session next
or_more P Q more w session next (inl goes) = inl goes
or_more P Q more w session next (inr (r, cause, out)) = inr (r, more w r cause, out)

pub in_more : (P Q : World → Refusal → Type 0) → ((v : World) (r : Refusal) → P v r → Q v r) → (n : ℕ) (w : World) (session : ℕ) (last : World) → GoesIn P n w session last → GoesIn Q n w session last
in_more P Q more zero w session last is = is
in_more P Q more (suc n) w session last (next, one, rest) = (next, or_more P Q more w session next one, in_more P Q more n next session last rest)

-- ---- one after the other

module _ (Caused : World → Refusal → Type 0) (session : ℕ) where
  more_in : (n : ℕ) (w last : World) → StepsMore n w (by.Session session) last → GoesIn Caused n w session last
  more_in zero w last is = is
  more_in (suc n) w last (middle, one, rest) = (middle, inl one, more_in n middle last rest)

  out_in : (n : ℕ) (w last : World) (answer : Answer (List ℕ)) → StepsOut n w (by.Session session) answer last → EndsIn Caused n w session answer last
  out_in zero w last answer is = is
  out_in (suc n) w last answer (middle, one, rest) = (middle, inl one, out_in n middle last answer rest)

  pub in_then : (n : ℕ) (w middle : World) (m : ℕ) (last : World) → GoesIn Caused n w session middle → GoesIn Caused m middle session last → (k : ℕ) × GoesIn Caused k w session last
  in_then zero w middle m last is rest = (m, subst (λ (x : World). GoesIn Caused m x session last) is rest)
  in_then (suc n) w middle m last (next, one, first) rest = let k = in_then n next middle m last first rest in (suc k.0, (next, one, k.1))

  pub ends_then : (n : ℕ) (w middle : World) (m : ℕ) (answer : Answer (List ℕ)) (last : World) → GoesIn Caused n w session middle → EndsIn Caused m middle session answer last → (k : ℕ) × EndsIn Caused k w session answer last
  ends_then zero w middle m answer last is rest = (m, subst (λ (x : World). EndsIn Caused m x session answer last) is rest)
  ends_then (suc n) w middle m answer last (next, one, first) rest = let k = ends_then n next middle m answer last first rest in (suc k.0, (next, one, k.1))

  middle_in : (now middle : World) → IsMiddle (Caused now) now session middle → (n : ℕ) × GoesIn Caused n now session middle
  middle_in now middle (inl same) = (zero, same)
  middle_in now middle (inr kept) = (suc zero, (middle, inr kept, refl))

  -- ---- the shelf and the history

  laid_one : (w next : World) → GoesOrKept Caused w session next → laid_of next ≡ laid_of w
  laid_one w next (inl goes) = laid_step w next (Go (by.Session session)) reply.More goes
  laid_one w next (inr (r, cause, out)) = ap laid_of out.leaves

  pub laid_in : (n : ℕ) (w last : World) → GoesIn Caused n w session last → laid_of last ≡ laid_of w
  laid_in zero w last is = ap laid_of is
  laid_in (suc n) w last (next, one, rest) = laid_in n next last rest ∙ laid_one w next one

  laid_ends : (n : ℕ) (w last : World) (answer : Answer (List ℕ)) → EndsIn Caused n w session answer last → laid_of last ≡ laid_of w
  laid_ends zero w last answer is = laid_step w last (Go (by.Session session)) (reply.Answer answer) is
  laid_ends (suc n) w last answer (next, one, rest) = laid_ends n next last answer rest ∙ laid_one w next one

  -- ---- what they keep

  goes_one : (w next : World) → AreOrdinary w → GoesOrKept Caused w session next → Goes w next
  goes_one w next are (inl goes) = goes_step w next (Go (by.Session session)) reply.More are tt goes
  goes_one w next are (inr (r, cause, out)) = goes_out w next session r are out

  pub goes_ends : (n : ℕ) (w last : World) (answer : Answer (List ℕ)) → AreOrdinary w → EndsIn Caused n w session answer last → Goes w last
  goes_ends zero w last answer are is = goes_step w last (Go (by.Session session)) (reply.Answer answer) are tt is
  goes_ends (suc n) w last answer are (next, one, rest) =
      let first = goes_one w next are one in
      goes_then w next last first (goes_ends n next last answer first.keeps.ordinary rest)

-- ---- steps of a world in which the history has what is kept

laid_out : (n : ℕ) (w last : World) (session : ℕ) (answer : Answer (List ℕ)) → StepsOut n w (by.Session session) answer last → laid_of last ≡ laid_of w
laid_out zero w last session answer is = laid_step w last (Go (by.Session session)) (reply.Answer answer) is
laid_out (suc n) w last session answer (middle, one, rest) = laid_out n middle last session answer rest ∙ laid_step w middle (Go (by.Session session)) reply.More one

laid_more : (n : ℕ) (w last : World) (session : ℕ) → StepsMore n w (by.Session session) last → laid_of last ≡ laid_of w
laid_more zero w last session is = ap laid_of is
laid_more (suc n) w last session (middle, one, rest) = laid_more n middle last session rest ∙ laid_step w middle (Go (by.Session session)) reply.More one

ended_by : (w : World) (answer : Answer (List ℕ)) (e : Engine) (lists : Lists) (session : ℕ) → Ends (called.Ended answer) e (with_kept lists w) session → (n : ℕ) × (last : World) × StepsOut n w (by.Session session) answer last × Stands e (with_kept lists last)
ended_by w answer e lists session (n, last, out, stands) = (
  n,
  other_records w.records last,
  steps_other w.records n (with_kept lists w) last session answer out,
  stands_other e lists w last w.records (laid_out n (with_kept lists w) last session answer out) stands,
)

waits_by : (w : World) (leaf : ℕ) (e : Engine) (lists : Lists) (session : ℕ) → Ends (called.Waits leaf) e (with_kept lists w) session → (n : ℕ) × (last : World) × StepsMore n w (by.Session session) last × Stands e (with_kept lists last)
waits_by w leaf e lists session (n, last, more, stands) = (
  n,
  other_records w.records last,
  more_other w.records n (with_kept lists w) last session more,
  stands_other e lists w last w.records (laid_more n (with_kept lists w) last session more) stands,
)

-- ---- what comes of an engine

module _ {D : Type 0} (g : Ghosts D) (frames : Frames) where
  pub steps_stand : (first last : D) (called : Called) (e : Engine) (lists : Lists) (w : World) (session : ℕ) → StepsBy g first last frames called e lists w session → (v : World) × Stands e (with_kept lists v) × (laid_of v ≡ laid_of w)
  steps_stand first last (called.Ended answer) e lists w session (n, v, ends, stands) = (v, stands, laid_ends (CauseSince g first last frames w) session n w v answer ends)
  steps_stand first last (called.Waits leaf) e lists w session (n, v, goes, stands) = (v, stands, laid_in (CauseSince g first last frames w) session n w v goes)

  -- the steps of a call that was finished, or goes on
  pub steps_by : (disk : D) (called : Called) (e : Engine) (lists : Lists) (w : World) (session : ℕ) → Ends called e (with_kept lists w) session → StepsBy g disk disk frames called e lists w session
  steps_by disk (called.Ended answer) e lists w session ends = let x = ended_by w answer e lists session ends in (x.0, x.1, out_in (CauseSince g disk disk frames w) session x.0 w x.1 answer x.2, x.3)
  steps_by disk (called.Waits leaf) e lists w session ends = let x = waits_by w leaf e lists session ends in (x.0, x.1, more_in (CauseSince g disk disk frames w) session x.0 w x.1 x.2, x.3)

  -- behind others, and a leaf that came in or was kept out
  pub steps_go : (first mid last : D) (called : Called) (e : Engine) (lists : Lists) (w now middle : World) (session n : ℕ) → g.faults first ≤ g.faults mid → ((v : World) (r : Refusal) → CauseSince g first mid frames w v r → CauseSince g first last frames w v r) → GoesIn (CauseSince g first mid frames w) n w session now
      → IsMiddle (CauseSince g mid last frames w now) now session middle → Ends called e (with_kept lists middle) session → StepsBy g first last frames called e lists w session
  steps_go first mid last made e lists w now middle session n le later goes how ends = by_called made ends
    where
      middle_more : IsMiddle (CauseSince g mid last frames w now) now session middle → IsMiddle (CauseSince g first last frames w now) now session middle
      middle_more (inl same) = inl same
      middle_more (inr (r, cause, out)) = inr (r, cause_since g frames first mid last w now r le cause, out)

      before : (k : ℕ) × GoesIn (CauseSince g first last frames w) k w session middle
      before = let m = middle_in (CauseSince g first last frames w) session now middle (middle_more how) in
          in_then (CauseSince g first last frames w) session n w now m.0 middle (in_more (CauseSince g first mid frames w) (CauseSince g first last frames w) later n w session now goes) m.1

      by_called : (c : Called) → Ends c e (with_kept lists middle) session → StepsBy g first last frames c e lists w session
      by_called (called.Ended answer) ends = let x = ended_by middle answer e lists session ends in let k = ends_then (CauseSince g first last frames w) session before.0 w middle x.0 answer x.1 before.1 (out_in (CauseSince g first last frames w) session x.0 middle x.1 answer x.2) in (k.0, x.1, k.1, x.3)
      by_called (called.Waits leaf) ends = let x = waits_by middle leaf e lists session ends in let k = in_then (CauseSince g first last frames w) session before.0 w middle x.0 x.1 before.1 (more_in (CauseSince g first last frames w) session x.0 middle x.1 x.2) in (k.0, x.1, k.1, x.3)

  -- what a leaf that came in, or was kept out, leaves of steps
  pub steps_come : (first disk : D) (e e' : Engine) (lists : Lists) (w now : World) (session : ℕ) (made : Result (Unit {0}) Refusal) (called : Called) → ComesOrNot (CauseSince g first disk frames w now) e lists now session made → ((x : World) → Stands e x → Ends called e' x session)
      → (middle : World) × IsMiddle (CauseSince g first disk frames w now) now session middle × Ends called e' (with_kept lists middle) session
  steps_come first disk e e' lists w now session (Ok done) called stands ends = (now, inl refl, ends (with_kept lists now) stands)
  steps_come first disk e e' lists w now session (Err r) called (cause, later, out, stands) ends = (later, inr (r, cause, out), ends (with_kept lists later) stands)
