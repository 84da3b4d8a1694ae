-- What each step of an eviction sees and leaves, and what the last one answers.
use Rattle.std.proofs.Common.{◌≡◌, ◌∙◌, ◌≤◌, ◌<◌, ℕ, zero, suc, List, [], ◌∷◌, Option, Some, None, Result, Ok, Err, length, refl, sym, ap, subst, inl, inr, arith}
use Rattle.std.specs.Prelude.{◌≢◌, ◌+◌, ◌-◌, ◌⊎◌, Bool, true, false, not, nat_lt, if◌then◌else◌, option_and_then, option_map, IfErr, IfSome, slice_index_or}
use Rattle.std.proofs.lemmas.Bool.{ltb-false, ltb-true}
use Rattle.std.proofs.lemmas.Option.{same_Some}
use Rattle.limits.specs.declared.TheConstants.{KEY_MAX}
use Rattle.failure.specs.declared.Fault.{Fault}
use Rattle.disk_model.specs.declared.disk.Disk.{Ghosts}
use Rattle.wt_code.specs.declared.answers.Answer.{Answer}
use Rattle.wt_code.specs.declared.answers.Answer.TheVariants.{Done, Refused}
use Rattle.wt_code.specs.declared.refusals.Refusal.{Refusal}
use Rattle.wt_code.specs.declared.refusals.Refusal.TheVariants.{NoMemory, DiskFault, NoTable, Panic, Busy as Refusal_Busy, Invalid as Refusal_Invalid}
use Rattle.wt_code.specs.declared.refusals.Busy.TheVariants.{Evicting as Busy_Evicting, Pinned as Busy_Pinned}
use Rattle.wt_code.specs.declared.refusals.Invalid.TheVariants.{BadName, InCall, KeyLong, NoCall}
use Rattle.kv_model.specs.Calls.{Around, Call, Evict, SystemAnswers, evict_decision}
use Rattle.kv_model.specs.Decisions.{Outcome, Done as Decided_Done, Refused as Decided_Refused, checked, is_name, is_there, refused}
use Rattle.kv_model.specs.History.{named, tables}
use Rattle.kv_model.specs.Machine.{Completed, Event, Machine, Nothing, of_some}
use Rattle.tree_dir.specs.declared.leaf.Framed.{Framed}
use Rattle.tree_dir.specs.declared.leaf.Leaf.{Leaf}
use Rattle.tree_dir.specs.Leaves.{leaf_named}
use Rattle.call_steps.specs.declared.stage.Target.{Target}
use Rattle.call_steps.specs.Tables.{filled, target_in}
use Rattle.engine_world.specs.Stands.{Engine, Stands}
use Rattle.engine_world.specs.Worlds.{World}
use Rattle.engine.specs.declared.turning.Evicting.{Evicting}
use Rattle.engine.specs.declared.turning.EvictStage.{EvictStage}
use Rattle.engine.specs.declared.turning.EvictStage.TheVariants.{Find, Lock, Scan, Ask, Cut, Write}
use Rattle.engine.specs.Evictions.{framed_in}
use Rattle.engine.specs.Turning.{LocksFrame, evicting_by, staged, target_of, words_of}
use Rattle.engine_store.specs.declared.evict_steps.EvictTurn.{EvictTurn}
use Rattle.engine_store.specs.declared.evict_steps.EvictTurn.TheVariants.{On, Ended}
use Rattle.engine_store.specs.declared.store.Store.{Store}
use Rattle.engine_store.specs.Answers.{answer_of}
use Rattle.engine_store.specs.Calls.{StaysTold}
use Rattle.engine_store.specs.Devices.{Installed, device_of}
use Rattle.engine_store.specs.EvictCalls.{EvictAnswers, EvictsTo, IsLeafOf, IsOut, IsRefusedAtOnce, KeepsInFrame, MayLook, evict_around}
use Rattle.engine_store.specs.EvictSteps.{EndsAs, EndsWith, EvictsBeside, GivesUp, GivesUpAt, GoesTo, IsLockedBut, IsLockedByOther, IsTargetOf, LeadsTo, LeavesFewer, MayRunShort, MayTurn, SeesTo, TakesMemory, TurnsTo, around_beside, scan_from, stage_left, steps_left}
use Rattle.engine_store.specs.Held.{IsHeld}
use Rattle.engine_store.specs.Keeping.{with_kept}
use Rattle.engine_store.proofs.EvictingKeys.{at_once, is_out, looked_so, not_done, same_leaf}
use Rattle.engine_store.proofs.MakingRoom.{still_up}

-- ---- for more causes

module _ (a b : Around) (more : (r : Refusal) → a.MayKeepOut r → b.MayKeepOut r) (m : Machine) (name key : List ℕ) (answer : Answer (List ℕ)) (next : Machine) where
  system_more : SystemAnswers a m (Evict name key) answer next → SystemAnswers b m (Evict name key) answer next
  system_more (inl short) = inl short
  system_more (inr (inl (r, keeps, is, leaves))) = inr (inl (r, more r keeps, is, leaves))
  system_more (inr (inr is)) = inr (inr is)

  pub answers_more : (started : Option Call) → EvictAnswers started a m name key answer next → EvictAnswers started b m name key answer next
  answers_more None is = system_more is
  answers_more (Some other) is = is

module _ {D : Type 0} (g : Ghosts D) (start : D) (w : World) (first : Completed) (made : List Installed) (s s' : Store) (before after : D) (evicting : List (Option Evicting)) (number : ℕ) (name key : List ℕ) where
  abbrev around_at : Option EvictStage → Around
  around_at stage = around_beside evicting number stage s.engine s.ground.lives (device_of g before) (device_of g after) w.machine name key

  -- as beside none
  pub beside_of : (stage : Option EvictStage) (answer : Answer (List ℕ)) → (answer ≡ Refused NoMemory → MayRunShort stage) → EvictsTo g start w first made s s' before after number name key answer
      → EvictsBeside g start w first made s s' before after evicting number name key stage answer
  beside_of stage answer short x = record {
    next = x.next;
    room = x.room;
    answers = answers_more (evict_around s.engine s.ground.lives (device_of g before) (device_of g after) w.machine name key) (around_at stage) (λ r keeps. inl keeps) w.machine name key answer x.next (slice_index_or w.systems number None) x.answers;
    keeps = x.keeps;
    out = x.out;
    free = x.free;
    short = short;
  }

  -- a whole call is the last step too
  pub beside_at : (stage : EvictStage) (answer : Answer (List ℕ)) → TakesMemory stage → EvictsBeside g start w first made s s' before after evicting number name key None answer → EvictsBeside g start w first made s s' before after evicting number name key (Some stage) answer
  beside_at stage answer takes x = record {
    next = x.next;
    room = x.room;
    answers = answers_more (around_at None) (around_at (Some stage)) more w.machine name key answer x.next (slice_index_or w.systems number None) x.answers;
    keeps = x.keeps;
    out = x.out;
    free = x.free;
    short = λ is. takes;
  } where
    more : (r : Refusal) → (around_at None).MayKeepOut r → (around_at (Some stage)).MayKeepOut r
    more r (inl keeps) = inl keeps
    more r (inr (inl locked)) = inr (inl locked)
    more r (inr (inr none)) = absurd none

-- ---- where memory is short

-- a call that is refused at once takes none
judged_long : (m : Machine) (name key : List ℕ) → (evict_decision m name key).0 ≡ Decided_Refused NoMemory → ⊥
judged_long m name key = by m.fault (not (is_name name)) (nat_lt KEY_MAX (length key)) (not (is_there (named name (tables m.history)))) where
  by : (fault : Option Fault) (a b c : Bool)
      → (of_some (checked ((a, Refusal_Invalid BadName) ∷ (b, Refusal_Invalid (KeyLong (length key))) ∷ (c, NoTable) ∷ []) (Decided_Done, Nothing)) (λ (f : Fault). refused (Panic f)) fault).0 ≡ Decided_Refused NoMemory → ⊥
  by (Some f) a b c is = let clash : Decided_Refused (Panic f) ≡ Decided_Refused NoMemory = is in cc
  by None true b c is = let clash : Decided_Refused (Refusal_Invalid BadName) ≡ Decided_Refused NoMemory = is in cc
  by None false true c is = let clash : Decided_Refused (Refusal_Invalid (KeyLong (length key))) ≡ Decided_Refused NoMemory = is in cc
  by None false false true is = let clash : Decided_Refused NoTable ≡ Decided_Refused NoMemory = is in cc
  by None false false false is = let clash : Decided_Done ≡ Decided_Refused NoMemory = is in cc

once_long : (started : Option Call) (m : Machine) (name key : List ℕ) (r : Refusal) → IsRefusedAtOnce started m name key r → r ≡ NoMemory → ⊥
once_long None m name key r once is = judged_long m name key (ap (λ (d : Outcome × Event). d.0) once ∙ ap (λ (x : Refusal). let outcome : Outcome = Decided_Refused x in outcome) is)
once_long (Some other) m name key r once is = let clash : Refusal_Invalid InCall ≡ NoMemory = sym once ∙ is in cc

-- nor is it the want of memory for which an eviction is given up
gives_long : (e : Engine) (m : Machine) (evicting : List (Option Evicting)) (number : ℕ) (name key : List ℕ) (stage : EvictStage) (r : Refusal) → GivesUp e m evicting number name key stage r → r ≡ NoMemory → TakesMemory stage
gives_long e m evicting number name key Find r gives is = absurd gives
gives_long e m evicting number name key (Lock target) r gives is = let clash : Refusal_Busy (Busy_Evicting target.frame) ≡ NoMemory = sym gives.0 ∙ is in absurd (cc)
gives_long e m evicting number name key (Scan target word) r gives is = let clash : Refusal_Busy (Busy_Pinned gives.0) ≡ NoMemory = sym gives.1 ∙ is in absurd (cc)
gives_long e m evicting number name key (Ask target) r gives is = absurd gives
gives_long e m evicting number name key (Cut target) r gives is = tt
gives_long e m evicting number name key (Write target) r gives is = tt

short_is : (r : Refusal) → (let answer : Answer (List ℕ) = Refused r in answer ≡ Refused NoMemory) → r ≡ NoMemory
short_is r is = cc

pub writes_take : (stage : EvictStage) (target : Target) → stage ≡ Write target → TakesMemory stage
writes_take stage target is = subst (λ (x : EvictStage). TakesMemory x) (sym is) tt

-- ---- nothing is changed

module _ {D : Type 0} (g : Ghosts D) (start : D) (w : World) (first : Completed) (made : List Installed) (s : Store) (disk : D) (evicting : List (Option Evicting)) (number : ℕ) (name key : List ℕ) (held : IsHeld g start s disk w first made) where
  abbrev here : Option EvictStage → Around
  here stage = around_beside evicting number stage s.engine s.ground.lives (device_of g disk) (device_of g disk) w.machine name key

  refused_here : (stage : Option EvictStage) (r : Refusal) → (r ≡ NoMemory → MayRunShort stage) → slice_index_or w.systems number None ≡ None → SystemAnswers (here stage) w.machine (Evict name key) (Refused r) w.machine
      → EvictsBeside g start w first made s s disk disk evicting number name key stage (Refused r)
  refused_here stage r short none is =
      let x = still_up g s s refl refl refl refl start disk w first made held in
      record {
        next = w.machine;
        room = x.room;
        answers = looked_so (slice_index_or w.systems number None) (here stage) w.machine name key (Refused r) w.machine none is;
        keeps = λ up. x.keeps;
        out = λ done. absurd (not_done r done);
        free = λ done. absurd (not_done r done);
        short = λ told. short (short_is r told);
      }

  -- another eviction has the frame
  pub locked_here : (stage : Option EvictStage) (r : Refusal) → slice_index_or w.systems number None ≡ None → IsLockedByOther s.engine w.machine evicting number name key r → EvictsBeside g start w first made s s disk disk evicting number name key stage (Refused r)
  locked_here stage r none locked = refused_here stage r (λ is. let clash : Refusal_Busy (Busy_Evicting locked.target.frame) ≡ NoMemory = sym locked.is ∙ is in absurd (cc)) none (inr (inl (r, inr (inl locked), refl, inl refl)))

  -- it is given up at this stage
  gives_here : (stage : EvictStage) (r : Refusal) → slice_index_or w.systems number None ≡ None → GivesUpAt s.engine w.machine evicting number name key (Some stage) r → EvictsBeside g start w first made s s disk disk evicting number name key (Some stage) (Refused r)
  gives_here stage r none gives = refused_here (Some stage) r (gives_long s.engine w.machine evicting number name key stage r gives) none (inr (inl (r, inr (inr gives), refl, inl refl)))

  short_here : (stage : EvictStage) (r : Refusal) → slice_index_or w.systems number None ≡ None → (r ≡ NoMemory) × TakesMemory stage → EvictsBeside g start w first made s s disk disk evicting number name key (Some stage) (Refused r)
  short_here stage r none (is, takes) = refused_here (Some stage) r (λ short. takes) none (inl (ap (λ (x : Refusal). let answer : Answer (List ℕ) = Refused x in answer) is, refl))

  at_once_here : (stage : EvictStage) (r : Refusal) → IsRefusedAtOnce (slice_index_or w.systems number None) w.machine name key r → EvictsBeside g start w first made s s disk disk evicting number name key (Some stage) (Refused r)
  at_once_here stage r is =
      beside_of g start w first made s s disk disk evicting number name key (Some stage) (Refused r) (λ short. absurd (once_long (slice_index_or w.systems number None) w.machine name key r is (short_is r short)))
      (at_once g start w first made number name key s disk r held is)

  -- by what was seen
  pub seen_here : (stage : EvictStage) (result : Result (Unit {0}) Refusal) → slice_index_or w.systems number None ≡ None → SeesTo s.engine evicting number name key stage (Ended result)
      → EvictsBeside g start w first made s s disk disk evicting number name key (Some stage) (answer_of result)
  seen_here stage (Ok done) none sees =
      let x = sees (with_kept s.ground.kept w) held.stands in
      beside_of g start w first made s s disk disk evicting number name key (Some stage) Done (λ short. absurd (not_done NoMemory (sym short)))
      (is_out g start w first made number name key s s disk disk x.0 (still_up g s s refl refl refl refl start disk w first made held) x.1 (λ id leaf. inl (x.1 id leaf)))
  seen_here stage (Err r) none sees = by (sees (with_kept s.ground.kept w) held.stands) where
    by : IsRefusedAtOnce (slice_index_or w.systems number None) w.machine name key r ⊎ (((r ≡ NoMemory) × TakesMemory stage) ⊎ GivesUpAt s.engine w.machine evicting number name key (Some stage) r)
        → EvictsBeside g start w first made s s disk disk evicting number name key (Some stage) (Refused r)
    by (inl once) = at_once_here stage r once
    by (inr (inl short)) = short_here stage r none short
    by (inr (inr gives)) = gives_here stage r none gives

  -- its actor has another call that is not finished
  pub in_call_here : (stage : EvictStage) → is_there (slice_index_or w.systems number None) ≡ true → EvictsBeside g start w first made s s disk disk evicting number name key (Some stage) (Refused (Refusal_Invalid InCall))
  in_call_here stage is = at_once_here stage (Refusal_Invalid InCall) (by (slice_index_or w.systems number None) is) where
    by : (o : Option Call) → is_there o ≡ true → IsRefusedAtOnce o w.machine name key (Refusal_Invalid InCall)
    by None there = absurd cc
    by (Some other) there = refl

pub none_there : (o : Option Call) → is_there o ≡ false → o ≡ None
none_there None is = refl
none_there (Some other) is = absurd cc

-- ---- how a step turns

module _ {D : Type 0} (g : Ghosts D) (s : Store) (disk : D) (evicting : List (Option Evicting)) (number : ℕ) (x : Evicting) (free : (w : World) → Stands s.engine w → is_there (slice_index_or w.systems number None) ≡ false) where
  pub turns_by : (turn : EvictTurn) → SeesTo s.engine evicting number x.table x.key x.stage turn → TurnsTo g s s disk disk evicting number x turn
  turns_by (On next) sees = ((refl, refl), sees)
  turns_by (Ended result) sees = λ honest start w first made held.
      seen_here g start w first made s disk evicting number x.table x.key held x.stage result (none_there (slice_index_or w.systems number None) (free (with_kept s.ground.kept w) held.stands)) sees

  -- at this stage
  pub turns_at : (stage : EvictStage) (turn : EvictTurn) → x.stage ≡ stage → SeesTo s.engine evicting number x.table x.key stage turn → TurnsTo g s s disk disk evicting number x turn
  turns_at stage turn is sees = turns_by turn (subst (λ (at : EvictStage). SeesTo s.engine evicting number x.table x.key at turn) (sym is) sees)

-- of the bytes of items
pub sees_of : (e : Engine) (evicting : List (Option Evicting)) (number : ℕ) (name name' key key' : List ℕ) (stage : EvictStage) (turn : EvictTurn) → name ≡ name' → key ≡ key' → SeesTo e evicting number name key stage turn → SeesTo e evicting number name' key' stage turn
sees_of e evicting number name name' key key' stage turn names keys sees =
    subst (λ (k : List ℕ). SeesTo e evicting number name' k stage turn) keys (subst (λ (n : List ℕ). SeesTo e evicting number n key stage turn) names sees)

pub locked_of : (e : Engine) (m : Machine) (evicting : List (Option Evicting)) (number : ℕ) (name name' key key' : List ℕ) (r : Refusal) → name ≡ name' → key ≡ key' → IsLockedByOther e m evicting number name key r → IsLockedByOther e m evicting number name' key' r
locked_of e m evicting number name name' key key' r names keys locked =
    subst (λ (k : List ℕ). IsLockedByOther e m evicting number name' k r) keys (subst (λ (n : List ℕ). IsLockedByOther e m evicting number n key r) names locked)

-- want of a fault
pub own_never : (Rises : Type 0) (turn : EvictTurn) → (EndsWith turn DiskFault → ⊥) → EndsWith turn DiskFault → Rises
own_never Rises turn own is = absurd (own is)

-- ---- how many steps are left

pub fewer_at : (e : Engine) (x : Evicting) (stage : EvictStage) (turn : EvictTurn) → x.stage ≡ stage → LeavesFewer e (stage_left e stage) turn → LeavesFewer e (stage_left e x.stage) turn
fewer_at e x stage turn is fewer = subst (λ (at : EvictStage). LeavesFewer e (stage_left e at) turn) (sym is) fewer

-- at this word or behind the last
left_from : (e : Engine) (target : Target) (word : ℕ) → stage_left e (scan_from e target word) ≤ 3 + (words_of e - word)
left_from e target word = by (nat_lt word (words_of e)) where
  by : (b : Bool) → stage_left e (if b then Scan target word else Ask target) ≤ 3 + (words_of e - word)
  by true = omega arith
  by false = omega arith

pub scan_fewer : (e : Engine) (target : Target) (word : ℕ) → word < words_of e → LeavesFewer e (stage_left e (Scan target word)) (On (scan_from e target (word + 1)))
scan_fewer e target word within = let left = left_from e target (word + 1) in omega (arith, left, within)

pub lock_fewer : (e : Engine) (target : Target) → LeavesFewer e (stage_left e (Lock target)) (On (scan_from e target 0))
lock_fewer e target = let left = left_from e target 0 in omega (arith, left)

-- behind the last word
pub behind_last : (e : Engine) (target : Target) (word : ℕ) → (word < words_of e → ⊥) → Ask target ≡ scan_from e target (word + 1)
behind_last e target word end = by (nat_lt (word + 1) (words_of e)) refl where
  by : (b : Bool) → nat_lt (word + 1) (words_of e) ≡ b → Ask target ≡ (if b then Scan target (word + 1) else Ask target)
  by true is = let more = ltb-true (word + 1) (words_of e) is in absurd (end (omega (arith, more)))
  by false is = refl

-- ---- one after the other

pub lead_more : (e : Engine) (m : Machine) (number n : ℕ) (a b : List (Option Evicting)) (x : Evicting) (next : EvictStage) → LeadsTo n e m number a b → evicting_by b number ≡ Some x → GoesTo e m b number x.table x.key x.stage next → LeadsTo (suc n) e m number a (staged b number next)
lead_more e m number zero a b x next is at goes = subst (λ (l : List (Option Evicting)). LeadsTo 1 e m number l (staged b number next)) is (x, next, at, goes, refl)
lead_more e m number (suc n) a b x next (y, to, here, one, rest) at goes = (y, to, here, one, lead_more e m number n (staged a number to) b x next rest at goes)

-- steps were made that changed nothing. s, disk, evicting: as they began
pub record RestSoFar {D : Type 0} (s s' : Store) (before after : D) (evicting now : List (Option Evicting)) (number : ℕ) : Type 0 where
  pub same : s' ≡ s
  pub here : after ≡ before
  pub leads : (w : World) → Stands s.engine w → (n : ℕ) × LeadsTo n s.engine w.machine number evicting now

pub rest_none : {D : Type 0} (s : Store) (disk : D) (evicting : List (Option Evicting)) (number : ℕ) → RestSoFar s s disk disk evicting evicting number
rest_none s disk evicting number = record { same = refl; here = refl; leads = λ w stands. (0, refl) }

-- the eviction of the actor at another stage
pub staged_by : (evicting : List (Option Evicting)) (number : ℕ) (x : Evicting) (next : EvictStage) → evicting_by evicting number ≡ Some x → evicting_by (staged evicting number next) number ≡ Some (record x { stage = next })
staged_by [] number x next at = absurd (cc)
staged_by (y ∷ evicting) zero x next at = ap (λ (o : Option Evicting). option_map (λ (z : Evicting). let moved : Evicting = record z { stage = next } in moved) o) at
staged_by (y ∷ evicting) (suc n) x next at = staged_by evicting n x next at

module _ {D : Type 0} (g : Ghosts D) (s s' s'' : Store) (before mid after : D) (evicting now : List (Option Evicting)) (number : ℕ) (so_far : RestSoFar s s' before mid evicting now number) where
  pub rest_more : (next : EvictStage) → (o : Option Evicting) → evicting_by now number ≡ o → MayTurn g s' s'' mid after now number o (On next) → RestSoFar s s'' before after evicting (staged now number next) number
  rest_more next None at (unchanged, is) = absurd (let clash : On next ≡ Ended (Err (Refusal_Invalid NoCall)) = is in cc)
  rest_more next (Some x) at ((store, disk), goes) = record {
    same = store ∙ so_far.same;
    here = disk ∙ so_far.here;
    leads = λ w stands.
        let one = so_far.leads w stands in
        (suc one.0, lead_more s.engine w.machine number one.0 evicting now x next one.1 at (subst (λ (t : Store). GoesTo t.engine w.machine now number x.table x.key x.stage next) so_far.same (goes w (subst (λ (t : Store). Stands t.engine w) (sym so_far.same) stands))));
  }

  pub rest_fewer : (next : EvictStage) → (o : Option Evicting) → evicting_by now number ≡ o → MayTurn g s' s'' mid after now number o (On next) → LeavesFewer s'.engine (steps_left s'.engine o) (On next)
      → steps_left s''.engine (evicting_by (staged now number next) number) < steps_left s'.engine (evicting_by now number)
  rest_fewer next None at (unchanged, is) fewer = absurd (let clash : On next ≡ Ended (Err (Refusal_Invalid NoCall)) = is in cc)
  rest_fewer next (Some x) at ((store, disk), goes) fewer =
      subst (λ (t : Store). steps_left t.engine (evicting_by (staged now number next) number) < steps_left s'.engine (evicting_by now number)) (sym store)
      (subst (λ (o : Option Evicting). steps_left s'.engine o < steps_left s'.engine (evicting_by now number)) (sym (staged_by now number x next at))
      (subst (λ (o : Option Evicting). stage_left s'.engine next < steps_left s'.engine o) (sym at) (omega (arith, fewer))))

  pub rest_ends : (result : Result (Unit {0}) Refusal) → MayTurn g s' s'' mid after now number (evicting_by now number) (Ended result) → EndsAs g s s'' before after evicting now number result
  rest_ends result turns = (
    so_far.leads,
    subst (λ (d : D). MayTurn g s s'' d after now number (evicting_by now number) (Ended result)) so_far.here
        (subst (λ (t : Store). MayTurn g t s'' mid after now number (evicting_by now number) (Ended result)) so_far.same turns),
  )

-- ---- which frame is locked

-- the frame of the leaf of the key
pub locked_key : (e : Engine) (m : Machine) (evicting : List (Option Evicting)) (number : ℕ) (name key : List ℕ) (target : Target) (frame : ℕ) → IsTargetOf e m name key target → (frame ≡ target.frame) × IsLockedBut evicting number target
    → IsLockedByOther e m evicting number name key (Refusal_Busy (Busy_Evicting frame))
locked_key e m evicting number name key target frame (id, leaf, there) (its, locked) = record { id = id; leaf = leaf; target = target; there = there; locked = locked; is = ap (λ (n : ℕ). Refusal_Busy (Busy_Evicting n)) its }

-- no other actor's eviction has locked it
pub never_but : (evicting : List (Option Evicting)) (number : ℕ) (target : Target) → ((other : ℕ) → other ≢ number → LocksFrame evicting other target.frame target.word → ⊥) → IsLockedBut evicting number target → ⊥
never_but evicting number target none (other, but, locks) = none other but locks

-- it is the only leaf
pub never_locked : (e : Engine) (m : Machine) (evicting : List (Option Evicting)) (number : ℕ) (name key : List ℕ) (target : Target) (r : Refusal) → IsTargetOf e m name key target → (IsLockedBut evicting number target → ⊥) → IsLockedByOther e m evicting number name key r → ⊥
never_locked e m evicting number name key target r (id, leaf, there) none x =
    let same : x.target ≡ target = same_Some x.target target (sym x.there ∙ (ap (target_of e) (sym (same_leaf e m name key id x.id leaf x.leaf)) ∙ there)) in
    none (subst (λ (t : Target). IsLockedBut evicting number t) same x.locked)

-- a leaf in no frame is in none that is locked
pub out_locked : (e : Engine) (m : Machine) (evicting : List (Option Evicting)) (number : ℕ) (name key : List ℕ) (r : Refusal) → IsOut e m name key → IsLockedByOther e m evicting number name key r → ⊥
out_locked e m evicting number name key r out x = by (leaf_named x.id e.hub.dir.leaves) (out x.id x.leaf) x.there where
  by-frame : (l : Leaf) → (o : Option Framed) → l.frame ≡ o → l.frame ≡ None → target_in l ≡ Some x.target → ⊥
  by-frame l None at none there = let clash : None ≡ Some x.target = sym (ap (option_map (λ (f : Framed). let target : Target = record { table = l.table; leaf = l.id; frame = f.frame; word = filled f.generation } in target)) at) ∙ there in cc
  by-frame l (Some f) at none there = let clash : Some f ≡ None = sym at ∙ none in cc

  by : (o : Option Leaf) → option_and_then (λ (l : Leaf). l.frame) o ≡ None → option_and_then target_in o ≡ Some x.target → ⊥
  by None none there = let clash : None ≡ Some x.target = there in cc
  by (Some l) none there = by-frame l l.frame refl none there

-- ---- where the leaf of a key is

none_mapped : {A B : Type 0} (f : A → B) (o : Option A) → option_map f o ≡ None → o ≡ None
none_mapped f None is = refl
none_mapped f (Some a) is = let clash : Some (f a) ≡ None = is in absurd (cc)

-- a leaf that is at no target is in no frame
no_target : (o : Option Leaf) → option_and_then target_in o ≡ None → option_and_then (λ (l : Leaf). l.frame) o ≡ None
no_target None none = refl
no_target (Some l) none = none_mapped (λ (f : Framed). let target : Target = record { table = l.table; leaf = l.id; frame = f.frame; word = filled f.generation } in target) l.frame none

pub target_out : (e : Engine) (m : Machine) (name key : List ℕ) (id : ℕ) → IsLeafOf e m name key id → target_of e id ≡ None → IsOut e m name key
target_out e m name key id leaf none other of = subst (λ (n : ℕ). framed_in e n ≡ None) (same_leaf e m name key id other leaf of) (no_target (leaf_named id e.hub.dir.leaves) none)

pub some_is : (o : Option Target) {P : Target → Type 0} → ((target : Target) → o ≡ Some target → P target) → IfSome o P
some_is None known = tt
some_is (Some target) known = known target refl

-- ---- of faults

pub fault_of : (Rises : Type 0) (result : Result (Unit {0}) Refusal) → IfErr result (λ r. r ≡ DiskFault → Rises) → EndsWith (Ended result) DiskFault → Rises
fault_of Rises (Ok done) rises is = absurd (cc)
fault_of Rises (Err r) rises is = rises (let same : r ≡ DiskFault = cc in same)

-- ---- by what is told

pub some_more : (o : Option ℕ) {P Q : ℕ → Type 0} → ((n : ℕ) → P n → Q n) → IfSome o P → IfSome o Q
some_more None more is = tt
some_more (Some n) more is = more n is

-- a call that is refused at once looks at no leaf
pub once_looked : (started : Option Call) (m : Machine) (name key : List ℕ) (r : Refusal) → IsRefusedAtOnce started m name key r → MayLook started m name key → ⊥
once_looked None m name key r once look = let clash : Decided_Refused r ≡ Decided_Done = ap (λ (d : Outcome × Event). d.0) (sym once ∙ look.decided) in cc
once_looked (Some other) m name key r once look = let clash : Some other ≡ None = look.none in cc

-- ---- the scan

pub within_words : (e : Engine) (word : ℕ) → nat_lt word (words_of e) ≡ true → word < words_of e
within_words e word is = ltb-true word (words_of e) is

pub without_words : (e : Engine) (word : ℕ) → nat_lt word (words_of e) ≡ false → word < words_of e → ⊥
without_words e word is less = let no = ltb-false word (words_of e) is in absurd (omega (arith, no, less))

-- ---- what keeps the leaf

pub kept_by_leaf : (e : Engine) (m : Machine) (evicting : List (Option Evicting)) (number : ℕ) (name key : List ℕ) (target : Target) (r : Refusal) (started : Option Call) → (r ≡ NoMemory) ⊎ KeepsInFrame e m target.leaf r
    → IsRefusedAtOnce started m name key r ⊎ (((r ≡ NoMemory) × TakesMemory (Cut target)) ⊎ GivesUp e m evicting number name key (Cut target) r)
kept_by_leaf e m evicting number name key target r started (inl short) = inr (inl (short, tt))
kept_by_leaf e m evicting number name key target r started (inr keeps) = inr (inr keeps)

-- ---- what was the same

pub told_same : {D : Type 0} (g : Ghosts D) (s s' s'' : Store) (before mid after : D) → s' ≡ s → mid ≡ before → StaysTold g s' s'' mid after → StaysTold g s s'' before after
told_same g s s' s'' before mid after same here told =
    subst (λ d. StaysTold g s s'' d after) here (subst (λ (t : Store). StaysTold g t s'' mid after) same told)
