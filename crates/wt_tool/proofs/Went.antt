-- What the calls of a command tell, whatever the disk.
use Rattle.std.specs.Prelude.{◌≡◌, ◌≤◌, ◌⊎◌, ℕ, Bool, true, false, IsTrue, List, [], ◌∷◌, length, Option, Some, None, Result, Ok, Err, IfErr, slice_get}
use Rattle.std.proofs.Common.{inl, inr, refl, sym, ap, subst, ◌∙◌, arith}
use Rattle.failure.specs.Counts.{Rose}
use Rattle.disk_model.specs.Crash.{Looked, SameDisk}
use Rattle.disk_model.specs.declared.disk.Disk.{Ghosts}
use Rattle.disk_model.proofs.Crash.{looked_same, looked_then, same_disk_then}
use Rattle.limits.specs.declared.TheConstants.{SESSIONS_MAX}
use Rattle.wt_code.specs.declared.answers.Answer.{Answer}
use Rattle.wt_code.specs.declared.answers.Answer.TheVariants as answers
use Rattle.wt_code.specs.declared.refusals.Limit.TheVariants.{Sessions}
use Rattle.wt_code.specs.declared.refusals.Refusal.{Refusal}
use Rattle.wt_code.specs.declared.refusals.Refusal.TheVariants.{Corrupt, DiskFault, NoMemory, Limit as Refusal_Limit}
use Rattle.kv_model.specs.Machine.{of_some}
use Rattle.call_steps.specs.State.{State}
use Rattle.engine_world.specs.Stands.{Engine}
use Rattle.ckpt_step.specs.declared.ground.Ground.{Ground}
use Rattle.engine_store.specs.declared.store.Store.{Store}
use Rattle.engine_store.specs.Calls.{AreToldSo, Basis, CallKeeps, MayAnswerSo, MayTell, StaysTold, TellsSo, basis_of}
use Rattle.engine_store.specs.Opened.{IsOutset, IsReady, SpoilsAreThere}
use Rattle.wt_tool.specs.Led.{CallWent, LoadWent, OutWent}
use Rattle.wt_tool.specs.Parts.{NoDamage, TellsSpoilt}

-- ---- a call

looked_still : {D : Type 0} (g : Ghosts D) (disk : D) → Looked g disk disk
looked_still g disk = record { same = refl; content = refl; images = λ c left. left; capacity = refl; count = omega arith; later = omega arith; since = λ t c le left. left }

module _ {D : Type 0} (g : Ghosts D) (s s' : Store) (before after : D) where
  -- what its refusal tells is one of these
  went_by : (result : Result (Unit {0}) Refusal) → CallKeeps g s s' before after → TellsSo g s s' before after (λ basis start. IfErr result (MayTell g basis start after)) → CallWent g s s' before after result
  went_by result keeps tells = record { told = tells; ready = keeps.ready; looked = keeps.looked; home = keeps.home; lives = ap (λ (x : Ground). x.lives) keeps.ground }

  -- by its answer
  pub answered_went : (answer : Answer (List ℕ)) (result : Result (Unit {0}) Refusal) → CallKeeps g s s' before after → TellsSo g s s' before after (λ basis start. MayAnswerSo g basis start after answer)
      → IfErr result (λ r. answer ≡ answers.Refused r) → CallWent g s s' before after result
  answered_went answer result keeps tells is = went_by result keeps (λ basis start le on told. let x = tells basis start le on told in (by_result result is basis start x.0, x.1, x.2))
    where
      by_result : (x : Result (Unit {0}) Refusal) → IfErr x (λ r. answer ≡ answers.Refused r) → (basis : Option Basis) (start : D) → MayAnswerSo g basis start after answer → IfErr x (MayTell g basis start after)
      by_result (Ok done) is basis start may = tt
      by_result (Err r) is basis start may = may r is

-- memory was too short to begin
pub short_went : {D : Type 0} (g : Ghosts D) (s : Store) (disk : D) → CallWent g s s disk disk (Err NoMemory)
short_went g s disk = record { told = λ basis start le on told. (tt, told, on); ready = λ ready. ready; looked = looked_still g disk; home = refl; lives = refl }

pub short_went_as : {D : Type 0} (g : Ghosts D) (s : Store) (disk : D) (r : Refusal) → r ≡ NoMemory → CallWent g s s disk disk (Err r)
short_went_as g s disk r is = subst (λ (x : Refusal). CallWent g s s disk disk (Err x)) (sym is) (short_went g s disk)

-- ---- a session that is opened, or is not

pub opened_went : {D : Type 0} (g : Ghosts D) (s s' : Store) (disk : D) → CallKeeps g s s' disk disk → TellsSo g s s' disk disk (λ basis start. Unit {0}) → CallWent g s s' disk disk (Ok tt)
opened_went g s s' disk keeps tells = went_by g s s' disk disk (Ok tt) keeps (λ basis start le on told. let x = tells basis start le on told in (tt, x.1, x.2))

pub unopened_went : {D : Type 0} (g : Ghosts D) (s s' : Store) (disk : D) (r : Refusal) → CallKeeps g s s' disk disk → TellsSo g s s' disk disk (λ basis start. Unit {0}) → (r ≡ NoMemory) ⊎ ((r ≡ Refusal_Limit Sessions) × (SESSIONS_MAX ≤ length s.engine.sessions))
    → CallWent g s s' disk disk (Err r)
unopened_went {D} g s s' disk r keeps tells why = went_by g s s' disk disk (Err r) keeps (λ basis start le on told. let x = tells basis start le on told in (may why basis start, x.1, x.2))
  where
    may : (r ≡ NoMemory) ⊎ ((r ≡ Refusal_Limit Sessions) × (SESSIONS_MAX ≤ length s.engine.sessions)) → (basis : Option Basis) (start : D) → MayTell g basis start disk r
    may (inl is) basis start = subst (MayTell g basis start disk) (sym is) tt
    may (inr (is, most)) basis start = subst (MayTell g basis start disk) (sym is) tt

-- ---- one call after the other

pub still_honest : {D : Type 0} (g : Ghosts D) (old new : D) → Looked g old new → IsTrue (g.honest old) → IsTrue (g.honest new)
still_honest g old new looked honest = subst IsTrue (sym looked.same) honest

pub went_then : {D : Type 0} (g : Ghosts D) (s m n : Store) (before mid after : D) (result : Result (Unit {0}) Refusal) → CallWent g s m before mid (Ok tt) → CallWent g m n mid after result → CallWent g s n before after result
went_then g s m n before mid after result a b = record {
  told = λ basis start le on told. let one = a.told basis start le on told in b.told basis start (omega (arith, le, a.looked.count)) one.2 one.1;
  ready = λ ready. b.ready (a.ready ready);
  looked = looked_then g before mid after a.looked b.looked;
  home = b.home ∙ a.home;
  lives = b.lives ∙ a.lives;
}

-- and then memory was too short to go on
pub short_behind : {D : Type 0} (g : Ghosts D) (s m : Store) (before after : D) → CallWent g s m before after (Ok tt) → CallWent g s m before after (Err NoMemory)
short_behind g s m before after went = went_then g s m m before after after (Err NoMemory) went (short_went g m after)

-- ---- all calls of a command

-- a store without sessions keeps no answer
pub none_kept : {D : Type 0} (g : Ghosts D) (basis : Option Basis) (start_disk disk : D) (e : Engine) → length e.sessions ≡ 0 → AreToldSo g basis start_disk e disk
none_kept g basis start_disk disk e none session r told = absurd (by_sessions e.sessions none told)
  where
    by_sessions : (all : List State) → length all ≡ 0 → of_some answers.Done (λ (a : State). a.answer) (slice_get all session) ≡ answers.Refused r → ⊥
    by_sessions [] none told = let no : answers.Done ≡ answers.Refused r = told in cc
    by_sessions (a ∷ all) none told = absurd (omega (arith, none))

-- what tells of no damage, whatever the disk
pub damage_none : (honest : Type 0) (bytes : List ℕ) (r : Refusal) → NoDamage r → TellsSpoilt honest bytes r
damage_none honest bytes (Corrupt at want found) none = absurd none
damage_none honest bytes _ none = tt

-- what a refusal of the calls of a command tells
module _ {D : Type 0} (g : Ghosts D) (s s' : Store) (before after : D) (none : length s.engine.sessions ≡ 0) (r : Refusal) (went : CallWent g s s' before after (Err r)) where
  -- damage is told of a leaf that was at fault as the engine was opened
  spoilt_by : (x : Refusal) → (IsTrue (g.honest before) → SpoilsAreThere (g.seen before) s) → MayTell g (Some (basis_of g s before)) before after x → TellsSpoilt (IsTrue (g.honest before)) (g.seen before) x
  spoilt_by (Corrupt at want found) there told = λ honest. let leaf = told (subst IsTrue (sym went.looked.same) honest) in there honest leaf.0 at want found leaf.1
  spoilt_by _ there told = tt

  pub refused_spoilt : (IsTrue (g.honest before) → IsOutset s.engine.hub) → (IsTrue (g.honest before) → SpoilsAreThere (g.seen before) s) → TellsSpoilt (IsTrue (g.honest before)) (g.seen before) r
  refused_spoilt outset there = spoilt_by r there (went.told (Some (basis_of g s before)) before (omega arith) (λ honest. let begun = outset honest in (refl, begun.0, begun.1)) (none_kept g (Some (basis_of g s before)) before before s.engine none)).0

  pub refused_fault : r ≡ DiskFault → Rose (g.faults before) (g.faults after)
  refused_fault is = subst (λ (x : Refusal). MayTell g None before after x) is (went.told None before (omega arith) tt (none_kept g None before before s.engine none)).0

-- ---- of a disk that may be written

pub same_honest : {D : Type 0} (g : Ghosts D) (old new : D) → SameDisk g old new → IsTrue (g.honest old) → IsTrue (g.honest new)
same_honest g old new disk honest = subst IsTrue (sym disk.same) honest

-- a call looks at it alone
pub out_of : {D : Type 0} (g : Ghosts D) (s s' : Store) (before after : D) (result : Result (Unit {0}) Refusal) → CallWent g s s' before after result → OutWent g s s' before after result
out_of g s s' before after result went = record {
  told = λ start le told. let x = went.told None start le tt told in (x.0, x.1);
  ready = went.ready;
  disk = looked_same g before after went.looked went.home;
}

pub out_then : {D : Type 0} (g : Ghosts D) (s m n : Store) (before mid after : D) (result : Result (Unit {0}) Refusal) → OutWent g s m before mid (Ok tt) → OutWent g m n mid after result → OutWent g s n before after result
out_then g s m n before mid after result a b = record {
  told = λ start le told. let one = a.told start le told in b.told start (let low = a.disk.later in omega (arith, le, low)) one.1;
  ready = λ ready. b.ready (a.ready ready);
  disk = same_disk_then g before mid after a.disk b.disk;
}

-- nothing is done
pub none_went : {D : Type 0} (g : Ghosts D) (s : Store) (disk : D) → CallWent g s s disk disk (Ok tt)
none_went g s disk = record { told = λ basis start le on told. (tt, told, on); ready = λ ready. ready; looked = looked_still g disk; home = refl; lives = refl }

-- rows went out of memory, or a call of the disk failed
module _ {D : Type 0} (g : Ghosts D) (s s' : Store) (before after : D) (ready : IsReady s → IsReady s') (disk : SameDisk g before after) (told : StaysTold g s s' before after) where
  pub room_went : OutWent g s s' before after (Ok tt)
  room_went = record { told = λ start le kept. (tt, told start le kept); ready = ready; disk = disk }

  pub room_failed : (r : Refusal) → r ≡ DiskFault → Rose (g.faults before) (g.faults after) → OutWent g s s' before after (Err r)
  room_failed r is rose = record { told = λ start le kept. (subst (MayTell g None start after) (sym is) (omega (arith, le, rose)), told start le kept); ready = ready; disk = disk }

-- ---- all of a load

module _ {D : Type 0} (g : Ghosts D) (s s' : Store) (before after : D) (none : length s.engine.sessions ≡ 0) where
  out_fault : (r : Refusal) → OutWent g s s' before after (Err r) → r ≡ DiskFault → Rose (g.faults before) (g.faults after)
  out_fault r went is = subst (λ (x : Refusal). MayTell g None before after x) is (went.told before (omega arith) (none_kept g None before before s.engine none)).0

  pub load_done : OutWent g s s' before after (Ok tt) → LoadWent g s s' before after (Ok tt)
  load_done went = record { sound = λ outset there. tt; fault = tt; ready = went.ready; disk = went.disk }

  pub load_short : OutWent g s s' before after (Ok tt) → LoadWent g s s' before after (Err NoMemory)
  load_short went = record { sound = λ outset there. tt; fault = λ is. absurd (let bad : NoMemory ≡ DiskFault = is in cc (bad)); ready = went.ready; disk = went.disk }

  pub load_call : (r : Refusal) → CallWent g s s' before after (Err r) → LoadWent g s s' before after (Err r)
  load_call r went = record {
    sound = λ outset there. refused_spoilt g s s' before after none r went outset there;
    fault = refused_fault g s s' before after none r went;
    ready = went.ready;
    disk = looked_same g before after went.looked went.home;
  }

  -- of a new table no damage is told; r: what was refused, x: how it is told
  pub load_told : (is_new : Bool) (r x : Refusal) → OutWent g s s' before after (Err r) → (is_new ≡ false → CallWent g s s' before after (Err r)) → (is_new ≡ true → NoDamage x) → (is_new ≡ false → x ≡ r) → (x ≡ DiskFault → r ≡ DiskFault) → LoadWent g s s' before after (Err x)
  load_told true r x went looked new old fault = record {
    sound = λ outset there. damage_none (IsTrue (g.honest before)) (g.seen before) x (new refl);
    fault = λ is. out_fault r went (fault is);
    ready = went.ready;
    disk = went.disk;
  }
  load_told false r x went looked new old fault = subst (λ (y : Refusal). LoadWent g s s' before after (Err y)) (sym (old refl)) (load_call r (looked refl))

-- a refusal that is no damage
pub undamaged_of : (r : Refusal) → ((at want found : ℕ) → r ≡ Corrupt at want found → ⊥) → NoDamage r
undamaged_of (Corrupt at want found) other = other at want found refl
undamaged_of _ other = tt
