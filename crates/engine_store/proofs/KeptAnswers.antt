-- What a session's call keeps may still be told, over a call that keeps it or puts an answer of its own there.
use Rattle.std.proofs.Common.{◌≡◌, ◌⊎◌, ◌∙◌, ℕ, List, Option, refl, sym, ap, subst, inl, inr}
use Rattle.std.specs.Prelude.{slice_get}
use Rattle.failure.specs.declared.Fault.{Fault}
use Rattle.disk_model.specs.Crash.{SameDisk}
use Rattle.disk_model.specs.declared.disk.Disk.{Ghosts}
use Rattle.wt_code.specs.declared.answers.Answer.{Answer}
use Rattle.wt_code.specs.declared.answers.Answer.TheVariants as answers
use Rattle.wt_code.specs.declared.refusals.Refusal.{Refusal}
use Rattle.wt_code.specs.declared.refusals.Refusal.TheVariants.{Corrupt, DiskFault, NoMemory, NoSpace}
use Rattle.kv_model.specs.Machine.{of_some}
use Rattle.call_steps.specs.State.{State}
use Rattle.call_turns.specs.Answers.{IsOwn, IsOwnAnswer}
use Rattle.engine_world.specs.Stands.{Engine}
use Rattle.engine_world.specs.Systems.{with_fault}
use Rattle.engine.specs.Told.{IsOwnFrom, KeepOwn, answer_in}
use Rattle.engine_store.specs.Calls.{AreToldSo, Basis, MayAnswerSo, MayTell}
use Rattle.engine_store.proofs.Fetching.{rose_later}

own_itself : (r : Refusal) → IsOwn r r
own_itself DiskFault = refl
own_itself (Corrupt at want found) = refl
own_itself NoSpace = refl
own_itself _ = tt

module _ {D : Type 0} (g : Ghosts D) (basis : Option Basis) (start before after : D) (disk : SameDisk g before after) where
  -- on the same disk, later
  tell_later : (r : Refusal) → MayTell g basis start before r → MayTell g basis start after r
  tell_later DiskFault rose = rose_later (g.faults start) (g.faults before) (g.faults after) disk.later rose
  tell_later (Corrupt at want found) so = λ honest. so (sym disk.same ∙ honest)
  tell_later NoSpace never = never
  tell_later _ so = tt

  -- one of a call's own, or the one that was kept
  tell_own : (kept r : Refusal) → IsOwn kept r → MayTell g basis start before kept → MayTell g basis start after r
  tell_own kept DiskFault own so = tell_later DiskFault (subst (λ (x : Refusal). MayTell g basis start before x) own so)
  tell_own kept (Corrupt at want found) own so = tell_later (Corrupt at want found) (subst (λ (x : Refusal). MayTell g basis start before x) own so)
  tell_own kept NoSpace own so = tell_later NoSpace (subst (λ (x : Refusal). MayTell g basis start before x) own so)
  tell_own kept _ own so = tt

  pub answer_own : (kept answer : Answer (List ℕ)) → IsOwnFrom kept answer → MayAnswerSo g basis start before kept → MayAnswerSo g basis start after answer
  answer_own kept answer own so r is = by_kept kept (λ but its. subst (λ (a : Answer (List ℕ)). IsOwnAnswer but a) is (own but its)) so
    where
      by_kept : (kept : Answer (List ℕ)) → ((but : Refusal) → IsOwnAnswer but kept → IsOwn but r) → MayAnswerSo g basis start before kept → MayTell g basis start after r
      by_kept (answers.Refused x) own so = tell_own x r (own x (own_itself x)) (so x refl)
      by_kept _ own so = tell_own NoMemory r (own NoMemory tt) tt

  -- each session keeps what it kept, or an answer of its own
  pub told_own : (e e' : Engine) → KeepOwn e e' → AreToldSo g basis start e before → AreToldSo g basis start e' after
  told_own e e' own told session = answer_own (answer_in e session) (answer_in e' session) (own session) (told session)

-- the same sessions keep the same
pub own_same : (e e' : Engine) → e'.sessions ≡ e.sessions → KeepOwn e e'
own_same e e' same session but own = subst (λ (l : List State). IsOwnAnswer but (of_some answers.Done (λ (a : State). a.answer) (slice_get l session))) (sym same) own

-- a checkpoint changes no session
pub own_taken : (e e' : Engine) → (e' ≡ e) ⊎ ((fault : Fault) × (e' ≡ with_fault e fault)) → KeepOwn e e'
own_taken e e' (inl same) = own_same e e' (ap (λ (x : Engine). x.sessions) same)
own_taken e e' (inr (fault, is)) = own_same e e' (ap (λ (x : Engine). x.sessions) is)

pub own_then : (a b c : Engine) → KeepOwn a b → KeepOwn b c → KeepOwn a c
own_then a b c one two session but own = two session but (one session but own)
