-- What may be told stays so.
use Rattle.std.proofs.Common.{◌≡◌, ◌∙◌, ◌≤◌, ℕ, List, [], ◌∷◌, length, Option, refl, sym, ap, subst, arith}
use Rattle.std.specs.Prelude.{slice_get}
use Rattle.disk_model.specs.declared.disk.Disk.{Ghosts}
use Rattle.wt_code.specs.declared.answers.Answer.{Answer}
use Rattle.wt_code.specs.declared.answers.Answer.TheVariants as answers
use Rattle.wt_code.specs.declared.refusals.Refusal.{Refusal}
use Rattle.wt_code.specs.declared.refusals.Refusal.TheVariants.{Corrupt, DiskFault, NoMemory, NoSpace}
use Rattle.kv_model.specs.Machine.{of_some}
use Rattle.call_steps.specs.State.{State}
use Rattle.engine_world.specs.Stands.{Engine}
use Rattle.call_steps.specs.declared.reply.Reply.{Reply}
use Rattle.engine.specs.declared.called.Called.{Called}
use Rattle.engine.specs.declared.called.Called.TheVariants as called
use Rattle.engine.specs.declared.step.Step.{Step}
use Rattle.engine.specs.Told.{EndsFrom, IsOwnAlways, KeepOwn, KeepsOut, TellsFrom, kept_by}
use Rattle.engine.proofs.ToldSo.{always-so, from-so, keeps-out-so, keeps-so, kept-by-so, tells-so}
use Rattle.engine_store.specs.Calls.{AreToldSo, Basis, MayAnswerSo, MayReplySo, MayTell}
use Rattle.engine_store.specs.Fetches.{CalledSo}
use Rattle.engine_store.proofs.Fetching.{rose_later}

-- the answer that a session of these keeps
abbrev answer_by : ℕ → List State → Answer (List ℕ)
answer_by session sessions = of_some answers.Done (λ (a : State). a.answer) (slice_get sessions session)

module _ {D : Type 0} (g : Ghosts D) (basis : Option Basis) (start before after : D) (same : g.honest after ≡ g.honest before) (count : g.faults before ≤ g.faults after) where
  pub tell_on : (r : Refusal) → MayTell g basis start before r → MayTell g basis start after r
  tell_on DiskFault rose = rose_later (g.faults start) (g.faults before) (g.faults after) count rose
  tell_on (Corrupt at want found) so = λ honest. so (sym same ∙ honest)
  tell_on NoSpace never = never
  tell_on _ so = tt

  -- each session has what it had
  pub told_on : (e e' : Engine) → e'.sessions ≡ e.sessions → AreToldSo g basis start e before → AreToldSo g basis start e' after
  told_on e e' sessions told session r is = tell_on r (told session r (ap (answer_by session) (sym sessions) ∙ is))

-- an engine without a session keeps no answer
pub none_told : {D : Type 0} (g : Ghosts D) (basis : Option Basis) (start disk : D) (e : Engine) → length e.sessions ≡ 0 → AreToldSo g basis start e disk
none_told g basis start disk e none = subst (λ (l : List State). (session : ℕ) → MayAnswerSo g basis start disk (answer_by session l)) (sym (empty e.sessions none)) (λ session r is. absurd (cc))
  where
    empty : (l : List State) → length l ≡ 0 → l ≡ []
    empty [] is = refl
    empty (a ∷ l) is = absurd (omega (arith, is))

-- ---- by what calls and steps tell themselves

module _ {D : Type 0} (g : Ghosts D) (basis : Option Basis) (start disk : D) where
  -- a refusal of a call's own is none of a device
  pub own_told : (r : Refusal) → IsOwnAlways (answers.Refused r) → MayTell g basis start disk r
  own_told DiskFault own = absurd (let clash : NoMemory ≡ DiskFault = own NoMemory tt in cc)
  own_told (Corrupt at want found) own = absurd (let clash : NoMemory ≡ Corrupt at want found = own NoMemory tt in cc)
  own_told NoSpace own = absurd (let clash : NoMemory ≡ NoSpace = own NoMemory tt in cc)
  own_told _ own = tt

  pub always_told : (answer : Answer (List ℕ)) → IsOwnAlways answer → MayAnswerSo g basis start disk answer
  always_told answer own = always-so (λ r. MayTell g basis start disk r) own_told answer own

  pub keep_told : (old new : Engine) → KeepOwn old new → AreToldSo g basis start old disk → AreToldSo g basis start new disk
  keep_told old new keeps told = keeps-so (λ r. MayTell g basis start disk r) own_told old new keeps told

  pub out_told : (session : ℕ) (refusal : Refusal) (old new : Engine) → KeepsOut session refusal old new → MayTell g basis start disk refusal → AreToldSo g basis start old disk → AreToldSo g basis start new disk
  out_told session refusal old new out may told = keeps-out-so (λ r. MayTell g basis start disk r) own_told session refusal old new out may told

  pub called_told : (kept : Answer (List ℕ)) (made : Called) → EndsFrom kept made → MayAnswerSo g basis start disk kept → CalledSo g basis start disk made
  called_told kept (called.Ended answer) from may = from-so (λ r. MayTell g basis start disk r) own_told kept answer from may
  called_told kept (called.Waits leaf) from may = tt

  pub reply_told : (e : Engine) (made : Step) (told : Reply) → TellsFrom (kept_by e made) told → AreToldSo g basis start e disk → MayReplySo g basis start disk told
  reply_told e made told from may = tells-so (λ r. MayTell g basis start disk r) own_told (kept_by e made) told from (kept-by-so (λ r. MayTell g basis start disk r) own_told e made may)
