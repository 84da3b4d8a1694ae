-- What the line of an actor tells of faults, whatever the disk.
use Rattle.std.proofs.Common.{◌≡◌, ◌≤◌, ◌∙◌, ℕ, List, [], ◌∷◌, refl, subst, sym, inl, inr, arith}
use Rattle.std.specs.Prelude.{Ok, Option, None, length, slice_get}
use Rattle.failure.specs.Counts.{Rose}
use Rattle.disk_model.specs.declared.disk.Disk.{Ghosts}
use Rattle.wt_code.specs.declared.answers.Answer.{Answer}
use Rattle.wt_code.specs.declared.answers.Answer.TheVariants.{Done, Refused}
use Rattle.wt_code.specs.declared.refusals.Refusal.{Refusal}
use Rattle.wt_code.specs.declared.refusals.Refusal.TheVariants.{DiskFault}
use Rattle.kv_model.specs.Machine.{of_some}
use Rattle.call_steps.specs.State.{State}
use Rattle.call_steps.specs.declared.reply.Reply.{Reply}
use Rattle.call_steps.specs.declared.reply.Reply.TheVariants as tell
use Rattle.script_text.specs.declared.replies.Reply.TheVariants.{Answered}
use Rattle.engine_world.specs.Stands.{Engine}
use Rattle.engine_store.specs.declared.store.Store.{Store}
use Rattle.engine_store.specs.Calls.{AreToldSo, MayAnswerSo, MayReplySo, StaysTold, TellsSo}
use Rattle.script_run.specs.declared.told.Told.{Told}
use Rattle.script_run.specs.Faults.{RepliesFault, TellsFaults}
use Rattle.script_run.specs.Runs.{IsNoSession, RepliesSo}
use Rattle.script_run.specs.Scripts.{in_script}

no-fault : (r : Refusal) → IsNoSession r → r ≡ DiskFault → ⊥
no-fault r (inl is) fault = cc
no-fault r (inr is) fault = cc

-- an engine without a session keeps no answer
none_there : {A : Type 0} (xs : List A) (i : ℕ) → length xs ≡ 0 → slice_get xs i ≡ None
none_there [] i is = refl
none_there (x ∷ xs) i is = absurd (omega (arith, is))

module _ {D : Type 0} (g : Ghosts D) where
  pub told_none : (e : Engine) (disk : D) → length e.sessions ≡ 0 → AreToldSo g None disk e disk
  told_none e disk none session r is = absurd (other (subst (λ (o : Option State). of_some Done (λ (a : State). a.answer) o ≡ Refused r) (none_there e.sessions session none) is))
    where
      other : (let done : Answer (List ℕ) = Done in done ≡ Refused r) → ⊥
      other e = cc

  pub same_told : (store : Store) (disk : D) → StaysTold g store store disk disk
  same_told store disk start le are = are

  -- ---- of a call

  module _ (store store' : Store) (disk disk' : D) where
    pub answer_replies : (answer : Answer (List ℕ)) (told : Told) → told.reply ≡ Answered answer → TellsSo g store store' disk disk' (λ basis start. MayAnswerSo g basis start disk' answer) → RepliesSo g store store' disk disk' told
    answer_replies answer told is tells start le are = let x = tells None start le tt are in ((λ fault. x.0 DiskFault (the_answer answer (sym is ∙ fault))), x.1)
      where
        the_answer : (a : Answer (List ℕ)) → Answered a ≡ Answered (Refused DiskFault) → a ≡ Refused DiskFault
        the_answer a e = cc

    pub step_replies : (t : Reply) (told : Told) → told.reply ≡ in_script t → TellsSo g store store' disk disk' (λ basis start. MayReplySo g basis start disk' t) → RepliesSo g store store' disk disk' told
    step_replies t told is tells start le are = let x = tells None start le tt are in ((λ fault. x.0 (Refused DiskFault) (the_reply t (sym is ∙ fault)) DiskFault refl), x.1)
      where
        the_reply : (u : Reply) → in_script u ≡ Answered (Refused DiskFault) → u ≡ tell.Answer (Refused DiskFault)
        the_reply (tell.Answer a) e = cc
        the_reply tell.Started e = absurd cc
        the_reply tell.More e = absurd cc

    -- nothing was made of it
    pub refused_replies : (r : Refusal) (told : Told) → IsNoSession r → told.reply ≡ Answered (Refused r) → StaysTold g store store' disk disk' → RepliesSo g store store' disk disk' told
    refused_replies r told why is stays start le are = ((λ fault. absurd (no-fault r why (the_refusal (sym is ∙ fault)))), stays start le are)
      where
        the_refusal : Answered (Refused r) ≡ Answered (Refused DiskFault) → r ≡ DiskFault
        the_refusal e = cc

  -- behind the opening of sessions
  pub opened_replies : (store middle store' : Store) (disk disk' : D) (told : Told) → StaysTold g store middle disk disk → RepliesSo g middle store' disk disk' told → RepliesSo g store store' disk disk' told
  opened_replies store middle store' disk disk' told stays tells start le are = tells start le (stays start le are)

  -- ---- of a line that is asked of the device

  pub stays_faults : (store store' : Store) (disk disk' : D) (Says : Type 0) → StaysTold g store store' disk disk' → (Says → Rose (g.faults disk) (g.faults disk')) → TellsFaults g store store' disk disk' (λ rose. Says → rose)
  stays_faults store store' disk disk' Says stays fault start le are = ((λ says. omega (arith, le, fault says)), stays start le are)

  pub done_faults : (store store' : Store) (disk disk' : D) (told : Told) → told.reply ≡ Answered Done → StaysTold g store store' disk disk' → TellsFaults g store store' disk disk' (λ rose. RepliesFault (Ok told) → rose)
  done_faults store store' disk disk' told is stays = stays_faults store store' disk disk' (RepliesFault (Ok told)) stays (λ fault. absurd (not_done (sym is ∙ fault)))
    where
      not_done : Answered Done ≡ Answered (Refused DiskFault) → ⊥
      not_done e = cc

  pub refused_faults : (store store' : Store) (disk disk' : D) (r : Refusal) (told : Told) → told.reply ≡ Answered (Refused r) → (r ≡ DiskFault → Rose (g.faults disk) (g.faults disk')) → StaysTold g store store' disk disk'
      → TellsFaults g store store' disk disk' (λ rose. RepliesFault (Ok told) → rose)
  refused_faults store store' disk disk' r told is rose stays = stays_faults store store' disk disk' (RepliesFault (Ok told)) stays (λ fault. rose (the_refusal (sym is ∙ fault)))
    where
      the_refusal : Answered (Refused r) ≡ Answered (Refused DiskFault) → r ≡ DiskFault
      the_refusal e = cc

  pub then_faults : (store middle store' : Store) (disk between disk' : D) (Says : Type 0) → g.faults disk ≤ g.faults between → StaysTold g store middle disk between → TellsFaults g middle store' between disk' (λ rose. Says → rose)
      → TellsFaults g store store' disk disk' (λ rose. Says → rose)
  then_faults store middle store' disk between disk' Says later stays tells start le are = tells start (omega (arith, le, later)) (stays start le are)

  -- what is told more
  pub more_faults : (store store' : Store) (disk disk' : D) (Says Sooner : Type 0) → (Sooner → Says) → TellsFaults g store store' disk disk' (λ rose. Says → rose) → TellsFaults g store store' disk disk' (λ rose. Sooner → rose)
  more_faults store store' disk disk' Says Sooner sooner tells start le are = let x = tells start le are in ((λ says. x.0 (sooner says)), x.1)

  -- ---- of what goes behind a line

  pub later_faults : (store middle store' : Store) (disk between disk' : D) (Says : Type 0) → g.faults disk ≤ g.faults between → g.faults between ≤ g.faults disk' → TellsFaults g store middle disk between (λ rose. Says → rose) → StaysTold g middle store' between disk'
      → TellsFaults g store store' disk disk' (λ rose. Says → rose)
  later_faults store middle store' disk between disk' Says sooner later tells stays start le are =
      let x = tells start le are in ((λ says. let rose = x.0 says in omega (arith, rose, later)), stays start (omega (arith, le, sooner)) x.1)
