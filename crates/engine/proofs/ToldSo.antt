-- What is known of each refusal of a call's own, and of each that is kept, is known of what is told.
use Rattle.std.proofs.Common.{◌≡◌, ◌⊎◌, ℕ, refl, sym, ◌∙◌, List, inl, inr, subst}
use Rattle.std.proofs.lemmas.Bool.{cases_eq}
use Rattle.wt_code.specs.declared.answers.Answer.{Answer}
use Rattle.wt_code.specs.declared.answers.Answer.TheVariants as answers
use Rattle.wt_code.specs.declared.refusals.Refusal.{Refusal}
use Rattle.wt_code.specs.declared.refusals.Refusal.TheVariants as refusal
use Rattle.call_steps.specs.declared.reply.Reply.{Reply}
use Rattle.call_steps.specs.declared.reply.Reply.TheVariants as reply
use Rattle.call_turns.specs.Answers.{IsOwn, IsOwnAnswer}
use Rattle.engine_world.specs.Stands.{Engine}
use Rattle.engine.specs.declared.called.Called.{Called}
use Rattle.engine.specs.declared.called.Called.TheVariants as called
use Rattle.engine.specs.declared.step.Actor.TheVariants as actor
use Rattle.engine.specs.declared.step.Step.{Step}
use Rattle.engine.specs.declared.step.Step.TheVariants as steps
use Rattle.engine.specs.Told.{EndsFrom, IsOwnAlways, IsOwnFrom, KeepOwn, KeepsOut, TellsFrom, answer_in, kept_by}

-- each refusal that it tells has P
abbrev pub HasOnly : (P : Refusal → Type 0) → Answer (List ℕ) → Type 0
HasOnly P answer = (r : Refusal) → answer ≡ answers.Refused r → P r

own-self : (r : Refusal) → IsOwn r r
own-self refusal.DiskFault = refl
own-self (refusal.Corrupt offset want found) = refl
own-self refusal.NoSpace = refl
own-self _ = tt

-- a refusal is a call's own, or the one that is kept
own-or : (but r : Refusal) → IsOwn but r → IsOwnAlways (answers.Refused r) ⊎ (but ≡ r)
own-or but refusal.DiskFault is = inr is
own-or but (refusal.Corrupt offset want found) is = inr is
own-or but refusal.NoSpace is = inr is
own-or but _ is = inl (λ other none. tt)

refused-is : (a b : Refusal) → (let x : Answer (List ℕ) = answers.Refused a in x) ≡ answers.Refused b → a ≡ b
refused-is a b e = cc

module _ (P : Refusal → Type 0) (own : (r : Refusal) → IsOwnAlways (answers.Refused r) → P r) where
  pub always-so : (answer : Answer (List ℕ)) → IsOwnAlways answer → HasOnly P answer
  always-so answer always r is = own r (subst IsOwnAlways is always)

  pub from-so : (kept answer : Answer (List ℕ)) → IsOwnFrom kept answer → HasOnly P kept → HasOnly P answer
  from-so (answers.Refused k) answer from has r is = elim (own-or k r (subst (IsOwnAnswer k) is (from k (own-self k)))) [
    | inl always ↦ own r always
    | inr same ↦ subst P same (has k refl)
  ]
  from-so _ answer from has r is = own r (λ but none. subst (IsOwnAnswer but) is (from but tt))

  pub tells-so : (kept : Answer (List ℕ)) (told : Reply) → TellsFrom kept told → HasOnly P kept → (answer : Answer (List ℕ)) → told ≡ reply.Answer answer → HasOnly P answer
  tells-so kept told from has answer is = from-so kept answer (subst (TellsFrom kept) is from) has

  pub ends-so : (kept : Answer (List ℕ)) (made : Called) → EndsFrom kept made → HasOnly P kept → (answer : Answer (List ℕ)) → made ≡ called.Ended answer → HasOnly P answer
  ends-so kept made from has answer is = from-so kept answer (subst (EndsFrom kept) is from) has

  -- a step goes on with what a call keeps, or with nothing
  pub kept-by-so : (e : Engine) (made : Step) → ((session : ℕ) → HasOnly P (answer_in e session)) → HasOnly P (kept_by e made)
  kept-by-so e (steps.Go (actor.Session session)) has r is = has session r is
  kept-by-so e (steps.Go (actor.System number)) has r is = absurd (cc)
  kept-by-so e (steps.Start call) has r is = absurd (cc)

  -- so does each answer that is kept
  pub keeps-so : (old new : Engine) → KeepOwn old new → ((session : ℕ) → HasOnly P (answer_in old session)) → (session : ℕ) → HasOnly P (answer_in new session)
  keeps-so old new keeps has session = from-so (answer_in old session) (answer_in new session) (keeps session) (has session)

  pub keeps-out-so : (session : ℕ) (refusal : Refusal) (old new : Engine) → KeepsOut session refusal old new → P refusal → ((s : ℕ) → HasOnly P (answer_in old s)) → (s : ℕ) → HasOnly P (answer_in new s)
  keeps-out-so session refusal old new out so has s = elim (cases_eq s session) [
    | inl same ↦ λ r is. subst P (refused-is refusal r (sym (subst (λ (n : ℕ). answer_in new n ≡ answers.Refused refusal) (sym same) out.refused) ∙ is)) so
    | inr other ↦ λ r is. has s r (sym (out.others s other) ∙ is)
  ]
