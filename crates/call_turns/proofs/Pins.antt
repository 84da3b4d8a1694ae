-- The hazard words of positioned cursors, cleared one by one.
use Rattle.std.proofs.Common.{◌≡◌, ◌<◌, ℕ, zero, suc, refl, ap, ◌∙◌, true, List, [], ◌∷◌, length, inl, inr, subst, map, arith}
use Rattle.std.specs.Prelude.{Option, Some, None, filter}
use Rattle.std.proofs.lemmas.Bool.{cases_Bool}
use Rattle.wt_code.specs.declared.answers.Answer.{Answer}
use Rattle.kv_model.specs.Machine.{of_some}
use Rattle.tree_dir.specs.declared.leaf.Leaf.{Leaf}
use Rattle.call_steps.specs.declared.cursor.Cursor.{Cursor}
use Rattle.call_steps.specs.declared.reply.Reply.{Reply}
use Rattle.call_steps.specs.declared.reply.Reply.TheVariants as reply
use Rattle.call_steps.specs.declared.stage.Stage.TheVariants as stage
use Rattle.call_steps.specs.State.{State, at_stage, changed_at, finished, first_pinned, forgotten, is_pinned, is_pinned_at, placed, unpinned}
use Rattle.call_turns.specs.Turns.{IsNoAnswer, done_turns, pinned, turns}

abbrev pins : List Cursor → ℕ
pins cursors = length (filter is_pinned cursors)

-- cursors that are not positioned any more stay pinned
pins-stay : (cursors : List Cursor) → pins (map (placed None) cursors) ≡ pins cursors
pins-stay [] = refl
pins-stay (k ∷ cursors) = let later = pins-stay cursors in elim (cases_Bool (is_pinned k)) [ inl is ↦ rw is (omega (arith, later)) | inr isnt ↦ rw isnt later ]

pin-stays : (cursors : List Cursor) (i : ℕ) → is_pinned_at (map (placed None) cursors) i ≡ is_pinned_at cursors i
pin-stays [] i = refl
pin-stays (k ∷ cursors) zero = refl
pin-stays (k ∷ cursors) (suc i) = pin-stays cursors i

-- the first one that is pinned is pinned
pub first-is : (cursors : List Cursor) (i : ℕ) → first_pinned cursors ≡ Some i → is_pinned_at cursors i ≡ true
first-is cursors i e = elim (cases_Bool (is_pinned_at cursors 0)) [
  | inl here ↦ found 0 here (rw here at e)
  | inr not0 ↦ elim (cases_Bool (is_pinned_at cursors 1)) [
    | inl here ↦ found 1 here (rw (not0, here) at e)
    | inr not1 ↦ elim (cases_Bool (is_pinned_at cursors 2)) [
      | inl here ↦ found 2 here (rw (not0, not1, here) at e)
      | inr not2 ↦ elim (cases_Bool (is_pinned_at cursors 3)) [
        | inl here ↦ found 3 here (rw (not0, not1, not2, here) at e)
        | inr not3 ↦ let none : None ≡ Some i = rw (not0, not1, not2, not3) at e in absurd (cc)
      ]
    ]
  ]
] where
  found : (j : ℕ) → is_pinned_at cursors j ≡ true → Some j ≡ Some i → is_pinned_at cursors i ≡ true
  found j pinned same = let is : j ≡ i = cc in subst (λ k. is_pinned_at cursors k ≡ true) is pinned

-- without one that was pinned one less is
pub one-less : (cursors : List Cursor) (i : ℕ) → is_pinned_at cursors i ≡ true → pins cursors ≡ suc (pins (changed_at cursors i unpinned))
one-less [] i is = absurd cc
one-less (k ∷ cursors) zero is = let here : is_pinned k ≡ true = is in rw here refl
one-less (k ∷ cursors) (suc i) is = let later = one-less cursors i is in elim (cases_Bool (is_pinned k)) [ inl here ↦ rw here (ap suc later) | inr isnt ↦ rw isnt later ]

-- ---- the end of a transaction

abbrev pub finished_by : Option ℕ → Answer (List ℕ) → State → Reply × State
finished_by first answer a = of_some (reply.Answer answer, at_stage stage.Rest (forgotten a)) (λ cursor. (reply.More, record (forgotten a) { stage = stage.Unpin cursor; answer = answer })) first

-- the call has ended, or there are words of cursors to clear
pub finished-less : (leaves : List Leaf) (answer : Answer (List ℕ)) (a : State) → IsNoAnswer (finished answer a).0 → turns leaves (finished answer a).1 < done_turns a
finished-less leaves answer a = by-first (first_pinned a.cursors) refl where
  by-first : (first : Option ℕ) → first_pinned a.cursors ≡ first → IsNoAnswer (finished_by first answer a).0 → turns leaves (finished_by first answer a).1 < done_turns a
  by-first None is goes = absurd (goes answer refl)
  by-first (Some i) is goes = let less = one-less (map (placed None) a.cursors) i (pin-stays a.cursors i ∙ first-is a.cursors i is) in let same = pins-stay a.cursors in
      omega (arith, less, same)
