-- The state in which a session is after the end of its transaction.
use Rattle.std.proofs.Common.{◌≡◌, ◌<◌, ℕ, zero, suc, refl, ap, sym, ◌∙◌, true, List, [], ◌∷◌, length, inl, inr, subst, map, arith}
use Rattle.std.specs.Prelude.{Option, Some, None, option_map, filter, replicate}
use Rattle.std.proofs.lemmas.Bool.{cases_Bool}
use Rattle.std.proofs.lemmas.List.{get_or-set_same, length-map}
use Rattle.limits.specs.declared.TheConstants.{CURSORS_MAX}
use Rattle.wt_code.specs.declared.answers.Answer.{Answer}
use Rattle.kv_model.specs.Machine.{Machine, Transaction, Position as ModelPosition, of_some, no_cursors, transaction_of, cursors_of, without_transaction}
use Rattle.kv_model.specs.Valid.{Valid}
use Rattle.kv_model.proofs.Seats.{seat-inside}
use Rattle.tree_dir.specs.declared.leaf.Leaf.{Leaf}
use Rattle.txn_table.specs.declared.phase.Phase.TheVariants as phase
use Rattle.txn_table.specs.Tabled.{phase_of}
use Rattle.call_steps.specs.declared.cursor.Cursor.{Cursor}
use Rattle.call_steps.specs.declared.frame.FramePiece.{FramePiece}
use Rattle.call_steps.specs.declared.hub.Hub.{Hub}
use Rattle.call_steps.specs.declared.reply.Reply.{Reply}
use Rattle.call_steps.specs.declared.reply.Reply.TheVariants as reply
use Rattle.call_steps.specs.declared.stage.Stage.TheVariants as stage
use Rattle.call_steps.specs.State.{State, at_stage, placed, is_pinned, is_pinned_at, first_pinned, forgotten, finished}
use Rattle.engine_world.specs.Doings.{doing_in, unpins_left}
use Rattle.engine_world.specs.Leaves.{AreNoted}
use Rattle.engine_world.specs.Stands.{SessionStands, position_in, writes_in}
use Rattle.engine_world.specs.Steps.{Finishes}
use Rattle.engine_world.proofs.HubMoves.{none-ends}
use Rattle.engine_world.proofs.InPlace.{SessionInPlace}

-- ---- cursors that are not positioned any more

-- they stay pinned
pins-stay : (cursors : List Cursor) → length (filter is_pinned (map (placed None) cursors)) ≡ length (filter is_pinned cursors)
pins-stay [] = refl
pins-stay (k ∷ cursors) = let later = pins-stay cursors in elim (cases_Bool (is_pinned k)) [ inl is ↦ rw is (omega (arith, later)) | inr isnt ↦ rw isnt later ]

pin-stays : (cursors : List Cursor) (i : ℕ) → is_pinned_at (map (placed None) cursors) i ≡ is_pinned_at cursors i
pin-stays [] i = refl
pin-stays (k ∷ cursors) zero = refl
pin-stays (k ∷ cursors) (suc i) = pin-stays cursors i

-- the first one that is pinned is pinned
first-is : (cursors : List Cursor) (i : ℕ) → first_pinned cursors ≡ Some i → is_pinned_at cursors i ≡ true
first-is cursors i e = elim (cases_Bool (is_pinned_at cursors 0)) [
  | inl here ↦ found 0 here (rw here at e)
  | inr not0 ↦ elim (cases_Bool (is_pinned_at cursors 1)) [
    | inl here ↦ found 1 here (rw (not0, here) at e)
    | inr not1 ↦ elim (cases_Bool (is_pinned_at cursors 2)) [
      | inl here ↦ found 2 here (rw (not0, not1, here) at e)
      | inr not2 ↦ elim (cases_Bool (is_pinned_at cursors 3)) [
        | inl here ↦ found 3 here (rw (not0, not1, not2, here) at e)
        | inr not3 ↦ let none : None ≡ Some i = rw (not0, not1, not2, not3) at e in absurd (cc)
      ]
    ]
  ]
] where
  found : (j : ℕ) → is_pinned_at cursors j ≡ true → Some j ≡ Some i → is_pinned_at cursors i ≡ true
  found j pinned same = let is : j ≡ i = cc in subst (λ k. is_pinned_at cursors k ≡ true) is pinned

none-placed : (cursors : List Cursor) → map position_in (map (placed None) cursors) ≡ replicate (length cursors) None
none-placed [] = refl
none-placed (k ∷ cursors) = ap (λ (l : List (Option ModelPosition)). None ∷ l) (none-placed cursors)

-- a session has as many cursors as there may be
pub cursors-count : (m : Machine) (hub : Hub) (pieces : List FramePiece) (session : ℕ) (a : State) (t : Transaction) → Valid m → transaction_of m session ≡ Some t → SessionStands m hub pieces session a → length a.cursors ≡ CURSORS_MAX
cursors-count m hub pieces session a t valid there mine = sym (length-map a.cursors position_in) ∙ (ap length mine.cursors ∙ valid.cursors.all session inside) where
  inside : session < length m.cursors
  inside = let seats = valid.cursors.seats in let seat = seat-inside m.sessions session t there in omega arith

-- ---- who has no transaction

-- its transaction has ended, and no cursor is positioned
pub record IsGone (m : Machine) (session : ℕ) : Type 0 where
  pub none : transaction_of m session ≡ None
  pub cursors : cursors_of m session ≡ no_cursors

pub without-gone : (m : Machine) (session : ℕ) (t : Transaction) → Valid m → transaction_of m session ≡ Some t → IsGone (without_transaction m session) session
without-gone m session t valid there = record {
  none = get_or-set_same m.sessions session None None seat;
  cursors = get_or-set_same m.cursors session no_cursors [] (let seats = valid.cursors.seats in omega (arith, seat));
} where
  seat : session < length m.sessions
  seat = seat-inside m.sessions session t there

abbrev finished_by : Option ℕ → Answer (List ℕ) → State → Reply × State
finished_by first answer a = of_some (reply.Answer answer, at_stage stage.Rest (forgotten a)) (λ cursor. (reply.More, record (forgotten a) { stage = stage.Unpin cursor; answer = answer })) first

pub finished-stands : (next : Machine) (hub : Hub) (pieces : List FramePiece) (session : ℕ) (a : State) (answer : Answer (List ℕ)) → IsGone next session → length a.cursors ≡ CURSORS_MAX
    → session < length hub.txns.sessions → phase_of hub.txns session ≡ phase.Idle → SessionInPlace next hub pieces session (finished answer a).1
finished-stands next hub pieces session a answer gone many opened idle = by-first (first_pinned a.cursors) refl where
  cursors : map position_in (map (placed None) a.cursors) ≡ cursors_of next session
  cursors = none-placed a.cursors ∙ (ap (λ n. replicate n None) many ∙ sym gone.cursors)

  noted : AreNoted hub.dir.leaves pieces (writes_in next session) []
  noted = subst (λ o. AreNoted hub.dir.leaves pieces (of_some [] (λ (t : Transaction). t.writes) o) []) (sym gone.none) (record { noted = λ w there. absurd there; wrote = λ k there. absurd there })

  by-first : (first : Option ℕ) → first_pinned a.cursors ≡ first → SessionInPlace next hub pieces session (finished_by first answer a).1
  by-first None is = record {
    phase = sym (ap (option_map (λ (t : Transaction). t.phase)) gone.none);
    seated = record { opened = opened; phase = idle };
    cursors = cursors;
    noted = noted;
    stage = none-ends next session gone.none;
  }
  by-first (Some cursor) is = record {
    phase = sym (ap (option_map (λ (t : Transaction). t.phase)) gone.none);
    seated = record { opened = opened; phase = idle };
    cursors = cursors;
    noted = noted;
    stage = (gone.none, pin-stays a.cursors cursor ∙ first-is a.cursors cursor is);
  }

-- the call has ended, or there are words of cursors to clear
pub finished-goes : (leaves : List Leaf) (answer : Answer (List ℕ)) (left : ℕ) (next : Machine) (session : ℕ) (a : State) → unpins_left a < left
    → Finishes answer left next (record { told = (finished answer a).0; machine = next; doing = doing_in leaves session (finished answer a).1 })
finished-goes leaves answer left next session a less = by-first (first_pinned a.cursors) where
  by-first : (first : Option ℕ) → Finishes answer left next (record { told = (finished_by first answer a).0; machine = next; doing = doing_in leaves session (finished_by first answer a).1 })
  by-first None = inl refl
  by-first (Some cursor) = inr (length (filter is_pinned (map (placed None) a.cursors)), (let same = pins-stay a.cursors in omega (arith, less)), refl)
