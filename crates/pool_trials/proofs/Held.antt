-- A seat that holds one piece, and changes it.
use Rattle.std.proofs.Common.{◌≡◌, ℕ, zero, suc, ◌+◌, ◌<◌, List, [], ◌∷◌, map, set, sym, refl, ap, ◌∙◌, subst, add-one, arith}
use mathlib.Core.Option.{Option, some, some-injective, some-ne-none}
use lib.ListN.{get_elem?}
use Rattle.pool_law.specs.declared.part.Part.{Part}
use Rattle.pool_law.specs.declared.part.Part.TheVariants.{Hub, Frame, Gone}
use Rattle.pool_law.specs.Whole.{Noted, Fits, Holds}
use Rattle.latch_table.specs.declared.latched.Latched.{Latched}
use Rattle.latch_table.specs.declared.seat.Seat.{Seat}
use Rattle.latch_table.specs.declared.latching.Latching.TheVariants.{Held}
use Rattle.latch_table.specs.Closing.{IsIdle}
use Rattle.latch_table.specs.Lending.{HasFrame, HasHub, with_part}
use Rattle.latch_table.specs.Rule.{number}
use Rattle.latch_table.specs.Seats.{Sits}
use Rattle.latch_table.specs.Tables.{IsSeatOf, Latches, Puts, SameSeat, knows, note_of, number_of_seat, piece_with, pieces_in, pieces_with, taken}
use Rattle.latch_table.proofs.Lent.{has_frame, has_hub, here, none_left, sits_with}

head_is : {A : Type 0} (a b : A) (l m : List A) → a ∷ l ≡ b ∷ m → a ≡ b
head_is a b l m e = ap (head_or a) e where
  head_or : {A : Type 0} → A → List A → A
  head_or d [] = d
  head_or d (x ∷ xs) = x

abbrev value_or : {H F : Type 0} → F → Part H F → F
value_or d (Frame x) = x
value_or d (Hub h) = d
value_or d Gone = d

pub same_value : {H F : Type 0} (x y : F) (o : Option (Part H F)) → o ≡ some (Frame x) → o ≡ some (Frame y) → x ≡ y
same_value {H} x y o a b = ap (value_or {H = H} x) (some-injective (Frame x) (Frame y) (sym a ∙ b))

pub set_twice : {A : Type 0} (l : List A) (i : ℕ) (a b : A) → set (set l i a) i b ≡ set l i b
set_twice [] i a b = refl
set_twice (x ∷ xs) zero a b = refl
set_twice (x ∷ xs) (suc i) a b = ap (λ l. x ∷ l) (set_twice xs i a b)

module _ {L H F N : Type 0} where
  pub not_held : (s : Seat L H F N) (k : ℕ) → taken s ≡ [] → ¬ Holds k (knows s).held
  not_held s k e (a, h) = some-ne-none k (sym h ∙ ap (λ l. get_elem? (map number l) a) e)

module _ {L H F N : Type 0} (t : Latched L H F N) (u w : Seat L H F N) (k i : ℕ) (p q : Part H F) (e : w ≡ with_part u i q) (is : i ≡ k) where
  pub changed_seat : IsSeatOf t u → get_elem? (pieces_with u) k ≡ some p → Fits k q → IsSeatOf t w
  changed_seat s at fit = subst (λ (y : Seat L H F N). IsSeatOf t y) (sym e)
      (subst (λ (j : ℕ). Sits t.table.shared.table_id u.raw (set u.parts.items j q)) (sym is) (sits_with t.table.shared.table_id u.raw u.parts.items k p q s at fit))

  pub changed_taken : taken w ≡ taken u
  changed_taken = ap (λ (y : Seat L H F N). taken y) e

  pub changed_note : note_of w ≡ note_of u
  changed_note = ap (λ (y : Seat L H F N). note_of y) e

  pub changed_knows : knows w ≡ knows u
  changed_knows = ap (λ (y : Seat L H F N). knows y) e

  pub changed_at : IsSeatOf t u → k < pieces_in t → piece_with w k ≡ some q
  changed_at s l = let room = s.room in ap (λ (y : Seat L H F N). piece_with y k) e ∙ (ap (λ (j : ℕ). get_elem? (set u.parts.items j q) k) is ∙ here u.parts.items k q (omega arith))

module _ {L H F N : Type 0} (puts : Noted N → ℕ → Part H F → Part H F → N → Type 0) (w e : Seat L H F N) (k : ℕ) (p q : Part H F) where
  -- the only piece that the seat held was put back
  pub put_back : taken w ≡ (k, p) ∷ [] → piece_with w k ≡ some q → Puts puts k w e → (taken e ≡ []) × puts (knows w) k p q (note_of e)
  put_back held at (x, y, rest, is, done) =
      let same : q ≡ y = some-injective q y (sym at ∙ is) in
      let was : x ≡ p = ap (λ (z : ℕ × Part H F). z.1) (head_is (k, x) (k, p) (taken e) [] (sym rest ∙ held)) in
      (none_left k p x (taken w) (taken e) held rest, subst (λ (z : Part H F). puts (knows w) k z q (note_of e)) was (subst (λ (z : Part H F). puts (knows w) k x z (note_of e)) (sym same) done))

-- a seat that held nothing latched a frame, the frame was changed, and then put back
module _ {L H F N : Type 0} (t : Latched L H F N) (told : Noted N → ℕ → Part H F → N → Type 0) (puts : Noted N → ℕ → Part H F → Part H F → N → Type 0) (s u : Seat L H F N) (f : ℕ)
    (idle : IsIdle t s) (room : suc f < pieces_in t) (got : Latches told (suc f) s u Held) where
  pub frame_was : F
  frame_was = (has_frame t told s u f idle.0 room got).0

  frame_at : get_elem? (pieces_with u) (suc f) ≡ some (Frame frame_was)
  unfolding frame_was
  frame_at = (has_frame t told s u f idle.0 room got).2

  pub frame_held : HasFrame u f
  frame_held = (frame_was, ap (λ (i : ℕ). get_elem? (pieces_with u) i) (add-one f) ∙ frame_at)

  frame_taken : taken u ≡ (suc f, Frame frame_was) ∷ []
  unfolding frame_was
  frame_taken = let h = has_frame t told s u f idle.0 room got in h.1 ∙ ap (λ l. (suc f, Frame h.0) ∷ l) idle.1

  pub frame_told : told (knows s) (suc f) (Frame frame_was) (note_of u)
  unfolding frame_was
  frame_told = (has_frame t told s u f idle.0 room got).3

  pub frame_same : (x : F) → get_elem? (pieces_with u) (f + 1) ≡ some (Frame x) → frame_was ≡ x
  frame_same x e = same_value frame_was x (get_elem? (pieces_with u) (f + 1)) (ap (λ (i : ℕ). get_elem? (pieces_with u) i) (add-one f) ∙ frame_at) e

  module _ (w : Seat L H F N) (v : F) (seat : IsSeatOf t u) (e : w ≡ with_part u (f + 1) (Frame v)) where
    pub frame_seat : IsSeatOf t w
    frame_seat = changed_seat t u w (suc f) (f + 1) (Frame frame_was) (Frame v) e (add-one f) seat frame_at tt

    taken_after : taken w ≡ (suc f, Frame frame_was) ∷ []
    taken_after = changed_taken t u w (suc f) (f + 1) (Frame frame_was) (Frame v) e (add-one f) ∙ frame_taken

    at_after : piece_with w (suc f) ≡ some (Frame v)
    at_after = changed_at t u w (suc f) (f + 1) (Frame frame_was) (Frame v) e (add-one f) seat room

    pub frame_may_put : (n : N) → puts (knows w) (suc f) (Frame frame_was) (Frame v) n → Rattle.latch_table.specs.Tables.MayPut puts (suc f) w
    frame_may_put n p = (Frame frame_was, Frame v, [], n, taken_after, at_after, p)

    pub frame_note : note_of w ≡ note_of u
    frame_note = changed_note t u w (suc f) (f + 1) (Frame frame_was) (Frame v) e (add-one f)

    pub frame_put : (z : Seat L H F N) → Puts puts (suc f) w z → (taken z ≡ []) × puts (knows w) (suc f) (Frame frame_was) (Frame v) (note_of z)
    frame_put z p = put_back puts w z (suc f) (Frame frame_was) (Frame v) taken_after at_after p

    pub frame_number : (z : Seat L H F N) → SameSeat s u → SameSeat w z → SameSeat s z
    frame_number z a b = (b.0 ∙ (ap (λ (y : Seat L H F N). number_of_seat y) e ∙ a.0), b.1 ∙ (ap (λ (y : Seat L H F N). y.number) e ∙ a.1))

-- the same of the hub
module _ {L H F N : Type 0} (t : Latched L H F N) (told : Noted N → ℕ → Part H F → N → Type 0) (puts : Noted N → ℕ → Part H F → Part H F → N → Type 0) (s u : Seat L H F N)
    (idle : IsIdle t s) (room : 0 < pieces_in t) (got : Latches told 0 s u Held) where
  pub hub_was : H
  hub_was = (has_hub t told s u idle.0 room got).0

  pub hub_at : get_elem? (pieces_with u) 0 ≡ some (Hub hub_was)
  unfolding hub_was
  hub_at = (has_hub t told s u idle.0 room got).2

  pub hub_held : HasHub u
  hub_held = (hub_was, hub_at)

  hub_taken : taken u ≡ (0, Hub hub_was) ∷ []
  unfolding hub_was
  hub_taken = let h = has_hub t told s u idle.0 room got in h.1 ∙ ap (λ l. (0, Hub h.0) ∷ l) idle.1

  pub hub_told : told (knows s) 0 (Hub hub_was) (note_of u)
  unfolding hub_was
  hub_told = (has_hub t told s u idle.0 room got).3

  module _ (w : Seat L H F N) (v : H) (seat : IsSeatOf t u) (e : w ≡ with_part u 0 (Hub v)) where
    pub hub_seat : IsSeatOf t w
    hub_seat = changed_seat t u w 0 0 (Hub hub_was) (Hub v) e refl seat hub_at tt

    hub_taken_after : taken w ≡ (0, Hub hub_was) ∷ []
    hub_taken_after = changed_taken t u w 0 0 (Hub hub_was) (Hub v) e refl ∙ hub_taken

    hub_at_after : piece_with w 0 ≡ some (Hub v)
    hub_at_after = changed_at t u w 0 0 (Hub hub_was) (Hub v) e refl seat room

    pub hub_note : note_of w ≡ note_of u
    hub_note = changed_note t u w 0 0 (Hub hub_was) (Hub v) e refl

    pub hub_may_put : (n : N) → puts (knows w) 0 (Hub hub_was) (Hub v) n → Rattle.latch_table.specs.Tables.MayPut puts 0 w
    hub_may_put n p = (Hub hub_was, Hub v, [], n, hub_taken_after, hub_at_after, p)

    pub hub_put : (z : Seat L H F N) → Puts puts 0 w z → (taken z ≡ []) × puts (knows w) 0 (Hub hub_was) (Hub v) (note_of z)
    hub_put z p = put_back puts w z 0 (Hub hub_was) (Hub v) hub_taken_after hub_at_after p

    pub hub_number : (z : Seat L H F N) → SameSeat s u → SameSeat w z → SameSeat s z
    hub_number z a b = (b.0 ∙ (ap (λ (y : Seat L H F N). number_of_seat y) e ∙ a.0), b.1 ∙ (ap (λ (y : Seat L H F N). y.number) e ∙ a.1))
