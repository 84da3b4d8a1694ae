-- A seat stays a session of its table.
use Rattle.std.proofs.Common.{◌≡◌, ℕ, length, refl, sym, ap, ◌∙◌, ◌<◌, subst, inl, inr, arith, length-set}
use Rattle.pool_law.specs.declared.shape.Shape.{Shape}
use Rattle.pool_law.specs.Whole.{Noted}
use Rattle.latch_table.specs.declared.latched.Latched.{Latched}
use Rattle.latch_table.specs.declared.seat.Seat.{Seat}
use Rattle.latch_table.specs.Tables.{IsSeatOf, SamePieces, knows, note_of, number_of_seat, shape_of, words_in}
use Rattle.hazard_law.specs.declared.known.Hazards.{Hazards}
use Rattle.hazard_law.specs.declared.known.Mark.{Mark}
use Rattle.hazard_law.specs.declared.known.Lock.{Lock}
use Rattle.hazard_law.specs.Words.{hazard_word}
use Rattle.hazard_law.specs.Safety.{with_lock, with_mark, with_note}
use Rattle.hazard_table.specs.Sessions.{IsSession, IsSized}
use Rattle.hazard_table.specs.Leaves.{Validates, own_word, word_of_session}
use Rattle.hazard_law.specs.declared.known.Mark.TheVariants.{Pins}
use Rattle.hazard_table.specs.declared.answers.Pinning.TheVariants.{Again}

module _ {N : Type 0} where
  -- the note b is one of the same seat as a
  pub record SameSession (a b : Hazards N) : Type 0 where
    pub seat : b.seat ≡ a.seat
    pub shape : b.shape ≡ a.shape
    pub marks : length b.marks ≡ length a.marks
    pub locks : length b.locks ≡ length a.locks

  pub with_note_same : (a : Hazards N) (k : N) → SameSession a (with_note a k)
  with_note_same a k = record { seat = refl; shape = refl; marks = refl; locks = refl }

  pub with_mark_same : (a : Hazards N) (k : N) (w : ℕ) (m : Mark) → SameSession a (with_mark a k w m)
  with_mark_same a k w m = record { seat = refl; shape = refl; marks = length-set a.marks w m; locks = refl }

  pub with_lock_same : (a : Hazards N) (k : N) (f : ℕ) (l : Lock) → SameSession a (with_lock a k f l)
  with_lock_same a k f l = record { seat = refl; shape = refl; marks = refl; locks = length-set a.locks f l }

module _ {A H F N : Type 0} where
  pub stays : (t : Latched A H F (Hazards N)) (s s' : Seat A H F (Hazards N)) → IsSession t s → IsSeatOf t s' → SamePieces s s'
      → (b : Hazards N) → note_of s' ≡ b → SameSession (note_of s) b → IsSession t s'
  stays t s s' i seat same b e k = record {
    seat = seat;
    numbered = same.2.1 ∙ (i.numbered ∙ sym same.2.0);
    own = ap (λ (z : Hazards N). z.seat) e ∙ (k.seat ∙ (i.own ∙ sym same.2.0));
    shape = ap (λ (z : Hazards N). z.shape) e ∙ (k.shape ∙ i.shape);
    range = let n = i.range in let m = same.2.0 in omega arith;
    marks = ap (λ (z : Hazards N). length z.marks) e ∙ (k.marks ∙ i.marks);
    locks = ap (λ (z : Hazards N). length z.locks) e ∙ (k.locks ∙ i.locks);
  }

  -- where the hazard words stand
  pub own_at : (t : Latched A H F (Hazards N)) (s : Seat A H F (Hazards N)) (i n w : ℕ) → IsSession t s → n ≡ number_of_seat s → i ≡ hazard_word (shape_of t).frames n w
      → i ≡ own_word (knows s) w
  own_at t s i n w k num e = e ∙ (λ j. hazard_word (sym k.shape j).frames ((num ∙ sym k.own) j) w)

  pub session_at : (t : Latched A H F (Hazards N)) (s : Seat A H F (Hazards N)) (i n w : ℕ) → IsSession t s → i ≡ hazard_word (shape_of t).frames n w
      → i ≡ word_of_session (knows s) n w
  session_at t s i n w k e = e ∙ (λ j. hazard_word (sym k.shape j).frames n w)

  pub hazard_in : (t : Latched A H F (Hazards N)) (frames i n w : ℕ) → IsSized t frames → n < (shape_of t).seats → w < 5 → i ≡ hazard_word (shape_of t).frames n w → i < words_in t
  hazard_in t frames i n w z l five e = let a = z.frames in let b = z.words in omega arith

  pub state_in : (t : Latched A H F (Hazards N)) (frames f : ℕ) → IsSized t frames → f < (shape_of t).frames → f < words_in t
  state_in t frames f z l = let a = z.frames in let b = z.words in omega arith

  -- a frame of the table is one that the session knows
  pub frame_known : (t : Latched A H F (Hazards N)) (s : Seat A H F (Hazards N)) (f : ℕ) → IsSession t s → f < (shape_of t).frames → f < (note_of s).shape.frames
  frame_known t s f k l = subst (λ (z : Shape). f < z.frames) (sym k.shape) l

  pub seat_known : (t : Latched A H F (Hazards N)) (s : Seat A H F (Hazards N)) (j : ℕ) → IsSession t s → j < (shape_of t).seats → j < (note_of s).shape.seats
  seat_known t s j k l = subst (λ (z : Shape). j < z.seats) (sym k.shape) l

  -- a look that did not pin the frame as it was asked
  pub validated_stays : (t : Latched A H F (Hazards N)) (s s' : Seat A H F (Hazards N)) (turns : Noted N → ℕ → ℕ → ℕ → N → Type 0) (w f g m : ℕ) → IsSession t s → IsSeatOf t s' → SamePieces s s'
      → Validates turns (knows s) (note_of s') w f g (Again m) → IsSession t s'
  validated_stays t s s' turns w f g m i seat same (ne, inl d) = stays t s s' i seat same _ d.2 (with_note_same (note_of s) d.0)
  validated_stays t s s' turns w f g m i seat same (ne, inr d) = stays t s s' i seat same _ d.2.2 (with_mark_same (note_of s) d.2.0 w (Pins f d.0))
