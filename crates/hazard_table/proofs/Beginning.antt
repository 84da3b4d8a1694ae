-- What holds of the words holds at the beginning.
use Rattle.std.proofs.Common.{◌≡◌, ℕ, zero, suc, ◌+◌, ◌*◌, ◌<◌, List, [], ◌∷◌, map, length, get_or, replicate, sym, refl, ap, ◌∙◌, subst, arith}
use mathlib.Core.Option.{some, some-injective, some-ne-none}
use lib.ListN.{get_elem?}
use Rattle.std.proofs.lemmas.List.{length-append, length-replicate}
use Rattle.pool_law.specs.declared.shape.Shape.{Shape}
use Rattle.pool_law.specs.Whole.{Noted, noted, whole}
use Rattle.latch_table.specs.declared.latched.Latched.{Latched}
use Rattle.latch_table.specs.declared.seat.Seat.{Seat}
use Rattle.latch_table.specs.Opening.{AreSeats, IsFresh}
use Rattle.latch_table.specs.Rule.{starts}
use Rattle.latch_table.specs.Tables.{shape_of}
use Rattle.hazard_law.specs.declared.known.Hazards.{Hazards}
use Rattle.hazard_law.specs.declared.known.Mark.{Mark}
use Rattle.hazard_law.specs.declared.known.Mark.TheVariants.{Blank, Names, Pins}
use Rattle.hazard_law.specs.declared.known.Lock.{Lock}
use Rattle.hazard_law.specs.declared.known.Lock.TheVariants.{Open, Locks}
use Rattle.hazard_law.specs.Safety.{Both, HasLock, Marks, Safe, beginning, inner}
use Rattle.hazard_law.proofs.Safe.{blank_no_name, blank_no_pin, open_no_lock}
use Rattle.hazard_table.specs.Sessions.{IsSession, first_words}

same_replica : {A : Type 0} (n i : ℕ) (a b : A) → get_elem? (replicate n a) i ≡ some b → a ≡ b
same_replica zero i a b e = absurd (some-ne-none b (sym e))
same_replica (suc n) zero a b e = some-injective a b e
same_replica (suc n) (suc i) a b e = same_replica n i a b e

module _ {N : Type 0} (start : ℕ → N) where
  starts_length : (j n : ℕ) → length (starts start j n) ≡ n
  starts_length j zero = refl
  starts_length j (suc n) = ap suc (starts_length (suc j) n)

  starts_are : (i n j : ℕ) (v : Noted N) → get_elem? (starts start i n) j ≡ some v → noted (start (i + j)) [] ≡ v
  starts_are i zero j v e = absurd (some-ne-none v (sym e))
  starts_are i (suc n) zero v e = ap (λ (k : ℕ). noted (start k) []) (let z : i + 0 ≡ i = omega arith in z) ∙ some-injective (noted (start i) []) v e
  starts_are i (suc n) (suc j) v e = ap (λ (k : ℕ). noted (start k) []) (let z : i + suc j ≡ suc i + j = omega arith in z) ∙ starts_are (suc i) n j v e

module _ {N : Type 0} (start : Shape → ℕ → N) (sh : Shape) where
  inner_starts : (j n : ℕ) → map inner (starts (beginning start sh) j n) ≡ starts (start sh) j n
  inner_starts j zero = refl
  inner_starts j (suc n) = ap (λ l. noted (start sh j) [] ∷ l) (inner_starts (suc j) n)

  no_mark : (n j w : ℕ) (m : Mark) (v : Noted (Hazards N)) → get_elem? (starts (beginning start sh) 0 n) j ≡ some v → Marks v.note w m → Blank ≡ m
  no_mark n j w m v e mark = same_replica 5 w Blank m (subst (λ (z : Noted (Hazards N)). Marks z.note w m) (sym (starts_are (beginning start sh) 0 n j v e)) mark)

  no_lock : (n j f : ℕ) (l : Lock) (v : Noted (Hazards N)) → get_elem? (starts (beginning start sh) 0 n) j ≡ some v → HasLock v.note f l → Open ≡ l
  no_lock n j f l v e lock = same_replica sh.frames f Open l (subst (λ (z : Noted (Hazards N)). HasLock z.note f l) (sym (starts_are (beginning start sh) 0 n j v e)) lock)

  begins_safe : (frames : ℕ) (states : List ℕ) → sh.frames ≡ frames → length states ≡ frames → Safe frames (first_words states sh.seats) (starts (beginning start sh) 0 sh.seats)
  begins_safe frames states is count = record {
    wide = length-append states (replicate (5 * sh.seats) 0) ∙ (λ i. count i + (length-replicate {A = ℕ} (5 * sh.seats) 0 ∙ ap (λ (k : ℕ). 5 * k) (sym long)) i);
    numbered = λ j v e. let a = sym (starts_are (beginning start sh) 0 sh.seats j v e) in (
      ap (λ (z : Noted (Hazards N)). z.note.seat) a ∙ (let z : 0 + j ≡ j = omega arith in z),
      ap (λ (z : Noted (Hazards N)). z.note.shape.frames) a ∙ is,
      ap (λ (z : Noted (Hazards N)). z.note.shape.seats) a ∙ sym long,
      ap (λ (z : Noted (Hazards N)). length z.note.marks) a,
      ap (λ (z : Noted (Hazards N)). length z.note.locks) a ∙ (length-replicate sh.frames Open ∙ is),
    );
    names = λ j w f v e m. absurd (blank_no_name f (no_mark sh.seats j w (Names f) v e m));
    pinned = λ j w f g v e m. absurd (blank_no_pin f g (no_mark sh.seats j w (Pins f g) v e m));
    locks = λ j f g c v e l. absurd (open_no_lock g c (no_lock sh.seats j f (Locks g c) v e l));
    alone = λ i j f g h c d v u e a l k. absurd (open_no_lock g c (no_lock sh.seats i f (Locks g c) v e l));
    clear = λ i j w f g c v u e a l k m. absurd (open_no_lock g c (no_lock sh.seats i f (Locks g c) v e l));
  } where
    long : length (starts (beginning start sh) 0 sh.seats) ≡ sh.seats
    long = starts_length (beginning start sh) 0 sh.seats

  pub begins : {H F : Type 0} (joint : Rattle.pool_law.specs.Whole.Whole H F N → Type 0) (words states : List ℕ) (hub : H) (frames : List F) → words ≡ first_words states sh.seats
      → sh.frames ≡ length frames → length states ≡ length frames → joint (whole (first_words states sh.seats) hub frames (starts (start sh) 0 sh.seats))
      → Both joint (whole words hub frames (starts (beginning start sh) 0 sh.seats))
  begins joint words states hub frames e is count kept =
      subst (λ (ws : List ℕ). Both joint (whole ws hub frames (starts (beginning start sh) 0 sh.seats))) (sym e)
      (begins_safe (length frames) states is count, subst (λ (ss : List (Noted N)). joint (whole (first_words states sh.seats) hub frames ss)) (sym (inner_starts 0 sh.seats)) kept)

at_get : {A : Type 0} (l : List A) (k : ℕ) (d : A) → k < length l → get_elem? l k ≡ some (get_or l k d)
at_get [] k d h = absurd (omega arith)
at_get (x ∷ xs) zero d h = refl
at_get (x ∷ xs) (suc k) d h = at_get xs k d (omega arith)

module _ {A H F N : Type 0} (start : Shape → ℕ → N) (t : Latched A H F (Hazards N)) where
  -- a seat as it begins is a session
  pub fresh_session : (j : ℕ) (s : Seat A H F (Hazards N)) → IsFresh (beginning start (shape_of t)) t j s → j < (shape_of t).seats → IsSession t s
  fresh_session j s f l = record {
    seat = f.0;
    numbered = f.4;
    own = ap (λ (z : Hazards N). z.seat) f.3 ∙ sym f.1;
    shape = ap (λ (z : Hazards N). z.shape) f.3;
    range = (let n = f.1 in omega arith);
    marks = ap (λ (z : Hazards N). length z.marks) f.3;
    locks = ap (λ (z : Hazards N). length z.locks) f.3 ∙ length-replicate (shape_of t).frames Open;
  }

  pub fresh_sessions : (seats : List (Seat A H F (Hazards N))) → AreSeats (beginning start (shape_of t)) t seats → Rattle.std.specs.Prelude.All (IsSession t) seats
  fresh_sessions seats are k d h = let count = are.count in fresh_session k (get_or seats k d) (are.fresh k (get_or seats k d) (at_get seats k d h)) (omega arith)
