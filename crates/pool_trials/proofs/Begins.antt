-- How the tables and pools of two seats begin.
use Rattle.std.proofs.Common.{◌≡◌, ℕ, zero, suc, ◌+◌, ◌<◌, ◌≤◌, List, [], ◌∷◌, get_or, sym, refl, ap, ◌∙◌, subst, arith}
use mathlib.Core.Option.{some, some-injective, some-ne-none}
use lib.ListN.{get_elem?}
use Rattle.pool_law.specs.Growing.{Grown, Under, none_left, both_left}
use Rattle.pool_law.specs.Keeping.{Kept, Own}
use Rattle.pool_law.specs.declared.shape.Shape.{Shape}
use Rattle.pool_law.specs.Whole.{Noted, noted, whole}
use Rattle.latch_table.specs.declared.latched.Latched.{Latched}
use Rattle.latch_table.specs.declared.seat.Seat.{Seat}
use Rattle.latch_table.specs.Opening.{IsFresh}
use Rattle.latch_table.specs.Rule.{starts}
use Rattle.latch_table.specs.Tables.{shape_of}
use Rattle.hazard_law.specs.declared.known.Hazards.{Hazards}
use Rattle.hazard_law.specs.Safety.{beginning}
use Rattle.hazard_table.specs.Sessions.{first_words}
use Rattle.hazard_table.proofs.Beginning.{fresh_session}
use Rattle.pool_trials.specs.Trials.{IsKeeper}

abbrev zeros : ℕ → List ℕ
zeros j = 0 ∷ 0 ∷ []

nothing_seen : (a b : ℕ) → Under (0 ∷ 0 ∷ []) (a ∷ b ∷ [])
nothing_seen a b = both_left 0 a (0 ∷ []) (b ∷ []) (omega arith) (both_left 0 b [] [] (omega arith) none_left)

seen_at : (a b j : ℕ) (v : Noted (List ℕ)) → get_elem? (noted (zeros 0) [] ∷ noted (zeros 1) [] ∷ []) j ≡ some v → Under v.note (a ∷ b ∷ [])
seen_at a b zero v e = subst (λ (y : Noted (List ℕ)). Under y.note (a ∷ b ∷ [])) (some-injective (noted (zeros 0) []) v e) (nothing_seen a b)
seen_at a b (suc zero) v e = subst (λ (y : Noted (List ℕ)). Under y.note (a ∷ b ∷ [])) (some-injective (noted (zeros 1) []) v e) (nothing_seen a b)
seen_at a b (suc (suc j)) v e = absurd (some-ne-none v (sym e))

pub rising : (words : List ℕ) (hub a b : ℕ) (frames : List ℕ) → hub ≤ a + b → frames ≡ a ∷ b ∷ [] → Grown 2 (whole words hub frames (starts zeros 0 2))
rising words hub a b frames few e = subst (λ (fs : List ℕ). Grown 2 (whole words hub fs (starts zeros 0 2))) (sym e)
    record { wide = refl; most = omega arith; seen = seen_at a b }

own_at : (w j : ℕ) (v : Noted Own) → get_elem? (noted (0, w) [] ∷ noted (1, w) [] ∷ []) j ≡ some v → (v.note.0 ≡ j) × (v.note.1 ≡ w)
own_at w zero v e = let p = some-injective (noted (0, w) []) v e in (sym (ap (λ (y : Noted Own). y.note.0) p), sym (ap (λ (y : Noted Own). y.note.1) p))
own_at w (suc zero) v e = let p = some-injective (noted (1, w) []) v e in (sym (ap (λ (y : Noted Own). y.note.0) p), sym (ap (λ (y : Noted Own). y.note.1) p))
own_at w (suc (suc j)) v e = absurd (some-ne-none v (sym e))

word_at : (w j : ℕ) (rest : List ℕ) → j < 2 → get_or (w ∷ w ∷ rest) j 0 ≡ w
word_at w zero rest l = refl
word_at w (suc zero) rest l = refl
word_at w (suc (suc j)) rest l = absurd (omega arith)

abbrev tens : List ℕ
tens = 0 ∷ 0 ∷ 0 ∷ 0 ∷ 0 ∷ 0 ∷ 0 ∷ 0 ∷ 0 ∷ 0 ∷ []

pub kept : (w : ℕ) (hub : ℕ) (frames states : List ℕ) → states ≡ w ∷ w ∷ [] → Kept 2 (whole (first_words states 2) hub frames (starts (λ j. (j, w)) 0 2))
kept w hub frames states e = subst (λ (ws : List ℕ). Kept 2 (whole (first_words ws 2) hub frames (starts (λ j. (j, w)) 0 2))) (sym e)
    record {
      wide = omega arith;
      number = λ j v h. (own_at w j v h).0;
      own = λ j v h l. word_at w j tens l ∙ sym (own_at w j v h).1;
    }

pub keeper : {A : Type 0} (t : Latched A ℕ ℕ (Hazards Own)) (w j : ℕ) (s : Seat A ℕ ℕ (Hazards Own)) → (shape_of t).frames ≡ 2 → (shape_of t).seats ≡ 2 → j < 2
    → IsFresh (beginning (λ (z : Shape) (i : ℕ). (i, w)) (shape_of t)) t j s → IsKeeper t s w
keeper t w j s frames seats l f = record {
  session = fresh_session (λ (z : Shape) (i : ℕ). (i, w)) t j s f (omega arith);
  idle = f.2;
  note = ap (λ (z : Hazards Own). z.note) f.3 ∙ (λ i. (sym f.1 i, w));
  frames = frames;
  seats = seats;
}
