-- The rule holds of a new table.
use Rattle.std.proofs.Common.{◌≡◌, ℕ, zero, suc, ◌+◌, ◌<◌, List, [], ◌∷◌, ◌++◌, map, length, replicate, get_or, drop, sym, refl, ap, ◌∙◌, subst, inl, arith}
use mathlib.Core.Option.{Option, some, some-injective, some-ne-none}
use lib.ListN.{get_elem?}
use Rattle.std.proofs.lemmas.List.{length-append, length-map, length-replicate}
use Rattle.atomic_table.specs.Table.{opening}
use Rattle.atomic_table.proofs.Lists.{at_map}
use Rattle.pool_law.specs.declared.part.Part.{Part}
use Rattle.pool_law.specs.declared.shape.Shape.{Shape}
use Rattle.pool_law.specs.declared.part.Part.TheVariants.{Hub, Frame}
use Rattle.pool_law.specs.Whole.{Noted, noted, part_at, frame_or, Whole, whole}
use Rattle.latch_table.specs.declared.view.View.{View}
use Rattle.latch_table.specs.Rule.{known, newcomer, starts, Has, Stands}
use Rattle.latch_table.specs.Seats.{Begins}

zeros : (n : ℕ) (ws : List ℕ) (k : ℕ) → k < n → get_or (replicate n 0 ++ ws) k 0 ≡ 0
zeros zero ws k l = absurd (omega arith)
zeros (suc n) ws zero l = refl
zeros (suc n) ws (suc k) l = zeros n ws k (omega arith)

after_zeros : (n : ℕ) (ws : List ℕ) → drop n (replicate n 0 ++ ws) ≡ ws
after_zeros zero ws = refl
after_zeros (suc n) ws = after_zeros n ws

module _ {N : Type 0} (start : ℕ → N) where
  starts_length : (j n : ℕ) → length (starts start j n) ≡ n
  starts_length j zero = refl
  starts_length j (suc n) = ap suc (starts_length (suc j) n)

  starts_at : (i n j : ℕ) → j < n → get_elem? (starts start i n) j ≡ some (noted (start (i + j)) [])
  starts_at i zero j l = absurd (omega arith)
  starts_at i (suc n) zero l = ap (λ (k : ℕ). some (noted (start k) [])) (let e : i ≡ i + 0 = omega arith in e)
  starts_at i (suc n) (suc j) l = starts_at (suc i) n j (omega arith) ∙ ap (λ (k : ℕ). some (noted (start k) [])) (let e : suc i + j ≡ i + suc j = omega arith in e)

  starts_held : (i n j : ℕ) (w : Noted N) → get_elem? (starts start i n) j ≡ some w → w.held ≡ []
  starts_held i zero j w e = absurd (some-ne-none w (sym e))
  starts_held i (suc n) zero w e = ap (λ (v : Noted N). v.held) (sym (some-injective (noted (start i) []) w e))
  starts_held i (suc n) (suc j) w e = starts_held (suc i) n j w e

module _ {H F : Type 0} where
  frames_at : (gs : List F) (k : ℕ) → k < length gs → get_elem? {A = Part H F} (map Frame gs) k ≡ some (frame_or (get_elem? gs k))
  frames_at [] k l = absurd (omega arith)
  frames_at (g ∷ gs) zero l = refl
  frames_at (g ∷ gs) (suc k) l = frames_at gs k (omega arith)

  pub parts_at : (h : H) (fs : List F) (k : ℕ) → k < suc (length fs) → get_elem? (Hub h ∷ map Frame fs) k ≡ some (part_at h fs k)
  parts_at h fs zero l = refl
  parts_at h fs (suc k) l = frames_at fs k (omega arith)

module _ {H F N : Type 0} (shape : Shape) (start : ℕ → N) (total : ℕ) (joint : Whole H F N → Type 0) where
  nothing_held : (j a : ℕ) (x : ℕ × Part H F) → Has (newcomer (start 0) shape 0 1 ∷ []) j a x → ⊥
  nothing_held zero a x (v, at, e) = some-ne-none x (sym e ∙ ap (λ (y : View H F N). get_elem? y.held a) (sym (some-injective (newcomer (start 0) shape 0 1) v at)))
  nothing_held (suc j) a x (v, at, e) = some-ne-none v (sym at)

  pub opens : (ws : List ℕ) (ps : List (Part H F)) → Begins start total joint ws ps → Stands start total joint (opening ws ps (newcomer (start 0) shape 0 1))
  opens ws ps b =
      let n : ℕ = suc (length b.frames) in
      let long : length ps ≡ n = ap length b.parts_are ∙ ap suc (length-map b.frames Frame) in
      let homes : length (map {B = Option (Part H F)} some ps) ≡ n = length-map ps some ∙ long in
      let zero_at : (k : ℕ) → k < n → get_or ws k 0 ≡ 0 = λ k l. ap (λ (l : List ℕ). get_or l k 0) b.words_are ∙ zeros n b.further k l in
      let wide : length ws ≡ n + length b.further = ap length b.words_are ∙ (length-append (replicate n 0) b.further ∙ ap (λ (z : ℕ). z + length b.further) (length-replicate n 0)) in
      let some_seat = b.some_seat in
      record {
        hub = b.hub;
        frames = b.frames;
        notes = starts start 0 total;
        count = homes;
        wide = omega arith;
        bits = λ k l. let z = zero_at k (omega arith) in omega arith;
        home = λ k l z. at_map some ps k (part_at b.hub b.frames k) (ap (λ (q : List (Part H F)). get_elem? q k) b.parts_are ∙ parts_at b.hub b.frames k (omega arith));
        out = λ j a k p h. absurd (nothing_held j a (k, p) h);
        one = λ i j a c k p q h g. absurd (nothing_held i a (k, p) h);
        gone = λ k l e. let z = zero_at k (omega arith) in absurd (omega arith);
        live = λ j v e alive. lives j v e;
        owner = λ j w e. inl (starts_held start 0 total j w e);
        seated = record {
          total = starts_length start 0 total;
          few = omega arith;
          made = λ v e alive. ap (λ (y : View H F N). y.made) (sym (some-injective (newcomer (start 0) shape 0 1) v e));
          numbered = λ j v e alive. numbers j v e;
          idle = λ j v e gone. idles j v e;
          waiting = λ j l h. starts_at start 0 total j h ∙ ap (λ (k : ℕ). some (noted (start k) [])) (let e : 0 + j ≡ j = omega arith in e);
          gathered = λ i v a j m e g. absurd (gathers i v a (j, m) e g);
        };
        kept = subst (λ (l : List ℕ). joint (whole l b.hub b.frames (starts start 0 total))) (sym (ap (λ (z : ℕ). drop z ws) homes ∙ (ap (λ (l : List ℕ). drop n l) b.words_are ∙ after_zeros n b.further))) b.kept;
      } where
        lives : (j : ℕ) (v : View H F N) → get_elem? (newcomer (start 0) shape 0 1 ∷ []) j ≡ some v → get_elem? (starts start 0 total) j ≡ some (known v)
        lives zero v e = starts_at start 0 total 0 b.some_seat ∙ ap (λ (y : View H F N). some (known y)) (some-injective (newcomer (start 0) shape 0 1) v e)
        lives (suc j) v e = absurd (some-ne-none v (sym e))

        numbers : (j : ℕ) (v : View H F N) → get_elem? (newcomer (start 0) shape 0 1 ∷ []) j ≡ some v → v.seat ≡ j
        numbers zero v e = ap (λ (y : View H F N). y.seat) (sym (some-injective (newcomer (start 0) shape 0 1) v e))
        numbers (suc j) v e = absurd (some-ne-none v (sym e))

        idles : (j : ℕ) (v : View H F N) → get_elem? (newcomer (start 0) shape 0 1 ∷ []) j ≡ some v → v.held ≡ []
        idles zero v e = ap (λ (y : View H F N). y.held) (sym (some-injective (newcomer (start 0) shape 0 1) v e))
        idles (suc j) v e = absurd (some-ne-none v (sym e))

        gathers : (i : ℕ) (v : View H F N) (a : ℕ) (x : ℕ × N) → get_elem? (newcomer (start 0) shape 0 1 ∷ []) i ≡ some v → get_elem? v.gathered a ≡ some x → ⊥
        gathers zero v a x e g = some-ne-none x (sym g ∙ ap (λ (y : View H F N). get_elem? y.gathered a) (sym (some-injective (newcomer (start 0) shape 0 1) v e)))
        gathers (suc i) v a x e g = some-ne-none v (sym e)
