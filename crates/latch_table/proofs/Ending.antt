-- All seats in one, and what lies in the slots then.
use mathlib.Core.Logic.{dite}
use native.Mathlib.Decide.{ℕ_discrete}
use Rattle.std.proofs.Common.{Bool, false, set, get_or, get_or-set_same, get_or-set_other, ◌≡◌, ◌⊎◌, ℕ, suc, ◌+◌, ◌<◌, List, [], ◌∷◌, ◌++◌, map, length, drop, sym, refl, ap, ◌∙◌, inl, inr, ⊎_elim, arith}
use mathlib.Core.Option.{some, some-injective, some-ne-none}
use mathlib.Core.List.{append-nil, append_assoc}
use lib.ListN.{get_elem?}
use lib.Seq.{drop-length}
use Rattle.std.proofs.lemmas.List.{length-append, length-map}
use Rattle.atomic_table.proofs.Lists.{at_longer, at_last, drop_at}
use Rattle.pool_law.specs.declared.part.Part.{Part}
use Rattle.pool_law.specs.declared.part.Part.TheVariants.{Hub, Frame}
use Rattle.pool_law.specs.Whole.{noted, part_at, Whole}
use Rattle.latch_table.specs.declared.latched.Latched.{Latched}
use Rattle.latch_table.specs.declared.seat.Seat.{Seat}
use Rattle.latch_table.specs.declared.view.View.{View}
use Rattle.latch_table.specs.Rule.{gathering}
use Rattle.latch_table.specs.Seats.{Covers, Leaves}
use Rattle.latch_table.specs.Tables.{shape_of, number_of_seat, note_of}
use Rattle.latch_table.specs.Closing.{AreAll, IsIdle}
use Rattle.latch_table.specs.Ends.{LeavesAll}
use Rattle.latch_table.proofs.Opening.{parts_at}
use Rattle.latch_table.proofs.Seating.{at_end}

module _ {A : Type 0} where
  at_right : (xs ys : List A) (a : ℕ) (x : A) → get_elem? ys a ≡ some x → (b : ℕ) × (get_elem? (xs ++ ys) b ≡ some x)
  at_right [] ys a x e = (a, e)
  at_right (y ∷ xs) ys a x e = let r = at_right xs ys a x e in (suc r.0, r.1)

  same_lists : (xs ys : List A) → length xs ≡ length ys → ((k : ℕ) → k < length xs → get_elem? xs k ≡ get_elem? ys k) → xs ≡ ys
  same_lists [] [] n e = refl
  same_lists [] (y ∷ ys) n e = absurd (omega arith)
  same_lists (x ∷ xs) [] n e = absurd (omega arith)
  same_lists (x ∷ xs) (y ∷ ys) n e = λ i. some-injective x y (e 0 (omega arith)) i ∷ same_lists xs ys (omega arith) (λ k l. e (suc k) (omega arith)) i

module _ {A : Type 0} where
  pub none_of : (xs : List A) → length xs ≡ 0 → xs ≡ []
  none_of [] e = refl
  none_of (x ∷ xs) e = absurd (omega arith)

  pub at_last_of : (xs less : List A) (x : A) → xs ≡ less ++ x ∷ [] → get_elem? xs (length less) ≡ some x
  at_last_of xs less x e = ap (λ l. get_elem? l (length less)) e ∙ at_last less x (length less) refl

module _ {H F : Type 0} where
  pub parts_are : (h : H) (fs : List F) (ps : List (Part H F)) → ((k : ℕ) → k < length ps → get_elem? ps k ≡ some (part_at h fs k)) → length ps ≡ suc (length fs) → ps ≡ Hub h ∷ map Frame fs
  parts_are h fs ps e n =
      let m = length-map {B = Part H F} fs Frame in
      same_lists ps (Hub h ∷ map Frame fs) (omega arith) (λ k l. e k l ∙ sym (parts_at h fs k (omega arith)))

module _ {H F N : Type 0} where
  -- the seat of this number, with this note, is this one or was taken in by it
  abbrev pub IsIn : View H F N → ℕ → N → Type 0
  IsIn v j m = ((j ≡ v.seat) × (m ≡ v.note)) ⊎ ((a : ℕ) × (get_elem? v.gathered a ≡ some (j, m)))

  still_in : (v w : View H F N) (j : ℕ) (m : N) → IsIn v j m → IsIn (gathering v w) j m
  still_in v w j m (inl e) = inl e
  still_in v w j m (inr (a, e)) = let r = at_right w.gathered v.gathered a (j, m) e in inr (suc r.0, r.1)

module _ {L H F N : Type 0} where
  -- those seats that are out are in this one, and the others hold nothing
  pub record Gathers (t : Latched L H F N) (all left : List (Seat L H F N)) (v : View H F N) : Type 0 where
    pub idle : (a : ℕ) (s : Seat L H F N) → get_elem? left a ≡ some s → IsIdle t s
    pub each : (a : ℕ) (s : Seat L H F N) → get_elem? all a ≡ some s → (get_elem? left a ≡ some s) ⊎ IsIn v (number_of_seat s) (note_of s)

  pub last_idle : (t : Latched L H F N) (all left less : List (Seat L H F N)) (s : Seat L H F N) (v : View H F N) → left ≡ less ++ s ∷ [] → Gathers t all left v → IsIdle t s
  last_idle t all left less s v e g = g.idle (length less) s (ap (λ l. get_elem? l (length less)) e ∙ at_last less s (length less) refl)

  pub gathers_first : (t : Latched L H F N) (all less : List (Seat L H F N)) (s : Seat L H F N) → all ≡ less ++ s ∷ [] → AreAll t all → Gathers t all less s.raw.me.0
  gathers_first t all less s e r = record {
    idle = λ a u h. r.idle a u (ap (λ l. get_elem? l a) e ∙ at_longer less (s ∷ []) a u h);
    each = λ a u h. ⊎_elim inl (λ (q : (a ≡ length less) × (s ≡ u)). inr (inl (ap number_of_seat (sym q.1), ap note_of (sym q.1)))) (at_end less s u a (ap (λ l. get_elem? l a) (sym e) ∙ h));
  }

  pub gathers_more : (t : Latched L H F N) (all left less : List (Seat L H F N)) (s : Seat L H F N) (v : View H F N) → left ≡ less ++ s ∷ [] → Gathers t all left v → Gathers t all less (gathering v s.raw.me.0)
  gathers_more t all left less s v e g = record {
    idle = λ a u h. g.idle a u (ap (λ l. get_elem? l a) e ∙ at_longer less (s ∷ []) a u h);
    each = λ a u h. ⊎_elim
        (λ (k : get_elem? left a ≡ some u). ⊎_elim inl
        (λ (q : (a ≡ length less) × (s ≡ u)). inr (inr (0, (λ i. some (number_of_seat (q.1 i), note_of (q.1 i))))))
        (at_end less s u a (ap (λ l. get_elem? l a) (sym e) ∙ k)))
        (λ k. inr (still_in v s.raw.me.0 (number_of_seat u) (note_of u) k))
        (g.each a u h);
  }

  all_in : (t : Latched L H F N) (all left : List (Seat L H F N)) (v : View H F N) → left ≡ [] → Gathers t all left v → (a : ℕ) (s : Seat L H F N) → get_elem? all a ≡ some s → IsIn v (number_of_seat s) (note_of s)
  all_in t all left v e g a s h = ⊎_elim (λ (k : get_elem? left a ≡ some s). absurd (some-ne-none s (sym k ∙ ap (λ l. get_elem? l a) e))) (λ k. k) (g.each a s h)

  pub covers : (t : Latched L H F N) (all left : List (Seat L H F N)) (v : View H F N) → left ≡ [] → AreAll t all → Gathers t all left v → Covers (shape_of t).seats v
  covers t all left v e r g j l =
      let p = r.each j l in
      ⊎_elim
      (λ (q : (number_of_seat p.1 ≡ v.seat) × (note_of p.1 ≡ v.note)). inl (sym p.3 ∙ q.0))
      (λ (q : (a : ℕ) × (get_elem? v.gathered a ≡ some (number_of_seat p.1, note_of p.1))). inr (q.0, note_of p.1, q.1 ∙ ap (λ (i : ℕ). some (i, note_of p.1)) p.3))
      (all_in t all left v e g p.0 p.1 p.2)

  pub leaves_all : (joint : Whole H F N → Type 0) (t : Latched L H F N) (all left : List (Seat L H F N)) (v : View H F N) (ws : List ℕ) (ps : List (Part H F)) → left ≡ [] → Gathers t all left v
      → Leaves joint v ws ps → LeavesAll joint all ws ps
  leaves_all joint t all left v ws ps e g (x, kept, at, count, words, wide, mine, others) = (
    x,
    kept,
    parts_are x.hub x.frames ps at count,
    words,
    wide,
    (λ a s h. ⊎_elim
        (λ (q : (number_of_seat s ≡ v.seat) × (note_of s ≡ v.note)). ap (λ (i : ℕ). get_elem? x.seats i) q.0 ∙ (mine ∙ ap (λ (n : N). some (noted n [])) (sym q.1)))
        (λ (q : (b : ℕ) × (get_elem? v.gathered b ≡ some (number_of_seat s, note_of s))). others q.0 (number_of_seat s) (note_of s) q.1)
        (all_in t all left v e g a s h)),
  )

module _ {H F : Type 0} where
  abbrev head_or : Part H F → List (Part H F) → Part H F
  head_or d [] = d
  head_or d (x ∷ xs) = x

  abbrev tail_of : List (Part H F) → List (Part H F)
  tail_of [] = []
  tail_of (x ∷ xs) = xs

  -- the frames of `all` but those in fs lie in ps from the place i on
  abbrev pub LeftFrom : List F → List F → List (Part H F) → ℕ → Type 0
  LeftFrom all fs ps i = (rest : List F) × (all ≡ fs ++ rest) × (drop i ps ≡ map Frame rest)

  next : (all fs : List F) (ps : List (Part H F)) (i : ℕ) (p : Part H F) (rest : List F) → all ≡ fs ++ rest → p ∷ drop (suc i) ps ≡ map Frame rest
      → (x : F) × (p ≡ Frame x) × LeftFrom all (fs ++ x ∷ []) ps (suc i)
  next all fs ps i p [] a e = absurd (let n = ap length e in omega arith)
  next all fs ps i p (x ∷ rest) a e = (x, ap (head_or p) e, (rest, a ∙ sym (append_assoc fs (x ∷ []) rest), ap tail_of e))

  -- the part at the place i is the next frame
  pub takes_next : (all fs : List F) (ps : List (Part H F)) (i : ℕ) (p : Part H F) → get_elem? ps i ≡ some p → LeftFrom all fs ps i → (x : F) × (p ≡ Frame x) × LeftFrom all (fs ++ x ∷ []) ps (suc i)
  takes_next all fs ps i p e (rest, a, r) = next all fs ps i p rest a (sym (drop_at ps i p e) ∙ r)

  none_left : (rest : List F) → [] ≡ map {B = Part H F} Frame rest → rest ≡ []
  none_left [] e = refl
  none_left (x ∷ rest) e = absurd (let n = ap length e in omega arith)

  pub took_all : (all fs : List F) (ps : List (Part H F)) (i : ℕ) → i ≡ length ps → LeftFrom all fs ps i → fs ≡ all
  took_all all fs ps i e (rest, a, r) = sym (a ∙ (ap (λ l. fs ++ l) (none_left rest (sym (ap (λ (k : ℕ). drop k ps) e ∙ drop-length ps) ∙ r)) ∙ append-nil fs))

  -- fewer are taken than there are in all, while a place is left
  pub room_left : (all fs : List F) (ps : List (Part H F)) (i : ℕ) (p : Part H F) → get_elem? ps i ≡ some p → LeftFrom all fs ps i → length fs < length all
  room_left all fs ps i p e l =
      let t = takes_next all fs ps i p e l in
      let r = t.2 in
      let n = ap length r.1 in
      let m = length-append (fs ++ t.0 ∷ []) r.0 in
      let k = length-append fs (t.0 ∷ []) in omega arith

module _ {L H F N : Type 0} where
  pub some_word : (t : Latched L H F N) (seats : List (Seat L H F N)) → AreAll t seats → 0 < (shape_of t).seats → 0 < t.table.shared.table_id.slots → 0 < t.table.shared.table_id.words
  some_word t seats r seat pieces = let p = r.each 0 seat in let w = (r.idle p.0 p.1 p.2).0.wide in omega arith

pub emptied : (fs gs : List Bool) (i : ℕ) → gs ≡ set fs i false → i < length fs → ((k : ℕ) → k < i → get_or fs k false ≡ false) → (k : ℕ) → k < i + 1 → get_or gs k false ≡ false
emptied fs gs i e l before k h = dite (ℕ_discrete k i)
    (λ is. ap (λ (b : List Bool). get_or b k false) e ∙ (ap (λ (j : ℕ). get_or (set fs i false) j false) is ∙ get_or-set_same fs i false false l))
    (λ ne. ap (λ (b : List Bool). get_or b k false) e ∙ (get_or-set_other fs i k false false ne ∙ before k (omega arith)))
