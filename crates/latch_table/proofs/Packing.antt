-- The hub and the frames as parts, and again by themselves.
use Rattle.std.proofs.Common.{◌≡◌, suc, ◌≤◌, List, [], ◌∷◌, ◌++◌, map, length, reverse, sym, refl, ap, ◌∙◌, arith}
use mathlib.Core.List.{append-nil, append_assoc}
use Rattle.std.proofs.lemmas.List.{reverse-append, length-append, length-map}
use Rattle.pool_law.specs.declared.part.Part.{Part}
use Rattle.pool_law.specs.declared.part.Part.TheVariants.{Hub, Frame, Gone}

abbrev head_or : {A : Type 0} → A → List A → A
head_or d [] = d
head_or d (x ∷ xs) = x

abbrev tail_of : {A : Type 0} → List A → List A
tail_of [] = []
tail_of (x ∷ xs) = xs

module _ {H F : Type 0} where
  -- the frames of `all` that are no longer in fs are in ps, the last one first
  abbrev pub Packs : List F → List F → List (Part H F) → Type 0
  Packs all fs ps = (rest : List F) × (all ≡ fs ++ rest) × (reverse ps ≡ map Frame rest)

  pub packs_more : (all fs less : List F) (x : F) (ps : List (Part H F)) → fs ≡ less ++ x ∷ [] → Packs all fs ps → Packs all less (ps ++ Frame x ∷ [])
  packs_more all fs less x ps e (rest, a, r) = (
    x ∷ rest,
    a ∙ (ap (λ l. l ++ rest) e ∙ append_assoc less (x ∷ []) rest),
    reverse-append ps (Frame x ∷ []) ∙ ap (λ l. Frame x ∷ l) r,
  )

  pub packed : (h : H) (all fs : List F) (ps : List (Part H F)) → fs ≡ [] → Packs all fs ps → reverse (ps ++ Hub h ∷ []) ≡ Hub h ∷ map Frame all
  packed h all fs ps none_left (rest, a, r) = reverse-append ps (Hub h ∷ []) ∙ ap (λ l. Hub h ∷ l) (r ∙ ap (λ l. map Frame l) (sym (a ∙ ap (λ l. l ++ rest) none_left)))

  next : (all fs : List F) (ps less : List (Part H F)) (p : Part H F) (rest : List F) → all ≡ fs ++ rest → p ∷ reverse less ≡ map Frame rest → (x : F) × (p ≡ Frame x) × Packs all (fs ++ x ∷ []) less
  next all fs ps less p [] a e = absurd (let n = ap length e in omega arith)
  next all fs ps less p (x ∷ rest) a e = (x, ap (head_or p) e, (rest, a ∙ sym (append_assoc fs (x ∷ []) rest), ap tail_of e))

  pub unpacks : (all fs : List F) (ps less : List (Part H F)) (p : Part H F) → ps ≡ less ++ p ∷ [] → Packs all fs ps → (x : F) × (p ≡ Frame x) × Packs all (fs ++ x ∷ []) less
  unpacks all fs ps less p e (rest, a, r) = next all fs ps less p rest a (sym (reverse-append less (p ∷ [])) ∙ (ap reverse (sym e) ∙ r))

  none_left : (rest : List F) → [] ≡ map {B = Part H F} Frame rest → rest ≡ []
  none_left [] e = refl
  none_left (x ∷ rest) e = absurd (let n = ap length e in omega arith)

  pub unpacked : (all fs : List F) (ps : List (Part H F)) → ps ≡ [] → Packs all fs ps → fs ≡ all
  unpacked all fs ps e (rest, a, r) = sym (a ∙ (ap (λ l. fs ++ l) (none_left rest (ap reverse (sym e) ∙ r)) ∙ append-nil fs))

  -- fewer are out than there are in all
  pub fits : (all fs : List F) (ps : List (Part H F)) → Packs all fs ps → length fs ≤ length all
  fits all fs ps (rest, a, r) = let n = ap length a in let m = length-append fs rest in omega arith

  abbrev hub_or : H → Part H F → H
  hub_or d (Hub h) = h
  hub_or d (Frame f) = d
  hub_or d Gone = d

  abbrev frame_by : F → Part H F → F
  frame_by d (Hub h) = d
  frame_by d (Frame f) = f
  frame_by d Gone = d

  pub same_hub : (x y : H) → Path (Part H F) (Hub x) (Hub y) → x ≡ y
  same_hub x y e = ap (hub_or x) e

  pub same_frame : (x y : F) → Path (Part H F) (Frame x) (Frame y) → x ≡ y
  same_frame x y e = ap (frame_by x) e

  same_frames : (xs ys : List F) → Path (List (Part H F)) (map Frame xs) (map Frame ys) → xs ≡ ys
  same_frames [] [] e = refl
  same_frames [] (y ∷ ys) e = absurd (let n = ap length e in omega arith)
  same_frames (x ∷ xs) [] e = absurd (let n = ap length e in omega arith)
  same_frames (x ∷ xs) (y ∷ ys) e = λ i. same_frame x y (ap (head_or (Frame x)) e) i ∷ same_frames xs ys (ap tail_of e) i

  pub same_pieces : (h k : H) (xs ys : List F) → Path (List (Part H F)) (Hub h ∷ map Frame xs) (Hub k ∷ map Frame ys) → (h ≡ k) × (xs ≡ ys)
  same_pieces h k xs ys e = (same_hub h k (ap (head_or (Hub h)) e), same_frames xs ys (ap tail_of e))

  pub pack_length : (h : H) (fs : List F) (ps : List (Part H F)) → ps ≡ Hub h ∷ map Frame fs → length ps ≡ suc (length fs)
  pack_length h fs ps e = ap length e ∙ ap suc (length-map fs Frame)
