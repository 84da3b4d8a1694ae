-- The law of the words beside any law of the pieces.
use Rattle.std.proofs.Common.{◌≡◌, ℕ, zero, suc, List, ◌∷◌, length, get_or, set, sym, refl, ap, ◌∙◌, subst, inl, inr, ⊎_elim, length-set}
use lib.ListN.{get_elem?}
use Rattle.pool_law.specs.declared.part.Part.{Part}
use Rattle.pool_law.specs.declared.part.Part.TheVariants.{Hub, Frame, Gone}
use Rattle.pool_law.specs.Whole.{Noted, noted, frames_after, hub_after, Whole, whole, Holds, IsFree, IsOnly}
use Rattle.pool_law.specs.Obligations.{LatchKeeps, PutKeeps, FindHolds, TurnKeeps}
use Rattle.hazard_law.specs.declared.known.Hazards.{Hazards}
use Rattle.hazard_law.specs.Words.{filled, locked, hazard_word}
use Rattle.hazard_law.specs.Safety.{with_note, Safe, inner, inner_whole, Both, Finds, Turns, looks, publishes, validates, clears, locks_frame, scans, unlocks, frees, fills, MayLatch, Told, Puts}
use Rattle.hazard_law.proofs.Lists.{at_map, mapped, map_set}
use Rattle.hazard_law.proofs.Safe.{notes}
use Rattle.hazard_law.proofs.Steps.{turned_safe}

put_count : {H F : Type 0} (fs : List F) (k : ℕ) (y : Part H F) → length (frames_after fs k y) ≡ length fs
put_count fs zero y = refl
put_count fs (suc k) (Hub g) = refl
put_count fs (suc k) (Frame f) = length-set fs k f
put_count fs (suc k) Gone = refl

module _ {N : Type 0} (turns : Noted N → ℕ → ℕ → ℕ → N → Type 0) (v : Noted (Hazards N)) (i m n : ℕ) (after : Hazards N) where
  follows : (h : Hazards N) → after ≡ h → turns (inner v) i m n h.note → turns (inner v) i m n after.note
  follows h e t = subst (λ (x : Hazards N). turns (inner v) i m n x.note) (sym e) t

  -- the step as the law of the pieces sees it
  pub beside : Turns turns v i m n after → turns (inner v) i m n after.note
  beside (looks k a t e) = follows _ e t
  beside (publishes w f k a b c t e) = follows _ e t
  beside (validates w f g k a b c d l t e) = follows _ e t
  beside (clears w k a b c t e) = follows _ e t
  beside (locks_frame f g k a b c d t e) = follows _ e t
  beside (scans f g c d p k l r a b o z t e) = follows _ e t
  beside (unlocks f g c k l a b t e) = follows _ e t
  beside (frees f g k l a b t e) = follows _ e t
  beside (fills f g k l a b c t e) = follows _ e t

module _ {H F N : Type 0} (joint : Whole H F N → Type 0) where
  abbrev W : Type 0
  W = Whole H F (Hazards N)

  free_inner : (x : W) (k : ℕ) → IsFree k x → IsFree k (inner_whole joint x)
  free_inner x k free j w at held = let m = mapped inner x.seats j w at in free j m.0 m.1 (subst (λ (y : Noted N). Holds k y.held) (sym m.2) held)

  only_inner : (x : W) (id k : ℕ) → IsOnly id k x → IsOnly id k (inner_whole joint x)
  only_inner x id k only j a w at held = let m = mapped inner x.seats j w at in only j a m.0 m.1 (ap (λ (y : Noted N). get_elem? y.held a) m.2 ∙ held)

  pub latches_beside : (may : Noted N → ℕ → Type 0) (told : Noted N → ℕ → Part H F → N → Type 0) → LatchKeeps joint may told → LatchKeeps (Both joint) (MayLatch may) (Told told)
  latches_beside may told law x id v k b at ok fit free =
      let r = law (inner_whole joint x) id (inner v) k b.1 (at_map inner x.seats id v at) ok fit (free_inner x k free) in
      let h = with_note v.note r.0 in (
        h,
        (r.1, refl),
        (
          notes (length x.frames) x.words x.seats id v at b.0 r.0 (k ∷ v.held),
          subst (λ (ss : List (Noted N)). joint (whole x.words x.hub x.frames ss)) (sym (map_set inner x.seats id (noted h (k ∷ v.held)))) r.2,
        ),
      )

  pub puts_beside : (puts : Noted N → ℕ → Part H F → Part H F → N → Type 0) → PutKeeps joint puts → PutKeeps (Both joint) (Puts puts)
  puts_beside puts law x id v k rest y h b at held only fit fits p =
      let j = law (inner_whole joint x) id (inner v) k rest y h.note b.1 (at_map inner x.seats id v at) held (only_inner x id k only) fit fits p.0 in (
        subst (λ (n : ℕ). Safe n x.words (set x.seats id (noted h rest))) (sym (put_count x.frames k y))
            (subst (λ (g : Hazards N). Safe (length x.frames) x.words (set x.seats id (noted g rest))) (sym p.1) (notes (length x.frames) x.words x.seats id v at b.0 h.note rest)),
        subst (λ (ss : List (Noted N)). joint (whole x.words (hub_after x.hub k y) (frames_after x.frames k y) ss)) (sym (map_set inner x.seats id (noted h rest))) j,
      )

  pub finds_beside : (finds : Noted N → ℕ → ℕ → Type 0) → FindHolds joint finds → FindHolds (Both joint) (Finds finds)
  finds_beside finds law x id v i b at = let s = b.0 in let own = s.numbered id v at in record {
    beside = law (inner_whole joint x) id (inner v) i b.1 (at_map inner x.seats id v at);
    pinned = λ w f g e m. ⊎_elim
        (λ (a : get_or x.words f 0 ≡ filled g). inl (ap (λ (y : ℕ). get_or x.words y 0) e ∙ a))
        (λ (a : get_or x.words f 0 ≡ locked g). inr (ap (λ (y : ℕ). get_or x.words y 0) e ∙ a))
        (s.pinned id w f g v at m).2;
    locked_by = λ f g c e m. ap (λ (y : ℕ). get_or x.words y 0) e ∙ (s.locks id f g c v at m).1;
    named = λ w f e m. ap (λ (y : ℕ). get_or x.words y 0) (e ∙ (λ t. hazard_word (own.1 t) (own.0 t) w)) ∙ s.names id w f v at m;
  }

  pub turns_beside : (turns : Noted N → ℕ → ℕ → ℕ → N → Type 0) → TurnKeeps joint turns → TurnKeeps (Both joint) (Turns turns)
  turns_beside turns law x id v i n h b at t =
      let j = law (inner_whole joint x) id (inner v) i n h.note b.1 (at_map inner x.seats id v at) (beside turns v i (get_or x.words i 0) n h t) in (
        turned_safe (length x.frames) x.words x.seats id v at b.0 turns i n h v.held t,
        subst (λ (ss : List (Noted N)). joint (whole (set x.words i n) x.hub x.frames ss)) (sym (map_set inner x.seats id (noted h v.held))) j,
      )
