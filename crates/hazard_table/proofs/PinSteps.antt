-- A pin is a publish and a validate, and a clear where the frame's word was another.
use Rattle.std.proofs.Common.{◌≡◌, ℕ, zero, suc, ◌<◌, List, [], ◌∷◌, length, map, set, refl, sym, ap, ◌∙◌, subst, inl, inr, arith}
use mathlib.Core.Option.{some}
use lib.ListN.{get_elem?}
use Rattle.pool_law.specs.Whole.{Noted, noted}
use Rattle.latch_table.specs.declared.seat.Seat.{Seat}
use Rattle.latch_table.specs.Rule.{number}
use Rattle.latch_table.specs.Tables.{SamePieces, knows, note_of}
use Rattle.hazard_law.specs.declared.known.Hazards.{Hazards}
use Rattle.hazard_law.specs.declared.known.Mark.{Mark}
use Rattle.hazard_law.specs.declared.known.Mark.TheVariants.{Blank, Names, Pins}
use Rattle.hazard_law.specs.Safety.{Marks, inner, with_mark}
use Rattle.hazard_law.specs.Words.{filled, hazard_word, naming}
use Rattle.pool_law.specs.Asks.{MayTurn}
use Rattle.hazard_table.specs.Asks.{MayPin}
use Rattle.hazard_table.specs.Leaves.{PinsFrame, Unpins, Validates, own_word}
use Rattle.hazard_table.specs.declared.answers.Pinning.TheVariants.{Pinned, Again}

set_twice : {A : Type 0} (l : List A) (i : ℕ) (a b : A) → set (set l i a) i b ≡ set l i b
set_twice [] i a b = refl
set_twice (x ∷ xs) zero a b = refl
set_twice (x ∷ xs) (suc i) a b = ap (λ l. x ∷ l) (set_twice xs i a b)

set_here : {A : Type 0} (l : List A) (i : ℕ) (a : A) → i < length l → get_elem? (set l i a) i ≡ some a
set_here [] i a h = absurd (omega arith)
set_here (x ∷ xs) zero a h = refl
set_here (x ∷ xs) (suc i) a h = set_here xs i a (omega arith)

module _ {A H F N : Type 0} where
  -- what a seat knows after a step that leaves this note and moves no piece
  pub knows_after : (s t : Seat A H F (Hazards N)) (h : Hazards N) → note_of t ≡ h → SamePieces s t → knows t ≡ noted h (knows s).held
  knows_after s t h e same = λ j. noted (e j) (map number (same.0 j))

module _ {N : Type 0} where
  mark_twice : (h : Hazards N) (k l : N) (w : ℕ) (a b : Mark) → with_mark (with_mark h k w a) l w b ≡ with_mark h l w b
  mark_twice h k l w a b = λ j. record { note = l; seat = h.seat; shape = h.shape; marks = set_twice h.marks w a b j; locks = h.locks; last_word = w; last_frame = h.last_frame }

  pub named_here : (h a : Hazards N) (k : N) (w f : ℕ) → w < 5 → length h.marks ≡ 5 → a ≡ with_mark h k w (Names f) → Marks a w (Names f)
  named_here h a k w f five count e = subst (λ (z : Hazards N). Marks z w (Names f)) (sym e) (set_here h.marks w (Names f) (omega arith))

module _ {N : Type 0} (finds : Noted N → ℕ → ℕ → Type 0) (turns : Noted N → ℕ → ℕ → ℕ → N → Type 0) (v u : Noted (Hazards N)) (w f m : ℕ) (k : N)
    (e : u ≡ noted (with_mark v.note k w (Names f)) v.held) (named : turns (inner v) (own_word v w) m (naming f) k) where
  pub may_validate_next : MayPin finds turns (inner v) (own_word v w) f → MayTurn finds turns (inner u) f (λ r. r)
  may_validate_next may = subst (λ (z : Noted (Hazards N)). MayTurn finds turns (inner z) f (λ r. r)) (sym e) (may.validate m k named)

  -- what a look that did not pin leaves
  record Looked (h : Hazards N) (seen : ℕ) : Type 0 where
    pub note : N
    pub step : turns (noted k v.held) f seen seen note
    pub is : h.note ≡ note
    pub word : hazard_word h.shape.frames h.seat w ≡ own_word v w
    pub blank : (x : N) → with_mark h x w Blank ≡ with_mark v.note x w Blank

  blank_after : (x : N) → with_mark u.note x w Blank ≡ with_mark v.note x w Blank
  blank_after x = ap (λ (z : Noted (Hazards N)). with_mark z.note x w Blank) e ∙ mark_twice v.note k x w (Names f) Blank

  looked_of : (h : Hazards N) (g seen : ℕ) → Validates turns u h w f g (Again seen) → Looked h seen
  looked_of h g seen (ne, inl (l, t, d)) = record {
    note = l;
    step = subst (λ (z : Noted (Hazards N)). turns (inner z) f seen seen l) e t;
    is = ap (λ (z : Hazards N). z.note) d;
    word = (λ j. hazard_word (d j).shape.frames (d j).seat w) ∙ ap (λ (z : Noted (Hazards N)). own_word z w) e;
    blank = λ x. ap (λ (z : Hazards N). with_mark z x w Blank) d ∙ blank_after x;
  }
  looked_of h g seen (ne, inr (p, is, (l, t, d))) = record {
    note = l;
    step = subst (λ (z : Noted (Hazards N)). turns (inner z) f seen seen l) e t;
    is = ap (λ (z : Hazards N). z.note) d;
    word = (λ j. hazard_word (d j).shape.frames (d j).seat w) ∙ ap (λ (z : Noted (Hazards N)). own_word z w) e;
    blank = λ x. ap (λ (z : Hazards N). with_mark z x w Blank) d ∙ (mark_twice u.note l x w (Pins f p) Blank ∙ blank_after x);
  }

  held_same : u.held ≡ v.held
  held_same = ap (λ (z : Noted (Hazards N)). z.held) e

  inner_after : (x : Noted (Hazards N)) (h : Hazards N) (seen : ℕ) → x ≡ noted h u.held → (l : Looked h seen) → inner x ≡ noted l.note v.held
  inner_after x h seen d l = ap (λ (z : Noted (Hazards N)). inner z) d ∙ (λ j. noted (l.is j) (held_same j))

  pub may_clear_next : (x : Noted (Hazards N)) (h : Hazards N) (g seen : ℕ) → MayPin finds turns (inner v) (own_word v w) f → x ≡ noted h u.held → Validates turns u h w f g (Again seen)
      → MayTurn finds turns (inner x) (own_word x w) (λ r. 0)
  may_clear_next x h g seen may d a =
      let l = looked_of h g seen a in
      let word : own_word x w ≡ own_word v w = ap (λ (z : Noted (Hazards N)). own_word z w) d ∙ l.word in
      subst (λ (z : Noted N). MayTurn finds turns z (own_word x w) (λ r. 0)) (sym (inner_after x h seen d l))
      (subst (λ (i : ℕ). MayTurn finds turns (noted l.note v.held) i (λ r. 0)) (sym word) (may.clear m seen k l.note named l.step))

  pub pins : (h : Hazards N) (g : ℕ) → Validates turns u h w f g Pinned → PinsFrame turns v h w f g Pinned
  pins h g (l, t, d) = (
    m,
    k,
    l,
    named,
    subst (λ (z : Noted (Hazards N)). turns (inner z) f (filled g) (filled g) l) e t,
    d ∙ (ap (λ (z : Noted (Hazards N)). with_mark z.note l w (Pins f g)) e ∙ mark_twice v.note k l w (Names f) (Pins f g)),
  )

  pub pins_not : (x : Noted (Hazards N)) (h after : Hazards N) (g seen : ℕ) → x ≡ noted h u.held → Validates turns u h w f g (Again seen) → Unpins turns x after w
      → PinsFrame turns v after w f g (Again seen)
  pins_not x h after g seen d a (p, (q, t, b)) =
      let l = looked_of h g seen a in
      let word : own_word x w ≡ own_word v w = ap (λ (z : Noted (Hazards N)). own_word z w) d ∙ l.word in (
        a.0,
        (
          m,
          p,
          k,
          l.note,
          q,
          named,
          l.step,
          subst (λ (z : Noted N). turns z (own_word v w) p 0 q) (inner_after x h seen d l) (subst (λ (i : ℕ). turns (inner x) i p 0 q) word t),
          b ∙ (ap (λ (z : Noted (Hazards N)). with_mark z.note q w Blank) d ∙ l.blank q),
        ),
      )
