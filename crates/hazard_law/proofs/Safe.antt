-- Each step on a word keeps what holds of the words.
use Rattle.std.proofs.Common.{◌≡◌, ◌⊎◌, ◌≢◌, ℕ, ◌+◌, ◌*◌, ◌<◌, ◌≤◌, List, length, get_or, set, sym, refl, ap, ◌∙◌, subst, inl, inr, ⊎_elim, arith, length-set}
use mathlib.Core.Logic.{dite}
use mathlib.Core.Option.{Option, none, some, some-injective, some-ne-none}
use native.Mathlib.Decide.{ℕ_discrete}
use lib.ListN.{get_elem?}
use Rattle.pool_law.specs.Whole.{Noted, noted}
use Rattle.hazard_law.specs.declared.known.Hazards.{Hazards}
use Rattle.hazard_law.specs.declared.known.Mark.{Mark}
use Rattle.hazard_law.specs.declared.known.Mark.TheVariants.{Blank, Names, Pins}
use Rattle.hazard_law.specs.declared.known.Lock.{Lock}
use Rattle.hazard_law.specs.declared.known.Lock.TheVariants.{Open, Locks}
use Rattle.hazard_law.specs.Words.{empty, filled, locked, hazard_place, hazard_word, naming}
use Rattle.hazard_law.specs.Safety.{Marks, HasLock, with_note, with_mark, with_lock, Safe}
use Rattle.hazard_law.proofs.Lists.{at_set, inside}

abbrev pin_of : Mark → Option (ℕ × ℕ)
pin_of Blank = none
pin_of (Names f) = none
pin_of (Pins f g) = some (f, g)

abbrev name_of : Mark → Option ℕ
name_of Blank = none
name_of (Names f) = some f
name_of (Pins f g) = none

abbrev lock_of : Lock → Option (ℕ × ℕ)
lock_of Open = none
lock_of (Locks g c) = some (g, c)

pub same_pin : (f g a b : ℕ) → Path Mark (Pins f g) (Pins a b) → (f ≡ a) × (g ≡ b)
same_pin f g a b e = let p = some-injective (f, g) (a, b) (ap pin_of e) in ((λ i. (p i).0), (λ i. (p i).1))

pub same_name : (f a : ℕ) → Path Mark (Names f) (Names a) → f ≡ a
same_name f a e = some-injective f a (ap name_of e)

pub same_lock : (g c a b : ℕ) → Path Lock (Locks g c) (Locks a b) → (g ≡ a) × (c ≡ b)
same_lock g c a b e = let p = some-injective (g, c) (a, b) (ap lock_of e) in ((λ i. (p i).0), (λ i. (p i).1))

pub names_no_pin : (f a b : ℕ) → Path Mark (Names f) (Pins a b) → ⊥
names_no_pin f a b e = some-ne-none (a, b) (sym (ap pin_of e))

pub blank_no_pin : (a b : ℕ) → Path Mark Blank (Pins a b) → ⊥
blank_no_pin a b e = some-ne-none (a, b) (sym (ap pin_of e))

pub blank_no_name : (a : ℕ) → Path Mark Blank (Names a) → ⊥
blank_no_name a e = some-ne-none a (sym (ap name_of e))

pub pins_no_name : (f g a : ℕ) → Path Mark (Pins f g) (Names a) → ⊥
pins_no_name f g a e = some-ne-none a (sym (ap name_of e))

pub open_no_lock : (a b : ℕ) → Path Lock Open (Locks a b) → ⊥
open_no_lock a b e = some-ne-none (a, b) (sym (ap lock_of e))

-- the states are apart
pub filled_locked : (r g h : ℕ) → r ≡ filled g → r ≡ locked h → ⊥
filled_locked r g h a b = omega arith

pub empty_filled : (r g h : ℕ) → r ≡ empty g → r ≡ filled h → ⊥
empty_filled r g h a b = omega arith

pub empty_locked : (r g h : ℕ) → r ≡ empty g → r ≡ locked h → ⊥
empty_locked r g h a b = omega arith

pub same_filled : (r g h : ℕ) → r ≡ filled g → r ≡ filled h → g ≡ h
same_filled r g h a b = omega arith

pub same_locked : (r g h : ℕ) → r ≡ locked g → r ≡ locked h → g ≡ h
same_locked r g h a b = omega arith

pub same_seat : (j w i v : ℕ) → w < 5 → v < 5 → 5 * j + w ≡ 5 * i + v → j ≡ i
same_seat j w i v a b e = omega arith

pub same_word : (j w i v : ℕ) → w < 5 → v < 5 → 5 * j + w ≡ 5 * i + v → w ≡ v
same_word j w i v a b e = let s = same_seat j w i v a b e in omega arith

abbrev pub Stays : List ℕ → ℕ → ℕ → Type 0
Stays words f g = (get_or words f 0 ≡ filled g) ⊎ (get_or words f 0 ≡ locked g)

stays : (words after : List ℕ) (f g : ℕ) → get_or after f 0 ≡ get_or words f 0 → Stays words f g → Stays after f g
stays words after f g e (inl a) = inl (e ∙ a)
stays words after f g e (inr a) = inr (e ∙ a)

-- What a step owes of the words after it and of the note h of the seat that steps
pub record Next {N : Type 0} (frames : ℕ) (words after : List ℕ) (seats : List (Noted (Hazards N))) (id : ℕ) (h : Hazards N) : Type 0 where
  pub wide : length after ≡ length words
  pub hazards : (j w : ℕ) → j ≢ id → w < 5 → get_or after (hazard_word frames j w) 0 ≡ get_or words (hazard_word frames j w) 0
  pub own_names : (w f : ℕ) → Marks h w (Names f) → get_or after (hazard_word frames id w) 0 ≡ naming f
  pub own_pins : (w f g : ℕ) → Marks h w (Pins f g) → (f < frames) × (get_or after (hazard_word frames id w) 0 ≡ naming f) × Stays after f g
  pub own_locks : (f g c : ℕ) → HasLock h f (Locks g c) → (f < frames) × (get_or after f 0 ≡ locked g)
  pub pins : (j w f g : ℕ) (u : Noted (Hazards N)) → j ≢ id → get_elem? seats j ≡ some u → Marks u.note w (Pins f g) → Stays after f g
  pub locks : (j f g c : ℕ) (u : Noted (Hazards N)) → j ≢ id → get_elem? seats j ≡ some u → HasLock u.note f (Locks g c) → get_or after f 0 ≡ locked g
  pub alone : (j f g e c d : ℕ) (u : Noted (Hazards N)) → j ≢ id → get_elem? seats j ≡ some u → HasLock h f (Locks g c) → HasLock u.note f (Locks e d) → ⊥
  pub clear_others : (j w f g c : ℕ) (u : Noted (Hazards N)) → j ≢ id → get_elem? seats j ≡ some u → HasLock h f (Locks g c) → hazard_place j w < c → ¬ Marks u.note w (Pins f g)
  pub clear_self : (w f g c : ℕ) → HasLock h f (Locks g c) → hazard_place id w < c → ¬ Marks h w (Pins f g)
  pub clear_by : (i w f g c : ℕ) (u : Noted (Hazards N)) → i ≢ id → get_elem? seats i ≡ some u → HasLock u.note f (Locks g c) → hazard_place id w < c → ¬ Marks h w (Pins f g)

module _ {N : Type 0} (frames : ℕ) (words : List ℕ) (seats : List (Noted (Hazards N))) (id : ℕ) (v : Noted (Hazards N)) (at : get_elem? seats id ≡ some v) (s : Safe frames words seats) where
  abbrev V : Type 0
  V = Noted (Hazards N)

  pub small : (j w : ℕ) (m : Mark) (u : V) → get_elem? seats j ≡ some u → Marks u.note w m → w < 5
  small j w m u e k = let n = (s.numbered j u e).3 in let i = inside u.note.marks w m k in omega arith

  pub steps_to : (after : List ℕ) (h : Hazards N) (held : List ℕ) → h.seat ≡ v.note.seat → h.shape ≡ v.note.shape → length h.marks ≡ length v.note.marks → length h.locks ≡ length v.note.locks
      → Next frames words after seats id h → Safe frames after (set seats id (noted h held))
  steps_to after h held e1 e2 e3 e4 n =
      let new = noted h held in
      let long = length-set seats id new in
      let own = s.numbered id v at in
      record {
        wide = n.wide ∙ (s.wide ∙ ap (λ (k : ℕ). frames + 5 * k) (sym long));
        numbered = λ j u e. ⊎_elim
            (λ (t : (j ≡ id) × (new ≡ u)). subst (λ (y : V). (y.note.seat ≡ j) × (y.note.shape.frames ≡ frames) × (y.note.shape.seats ≡ length (set seats id new)) × (length y.note.marks ≡ 5) × (length y.note.locks ≡ frames)) t.1
            (e1 ∙ (own.0 ∙ sym t.0), ap (λ z. z.frames) e2 ∙ own.1, ap (λ z. z.seats) e2 ∙ (own.2 ∙ sym long), e3 ∙ own.3, e4 ∙ own.4))
            (λ (t : (j ≢ id) × (get_elem? seats j ≡ some u)). let o = s.numbered j u t.1 in (o.0, o.1, o.2 ∙ sym long, o.3, o.4))
            (at_set seats id j new u e);
        names = λ j w f u e m. ⊎_elim
            (λ (t : (j ≡ id) × (new ≡ u)). subst (λ (y : ℕ). get_or after (hazard_word frames y w) 0 ≡ naming f) (sym t.0) (n.own_names w f (subst (λ (y : V). Marks y.note w (Names f)) (sym t.1) m)))
            (λ (t : (j ≢ id) × (get_elem? seats j ≡ some u)). n.hazards j w t.0 (small j w (Names f) u t.1 m) ∙ s.names j w f u t.1 m)
            (at_set seats id j new u e);
        pinned = λ j w f g u e m. ⊎_elim
            (λ (t : (j ≡ id) × (new ≡ u)). subst (λ (y : ℕ). (f < frames) × (get_or after (hazard_word frames y w) 0 ≡ naming f) × Stays after f g) (sym t.0) (n.own_pins w f g (subst (λ (y : V). Marks y.note w (Pins f g)) (sym t.1) m)))
            (λ (t : (j ≢ id) × (get_elem? seats j ≡ some u)). let p = s.pinned j w f g u t.1 m in (p.0, n.hazards j w t.0 (small j w (Pins f g) u t.1 m) ∙ p.1, n.pins j w f g u t.0 t.1 m))
            (at_set seats id j new u e);
        locks = λ j f g c u e m. ⊎_elim
            (λ (t : (j ≡ id) × (new ≡ u)). n.own_locks f g c (subst (λ (y : V). HasLock y.note f (Locks g c)) (sym t.1) m))
            (λ (t : (j ≢ id) × (get_elem? seats j ≡ some u)). ((s.locks j f g c u t.1 m).0, n.locks j f g c u t.0 t.1 m))
            (at_set seats id j new u e);
        alone = λ i j f g e c d u w a b p q. ⊎_elim
            (λ (t : (i ≡ id) × (new ≡ u)). ⊎_elim
            (λ (r : (j ≡ id) × (new ≡ w)). t.0 ∙ sym r.0)
            (λ (r : (j ≢ id) × (get_elem? seats j ≡ some w)). absurd (n.alone j f g e c d w r.0 r.1 (subst (λ (y : V). HasLock y.note f (Locks g c)) (sym t.1) p) q))
            (at_set seats id j new w b))
            (λ (t : (i ≢ id) × (get_elem? seats i ≡ some u)). ⊎_elim
            (λ (r : (j ≡ id) × (new ≡ w)). absurd (n.alone i f e g d c u t.0 t.1 (subst (λ (y : V). HasLock y.note f (Locks e d)) (sym r.1) q) p))
            (λ (r : (j ≢ id) × (get_elem? seats j ≡ some w)). s.alone i j f g e c d u w t.1 r.1 p q)
            (at_set seats id j new w b))
            (at_set seats id i new u a);
        clear = λ i j w f g c u x a b p l m. ⊎_elim
            (λ (t : (i ≡ id) × (new ≡ u)). let p' = subst (λ (y : V). HasLock y.note f (Locks g c)) (sym t.1) p in ⊎_elim
            (λ (r : (j ≡ id) × (new ≡ x)). n.clear_self w f g c p' (subst (λ (y : ℕ). hazard_place y w < c) r.0 l) (subst (λ (y : V). Marks y.note w (Pins f g)) (sym r.1) m))
            (λ (r : (j ≢ id) × (get_elem? seats j ≡ some x)). n.clear_others j w f g c x r.0 r.1 p' l m)
            (at_set seats id j new x b))
            (λ (t : (i ≢ id) × (get_elem? seats i ≡ some u)). ⊎_elim
            (λ (r : (j ≡ id) × (new ≡ x)). n.clear_by i w f g c u t.0 t.1 p (subst (λ (y : ℕ). hazard_place y w < c) r.0 l) (subst (λ (y : V). Marks y.note w (Pins f g)) (sym r.1) m))
            (λ (r : (j ≢ id) × (get_elem? seats j ≡ some x)). s.clear i j w f g c u x t.1 r.1 p l m)
            (at_set seats id j new x b))
            (at_set seats id i new u a);
      }

  -- another note and other pieces, and the words as they are
  pub notes : (k : N) (held : List ℕ) → Safe frames words (set seats id (noted (with_note v.note k) held))
  notes k held = steps_to words (with_note v.note k) held refl refl refl refl record {
    wide = refl;
    hazards = λ j w ne l. refl;
    own_names = λ w f m. s.names id w f v at m;
    own_pins = λ w f g m. s.pinned id w f g v at m;
    own_locks = λ f g c m. s.locks id f g c v at m;
    pins = λ j w f g u ne e m. (s.pinned j w f g u e m).2;
    locks = λ j f g c u ne e m. (s.locks j f g c u e m).1;
    alone = λ j f g e c d u ne b p q. ne (s.alone j id f e g d c u v b at q p);
    clear_others = λ j w f g c u ne e p l m. s.clear id j w f g c v u at e p l m;
    clear_self = λ w f g c p l m. s.clear id id w f g c v v at at p l m;
    clear_by = λ i w f g c u ne e p l m. s.clear i id w f g c u v e at p l m;
  }

  -- another mark of one hazard word
  pub marks_one : (after : List ℕ) (k : N) (held : List ℕ) (w0 : ℕ) (m0 : Mark) → w0 < 5 → length after ≡ length words
      → ((f : ℕ) → f < frames → get_or after f 0 ≡ get_or words f 0)
      → ((j w : ℕ) → w < 5 → ¬ ((j ≡ id) × (w ≡ w0)) → get_or after (hazard_word frames j w) 0 ≡ get_or words (hazard_word frames j w) 0)
      → ((f : ℕ) → m0 ≡ Names f → get_or after (hazard_word frames id w0) 0 ≡ naming f)
      → ((f g : ℕ) → m0 ≡ Pins f g → (f < frames) × (get_or after (hazard_word frames id w0) 0 ≡ naming f) × (get_or words f 0 ≡ filled g))
      → Safe frames after (set seats id (noted (with_mark v.note k w0 m0) held))
  marks_one after k held w0 m0 five wide state hazards named pinned = steps_to after (with_mark v.note k w0 m0) held refl refl (length-set v.note.marks w0 m0) refl record {
    wide = wide;
    hazards = λ j w ne l. hazards j w l (λ q. ne q.0);
    own_names = λ w f m. ⊎_elim
        (λ (t : (w ≡ w0) × (m0 ≡ Names f)). ap (λ (y : ℕ). get_or after (hazard_word frames id y) 0) t.0 ∙ named f t.1)
        (λ (t : (w ≢ w0) × Marks v.note w (Names f)). hazards id w (small id w (Names f) v at t.1) (λ q. t.0 q.1) ∙ s.names id w f v at t.1)
        (at_set v.note.marks w0 w m0 (Names f) m);
    own_pins = λ w f g m. ⊎_elim
        (λ (t : (w ≡ w0) × (m0 ≡ Pins f g)). let p = pinned f g t.1 in (p.0, ap (λ (y : ℕ). get_or after (hazard_word frames id y) 0) t.0 ∙ p.1, inl (state f p.0 ∙ p.2)))
        (λ (t : (w ≢ w0) × Marks v.note w (Pins f g)). let p = s.pinned id w f g v at t.1 in (p.0, hazards id w (small id w (Pins f g) v at t.1) (λ q. t.0 q.1) ∙ p.1, stays words after f g (state f p.0) p.2))
        (at_set v.note.marks w0 w m0 (Pins f g) m);
    own_locks = λ f g c m. let p = s.locks id f g c v at m in (p.0, state f p.0 ∙ p.1);
    pins = λ j w f g u ne e m. let p = s.pinned j w f g u e m in stays words after f g (state f p.0) p.2;
    locks = λ j f g c u ne e m. let p = s.locks j f g c u e m in state f p.0 ∙ p.1;
    alone = λ j f g e c d u ne b p q. ne (s.alone j id f e g d c u v b at q p);
    clear_others = λ j w f g c u ne e p l m. s.clear id j w f g c v u at e p l m;
    clear_self = λ w f g c p l m. ⊎_elim
        (λ (t : (w ≡ w0) × (m0 ≡ Pins f g)). filled_locked (get_or words f 0) g g (pinned f g t.1).2 (s.locks id f g c v at p).1)
        (λ (t : (w ≢ w0) × Marks v.note w (Pins f g)). s.clear id id w f g c v v at at p l t.1)
        (at_set v.note.marks w0 w m0 (Pins f g) m);
    clear_by = λ i w f g c u ne e p l m. ⊎_elim
        (λ (t : (w ≡ w0) × (m0 ≡ Pins f g)). filled_locked (get_or words f 0) g g (pinned f g t.1).2 (s.locks i f g c u e p).1)
        (λ (t : (w ≢ w0) × Marks v.note w (Pins f g)). s.clear i id w f g c u v e at p l t.1)
        (at_set v.note.marks w0 w m0 (Pins f g) m);
  }

  -- another lock of one frame
  pub locks_one : (after : List ℕ) (k : N) (held : List ℕ) (f0 : ℕ) (l0 : Lock) → f0 < frames → length after ≡ length words
      → ((p : ℕ) → frames ≤ p → get_or after p 0 ≡ get_or words p 0)
      → ((f : ℕ) → f ≢ f0 → get_or after f 0 ≡ get_or words f 0)
      → ((j w g : ℕ) (u : V) → get_elem? seats j ≡ some u → Marks u.note w (Pins f0 g) → Stays after f0 g)
      → ((g c : ℕ) → l0 ≡ Locks g c → get_or after f0 0 ≡ locked g)
      → ((g c j w : ℕ) (u : V) → l0 ≡ Locks g c → get_elem? seats j ≡ some u → hazard_place j w < c → ¬ Marks u.note w (Pins f0 g))
      → ((j g c : ℕ) (u : V) → j ≢ id → get_elem? seats j ≡ some u → ¬ HasLock u.note f0 (Locks g c))
      → Safe frames after (set seats id (noted (with_lock v.note k f0 l0) held))
  locks_one after k held f0 l0 is_frame wide hazards state pins_ok new_ok clear_ok free = steps_to after (with_lock v.note k f0 l0) held refl refl refl (length-set v.note.locks f0 l0) record {
    wide = wide;
    hazards = λ j w ne l. hazards (hazard_word frames j w) (omega arith);
    own_names = λ w f m. hazards (hazard_word frames id w) (omega arith) ∙ s.names id w f v at m;
    own_pins = λ w f g m. let p = s.pinned id w f g v at m in (p.0, hazards (hazard_word frames id w) (omega arith) ∙ p.1, held_in id w f g v at m);
    own_locks = λ f g c m. ⊎_elim
        (λ (t : (f ≡ f0) × (l0 ≡ Locks g c)). (subst (λ (y : ℕ). y < frames) (sym t.0) is_frame, ap (λ (y : ℕ). get_or after y 0) t.0 ∙ new_ok g c t.1))
        (λ (t : (f ≢ f0) × HasLock v.note f (Locks g c)). let p = s.locks id f g c v at t.1 in (p.0, state f t.0 ∙ p.1))
        (at_set v.note.locks f0 f l0 (Locks g c) m);
    pins = λ j w f g u ne e m. held_in j w f g u e m;
    locks = λ j f g c u ne e m. dite (ℕ_discrete f f0)
        (λ is. absurd (free j g c u ne e (subst (λ (y : ℕ). HasLock u.note y (Locks g c)) is m)))
        (λ no. state f no ∙ (s.locks j f g c u e m).1);
    alone = λ j f g e c d u ne b p q. ⊎_elim
        (λ (t : (f ≡ f0) × (l0 ≡ Locks g c)). free j e d u ne b (subst (λ (y : ℕ). HasLock u.note y (Locks e d)) t.0 q))
        (λ (t : (f ≢ f0) × HasLock v.note f (Locks g c)). ne (s.alone j id f e g d c u v b at q t.1))
        (at_set v.note.locks f0 f l0 (Locks g c) p);
    clear_others = λ j w f g c u ne e p l m. ⊎_elim
        (λ (t : (f ≡ f0) × (l0 ≡ Locks g c)). clear_ok g c j w u t.1 e l (subst (λ (y : ℕ). Marks u.note w (Pins y g)) t.0 m))
        (λ (t : (f ≢ f0) × HasLock v.note f (Locks g c)). s.clear id j w f g c v u at e t.1 l m)
        (at_set v.note.locks f0 f l0 (Locks g c) p);
    clear_self = λ w f g c p l m. ⊎_elim
        (λ (t : (f ≡ f0) × (l0 ≡ Locks g c)). clear_ok g c id w v t.1 at l (subst (λ (y : ℕ). Marks v.note w (Pins y g)) t.0 m))
        (λ (t : (f ≢ f0) × HasLock v.note f (Locks g c)). s.clear id id w f g c v v at at t.1 l m)
        (at_set v.note.locks f0 f l0 (Locks g c) p);
    clear_by = λ i w f g c u ne e p l m. s.clear i id w f g c u v e at p l m;
  } where
    held_in : (j w f g : ℕ) (u : V) → get_elem? seats j ≡ some u → Marks u.note w (Pins f g) → Stays after f g
    held_in j w f g u e m = dite (ℕ_discrete f f0)
        (λ is. subst (λ (y : ℕ). Stays after y g) (sym is) (pins_ok j w g u e (subst (λ (y : ℕ). Marks u.note w (Pins y g)) is m)))
        (λ no. stays words after f g (state f no) (s.pinned j w f g u e m).2)
