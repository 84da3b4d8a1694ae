-- Every step on a word that there is keeps what holds of the words.
use Rattle.std.proofs.Common.{◌≡◌, ◌⊎◌, ◌≢◌, ℕ, suc, ◌+◌, ◌*◌, ◌<◌, List, get_or, set, sym, refl, ap, ◌∙◌, subst, inl, inr, ⊎_elim, arith, length-set, get_or-set_other, get_or-set_same}
use mathlib.Core.Logic.{dite}
use mathlib.Core.Option.{some}
use native.Mathlib.Decide.{ℕ_discrete}
use lib.ListN.{get_elem?}
use lib.Seq.{set-get_or}
use Rattle.pool_law.specs.Whole.{Noted, noted}
use Rattle.hazard_law.specs.declared.known.Hazards.{Hazards}
use Rattle.hazard_law.specs.declared.known.Mark.{Mark}
use Rattle.hazard_law.specs.declared.known.Mark.TheVariants.{Blank, Names, Pins}
use Rattle.hazard_law.specs.declared.known.Lock.{Lock}
use Rattle.hazard_law.specs.declared.known.Lock.TheVariants.{Open, Locks}
use Rattle.hazard_law.specs.Words.{empty, filled, locked, hazard_place, hazard_word, naming}
use Rattle.hazard_law.specs.Safety.{Marks, HasLock, with_note, with_mark, with_lock, Safe, Turns, looks, publishes, validates, clears, locks_frame, scans, unlocks, frees, fills}
use Rattle.hazard_law.proofs.Lists.{inside}
use Rattle.hazard_law.proofs.Safe.{small, notes, marks_one, locks_one, same_pin, same_name, same_lock, names_no_pin, blank_no_pin, blank_no_name, pins_no_name, open_no_lock, filled_locked, empty_filled, empty_locked, same_filled, same_locked, same_seat, same_word}

module _ {N : Type 0} (frames : ℕ) (words : List ℕ) (seats : List (Noted (Hazards N))) (id : ℕ) (v : Noted (Hazards N)) (at : get_elem? seats id ≡ some v) (s : Safe frames words seats) where
  abbrev V : Type 0
  V = Noted (Hazards N)

  unchanged : (i n : ℕ) → n ≡ get_or words i 0 → set words i n ≡ words
  unchanged i n e = ap (λ (m : ℕ). set words i m) e ∙ set-get_or words i 0

  -- one of the seat's hazard words is written
  word_written : (i n w : ℕ) (k : N) (held : List ℕ) (m0 : Mark) → w < 5 → i ≡ hazard_word v.note.shape.frames v.note.seat w
      → ((f : ℕ) → m0 ≡ Names f → n ≡ naming f) → ((f g : ℕ) → ¬ (m0 ≡ Pins f g))
      → Safe frames (set words i n) (set seats id (noted (with_mark v.note k w m0) held))
  word_written i n w k held m0 five e named no_pin =
      let own = s.numbered id v at in
      let is : i ≡ hazard_word frames id w = e ∙ (λ t. hazard_word (own.1 t) (own.0 t) w) in
      let room = inside seats id v at in
      let wide = s.wide in
      let here : get_or (set words i n) (hazard_word frames id w) 0 ≡ n = ap (λ (y : ℕ). get_or (set words i n) y 0) (sym is) ∙ get_or-set_same words i n 0 (omega arith) in
      marks_one frames words seats id v at s (set words i n) k held w m0 five (length-set words i n)
      (λ f l. get_or-set_other words i f n 0 (λ q. omega arith))
      (λ j u l no. get_or-set_other words i (hazard_word frames j u) n 0
      (λ q. let z : 5 * j + u ≡ 5 * id + w = omega arith in no (same_seat j u id w l five z, same_word j u id w l five z)))
      (λ f q. here ∙ named f q)
      (λ f g q. absurd (no_pin f g q))

  -- the state word of the frame f is written
  state_written : (i n f : ℕ) (k : N) (held : List ℕ) (l0 : Lock) → f < frames → i ≡ f
      → ((j w g : ℕ) (u : V) → get_elem? seats j ≡ some u → Marks u.note w (Pins f g) → (n ≡ filled g) ⊎ (n ≡ locked g))
      → ((g c : ℕ) → l0 ≡ Locks g c → n ≡ locked g)
      → ((g c j w : ℕ) (u : V) → l0 ≡ Locks g c → get_elem? seats j ≡ some u → hazard_place j w < c → ¬ Marks u.note w (Pins f g))
      → ((j g c : ℕ) (u : V) → j ≢ id → get_elem? seats j ≡ some u → ¬ HasLock u.note f (Locks g c))
      → Safe frames (set words i n) (set seats id (noted (with_lock v.note k f l0) held))
  state_written i n f k held l0 is_frame e pins_ok new_ok clear_ok free =
      let wide = s.wide in
      let here : get_or (set words i n) f 0 ≡ n = ap (λ (y : ℕ). get_or (set words i n) y 0) (sym e) ∙ get_or-set_same words i n 0 (omega arith) in
      locks_one frames words seats id v at s (set words i n) k held f l0 is_frame (length-set words i n)
      (λ p l. get_or-set_other words i p n 0 (λ q. omega arith))
      (λ h ne. get_or-set_other words i h n 0 (λ q. ne (q ∙ e)))
      (λ j w g u b m. ⊎_elim (λ (a : n ≡ filled g). inl (here ∙ a)) (λ (a : n ≡ locked g). inr (here ∙ a)) (pins_ok j w g u b m))
      (λ g c q. here ∙ new_ok g c q)
      clear_ok
      free

  -- only the seat that locked a frame has it locked
  others_free : (f g c : ℕ) → HasLock v.note f (Locks g c) → (j h d : ℕ) (u : V) → j ≢ id → get_elem? seats j ≡ some u → ¬ HasLock u.note f (Locks h d)
  others_free f g c lock j h d u ne b m = ne (s.alone j id f h g d c u v b at m lock)

  no_lock : (h c j w : ℕ) (u : V) (f : ℕ) → Open ≡ Locks h c → get_elem? seats j ≡ some u → hazard_place j w < c → ¬ Marks u.note w (Pins f h)
  no_lock h c j w u f q b l m = open_no_lock h c q

  module _ (turns : Noted N → ℕ → ℕ → ℕ → N → Type 0) (i n : ℕ) (after : Hazards N) (held : List ℕ) where
    abbrev Goal : Hazards N → List ℕ → Type 0
    Goal h ws = Safe frames ws (set seats id (noted h held))

    keeps_words : (h : Hazards N) → after ≡ h → n ≡ get_or words i 0 → Goal h words → Goal after (set words i n)
    keeps_words h e same g = subst (λ (x : Hazards N). Goal x (set words i n)) (sym e) (subst (λ ws. Goal h ws) (sym (unchanged i n same)) g)

    keeps : (h : Hazards N) → after ≡ h → Goal h (set words i n) → Goal after (set words i n)
    keeps h e g = subst (λ (x : Hazards N). Goal x (set words i n)) (sym e) g

    pub turned_safe : Turns turns v i (get_or words i 0) n after → Goal after (set words i n)
    turned_safe (looks k same b e) = keeps_words (with_note v.note k) e same (notes frames words seats id v at s k held)
    turned_safe (publishes w f k five place is b e) = keeps (with_mark v.note k w (Names f)) e
        (word_written i n w k held (Names f) five place (λ h q. is ∙ ap naming (same_name f h q)) (λ h g q. names_no_pin f h g q))
    turned_safe (clears w k five place is b e) = keeps (with_mark v.note k w Blank) e
        (word_written i n w k held Blank five place (λ h q. absurd (blank_no_name h q)) (λ h g q. blank_no_pin h g q))
    turned_safe (validates w f g k is_frame at_f found same mark b e) =
        let own = s.numbered id v at in
        let f_is : get_or words f 0 ≡ filled g = ap (λ (y : ℕ). get_or words y 0) (sym at_f) ∙ found in
        let is_frame' : f < frames = subst (λ (y : ℕ). f < y) own.1 is_frame in
        keeps_words (with_mark v.note k w (Pins f g)) e same
        (marks_one frames words seats id v at s words k held w (Pins f g) (small frames words seats id v at s id w (Names f) v at mark) refl (λ h l. refl) (λ j u l no. refl)
        (λ h q. absurd (pins_no_name f g h q))
        (λ h a q. let p = same_pin f g h a q in
        (subst (λ (y : ℕ). y < frames) p.0 is_frame', s.names id w f v at mark ∙ ap naming p.0, ap (λ (y : ℕ). get_or words y 0) (sym p.0) ∙ (f_is ∙ ap filled p.1))))
    turned_safe (locks_frame f g k is_frame at_f found is b e) =
        let own = s.numbered id v at in
        let f_is : get_or words f 0 ≡ filled g = ap (λ (y : ℕ). get_or words y 0) (sym at_f) ∙ found in
        keeps (with_lock v.note k f (Locks g 0)) e
        (state_written i n f k held (Locks g 0) (subst (λ (y : ℕ). f < y) own.1 is_frame) at_f
        (λ j w h u q m. ⊎_elim
        (λ (a : get_or words f 0 ≡ filled h). inr (is ∙ ap locked (same_filled (get_or words f 0) g h f_is a)))
        (λ (a : get_or words f 0 ≡ locked h). absurd (filled_locked (get_or words f 0) g h f_is a))
        (s.pinned j w f h u q m).2)
        (λ h c q. is ∙ ap locked (same_lock g 0 h c q).0)
        (λ h c j w u q p l m. absurd (let z = (same_lock g 0 h c q).1 in omega arith))
        (λ j h c u ne q m. filled_locked (get_or words f 0) g h f_is (s.locks j f h c u q m).1))
    turned_safe (scans f g c d place k lock range at_place same other count b e) =
        let own = s.numbered id v at in
        let mine = s.locks id f g c v at lock in
        keeps_words (with_lock v.note k f (Locks g d)) e same
        (locks_one frames words seats id v at s words k held f (Locks g d) mine.0 refl (λ p l. refl) (λ h ne. refl)
        (λ j w h u q m. (s.pinned j w f h u q m).2)
        (λ h x q. mine.1 ∙ ap locked (same_lock g d h x q).0)
        (λ h x j w u q p l m.
        let same_one = same_lock g d h x q in
        let upto = same_one.1 in
        let m' : Marks u.note w (Pins f g) = subst (λ (y : ℕ). Marks u.note w (Pins f y)) (sym same_one.0) m in
        ⊎_elim
        (λ (t : (place ≡ c) × (d ≡ suc c)). dite (ℕ_discrete (hazard_place j w) c)
        (λ last.
        let there_is : i ≡ hazard_word frames j w = at_place ∙ (λ z. own.1 z + (t.0 ∙ sym last) z) in
        other (ap (λ (y : ℕ). get_or words y 0) there_is ∙ (s.pinned j w f g u p m').1))
        (λ no. s.clear id j w f g c v u at p lock (let z = t.1 in let less : hazard_place j w < suc c = omega arith in before (hazard_place j w) c less no) m'))
        (λ (t : (place ≢ c) × (d ≡ c)). s.clear id j w f g c v u at p lock (let z = t.1 in omega arith) m')
        count)
        (others_free f g c lock)) where
          before : (a b : ℕ) → a < suc b → a ≢ b → a < b
          before a b l ne = ⊎_elim (λ (q : a < b). q) (λ (q : a ≡ b). absurd (ne q)) (grind arith)
    turned_safe (unlocks f g c k lock at_f is b e) =
        let mine = s.locks id f g c v at lock in
        keeps (with_lock v.note k f Open) e
        (state_written i n f k held Open mine.0 at_f
        (λ j w h u q m. ⊎_elim
        (λ (a : get_or words f 0 ≡ filled h). absurd (filled_locked (get_or words f 0) h g a mine.1))
        (λ (a : get_or words f 0 ≡ locked h). inl (is ∙ ap filled (same_locked (get_or words f 0) g h mine.1 a)))
        (s.pinned j w f h u q m).2)
        (λ h x q. absurd (open_no_lock h x q))
        (λ h x j w u q p l m. no_lock h x j w u f q p l m)
        (others_free f g c lock))
    turned_safe (frees f g k lock at_f is b e) =
        let own = s.numbered id v at in
        let mine = s.locks id f g (5 * v.note.shape.seats) v at lock in
        keeps (with_lock v.note k f Open) e
        (state_written i n f k held Open mine.0 at_f
        (λ j w h u q m. ⊎_elim
        (λ (a : get_or words f 0 ≡ filled h). absurd (filled_locked (get_or words f 0) h g a mine.1))
        (λ (a : get_or words f 0 ≡ locked h). absurd (s.clear id j w f g (5 * v.note.shape.seats) v u at q lock
        (let five = small frames words seats id v at s j w (Pins f h) u q m in let room = inside seats j u q in let count = own.2 in omega arith)
        (subst (λ (y : ℕ). Marks u.note w (Pins f y)) (same_locked (get_or words f 0) h g a mine.1) m)))
        (s.pinned j w f h u q m).2)
        (λ h x q. absurd (open_no_lock h x q))
        (λ h x j w u q p l m. no_lock h x j w u f q p l m)
        (others_free f g (5 * v.note.shape.seats) lock))
    turned_safe (fills f g k is_frame at_f found is b e) =
        let own = s.numbered id v at in
        let f_is : get_or words f 0 ≡ empty g = ap (λ (y : ℕ). get_or words y 0) (sym at_f) ∙ found in
        keeps (with_lock v.note k f Open) e
        (state_written i n f k held Open (subst (λ (y : ℕ). f < y) own.1 is_frame) at_f
        (λ j w h u q m. absurd (⊎_elim (λ (a : get_or words f 0 ≡ filled h). empty_filled (get_or words f 0) g h f_is a) (λ (a : get_or words f 0 ≡ locked h). empty_locked (get_or words f 0) g h f_is a) (s.pinned j w f h u q m).2))
        (λ h x q. absurd (open_no_lock h x q))
        (λ h x j w u q p l' m. no_lock h x j w u f q p l' m)
        (λ j h c u ne q m. empty_locked (get_or words f 0) g h f_is (s.locks j f h c u q m).1))
