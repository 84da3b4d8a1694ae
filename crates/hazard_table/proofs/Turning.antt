-- Each call on a word makes a step of its kind, and its step tells what the call says.
use Rattle.std.proofs.Common.{◌≡◌, ◌≢◌, ◌⊎◌, ℕ, zero, suc, ◌+◌, ◌*◌, ◌<◌, ◌^◌, Bool, true, false, eqb, refl, sym, ap, ◌∙◌, subst, inl, inr, ⊎_elim, arith}
use borrow.Author.Tests.{eqb-true}
use mathlib.Core.Logic.{dite}
use mathlib.Core.Option.{some-injective}
use native.Mathlib.Decide.{ℕ_discrete}
use prog.Atomic.{either}
use Rattle.pool_law.specs.Whole.{Noted}
use Rattle.hazard_law.specs.declared.known.Hazards.{Hazards}
use Rattle.hazard_law.specs.declared.known.Mark.TheVariants.{Blank, Names, Pins}
use Rattle.hazard_law.specs.declared.known.Lock.TheVariants.{Open, Locks}
use Rattle.hazard_law.specs.Words.{empty, filled, hazard_place, locked, naming}
use Rattle.hazard_law.specs.Safety.{Finds, HasLock, Marks, inner, scanned, with_lock, with_mark, with_note}
use Rattle.hazard_law.specs.Kinds.{publishing, clearing, looking, validating, locking, scanning, unlocking, freeing, filling}
use Rattle.hazard_law.proofs.Safe.{filled_locked, same_filled, same_lock}
use Rattle.pool_law.specs.Asks.{FindsAndMayGo, MayGo, MayTurn}
use Rattle.hazard_table.specs.Leaves.{Looks, LocksFrame, Opens, Publishes, Scans, Steps, Unpins, Validates, own_word, word_of_session}
use Rattle.hazard_table.specs.declared.answers.Pinning.TheVariants.{Pinned, Again}
use Rattle.hazard_table.specs.declared.answers.Looking.TheVariants.{Empty, Again as NotEmpty}
use Rattle.hazard_table.specs.declared.answers.Locking.TheVariants.{Locked, Again as NotLocked}
use Rattle.hazard_table.specs.declared.answers.Scanning.TheVariants.{Clear, Pinned as Named}

-- a word is filled at some generation, or at none
is_filled : (m : ℕ) → ((g : ℕ) × (m ≡ filled g)) ⊎ ((g : ℕ) → m ≢ filled g)
is_filled zero = inr (λ g e. omega arith)
is_filled (suc zero) = inl (0, (let e : 1 ≡ 4 * 0 + 1 = omega arith in e))
is_filled (suc (suc zero)) = inr (λ g e. omega arith)
is_filled (suc (suc (suc zero))) = inr (λ g e. omega arith)
is_filled (suc (suc (suc (suc m)))) = ⊎_elim
    (λ (t : (g : ℕ) × (m ≡ filled g)). let e = t.1 in let n : suc (suc (suc (suc m))) ≡ 4 * suc t.0 + 1 = omega arith in inl (suc t.0, n))
    (λ (n : (g : ℕ) → m ≢ filled g). inr (λ g. less m n g))
    (is_filled m) where
      less : (m : ℕ) → ((g : ℕ) → m ≢ filled g) → (g : ℕ) → suc (suc (suc (suc m))) ≢ filled g
      less m n zero e = omega arith
      less m n (suc g) e = n g (omega arith)

module _ {N : Type 0} (finds : Noted N → ℕ → ℕ → Type 0) (turns : Noted N → ℕ → ℕ → ℕ → N → Type 0) (v : Noted (Hazards N)) where
  -- the same step, where the word and what it is then are told in other words
  moved : (i j m n p : ℕ) (k : N) → i ≡ j → n ≡ p → turns (inner v) j m p k → turns (inner v) i m n k
  moved i j m n p k e d t = subst (λ (y : ℕ). turns (inner v) y m n k) (sym e) (subst (λ (z : ℕ). turns (inner v) j m z k) (sym d) t)

  moved_from : (i m n p : ℕ) (k : N) → m ≡ n → turns (inner v) i m p k → turns (inner v) i n p k
  moved_from i m n p k e t = subst (λ (y : ℕ). turns (inner v) i y p k) e t

  found_at : (i j r : ℕ) → i ≡ j → Finds finds v i r → finds (inner v) j r
  found_at i j r e f = subst (λ (y : ℕ). finds (inner v) y r) e f.beside

  pub may_publish : (i n w f : ℕ) → w < 5 → i ≡ own_word v w → n ≡ naming f → MayTurn finds turns (inner v) (own_word v w) (λ r. naming f)
      → (r : ℕ) → r < 2 ^ 64 → Finds finds v i r → (h : Hazards N) × publishing turns v i r n h
  may_publish i n w f five at is may r lt found =
      let t = may r lt (found_at i (own_word v w) r at found) in
      (with_mark v.note t.0 w (Names f), (t.0, w, f, record { own = (five, at); named = is; beside = moved i (own_word v w) r n (naming f) t.0 at is t.1; then = refl }))

  pub did_publish : (i m n w f : ℕ) (h : Hazards N) → w < 5 → i ≡ own_word v w → n ≡ naming f → publishing turns v i m n h → Publishes turns v h w f
  did_publish i m n w f h five at is (k, u, e, p) =
      let own = p.own.1 in
      let word : u ≡ w = omega arith in
      let named = p.named in
      let frame : e ≡ f = omega arith in
      (m, (k, moved (own_word v w) i m (naming f) n k (sym at) (sym is) p.beside, p.then ∙ (λ t. with_mark v.note k (word t) (Names (frame t)))))

  pub may_clear : (i n w : ℕ) → w < 5 → i ≡ own_word v w → n ≡ 0 → MayTurn finds turns (inner v) (own_word v w) (λ r. 0)
      → (r : ℕ) → r < 2 ^ 64 → Finds finds v i r → (h : Hazards N) × clearing turns v i r n h
  may_clear i n w five at is may r lt found =
      let t = may r lt (found_at i (own_word v w) r at found) in
      (with_mark v.note t.0 w Blank, (t.0, w, record { own = (five, at); blank = is; beside = moved i (own_word v w) r n 0 t.0 at is t.1; then = refl }))

  pub did_clear : (i m n w : ℕ) (h : Hazards N) → w < 5 → i ≡ own_word v w → n ≡ 0 → clearing turns v i m n h → Unpins turns v h w
  did_clear i m n w h five at is (k, u, p) =
      let own = p.own.1 in
      let word : u ≡ w = omega arith in
      (m, (k, moved (own_word v w) i m 0 n k (sym at) (sym is) p.beside, p.then ∙ (λ t. with_mark v.note k (word t) Blank)))

  pub may_look : (i : ℕ) → MayTurn finds turns (inner v) i (λ r. r) → (r : ℕ) → r < 2 ^ 64 → Finds finds v i r → (h : Hazards N) × looking turns v i r r h
  may_look i may r lt found = let t = may r lt found.beside in (with_note v.note t.0, (t.0, record { same = refl; beside = t.1; then = refl }))

  looked : (i m n : ℕ) (h : Hazards N) → looking turns v i m n h → Steps turns v h i m m (with_note v.note)
  looked i m n h (k, p) = (k, subst (λ (y : ℕ). turns (inner v) i m y k) p.same p.beside, p.then)

  pub did_look_empty : (i m x g : ℕ) (h : Hazards N) → x ≡ empty g → m ≡ x → looking turns v i m m h → Looks turns v h i g Empty
  did_look_empty i m x g h is e p = subst (λ (y : ℕ). Steps turns v h i y y (with_note v.note)) (e ∙ is) (looked i m m h p)

  pub did_look_again : (i m x g : ℕ) (h : Hazards N) → x ≡ empty g → m ≢ x → looking turns v i m m h → Looks turns v h i g (NotEmpty m)
  did_look_again i m x g h is e p = ((λ q. e (q ∙ sym is)), looked i m m h p)

  pub may_validate : (f w : ℕ) → f < v.note.shape.frames → Marks v.note w (Names f) → v.note.last_word ≡ w → MayTurn finds turns (inner v) f (λ r. r)
      → (r : ℕ) → r < 2 ^ 64 → Finds finds v f r → (h : Hazards N) × validating turns v f r r h
  may_validate f w is_frame mark last may r lt found =
      let t = may r lt found.beside in
      ⊎_elim
      (λ (q : (g : ℕ) × (r ≡ filled g)). let mark' : Marks v.note v.note.last_word (Names f) = subst (λ (y : ℕ). Marks v.note y (Names f)) (sym last) mark in
      (with_mark v.note t.0 v.note.last_word (Pins f q.0), inl (t.0, f, q.0, record { state = (is_frame, refl); found = q.1; same = refl; named = mark'; beside = t.1; then = refl })))
      (λ (none : (g : ℕ) → r ≢ filled g). (with_note v.note t.0, inr (none, (t.0, record { same = refl; beside = t.1; then = refl }))))
      (is_filled r)

  pinned_at : (f w m e g : ℕ) (k : N) (h : Hazards N) → v.note.last_word ≡ w → m ≡ filled g → e ≡ f → turns (inner v) f m m k → h ≡ with_mark v.note k v.note.last_word (Pins e g)
      → Steps turns v h f (filled g) (filled g) (λ k. with_mark v.note k w (Pins f g))
  pinned_at f w m e g k h last is same t then = (k, subst (λ (y : ℕ). turns (inner v) f y y k) is t, then ∙ (λ i. with_mark v.note k (last i) (Pins (same i) g)))

  pub did_validate_pinned : (f w m x g : ℕ) (h : Hazards N) → v.note.last_word ≡ w → x ≡ filled g → m ≡ x → validating turns v f m m h → Validates turns v h w f g Pinned
  did_validate_pinned f w m x g h last is e (inl (k, u, d, p)) =
      let s = same_filled m d g p.found (e ∙ is) in
      pinned_at f w m u g k h last (e ∙ is) (sym p.state.1) p.beside (p.then ∙ (λ i. with_mark v.note k v.note.last_word (Pins u (s i))))
  did_validate_pinned f w m x g h last is e (inr (none, p)) = absurd (none g (e ∙ is))

  pub did_validate_again : (f w m x g : ℕ) (h : Hazards N) → v.note.last_word ≡ w → x ≡ filled g → m ≢ x → validating turns v f m m h → Validates turns v h w f g (Again m)
  did_validate_again f w m x g h last is ne (inl (k, u, d, p)) =
      let same : u ≡ f = sym p.state.1 in
      ((λ q. ne (q ∙ sym is)), inr (d, p.found, (k, p.beside, p.then ∙ (λ i. with_mark v.note k (last i) (Pins (same i) d)))))
  did_validate_again f w m x g h last is ne (inr (none, p)) = ((λ q. ne (q ∙ sym is)), inl (looked f m m h p))

  -- a frame goes from in to locked, or its word is read
  swap_lock : (f r x y g : ℕ) (b : Bool) → eqb r x ≡ b → f < v.note.shape.frames → x ≡ filled g → y ≡ locked g → r < 2 ^ 64
      → MayTurn finds turns (inner v) f (λ r. either (eqb r (filled g)) (locked g) r) → finds (inner v) f r
      → (h : Hazards N) × locking turns v f r (either b y r) h
  swap_lock f r x y g true e is_frame old new lt may found =
      let is : r ≡ filled g = eqb-true r x e ∙ old in
      let t = may r lt found in
      let k : turns (inner v) f r (locked g) t.0 = subst (λ (c : Bool). turns (inner v) f r (either c (locked g) r) t.0) (ap (λ (z : ℕ). eqb r z) (sym old) ∙ e) t.1 in
      (with_lock v.note t.0 f (Locks g 0), inl (t.0, f, g, record { state = (is_frame, refl); found = is; now = new; beside = moved f f r y (locked g) t.0 refl new k; then = refl }))
  swap_lock f r x y g false e is_frame old new lt may found =
      let t = may r lt found in
      let k : turns (inner v) f r r t.0 = subst (λ (c : Bool). turns (inner v) f r (either c (locked g) r) t.0) (ap (λ (z : ℕ). eqb r z) (sym old) ∙ e) t.1 in
      (with_note v.note t.0, inr (t.0, record { same = refl; beside = k; then = refl }))

  pub may_lock : (f x y g : ℕ) → f < v.note.shape.frames → x ≡ filled g → y ≡ locked g → MayTurn finds turns (inner v) f (λ r. either (eqb r (filled g)) (locked g) r)
      → (r : ℕ) → r < 2 ^ 64 → Finds finds v f r → (h : Hazards N) × locking turns v f r (either (eqb r x) y r) h
  may_lock f x y g is_frame old new may r lt found = swap_lock f r x y g (eqb r x) refl is_frame old new lt may found.beside

  pub did_lock : (f x y g : ℕ) (h : Hazards N) → x ≡ filled g → y ≡ locked g → locking turns v f x y h → LocksFrame turns v h f g Locked
  did_lock f x y g h old new (inl (k, u, d, p)) =
      let same : u ≡ f = sym p.state.1 in
      let gen : d ≡ g = same_filled x d g p.found old in
      (k, moved_from f x (filled g) (locked g) k old (moved f f x (locked g) y k refl (sym new) p.beside), p.then ∙ (λ i. with_lock v.note k (same i) (Locks (gen i) 0)))
  did_lock f x y g h old new (inr (k, p)) = absurd (filled_locked y g g (p.same ∙ old) new)

  pub did_lock_again : (f m x g : ℕ) (h : Hazards N) → x ≡ filled g → m ≢ x → locking turns v f m m h → LocksFrame turns v h f g (NotLocked m)
  did_lock_again f m x g h old ne (inl (k, u, d, p)) = absurd (filled_locked m d d p.found p.now)
  did_lock_again f m x g h old ne (inr p) = ((λ q. ne (q ∙ sym old)), looked f m m h p)

  -- how many words are scanned after this one
  counted : (place c : ℕ) → (d : ℕ) × scanned place c d
  counted place c = dite (ℕ_discrete place c) (λ (e : place ≡ c). (suc c, inl (e, refl))) (λ (n : place ≢ c). (c, inr (n, refl)))

  pub may_scan : (i session w f g c : ℕ) → session < v.note.shape.seats → w < 5 → i ≡ word_of_session v session w → HasLock v.note f (Locks g c) → v.note.last_frame ≡ f
      → MayTurn finds turns (inner v) (word_of_session v session w) (λ r. r) → (r : ℕ) → r < 2 ^ 64 → Finds finds v i r → (h : Hazards N) × scanning turns v i r r h
  may_scan i session w f g c range five at lock last may r lt found =
      let t = may r lt (found_at i (word_of_session v session w) r at found) in
      let k = moved i (word_of_session v session w) r r r t.0 at refl t.1 in
      let lock' : HasLock v.note v.note.last_frame (Locks g c) = subst (λ (y : ℕ). HasLock v.note y (Locks g c)) (sym last) lock in
      let d = counted (hazard_place session w) c in
      dite (ℕ_discrete r (naming v.note.last_frame))
      (λ (e : r ≡ naming v.note.last_frame). (with_note v.note t.0, inr (e, (t.0, record { same = refl; beside = k; then = refl }))))
      (λ (n : r ≢ naming v.note.last_frame). (
        with_lock v.note t.0 v.note.last_frame (Locks g d.0),
        inl (
          t.0,
          g,
          c,
          d.0,
          hazard_place session w,
          record {
            lock = lock';
            range = omega arith;
            at = at;
            same = refl;
            other = n;
            count = d.1;
            beside = k;
            then = refl;
          },
        ),
      ))

  pub did_scan_clear : (i session w f g c m x : ℕ) (h : Hazards N) → i ≡ word_of_session v session w → HasLock v.note f (Locks g c) → v.note.last_frame ≡ f → x ≡ naming f → m ≢ x
      → scanning turns v i m m h → Scans turns v h session w f g c Clear
  did_scan_clear i session w f g c m x h at lock last named ne (inl (k, a, b, d, place, p)) =
      let mine : HasLock v.note f (Locks a b) = subst (λ (y : ℕ). HasLock v.note y (Locks a b)) last p.lock in
      let same = same_lock a b g c (some-injective (Locks a b) (Locks g c) (sym mine ∙ lock)) in
      let is = p.at in
      let here : place ≡ hazard_place session w = omega arith in (
        m,
        d,
        (λ q. ne (q ∙ sym named)),
        subst (λ (y : ℕ). scanned y c d) here (subst (λ (y : ℕ). scanned place y d) same.1 p.count),
        (k, moved (word_of_session v session w) i m m m k (sym at) refl p.beside, p.then ∙ (λ j. with_lock v.note k (last j) (Locks (same.0 j) d))),
      )
  did_scan_clear i session w f g c m x h at lock last named ne (inr (e, p)) = absurd (ne (e ∙ (ap naming last ∙ sym named)))

  pub did_scan_named : (i session w f g c m x : ℕ) (h : Hazards N) → i ≡ word_of_session v session w → v.note.last_frame ≡ f → x ≡ naming f → m ≡ x
      → scanning turns v i m m h → Scans turns v h session w f g c (Named session)
  did_scan_named i session w f g c m x h at last named e (inl (k, a, b, d, place, p)) = absurd (p.other (e ∙ (named ∙ ap naming (sym last))))
  did_scan_named i session w f g c m x h at last named e (inr (q, p)) =
      let s = looked i m m h p in
      let is = e ∙ named in
      (refl, (s.0, subst (λ (y : ℕ). turns (inner v) y (naming f) (naming f) s.0) at (subst (λ (y : ℕ). turns (inner v) i y y s.0) is s.1), s.2))

  pub may_unlock : (f n g c : ℕ) → n ≡ filled g → HasLock v.note f (Locks g c) → MayGo finds turns (inner v) f (locked g) (filled g)
      → (r : ℕ) → r < 2 ^ 64 → Finds finds v f r → (h : Hazards N) × unlocking turns v f r n h
  may_unlock f n g c now lock may r lt found =
      let is = found.locked_by f g c refl lock in
      let t = may (subst (λ (y : ℕ). finds (inner v) f y) is found.beside) in
      (with_lock v.note t.0 f Open, (t.0, f, g, c, record { lock = lock; at = refl; now = now; beside = moved_from f (locked g) r n t.0 (sym is) (moved f f (locked g) n (filled g) t.0 refl now t.1); then = refl }))

  pub did_unlock : (f m n g : ℕ) (h : Hazards N) → n ≡ filled g → Finds finds v f m → unlocking turns v f m n h → Opens turns v h f (locked g) (filled g)
  did_unlock f m n g h now found (k, u, d, c, p) =
      let same : u ≡ f = sym p.at in
      let gen : d ≡ g = same_filled n d g p.now now in
      let is : m ≡ locked g = found.locked_by u d c p.at p.lock ∙ ap locked gen in
      (k, moved_from f m (locked g) (filled g) k is (moved f f m (filled g) n k refl (sym now) p.beside), p.then ∙ (λ i. with_lock v.note k (same i) Open))

  pub may_free : (f n g : ℕ) → n ≡ empty (suc g) → HasLock v.note f (Locks g (5 * v.note.shape.seats)) → MayGo finds turns (inner v) f (locked g) (empty (suc g))
      → (r : ℕ) → r < 2 ^ 64 → Finds finds v f r → (h : Hazards N) × freeing turns v f r n h
  may_free f n g now lock may r lt found =
      let is = found.locked_by f g (5 * v.note.shape.seats) refl lock in
      let t = may (subst (λ (y : ℕ). finds (inner v) f y) is found.beside) in
      (with_lock v.note t.0 f Open, (t.0, f, g, record { lock = lock; at = refl; now = now; beside = moved_from f (locked g) r n t.0 (sym is) (moved f f (locked g) n (empty (suc g)) t.0 refl now t.1); then = refl }))

  pub did_free : (f m n g : ℕ) (h : Hazards N) → n ≡ empty (suc g) → Finds finds v f m → freeing turns v f m n h → Opens turns v h f (locked g) (empty (suc g))
  did_free f m n g h now found (k, u, d, p) =
      let same : u ≡ f = sym p.at in
      let was = p.now in
      let gen : d ≡ g = omega arith in
      let is : m ≡ locked g = found.locked_by u d (5 * v.note.shape.seats) p.at p.lock ∙ ap locked gen in
      (k, moved_from f m (locked g) (empty (suc g)) k is (moved f f m (empty (suc g)) n k refl (sym now) p.beside), p.then ∙ (λ i. with_lock v.note k (same i) Open))

  pub may_fill : (f n g : ℕ) → f < v.note.shape.frames → n ≡ filled g → FindsAndMayGo finds turns (inner v) f (empty g) (filled g)
      → (r : ℕ) → r < 2 ^ 64 → Finds finds v f r → (h : Hazards N) × filling turns v f r n h
  may_fill f n g is_frame now may r lt found =
      let t = may r lt found.beside in
      (with_lock v.note t.1.0 f Open, (t.1.0, f, g, record { state = (is_frame, refl); found = t.0; now = now; beside = moved_from f (empty g) r n t.1.0 (sym t.0) (moved f f (empty g) n (filled g) t.1.0 refl now t.1.1); then = refl }))

  pub did_fill : (f m n g : ℕ) (h : Hazards N) → n ≡ filled g → filling turns v f m n h → Opens turns v h f (empty g) (filled g)
  did_fill f m n g h now (k, u, d, p) =
      let same : u ≡ f = sym p.state.1 in
      let gen : d ≡ g = same_filled n d g p.now now in
      (k, moved_from f m (empty g) (filled g) k (p.found ∙ ap empty gen) (moved f f m (filled g) n k refl (sym now) p.beside), p.then ∙ (λ i. with_lock v.note k (same i) Open))
